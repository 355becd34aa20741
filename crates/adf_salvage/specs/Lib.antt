pub mod LeftOut
pub mod Parts
pub mod Surveys
pub mod Salvages
