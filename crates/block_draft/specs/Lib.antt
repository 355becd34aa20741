pub mod Changes
pub mod Draft
pub mod Lends
