pub mod Below
pub mod Movable
pub mod Relisted
pub mod Moved
