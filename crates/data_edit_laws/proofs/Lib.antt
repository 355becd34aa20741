pub mod Settled
pub mod Placed
pub mod Whole
