pub mod Gaps
pub mod Links
pub mod Slots
pub mod Heap
pub mod Beside
