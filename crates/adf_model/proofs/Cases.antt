-- Worked cases, computed.
pub mod WorkedCases
pub mod CallCases
pub mod PlacedCases
pub mod CreateTest
pub mod StrayBytes
