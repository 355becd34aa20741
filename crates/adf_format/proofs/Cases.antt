-- Worked cases, computed.
pub mod FreshTest
pub mod FaultTest
pub mod HeapTest
pub mod RecordTest
pub mod PartTest
pub mod PackedTest
pub mod RowTest
