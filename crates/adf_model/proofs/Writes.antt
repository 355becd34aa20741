-- What writes leave of a file: untouched parts, failed commits, the data of a node.
pub mod Reaches
pub mod StayLaws
pub mod UntouchedData
pub mod UntouchedParts
pub mod FailedWrites
pub mod TornTail
pub mod DataLaws
pub mod DataRoom
