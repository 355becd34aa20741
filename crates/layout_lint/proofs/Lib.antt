pub mod KeyLaws
pub mod PageLaws
pub mod RowSteps
pub mod HeadLaws
pub mod EntryLaws
pub mod TableLaws
pub mod ChunkLaws
pub mod NodeLaws
mod FillerLaws
mod GapLaws
mod TilingLaws
pub mod SetLaws
pub mod ShapeLaws
pub mod ChunkListLaws
pub mod StackLaws
pub mod GoingLaws
pub mod SearchLaws
pub mod VerdictLaws
pub mod ChildrenLaws
pub mod HeaderLaws
pub mod LookLaws
pub mod FreeLaws
pub mod ListLaws
pub mod FreeTableLaws
pub mod ContentLaws
pub mod ContentRows
pub mod DataLaws
pub mod PathLaws
pub mod OwnerTiling
pub mod OwnerRows
pub mod OwnerParts
pub mod PlaceLaws
pub mod OwnerLaws
pub mod OwnerSteps
