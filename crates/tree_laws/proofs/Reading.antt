-- The tree of an image, read by the places of its headers.
pub mod NodeIsRead
pub mod PlacesFound
pub mod TreesRead
pub mod VerdictRead
pub mod OnePlacement
