-- What the creation of a child writes into a file: the header, the longer table, the fillers.
pub mod PartsApart
pub mod FillerBytes
pub mod CreatedParts
pub mod CreatedNodes
pub mod TableText
pub mod ShortTexts
pub mod PartExtents
pub mod BasedLaidOut
