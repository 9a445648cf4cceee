pub mod Codes
pub mod Parts
pub mod Places
pub mod PlacedLists
pub mod DeclaringParts
pub mod Lookups
pub mod Searching
pub mod PartLookups
pub mod NodesInTables
pub mod RecordedParts
pub mod Indexing
mod NameFronts
