pub mod OneReading
pub mod Walking
pub mod TableWalks
pub mod LocalPaths
pub mod Growing
pub mod EntryOrder
mod KeptOrder
pub mod OpenedScopes
mod SegmentNames
pub mod Surveys
mod Numbers
pub mod SureCounts
pub mod RunEntries
