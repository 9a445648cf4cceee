pub mod Unions
pub mod Searches
mod Entered
pub mod PassSteps
pub mod StepLists
pub mod Places
pub mod Listings
pub mod SiteCodes
pub mod OneListing
pub mod ValuesByPath
pub mod LinkAnswers
pub mod LinkPairs
pub mod Ranges
pub mod KeptNotes
pub mod LinkMisses
