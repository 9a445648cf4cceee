pub mod ByPlace
pub mod Indexes
pub mod NodeCounts
pub mod Remainders
pub mod Search
pub mod Lookups
pub mod PlacedItems
