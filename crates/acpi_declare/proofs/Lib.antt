pub mod CodeFaults
pub mod TableListings
pub mod TableLists
pub mod OverOne
pub mod Refusals
