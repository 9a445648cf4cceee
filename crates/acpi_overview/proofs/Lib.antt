mod ClaimOrder
mod Furthest
mod Chains
mod Naming
pub mod Claiming
