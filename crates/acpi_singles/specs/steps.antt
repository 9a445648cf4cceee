pub mod SingleMisses
pub mod Joining
