pub mod AddedBodies
pub mod Machines
pub mod Explained
pub mod Orders
mod OneBody
