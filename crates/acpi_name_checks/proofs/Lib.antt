pub mod Below
pub mod Standing
pub mod Firsts
pub mod Positions
pub mod NameOrders
pub mod NameSets
