pub mod Guarding
pub mod Firsts
pub mod NoNames
pub mod Serialized
pub mod NoLinks
pub mod NoElements
pub mod Views
pub mod steps
