pub mod Items
pub mod Descriptors
pub mod Meaning
pub mod Templates
pub mod EisaIds
pub mod Laws
pub mod steps
