pub mod Standing
pub mod Adding
pub mod Below
pub mod NameOrder
pub mod NameSets
