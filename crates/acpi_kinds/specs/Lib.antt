pub mod Objects
pub mod Views
