pub mod SingleView
pub mod steps
