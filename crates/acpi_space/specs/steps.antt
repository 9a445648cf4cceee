pub mod Tree
pub mod Grown
pub mod Trail
pub mod Walk
pub mod Layers
pub mod Within
