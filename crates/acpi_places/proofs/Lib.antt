pub mod Fronts
pub mod Walked
pub mod Begun
pub mod Stood
pub mod Added
pub mod Once
pub mod Apart
pub mod Numbered
