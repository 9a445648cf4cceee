pub mod Ways
pub mod ModuleNames
pub mod NameViews
pub mod steps
