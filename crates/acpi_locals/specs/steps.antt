pub mod Declarations
pub mod LineViews
pub mod Rounds
pub mod AliasPaths
