pub mod Collecting
pub mod LoadsSpelled
pub mod LoadingBodies
pub mod NoteLists
