pub mod LoadNotes
pub mod steps
