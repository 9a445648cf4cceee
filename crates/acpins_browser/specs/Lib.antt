pub mod Answers
pub mod LentFiles
