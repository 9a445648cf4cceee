pub mod Chunks
pub mod Templates
pub mod EisaLaws
