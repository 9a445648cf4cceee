pub mod Telling
pub mod Decoding
pub mod Dumped
