pub mod Recoding
