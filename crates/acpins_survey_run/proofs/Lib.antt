pub mod Failing
pub mod Gathering
pub mod Ssdts
pub mod Digits
pub mod Spared
