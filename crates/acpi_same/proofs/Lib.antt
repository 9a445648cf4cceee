pub mod Lists
pub mod Saying
pub mod Orders
