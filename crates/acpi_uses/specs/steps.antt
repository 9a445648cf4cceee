pub mod GuardWalks
