pub mod Paths
pub mod Numbers
pub mod OspmMethods
pub mod Regions
pub mod Containers
pub mod HostBridges
pub mod Claims
pub mod steps
