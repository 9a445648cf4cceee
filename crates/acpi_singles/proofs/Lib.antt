pub mod MissedPaths
pub mod AwaitedMethods
pub mod SingleLoads
pub mod JoinedValues
pub mod JoinedMachines
