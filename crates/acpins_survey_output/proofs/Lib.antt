pub mod Separating
pub mod Merging
pub mod Lines
pub mod ConditionWays
pub mod AllLines
pub mod Mapping
