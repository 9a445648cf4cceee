pub mod ConditionLists
pub mod steps
