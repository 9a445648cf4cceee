pub mod UseRoles
pub mod Uses
pub mod LocalLists
pub mod steps
