pub mod Walking
pub mod Tables
