pub mod Pass
pub mod View
pub mod Outcomes
pub mod Entering
pub mod Missing
pub mod Showing
