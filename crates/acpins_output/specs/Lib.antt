pub mod FaultTexts
pub mod Listings
pub mod Shown
pub mod Checked
pub mod steps
