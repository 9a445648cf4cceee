pub mod Page
pub mod PartViews
