pub mod WayViews
pub mod Steps
