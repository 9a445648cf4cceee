pub mod ReadTables
pub mod MarkViews
pub mod NoteSiteViews
