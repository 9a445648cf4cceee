pub mod MapViews
pub mod NumberedTexts
