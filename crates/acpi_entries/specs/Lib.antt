pub mod Condition
pub mod ConditionViews
pub mod EntryLinks
pub mod EntryBodies
pub mod SurveyBodies
pub mod Laws
pub mod steps
