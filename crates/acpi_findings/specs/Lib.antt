pub mod Problems
pub mod ProblemViews
pub mod Marks
pub mod MarkLaws
pub mod Notes
pub mod Findings
pub mod FindingsOrder
pub mod steps
