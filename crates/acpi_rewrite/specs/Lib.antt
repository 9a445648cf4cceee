pub mod Rewriting
pub mod RewritingLaws
pub mod steps
