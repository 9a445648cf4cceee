pub mod Input
pub mod Failures
pub mod FailureLines
pub mod Rewritten
pub mod Runs
pub mod RunLaws
pub mod steps
