pub mod VerdictView
pub mod SatisfiedView
pub mod steps
