pub mod Canonical
pub mod CanonicalTerms
pub mod CanonicalItems
pub mod Tables
pub mod Laws
pub mod TermLaws
pub mod Shortest
pub mod steps
