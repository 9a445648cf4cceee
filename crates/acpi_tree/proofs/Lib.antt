pub mod Alike
pub mod DeclarationForms
pub mod TermForms
pub mod TermLists
