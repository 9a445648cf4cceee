pub mod TemplateRead
pub mod Descriptors
