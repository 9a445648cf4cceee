pub mod Small
pub mod OnePath
pub mod Listed
