pub use Rattle.acpi_code.specs.Forms
pub mod Spelling
pub mod Faults
pub mod Laws
pub mod steps
