pub use Rattle.acpi_kinds.specs.Objects
pub use Rattle.acpi_kinds.specs.Views
pub mod Declaring
pub mod Laws
