pub use Rattle.acpi_space.specs.Laws as SearchLaws
pub use Rattle.acpi_declare.specs.Namespace
pub use Rattle.acpi_declare.specs.Links
pub use Rattle.acpi_declare.specs.Notes
pub use Rattle.acpi_declare.specs.Loads
pub use Rattle.acpi_declare.specs.Refusals
pub use Rattle.acpi_declare.specs.DeclaredView
pub use Rattle.acpi_declare.specs.Laws as LoadLaws
pub use Rattle.acpi_order.specs.Bodies
pub use Rattle.acpi_order.specs.Machines
pub use Rattle.acpi_order.specs.Joins
pub use Rattle.acpi_order.specs.Singles
pub use Rattle.acpi_order.specs.Laws as OrderLaws
pub use Rattle.acpi_machine.specs.MachineView
pub use Rattle.acpi_machine.specs.Explaining
pub use Rattle.acpi_singles.specs.SingleView
pub use Rattle.acpi_verdict.specs.VerdictView
pub use Rattle.acpi_verdict.specs.SatisfiedView
pub use Rattle.acpi_rewrite.specs.Rewriting
pub use Rattle.acpi_rewrite.specs.RewritingLaws
