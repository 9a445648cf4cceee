-- Packages as the code keeps them (ACPI 6.5, 20.2.5).
use Rattle.std.specs.Prelude.{Option, Some, None}
use Rattle.acpi_conditions.specs.Walk.{Kind, of_term, of_scope, of_first, of_other, of_body}
use Rattle.acpi_conditions.specs.declared.packages.Kind.{Kind as KindForm}
use Rattle.acpi_conditions.specs.declared.packages.Kind.TheVariants.{Term, Scope, First, Other, Body}
use Rattle.acpi_conditions.specs.declared.packages.Package.{Package}

abbrev pub kind_of : KindForm → Kind
kind_of Term = of_term
kind_of (Scope is_certain) = of_scope is_certain
kind_of First = of_first
kind_of Other = of_other
kind_of Body = of_body

-- behind a package of this kind, the If that stands directly before
abbrev pub if_directly_before : KindForm → Package → Option Package
if_directly_before First p = Some p
if_directly_before Term p = None
if_directly_before (Scope is_certain) p = None
if_directly_before Other p = None
if_directly_before Body p = None
