-- The uses of names that values of the code hold.
use Rattle.std.specs.Prelude.{List, map}
use Rattle.std.specs.Borrow.{Bor}
use Rattle.acpi_name.specs.Names.{NameParts}
use Rattle.acpi_tree.specs.declared.term.Term.{Term}
use Rattle.acpi_tree.specs.Terms.{TermTree}
use Rattle.acpi_tree.specs.TermView.{term_view}
use Rattle.acpi_uses.specs.Uses.{UseParts}
use Rattle.acpi_uses.specs.Statements.{LineUseParts}
use Rattle.acpi_uses.specs.declared.uses.NameUse.{NameUse}
use Rattle.acpi_uses.specs.declared.statements.LineUse.{LineUse}

abbrev pub use_view : NameUse → UseParts
use_view u = (u.name.now, u.role)

abbrev pub uses_view : List NameUse → List UseParts
uses_view us = map use_view us

abbrev pub line_use_view : LineUse → LineUseParts
line_use_view u = (u.line, use_view u.name_use)

abbrev pub line_uses_view : List LineUse → List LineUseParts
line_uses_view us = map line_use_view us

abbrev pub statement_view : Bor Term → TermTree
statement_view t = term_view t.now

abbrev pub statements_view : List (Bor Term) → List TermTree
statements_view ts = map statement_view ts

abbrev pub names_view : List (Bor NameParts) → List NameParts
names_view ns = map (λ n. n.now) ns
