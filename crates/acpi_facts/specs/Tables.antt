-- How much of a table is read (ACPI 6.5, 5.2.6).
use Rattle.std.specs.Prelude.{Bool, true, false, if◌then◌else◌}
use Rattle.acpi_pieces.specs.declared.tables.TableContent.{TableContent}
use Rattle.acpi_pieces.specs.declared.tables.TableContent.TheVariants.{Unread, Read}
use Rattle.acpi_pieces.specs.declared.tables.TableReason.{TableReason}
use Rattle.acpi_pieces.specs.declared.tables.TableReason.TheVariants as reasons
use Rattle.acpi_overview.specs.declared.facts.TableState.{TableState}
use Rattle.acpi_overview.specs.declared.facts.TableState.TheVariants as states

-- a table that isn't read
abbrev pub unread_state : TableReason → TableState
unread_state (reasons.Table fault) = states.Broken
unread_state reasons.NotDsdt = states.Other
unread_state reasons.NotSsdt = states.Other

-- whether all of a table is read, and whether its bytes sum to 0
abbrev pub table_state : TableContent → TableState
table_state (Unread reason) = unread_state reason
table_state (Read code is_cut has_bad_sum is_out_of_place trailing) =
    if is_cut then states.Cut else (if has_bad_sum then states.BadSum else states.Good)
