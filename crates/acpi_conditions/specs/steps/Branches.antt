-- Which turns have an opposite (ACPI 6.5, 19.6).
use Rattle.std.specs.Prelude.{Bool, true, false}
use Rattle.acpi_conditions.specs.Entries.{Turn, then_branch, else_branch}

-- into a branch of an If
abbrev pub is_branch : Turn → Bool
is_branch (then_branch place) = true
is_branch (else_branch place) = true
is_branch _ = false
