use Rattle.std.proofs.Common.{ℕ, List, ◌++◌, length}
use Rattle.acpi_pieces.specs.Pieces.{ArePieces}
use Rattle.acpi_pieces.proofs.file.pieces.Given as goal

-- what are pieces of the rest are, behind those that are there, pieces of the file
abbrev pub invariant-each : goal.invariant-each
invariant-each l = (more : List (List ℕ)) → ArePieces more l.rest → ArePieces (l.pieces.items ++ more) l.file

abbrev pub decreases-each : goal.decreases-each
decreases-each l = length l.rest
