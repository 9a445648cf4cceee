-- What spells the name of one segment, and of none.
use Rattle.std.proofs.Common.{◌≡◌, ◌∷◌, [], false, length, sym, subst, arith, IsTrue}
use Rattle.std.proofs.Math.Seq.{take-length}
use Rattle.acpi_name.specs.Names.{Segment, is_segment, NameParts, IsName}
use Rattle.acpi_name.specs.Spelling.{SpellsName, BeginsWithName}
use Rattle.acpi_name.proofs.NameWritten.{name_written}
use Rattle.acpi_survey.specs.Nodes.{name_of}

segment_is_name : (g : Segment) → IsTrue (is_segment g) → IsName (name_of g)
segment_is_name g h = grind arith

-- bytes that are the segment begin with its name
pub segment_begins : (g bytes : Segment) → bytes ≡ g → IsTrue (is_segment g) → BeginsWithName (name_of g) (length g) bytes
segment_begins g bytes e h = subst (BeginsWithName (name_of g) (length g)) (sym e) (record { within = omega arith; spells = subst (SpellsName (name_of g)) (sym (take-length g)) (name_written (name_of g) (segment_is_name g h)) })

abbrev pub no_name : NameParts
no_name = record { rooted = false; parents = 0; segments = [] }

no_name_is_name : IsName no_name
no_name_is_name = grind arith

pub zero_begins : BeginsWithName no_name 1 (0 ∷ [])
zero_begins = record { within = omega arith; spells = name_written no_name no_name_is_name }
