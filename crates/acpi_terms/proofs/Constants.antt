-- Constants and sources at their places: what is spelled is read, and where it fails the reading stops.
use Rattle.std.proofs.Common.{◌≡◌, ℕ, zero, suc, ◌<◌, List, [], ◌∷◌, ◌++◌, Ok, Err, refl, sym, ap, arith}
use Rattle.acpi_name.specs.Names.{NameParts}
use Rattle.acpi_name.proofs.NameAgain.{name_long}
use Rattle.acpi_tree.specs.declared.tree.Int.{Int}
use Rattle.acpi_code.specs.declared.opcode.Opcode.{Opcode}
use Rattle.acpi_code.specs.declared.opcode.Opcode.TheVariants as opcodes
use Rattle.acpi_code.specs.Spelling.{SpellsInt, SpellsTermName}
use Rattle.acpi_code.specs.Faults.{FailsName, FailsInt, FailsAs, FailsUnless}
use Rattle.acpi_code.specs.steps.Reading.{name_in}
use Rattle.acpi_code.specs.steps.Fields.{int_in}
use Rattle.acpi_code.proofs.Readings.{Judge, judge_into, Front}
use Rattle.acpi_code.proofs.Opcodes.{opens_name, Opened}
use Rattle.acpi_code.proofs.Names.{name_in_complete}
use Rattle.acpi_code.proofs.Constants as constants
use Rattle.acpi_code.proofs.Exact.{Exact, as_judged, as_stops, by_opcode_judged, by_opcode_stops}
use Rattle.acpi_code.proofs.ExactParts.{exact_name, term_name_judged, exact_int}
use Rattle.acpi_code.specs.Forms.{source_arg, int_arg}
use Rattle.acpi_terms.specs.Faults.{reason_at, FailsPart, source_refusal, FailsArgument}
use Rattle.acpi_terms.specs.Spelling.{ArgumentWithin}
use Rattle.acpi_terms.specs.steps.Reading.{Fault, part_fault, constant_fault, const_at, int_at, source_by, source_at}

-- ---- what is spelled is read

pub const_complete : (i : Int) (end : ℕ) (bytes rest : List ℕ) → SpellsInt i bytes → const_at end (bytes ++ rest) ≡ Ok (i, rest)
unfolding const_at
const_complete i end bytes rest h = rw (constants.int_complete i end bytes rest h) refl

pub int_complete : (level end : ℕ) (i : Int) (bytes rest : List ℕ) → 0 < level → SpellsInt i bytes → int_at level end (bytes ++ rest) ≡ Ok (i, rest)
unfolding int_at
int_complete zero end i bytes rest l h = absurd (omega arith)
int_complete (suc level) end i bytes rest l h = const_complete i end bytes rest h

pub source_complete : (end : ℕ) (n : NameParts) (a rest : List ℕ) → SpellsTermName n a → source_at end (a ++ rest) ≡ Ok (n, rest)
unfolding source_at
source_complete end n [] rest h = let some = name_long n [] h.0 in absurd (omega arith)
source_complete end n (b ∷ a) rest h = rw (opens_name end b (a ++ rest) h.1, name_in_complete end n (b ∷ a) rest h.0) refl

-- ---- constants

const_judged : (end : ℕ) (bytes : List ℕ) → Judge (Front SpellsInt bytes) (FailsAs constant_fault FailsInt end bytes) (const_at end bytes)
unfolding const_at
const_judged end bytes = as_judged (Front SpellsInt bytes) FailsInt constant_fault end bytes (int_in end bytes) (exact_int.judged end bytes)

const_stops : (end : ℕ) (bytes : List ℕ) (f : Fault) → FailsAs constant_fault FailsInt end bytes f → const_at end bytes ≡ Err f
unfolding const_at
const_stops end bytes f h = as_stops FailsInt constant_fault end bytes (int_in end bytes) f (exact_int.stops end bytes) h

pub exact_const : Exact SpellsInt (FailsAs constant_fault FailsInt) const_at
exact_const = record { found = λ end i a rest h. const_complete i end a rest h; judged = const_judged; stops = const_stops }

int_judged : (level end : ℕ) (bytes : List ℕ) → Judge (Front (ArgumentWithin level int_arg) bytes) (FailsArgument level int_arg end bytes) (int_at level end bytes)
unfolding int_at
int_judged zero end bytes = refl
int_judged (suc level) end bytes =
    judge_into (Front SpellsInt bytes) (Front (ArgumentWithin (suc level) int_arg) bytes) (FailsAs constant_fault FailsInt end bytes) (FailsArgument (suc level) int_arg end bytes) (const_at end bytes)
    (λ x t. record { front = t.front; spells = (t.spells, omega arith); whole = t.whole }) (λ f h. h) (const_judged end bytes)

int_stops : (level end : ℕ) (bytes : List ℕ) (f : Fault) → FailsArgument level int_arg end bytes f → int_at level end bytes ≡ Err f
unfolding int_at
int_stops zero end bytes f h = ap Err (sym h)
int_stops (suc level) end bytes f h = const_stops end bytes f h

pub exact_int_term : (level : ℕ) → Exact (ArgumentWithin level int_arg) (FailsArgument level int_arg) (int_at level)
exact_int_term level = record { found = λ end i a rest h. int_complete level end i a rest (omega (arith, h.1)) h.0; judged = int_judged level; stops = int_stops level }

-- ---- sources

abbrev FailsSource : Opcode → ℕ → List ℕ → Fault → Type 0
FailsSource o = FailsUnless reason_at (source_refusal o) (FailsPart FailsName)

source_by_judged : (end : ℕ) (o : Opcode) (bytes rest : List ℕ) → Opened bytes (o, rest) → Judge (Front SpellsTermName bytes) (FailsSource o end bytes) (source_by end bytes o)
source_by_judged end opcodes.Name bytes rest o = as_judged (Front SpellsTermName bytes) FailsName part_fault end bytes (name_in end bytes) (term_name_judged end bytes rest o)
source_by_judged end opcodes.Nothing bytes rest o = refl
source_by_judged end term bytes rest o = refl

source_by_stops : (end : ℕ) (o : Opcode) (bytes : List ℕ) (f : Fault) → FailsSource o end bytes f → source_by end bytes o ≡ Err f
source_by_stops end opcodes.Name bytes f h = as_stops FailsName part_fault end bytes (name_in end bytes) f (exact_name.stops end bytes) h
source_by_stops end opcodes.Nothing bytes f h = ap Err (sym h)
source_by_stops end term bytes f h = ap Err (sym h)

source_judged : (end : ℕ) (bytes : List ℕ) → Judge (Front SpellsTermName bytes) (FailsArgument 0 source_arg end bytes) (source_at end bytes)
unfolding source_at
source_judged end bytes = by_opcode_judged part_fault FailsSource (Front SpellsTermName bytes) end bytes (λ x. source_by end bytes x.0) (λ x o. source_by_judged end x.0 bytes x.1 o)

source_stops : (end : ℕ) (bytes : List ℕ) (f : Fault) → FailsArgument 0 source_arg end bytes f → source_at end bytes ≡ Err f
unfolding source_at
source_stops end bytes f h = by_opcode_stops part_fault FailsSource end bytes (λ x. source_by end bytes x.0) f (λ o rest read k. source_by_stops end o bytes f k) h

pub exact_source : Exact SpellsTermName (FailsArgument 0 source_arg) source_at
exact_source = record { found = source_complete; judged = source_judged; stops = source_stops }
