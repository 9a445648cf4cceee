-- How the statements of a method body fail: which part of the bytes, from the left, is the first that is not spelled,
-- and why (ACPI 6.5, 20.2.5).
use Rattle.std.specs.Prelude.{◌≡◌, ◌≢◌, ◌⊎◌, ◌-◌, ◌≤◌, Bool, true, false, ℕ, zero, suc, Some, List, [], ◌∷◌, ◌++◌, length}
use Rattle.std.specs.FinMap as finite
use Rattle.acpi_name.specs.Names.{Segment, NameParts}
use Rattle.acpi_name.specs.Spelling.{SpellsName}
use Rattle.acpi_tree.specs.declared.place.Place.TheVariants.{Value, Statement}
use Rattle.acpi_tree.specs.declared.place.NamedForm.{NamedForm}
use Rattle.acpi_tree.specs.declared.place.NamedForm.TheVariants as named
use Rattle.acpi_tree.specs.declared.place.UnitsForm.{UnitsForm}
use Rattle.acpi_tree.specs.declared.place.UnitsForm.TheVariants as units
use Rattle.acpi_tree.specs.Terms.{TermTree, TermTrees, if_do, no_else, no_terms, more}
use Rattle.acpi_tree.specs.Operators.{operands_before, operands_behind, names_of_units, operands_of_units}
use Rattle.acpi_code.specs.declared.opcode.Opcode.{Opcode}
use Rattle.acpi_code.specs.declared.opcode.Opcode.TheVariants as opcodes
use Rattle.acpi_code.specs.Opcodes.{opcode_bytes, BeginsWith}
use Rattle.acpi_code.specs.Forms.{named_opcode, units_opcode}
use Rattle.acpi_code.specs.Spelling.{SpellsEach, Packs}
use Rattle.acpi_code.specs.Faults.{Failure, no_level, FailsAs, FailsBehind, FailsInTurn, FailsPackage, FailsName, FailsByOpcode, FailsUnless, FailsFields}
use Rattle.acpi_values.specs.declared.fault.BodyReason.{BodyReason}
use Rattle.acpi_values.specs.declared.fault.BodyReason.TheVariants.{BadPlace}
use Rattle.acpi_values.specs.declared.fault.BodyFault.{BodyFault}
use Rattle.acpi_values.specs.Arguments.{Locals, BodyGrammar}
use Rattle.acpi_values.specs.Grammars.{Grammar}
use Rattle.acpi_values.specs.Refusals.{refusal_at, never_begins}
use Rattle.acpi_values.specs.Spelling.{heights}
use Rattle.acpi_values.specs.Faults.{fault_of, constant_fault_of, body_fault, IsTermAt, AreOperandsIn, FailsTerm, FailsOperands, FailsForm}
use Rattle.acpi_body.specs.Statements.{MayDeclare, AreStatements, locals_after_all}

-- ---- declarations (20.2.5.1 and 20.2.5.2)

-- a name that is declared
abbrev pub FailsDeclared : List Segment → Failure BodyFault
FailsDeclared s end bytes f = FailsAs fault_of FailsName end bytes f
    ⊎ ((n : NameParts) × (a : List ℕ) × (b : List ℕ) × SpellsName n a × (bytes ≡ a ++ b)
    × (¬ MayDeclare s n) × (f ≡ body_fault BadPlace (end - length bytes)))

abbrev pub IsDeclared : List Segment → NameParts → List ℕ → Type 0
IsDeclared s n bytes = MayDeclare s n × SpellsName n bytes

-- the operands before the name, the name, and the operands behind it
abbrev pub FailsNamed : Grammar → ℕ → List Segment → NamedForm → Failure BodyFault
FailsNamed g level s form = FailsBehind (opcode_bytes (named_opcode form))
    (FailsInTurn (FailsOperands g level (operands_before form))
    (AreOperandsIn g level (operands_before form)) (λ ts. FailsInTurn (FailsDeclared s)
    (IsDeclared s) (λ n. FailsOperands g level (operands_behind form))))

-- so many names
abbrev pub FailsNames : ℕ → Failure BodyFault
FailsNames zero = λ end bytes f. ⊥
FailsNames (suc count) =
    FailsInTurn (FailsAs fault_of FailsName) SpellsName (λ n. FailsNames count)

abbrev pub AreNames : ℕ → List NameParts → List ℕ → Type 0
AreNames count ns bytes = (length ns ≡ count) × SpellsEach SpellsName ns bytes

-- the names, the operands and the elements of a field list
abbrev pub FailsUnits : Grammar → ℕ → UnitsForm → Failure BodyFault
FailsUnits g level form = FailsBehind (opcode_bytes (units_opcode form)) (FailsPackage fault_of
    (FailsInTurn (FailsNames (names_of_units form)) (AreNames (names_of_units form))
    (λ ns. FailsInTurn (FailsOperands g level (operands_of_units form))
    (AreOperandsIn g level (operands_of_units form))
    (λ vs. FailsAs constant_fault_of FailsFields))))

-- ---- blocks (20.2.5.3), by how the statements inside fail behind some locals

-- statements of at most so many levels
abbrev pub AreStatementsIn : BodyGrammar → List Segment → ℕ → Locals → TermTrees → List ℕ → Type 0
AreStatementsIn g s level locals ts bytes =
    AreStatements g s locals ts bytes × (heights ts ≤ level)

-- a package of a predicate and statements
abbrev pub FailsBlock : BodyGrammar → ℕ → (Locals → Failure BodyFault) → Locals → Failure BodyFault
FailsBlock g level Inside locals = FailsPackage fault_of
    (FailsInTurn (FailsTerm (g locals) level Value)
    (IsTermAt (g locals) level Value) (λ v. Inside locals))

abbrev pub IsBlock : BodyGrammar → List Segment → ℕ → Locals → TermTrees → List ℕ → Type 0
IsBlock g s level locals ts bytes = (v : TermTree) × (a : List ℕ) × (b : List ℕ)
    × IsTermAt (g locals) level Value v a
    × AreStatementsIn g s level locals ts b × Packs [] (a ++ b) bytes

abbrev pub FailsElse : Failure BodyFault → Failure BodyFault
FailsElse Inside = FailsBehind (0xA1 ∷ []) (FailsPackage fault_of Inside)

-- the Else behind the block belongs to the If
abbrev pub FailsIf : BodyGrammar → List Segment → ℕ → (Locals → Failure BodyFault) → Locals
    → Failure BodyFault
FailsIf g s level Inside locals = FailsBehind (0xA0 ∷ [])
    (FailsInTurn (FailsBlock g level Inside locals) (IsBlock g s level locals)
    (λ ts. FailsElse (Inside (locals_after_all s locals ts))))

abbrev pub FailsWhile : BodyGrammar → ℕ → (Locals → Failure BodyFault) → Locals → Failure BodyFault
FailsWhile g level Inside locals = FailsBehind (0xA2 ∷ []) (FailsBlock g level Inside locals)

-- ---- statements

-- a statement that begins with the opcode: a block, a declaration or another term
abbrev pub FailsStatementForm : BodyGrammar → List Segment → ℕ → (Locals → Failure BodyFault)
    → Locals → Opcode → Failure BodyFault
FailsStatementForm g s level Inside locals opcodes.If = FailsIf g s level Inside locals
FailsStatementForm g s level Inside locals opcodes.While = FailsWhile g level Inside locals
FailsStatementForm g s level Inside locals opcodes.DeclareName =
    FailsNamed (g locals) level s named.Name
FailsStatementForm g s level Inside locals (opcodes.Create w) =
    FailsNamed (g locals) level s (named.Create w)
FailsStatementForm g s level Inside locals opcodes.CreateField =
    FailsNamed (g locals) level s named.CreateField
FailsStatementForm g s level Inside locals opcodes.Region =
    FailsNamed (g locals) level s named.Region
FailsStatementForm g s level Inside locals opcodes.Mutex =
    FailsNamed (g locals) level s named.Mutex
FailsStatementForm g s level Inside locals opcodes.Event =
    FailsNamed (g locals) level s named.Event
FailsStatementForm g s level Inside locals opcodes.Field =
    FailsUnits (g locals) level units.Field
FailsStatementForm g s level Inside locals opcodes.IndexField =
    FailsUnits (g locals) level units.IndexField
FailsStatementForm g s level Inside locals opcodes.BankField =
    FailsUnits (g locals) level units.BankField
FailsStatementForm g s level Inside locals o = FailsForm (g locals) level
    (FailsTerm (g locals) level) Statement o

-- an If without an Else, and whether the last statement is one
abbrev pub is_open_if : TermTree → Bool
is_open_if (if_do v ts no_else) = true
is_open_if _ = false

abbrev pub ends_in_if : TermTrees → Bool
ends_in_if no_terms = false
ends_in_if (more t no_terms) = is_open_if t
ends_in_if (more t (more u us)) = ends_in_if (more u us)

-- Some statements are spelled, bytes are left, and there one fails. An Else behind an If belongs to it.
abbrev pub FailsAmong : BodyGrammar → List Segment → ℕ → (Locals → Failure BodyFault) → Locals
    → Failure BodyFault
FailsAmong g s level One locals end bytes f = (ts : TermTrees) × (a : List ℕ) × (b : List ℕ)
    × AreStatementsIn g s level locals ts a × (bytes ≡ a ++ b) × (b ≢ [])
    × (ends_in_if ts ≡ true → (rest : List ℕ) → b ≢ 0xA1 ∷ rest)
    × One (locals_after_all s locals ts) end b f

-- A statement, where so many levels are left: none is; or what begins there may not stand there; or it fails.
abbrev pub FailsStatement : BodyGrammar → List Segment → ℕ → Locals → Failure BodyFault
FailsStatement g s zero locals = λ end bytes f. f ≡ fault_of (no_level end bytes)
FailsStatement g s (suc level) locals = FailsByOpcode fault_of (λ o. FailsUnless body_fault
    (refusal_at (g locals).loads Statement o) (FailsStatementForm g s level
    (FailsAmong g s level (FailsStatement g s level)) locals o))

-- the statements of a list, where so many levels are left
abbrev pub FailsStatements : BodyGrammar → List Segment → ℕ → Locals → Failure BodyFault
FailsStatements g s level = FailsAmong g s level (FailsStatement g s level)

-- ---- bodies

-- The first part of the body's bytes, from the left, that is not spelled: for this reason, at this place. `g` is
-- its grammar, `s` is the method's path, and `depth` the number of levels that are allowed.
abbrev pub ShowsBody : BodyGrammar → List Segment → ℕ → List ℕ → BodyReason → ℕ → Type 0
ShowsBody g s depth code why place =
    FailsStatements g s depth finite.empty (length code) code (body_fault why place)

-- what begins there is refused as a statement, whatever stands before it; `loads` says whether loads may stand
abbrev pub IsNoStatement : Bool → BodyReason → List ℕ → Type 0
IsNoStatement loads why bytes =
    (o : Opcode) × BeginsWith o bytes × (never_begins loads o ≡ Some why)
