-- The bytes that spell the statements of a method body, and the paths that they declare (ACPI 6.5, 20.2.5).
use Rattle.std.specs.Prelude.{◌≡◌, ◌<◌, ◌≤◌, ℕ, List, [], ◌∷◌, ◌++◌, length, Option, Some, None}
use Rattle.std.specs.FinMap as finite
use Rattle.acpi_name.specs.Names.{Segment, NameParts}
use Rattle.acpi_name.specs.Paths.{place_of}
use Rattle.acpi_name.specs.Spelling.{SpellsName}
use Rattle.acpi_tree.specs.declared.place.Place.TheVariants.{Value, Statement}
use Rattle.acpi_tree.specs.Tree.{FieldTree, unit}
use Rattle.acpi_tree.specs.Terms.{TermTree, TermTrees, ElseTree, if_do, no_else, else_do, while_do, declare, declare_units, no_terms, more}
use Rattle.acpi_tree.specs.Operators.{operands_before, operands_behind, names_of_units, operands_of_units}
use Rattle.acpi_code.specs.Opcodes.{opcode_bytes}
use Rattle.acpi_code.specs.Spelling.{SpellsEach, Packs}
use Rattle.acpi_values.specs.Arguments.{Locals, BodyGrammar}
use Rattle.acpi_body.specs.Arguments.{with_path}
use Rattle.acpi_values.specs.Spelling.{Stands, Spells, AreOperands, heights}
use Rattle.acpi_code.specs.Fields.{SpellsFields}
pub use Rattle.acpi_code.specs.Forms.{named_opcode, units_opcode}

-- ---- declarations (20.2.5.1 and 20.2.5.2)

-- the name can be declared: it has segments, and a place in the scope
pub record MayDeclare (s : List Segment) (n : NameParts) : Type 0 where
  pub path : List Segment
  pub place : place_of s n ≡ Some path
  pub some : 0 < length n.segments

-- ---- what a term declares

abbrev pub with_place : Locals → Option (List Segment) → Locals
with_place locals None = locals
with_place locals (Some p) = with_path locals p

-- each named element of a field list stands in the method's path
abbrev pub locals_after_unit : List Segment → Locals → FieldTree → Locals
locals_after_unit s locals (unit g bits) = with_path locals (s ++ g ∷ [])
locals_after_unit s locals _ = locals

abbrev pub locals_after_units : List Segment → Locals → List FieldTree → Locals
locals_after_units s locals [] = locals
locals_after_units s locals (e ∷ es) = locals_after_units s (locals_after_unit s locals e) es

-- the paths that the body has declared behind a term; they stay behind the block in which it stands
abbrev mutual
  pub locals_after : List Segment → Locals → TermTree → Locals
  locals_after s locals (if_do v ts e) = locals_after_else s (locals_after_all s locals ts) e
  locals_after s locals (while_do v ts) = locals_after_all s locals ts
  locals_after s locals (declare form before n behind) = with_place locals (place_of s n)
  locals_after s locals (declare_units form ns vs es) = locals_after_units s locals es
  locals_after s locals _ = locals

  pub locals_after_else : List Segment → Locals → ElseTree → Locals
  locals_after_else s locals no_else = locals
  locals_after_else s locals (else_do ts) = locals_after_all s locals ts

  pub locals_after_all : List Segment → Locals → TermTrees → Locals
  locals_after_all s locals no_terms = locals
  locals_after_all s locals (more t ts) = locals_after_all s (locals_after s locals t) ts

-- ---- statements

-- DefIfElse, DefWhile, the declarations, and the other terms where a statement stands. Each term is spelled by the
-- grammar behind what was declared before it. No statement begins with ElseOp, so an Else belongs to the If before it.
abbrev mutual
  pub IsStatement : BodyGrammar → List Segment → Locals → TermTree → List ℕ → Type 0
  -- DefIfElse := IfOp PkgLength Predicate TermList DefElse, where IfOp := 0xA0 (20.2.5.3)
  IsStatement g s locals (if_do v ts e) bytes =
      (a : List ℕ) × (b : List ℕ) × (x : List ℕ) × (y : List ℕ)
      × Stands Value v × Spells (g locals) v a × AreStatements g s locals ts b
      × Packs (0xA0 ∷ []) (a ++ b) x
      × IsElse g s (locals_after_all s locals ts) e y × (bytes ≡ x ++ y)
  -- DefWhile := WhileOp PkgLength Predicate TermList, where WhileOp := 0xA2 (20.2.5.3)
  IsStatement g s locals (while_do v ts) bytes = (a : List ℕ) × (b : List ℕ)
      × Stands Value v × Spells (g locals) v a × AreStatements g s locals ts b
      × Packs (0xA2 ∷ []) (a ++ b) bytes
  -- the rules of declarations stand above `operands_before`, `operands_behind` and `names_of_units` (20.2.5.1,
  -- 20.2.5.2)
  IsStatement g s locals (declare form before n behind) bytes =
      (a : List ℕ) × (b : List ℕ) × (c : List ℕ)
      × AreOperands (g locals) (operands_before form) before a × MayDeclare s n
      × SpellsName n b × AreOperands (g locals) (operands_behind form) behind c
      × (bytes ≡ opcode_bytes (named_opcode form) ++ (a ++ (b ++ c)))
  IsStatement g s locals (declare_units form ns vs es) bytes =
      (a : List ℕ) × (b : List ℕ) × (c : List ℕ)
      × (length ns ≡ names_of_units form) × SpellsEach SpellsName ns a
      × AreOperands (g locals) (operands_of_units form) vs b × SpellsFields es c
      × Packs (opcode_bytes (units_opcode form)) (a ++ (b ++ c)) bytes
  IsStatement g s locals t bytes =
      Stands Statement t × Spells (g locals) t bytes

  -- DefElse := Nothing | <ElseOp PkgLength TermList>, where ElseOp := 0xA1 (20.2.5.3)
  pub IsElse : BodyGrammar → List Segment → Locals → ElseTree → List ℕ → Type 0
  IsElse g s locals no_else bytes = bytes ≡ []
  IsElse g s locals (else_do ts) bytes =
      (b : List ℕ) × AreStatements g s locals ts b × Packs (0xA1 ∷ []) b bytes

  -- TermList := Nothing | <TermObj TermList> (20.2.5)
  pub AreStatements : BodyGrammar → List Segment → Locals → TermTrees → List ℕ → Type 0
  AreStatements g s locals no_terms bytes = bytes ≡ []
  AreStatements g s locals (more t ts) bytes = (a : List ℕ) × (b : List ℕ)
      × IsStatement g s locals t a × AreStatements g s (locals_after s locals t) ts b
      × (bytes ≡ a ++ b)

-- ---- bodies

-- the bytes of the body of a method at the path `s` are these statements, none of them deeper than `depth`
pub record ReadsBody (g : BodyGrammar) (s : List Segment) (depth : ℕ) (bytes : List ℕ)
    (ts : TermTrees) : Type 0 where
  pub spelled : AreStatements g s finite.empty ts bytes
  pub within : heights ts ≤ depth
