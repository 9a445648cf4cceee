-- The paths of the objects that a statement declares.
use Rattle.std.proofs.Common.{◌≡◌, ◌++◌, ◌∷◌, [], ◌∙◌, ℕ, List, Option, Some, None, refl, sym, ap, subst}
use Rattle.acpi_name.specs.Names.{NameParts}
use Rattle.acpi_name.specs.Paths.{place_of}
use Rattle.acpi_tree.specs.declared.place.NamedForm.{NamedForm}
use Rattle.acpi_tree.specs.declared.place.NamedForm.TheVariants as nameds
use Rattle.acpi_tree.specs.declared.place.UnitsForm.{UnitsForm}
use Rattle.acpi_tree.specs.declared.place.UnitsForm.TheVariants as units
use Rattle.acpi_tree.specs.Tree.{FieldTree, unit}
use Rattle.acpi_tree.specs.Terms.{TermTree, TermTrees, raw, declare, declare_units, no_terms, more}
use Rattle.acpi_tree.specs.Operators.{operands_before, operands_behind, operands_of_units}
use Rattle.acpi_values.specs.Grammars.{Grammar}
use Rattle.acpi_values.specs.Spelling.{AreOperands}
use Rattle.acpi_outline.specs.Outline.{bits_behind}
use Rattle.acpi_body.specs.Arguments.{Locals, BodyGrammar, with_path}
use Rattle.acpi_body.specs.Statements.{with_place, locals_after_unit, locals_after_units, IsStatement}
use Rattle.acpi_conditions.specs.Entries.{Path}
use Rattle.acpi_kinds.specs.Objects.{ObjectParts}
use Rattle.acpi_objects.specs.Declaring.{unit_object}
use Rattle.acpi_locals.specs.Lines.{declared_behind}
use Rattle.acpi_locals.specs.Declaring.{Declared, declared_at, declared_unit, declared_units, declared_by, named_local}
use Rattle.acpi_locals.specs.Laws.{with_paths}

both : (locals : Locals) (ds es : List Declared) → with_paths locals (ds ++ es) ≡ with_paths (with_paths locals ds) es
both locals [] es = refl
both locals (d ∷ ds) es = both (with_path locals d.0) ds es

unit_declares : (g : Grammar) (form : UnitsForm) (vs : TermTrees) (bytes : List ℕ) → AreOperands g (operands_of_units form) vs bytes → (locals : Locals) (p : Path) (offset bits : ℕ)
    → with_paths locals (declared_at (Some p) (unit_object form vs offset bits)) ≡ with_path locals p
unit_declares g units.Field (more (raw k n) vs) bytes h locals p offset bits = refl
unit_declares g units.Field no_terms bytes h locals p offset bits = absurd h
unit_declares g units.Field (more _ vs) bytes h locals p offset bits = absurd cc
unit_declares g units.IndexField (more (raw k n) vs) bytes h locals p offset bits = refl
unit_declares g units.IndexField no_terms bytes h locals p offset bits = absurd h
unit_declares g units.IndexField (more _ vs) bytes h locals p offset bits = absurd cc
unit_declares g units.BankField (more v (more (raw k n) vs)) bytes h locals p offset bits = refl
unit_declares g units.BankField no_terms bytes h locals p offset bits = absurd h
unit_declares g units.BankField (more v no_terms) bytes h locals p offset bits = absurd h.4
unit_declares g units.BankField (more v (more _ vs)) bytes h locals p offset bits = let inner = h.4 in absurd cc

units_declare : (g : Grammar) (form : UnitsForm) (ns : List NameParts) (vs : TermTrees) (all : List FieldTree) (bytes : List ℕ) → AreOperands g (operands_of_units form) vs bytes
    → (s : Path) (locals : Locals) (offset : ℕ) (es : List FieldTree) → with_paths locals (declared_units s (declare_units form ns vs all) offset es) ≡ locals_after_units s locals es
units_declare g form ns vs all bytes h s locals offset [] = refl
units_declare g form ns vs all bytes h s locals offset (unit n bits ∷ es) =
    both locals (declared_unit s (declare_units form ns vs all) offset (unit n bits)) (declared_units s (declare_units form ns vs all) (bits_behind offset (unit n bits)) es)
    ∙ ap (λ (l : Locals). with_paths l (declared_units s (declare_units form ns vs all) (bits_behind offset (unit n bits)) es)) (unit_declares g form vs bytes h locals (s ++ n ∷ []) offset bits)
    ∙ units_declare g form ns vs all bytes h s (with_path locals (s ++ n ∷ [])) (bits_behind offset (unit n bits)) es
units_declare g form ns vs all bytes h s locals offset (e ∷ es) = units_declare g form ns vs all bytes h s locals (bits_behind offset e) es

named_declares : (g : Grammar) (form : NamedForm) (before behind : TermTrees) (a c : List ℕ) → AreOperands g (operands_before form) before a → AreOperands g (operands_behind form) behind c
    → (locals : Locals) (p : Path) → with_paths locals (declared_at (Some p) (named_local form before behind)) ≡ with_path locals p
named_declares g nameds.Name before (more v vs) a c h k locals p = refl
named_declares g nameds.Name before no_terms a c h k locals p = absurd k
named_declares g (nameds.Create w) (more s (more i vs)) behind a c h k locals p = refl
named_declares g (nameds.Create w) (more s no_terms) behind a c h k locals p = absurd h.4
named_declares g (nameds.Create w) no_terms behind a c h k locals p = absurd h
named_declares g nameds.CreateField (more s (more i (more b vs))) behind a c h k locals p = refl
named_declares g nameds.CreateField (more s (more i no_terms)) behind a c h k locals p = absurd h.4.4
named_declares g nameds.CreateField (more s no_terms) behind a c h k locals p = absurd h.4
named_declares g nameds.CreateField no_terms behind a c h k locals p = absurd h
named_declares g nameds.Mutex before (more (raw i n) vs) a c h k locals p = refl
named_declares g nameds.Mutex before no_terms a c h k locals p = absurd k
named_declares g nameds.Mutex before (more _ vs) a c h k locals p = absurd cc
named_declares g nameds.Event before behind a c h k locals p = refl
named_declares g nameds.Region before (more (raw i n) (more o (more l vs))) a c h k locals p = refl
named_declares g nameds.Region before (more (raw i n) (more o no_terms)) a c h k locals p = absurd k.4.4
named_declares g nameds.Region before (more (raw i n) no_terms) a c h k locals p = absurd k.4
named_declares g nameds.Region before no_terms a c h k locals p = absurd k
named_declares g nameds.Region before (more _ vs) a c h k locals p = absurd cc

pub lines_declare : (g : BodyGrammar) (s : Path) (locals : Locals) (t : TermTree) (bytes : List ℕ) → IsStatement g s locals t bytes → with_paths locals (declared_by s t) ≡ declared_behind s locals t
lines_declare g s locals (declare form before n behind) bytes h =
    subst (λ (o : Option Path). with_paths locals (declared_at o (named_local form before behind)) ≡ with_place locals o) (sym h.4.place)
    (named_declares _ form before behind h.0 h.2 h.3 h.6 locals h.4.path)
lines_declare g s locals (declare_units form ns vs es) bytes h = units_declare _ form ns vs es h.1 h.5 s locals 0 es
lines_declare g s locals _ bytes h = refl
