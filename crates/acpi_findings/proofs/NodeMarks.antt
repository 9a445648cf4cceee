-- The marks of a node stand in its bytes, in order: those of a package before what it holds.
use Rattle.std.proofs.Common.{◌≡◌, ◌+◌, ◌-◌, ◌≤◌, ℕ, suc, List, [], ◌∷◌, ◌++◌, length, drop, sym, ap, subst, ◌∙◌, append_assoc, arith}
use Rattle.std.proofs.lemmas.List.{length-append}
use Rattle.acpi_name.specs.Names.{NameParts}
use Rattle.acpi_tree.specs.declared.place.NamedForm.{NamedForm}
use Rattle.acpi_tree.specs.declared.place.Place.TheVariants.{Value}
use Rattle.acpi_tree.specs.declared.place.OperandKind.TheVariants.{At}
use Rattle.acpi_tree.specs.declared.place.UnitsForm.{UnitsForm}
use Rattle.acpi_tree.specs.declared.place.UnitsForm.TheVariants as fields
use Rattle.acpi_tree.specs.Operators.{operands_of_units}
use Rattle.acpi_tree.specs.Terms.{TermTree, TermTrees, declare}
use Rattle.acpi_code.specs.Opcodes.{opcode_bytes}
use Rattle.acpi_code.specs.Forms.{named_opcode}
use Rattle.acpi_code.specs.Spelling.{Packs}
use Rattle.acpi_values.specs.Spelling.{Spells}
use Rattle.acpi_values.specs.Declarations.{AreUnitArguments}
use Rattle.acpi_outline.specs.Nodes.{PlainTree, term, external, alias, table_region, FixedTree, scope, container, method, if_so, otherwise, while_so, units, form_of, form_bytes}
use Rattle.acpi_outline.specs.Outline.{SpellsPlain, IsFixed, operands_first, operands_after}
use Rattle.acpi_outline.specs.Rules.{Rules, grammar_at}
use Rattle.acpi_findings.specs.Marks.{PlacedMark, behind_name, behind_names, in_package, opcode_size, behind_all, marks_in, marks_in_all, marks_in_plain, marks_in_fixed}
use Rattle.acpi_findings.proofs.Rising.{Rises, rises_from, rises_to, rises_on}
use Rattle.acpi_findings.proofs.MarksStand.{drop_front, opcode_long, name_behind, names_behind, package_behind, package_behind_two, packed_longer, mark_place, term_stands, terms_stand}

-- the marks stand between the places where the bytes begin and where what is left begins
abbrev pub StandIn : (end : ℕ) → (bytes rest : List ℕ) → List PlacedMark → Type 0
StandIn end bytes rest ms = Rises mark_place (end - length bytes) (end - length rest) ms

-- wider bytes around
pub stand_wider : (end : ℕ) (bytes inner rest more : List ℕ) (ms : List PlacedMark) → length inner ≤ length bytes → length more ≤ length rest → StandIn end inner rest ms → StandIn end bytes more ms
stand_wider end bytes inner rest more ms le less h =
    rises_from mark_place (end - length bytes) (end - length inner) (end - length more) ms (omega (arith, le))
    (rises_to mark_place (end - length inner) (end - length rest) (end - length more) ms (omega (arith, less)) h)

none_stand : (end : ℕ) (a rest : List ℕ) → StandIn end (a ++ rest) rest []
none_stand end a rest = omega (arith, length-append a rest)

-- operands before a name, and behind it
declared_stand : {S : Type 0} (r : Rules S) (known : S) (end : ℕ) (form : NamedForm) (before : TermTrees) (n : NameParts) (behind : TermTrees) (a rest : List ℕ)
    → SpellsPlain r known (term (declare form before n behind)) a → StandIn end (a ++ rest) rest (marks_in end (declare form before n behind) (a ++ rest))
declared_stand r known end form before n behind a rest h =
    let g = grammar_at r known in
    let op : List ℕ = opcode_bytes (named_opcode form) in
    let tail : List ℕ = h.1 ++ (h.2 ++ rest) in
    let whole : a ++ rest ≡ op ++ (h.0 ++ tail) =
    ap (λ (l : List ℕ). l ++ rest) h.6 ∙ append_assoc op (h.0 ++ (h.1 ++ h.2)) rest
    ∙ ap (λ (l : List ℕ). op ++ l) (append_assoc h.0 (h.1 ++ h.2) rest ∙ ap (λ (l : List ℕ). h.0 ++ l) (append_assoc h.1 h.2 rest)) in
    let inner : List ℕ = drop (opcode_size form) (a ++ rest) in
    let is : inner ≡ h.0 ++ tail = ap (drop (opcode_size form)) whole ∙ drop_front (opcode_size form) op (h.0 ++ tail) (opcode_long form) in
    let first = terms_stand before g (operands_first form) end h.0 tail h.3 in
    let others = terms_stand behind g (operands_after form) end h.2 rest h.5 in
    let left : behind_name (behind_all before inner) ≡ h.2 ++ rest = ap (λ (l : List ℕ). behind_name (behind_all before l)) is ∙ ap behind_name first.left_is ∙ name_behind n h.1 (h.2 ++ rest) h.4 in
    let long : length (a ++ rest) ≡ length op + length (h.0 ++ tail) = ap length whole ∙ length-append op (h.0 ++ tail) in
    rises_on mark_place (end - length (a ++ rest)) (end - length (h.2 ++ rest)) (end - length rest) (marks_in_all end before inner) (marks_in_all end behind (behind_name (behind_all before inner)))
    (subst (λ (l : List ℕ). StandIn end (a ++ rest) (h.2 ++ rest) (marks_in_all end before l)) (sym is)
    (stand_wider end (a ++ rest) (h.0 ++ tail) tail (h.2 ++ rest) (marks_in_all end before (h.0 ++ tail)) (omega (arith, long)) (omega (arith, length-append h.1 (h.2 ++ rest))) first.rise))
    (subst (λ (l : List ℕ). StandIn end (h.2 ++ rest) rest (marks_in_all end behind l)) (sym left) others.rise)

region_stands : {S : Type 0} (r : Rules S) (known : S) (end : ℕ) (n : NameParts) (vs : TermTrees) (a rest : List ℕ) → SpellsPlain r known (table_region n vs) a
    → StandIn end (a ++ rest) rest (marks_in_all end vs (behind_name (drop 2 (a ++ rest))))
region_stands r known end n vs a rest h =
    let whole : a ++ rest ≡ 0x5B ∷ 0x88 ∷ (h.0 ++ (h.1 ++ rest)) = ap (λ (l : List ℕ). l ++ rest) h.4 ∙ ap (λ (l : List ℕ). 0x5B ∷ 0x88 ∷ l) (append_assoc h.0 h.1 rest) in
    let left : behind_name (drop 2 (a ++ rest)) ≡ h.1 ++ rest = ap (λ (l : List ℕ). behind_name (drop 2 l)) whole ∙ name_behind n h.0 (h.1 ++ rest) h.2 in
    let inner = terms_stand vs (grammar_at r known) (At Value ∷ At Value ∷ At Value ∷ []) end h.1 rest h.3 in
    let long : length (a ++ rest) ≡ suc (suc (length h.0 + length (h.1 ++ rest))) = ap length whole ∙ ap (λ k. suc (suc k)) (length-append h.0 (h.1 ++ rest)) in
    subst (λ (l : List ℕ). StandIn end (a ++ rest) rest (marks_in_all end vs l)) (sym left)
    (stand_wider end (a ++ rest) (h.1 ++ rest) rest rest (marks_in_all end vs (h.1 ++ rest)) (omega (arith, long)) (omega arith) inner.rise)

pub plain_stands : {S : Type 0} (r : Rules S) (known : S) (end : ℕ) (p : PlainTree) (a rest : List ℕ) → SpellsPlain r known p a → StandIn end (a ++ rest) rest (marks_in_plain end p (a ++ rest))
plain_stands r known end (term (declare form before n behind)) a rest h = declared_stand r known end form before n behind a rest h
plain_stands r known end (term t) a rest h = (term_stands t (grammar_at r known) end a rest h.1).rise
plain_stands r known end (external x) a rest h = none_stand end a rest
plain_stands r known end (alias source n) a rest h = (omega arith, none_stand end a rest)
plain_stands r known end (table_region n vs) a rest h = region_stands r known end n vs a rest h

-- ---- fixed arguments: `q` spells them, and `b` stands in the package behind them

-- what a package holds begins with a term
test_stands : {S : Type 0} (r : Rules S) (known : S) (end op : ℕ) (v : TermTree) (q b a rest : List ℕ) → Spells (grammar_at r known) v q → Packs (op ∷ []) (q ++ b) a
    → StandIn end (a ++ rest) (b ++ rest) (marks_in end v (in_package (a ++ rest)))
test_stands r known end op v q b a rest h p =
    let left : in_package (a ++ rest) ≡ q ++ (b ++ rest) = package_behind op (q ++ b) a rest p ∙ append_assoc q b rest in
    subst (λ (l : List ℕ). StandIn end (a ++ rest) (b ++ rest) (marks_in end v l)) (sym left)
    (stand_wider end (a ++ rest) (q ++ (b ++ rest)) (b ++ rest) (b ++ rest) (marks_in end v (q ++ (b ++ rest)))
    (omega (arith, packed_longer (op ∷ []) (q ++ b) a rest p, ap length (append_assoc q b rest))) (omega arith) (term_stands v (grammar_at r known) end q (b ++ rest) h).rise)

arguments_stand : {S : Type 0} (r : Rules S) (known : S) (end two : ℕ) (form : UnitsForm) (ns : List NameParts) (vs : TermTrees) (q b a rest : List ℕ) → AreUnitArguments (grammar_at r known) form ns vs q
    → Packs (0x5B ∷ two ∷ []) (q ++ b) a → StandIn end (a ++ rest) (b ++ rest) (marks_in_all end vs (behind_names ns (in_package (drop 1 (a ++ rest)))))
arguments_stand r known end two form ns vs q b a rest h p =
    let tail : List ℕ = h.operands ++ (b ++ rest) in
    let whole : (q ++ b) ++ rest ≡ h.names ++ tail =
    append_assoc q b rest ∙ ap (λ (l : List ℕ). l ++ (b ++ rest)) h.whole ∙ append_assoc h.names h.operands (b ++ rest) in
    let left : behind_names ns (in_package (drop 1 (a ++ rest))) ≡ tail =
    ap (behind_names ns) (package_behind_two 0x5B two (q ++ b) a rest p ∙ whole) ∙ names_behind ns h.names tail h.are_names in
    let inner = terms_stand vs (grammar_at r known) (operands_of_units form) end h.operands (b ++ rest) h.are_operands in
    let long : length ((q ++ b) ++ rest) ≡ length h.names + length tail = ap length whole ∙ length-append h.names tail in
    subst (λ (l : List ℕ). StandIn end (a ++ rest) (b ++ rest) (marks_in_all end vs l)) (sym left)
    (stand_wider end (a ++ rest) tail (b ++ rest) (b ++ rest) (marks_in_all end vs tail)
    (omega (arith, packed_longer (0x5B ∷ two ∷ []) (q ++ b) a rest p, long)) (omega arith) inner.rise)

no_marks_stand : (end : ℕ) (opcode q b a rest : List ℕ) → Packs opcode (q ++ b) a → StandIn end (a ++ rest) (b ++ rest) []
no_marks_stand end opcode q b a rest p =
    omega (arith, packed_longer opcode (q ++ b) a rest p, ap length (append_assoc q b rest), length-append q (b ++ rest))

pub fixed_stands : {S : Type 0} (r : Rules S) (level : ℕ) (known : S) (end : ℕ) (f : FixedTree) (q b a rest : List ℕ) → IsFixed r level known f q → Packs (form_bytes (form_of f)) (q ++ b) a
    → StandIn end (a ++ rest) (b ++ rest) (marks_in_fixed end f (a ++ rest))
fixed_stands r level known end (scope n) q b a rest h p = no_marks_stand end _ q b a rest p
fixed_stands r level known end (container form n vs) q b a rest h p = no_marks_stand end (form_bytes (form_of (container form n vs))) q b a rest p
fixed_stands r level known end (method n flags) q b a rest h p = no_marks_stand end _ q b a rest p
fixed_stands r level known end (if_so v) q b a rest h p = test_stands r known end 0xA0 v q b a rest h.spells p
fixed_stands r level known end otherwise q b a rest h p = no_marks_stand end _ q b a rest p
fixed_stands r level known end (while_so v) q b a rest h p = test_stands r known end 0xA2 v q b a rest h.spells p
fixed_stands r level known end (units fields.Field ns vs) q b a rest h p = arguments_stand r known end 0x81 fields.Field ns vs q b a rest h.0 p
fixed_stands r level known end (units fields.IndexField ns vs) q b a rest h p = arguments_stand r known end 0x86 fields.IndexField ns vs q b a rest h.0 p
fixed_stands r level known end (units fields.BankField ns vs) q b a rest h p = arguments_stand r known end 0x87 fields.BankField ns vs q b a rest h.0 p
