-- Where terms load a table, their bytes hold the opcode.
use Rattle.std.proofs.Common.{◌≡◌, ℕ, Bool, true, false, true≢false, not, ◌||◌, List, [], ◌∷◌, ◌++◌, refl, sym, ap, subst, ◌∙◌}
use Rattle.acpi_name.specs.Names.{Segment}
use Rattle.acpi_tree.specs.declared.op.Op.{Op}
use Rattle.acpi_tree.specs.declared.op.Op.TheVariants as operators
use Rattle.acpi_tree.specs.declared.place.OperandKind.{OperandKind}
use Rattle.acpi_tree.specs.Terms.{TermTree, TermTrees, buffer, pkg, var_pkg, call, apply, ElseTree, if_do, no_else, else_do, while_do, declare, declare_units, no_terms, more}
use Rattle.acpi_tree.specs.Operators.{is_load, operands_of, operands_before, operands_behind, operands_of_units}
use Rattle.acpi_code.specs.Opcodes.{opcode_bytes, operator_bytes}
use Rattle.acpi_code.specs.Spelling.{Packs}
use Rattle.acpi_values.specs.Arguments.{Locals, BodyGrammar}
use Rattle.acpi_values.specs.Grammars.{Grammar}
use Rattle.acpi_values.specs.Spelling.{values, Spells, AreOperands, AreElements}
use Rattle.acpi_body.specs.Loads.{has_load, else_has_load, have_load}
use Rattle.acpi_body.specs.Statements.{locals_after, locals_after_all, named_opcode, units_opcode, IsStatement, IsElse, AreStatements}
use Rattle.acpi_body_notes.specs.steps.LoadBytes.{begins_load, holds_load}

abbrev Holds : List ℕ → Type 0
Holds bytes = holds_load bytes ≡ true

-- ---- parts of bytes

or_right : (x y : Bool) → y ≡ true → x || y ≡ true
or_right true y h = refl
or_right false y h = h

begins_more : (b : ℕ) (front rest : List ℕ) → begins_load (b ∷ front) ≡ true → begins_load (b ∷ (front ++ rest)) ≡ true
begins_more b [] rest h = absurd (true≢false (sym h))
begins_more b (c ∷ front) rest h = h

in_rest : (front rest : List ℕ) → Holds rest → Holds (front ++ rest)
in_rest [] rest h = h
in_rest (b ∷ front) rest h = or_right (begins_load (b ∷ (front ++ rest))) (holds_load (front ++ rest)) (in_rest front rest h)

either_holds : (x y x' y' : Bool) → (x ≡ true → x' ≡ true) → (y ≡ true → y' ≡ true) → x || y ≡ true → x' || y' ≡ true
either_holds true y x' y' f g h = ap (λ b. b || y') (f refl)
either_holds false y x' y' f g h = or_right x' y' (g h)

in_front : (front rest : List ℕ) → Holds front → Holds (front ++ rest)
in_front [] rest h = absurd (true≢false (sym h))
in_front (b ∷ front) rest h =
    either_holds (begins_load (b ∷ front)) (holds_load front) (begins_load (b ∷ (front ++ rest))) (holds_load (front ++ rest)) (begins_more b front rest) (λ k. in_front front rest k) h

in_package : (opcode content bytes : List ℕ) → Packs opcode content bytes → Holds content → Holds bytes
in_package opcode content bytes p h = subst Holds (sym p.whole) (in_rest opcode (p.len ++ content) (in_rest p.len content h))

-- one of two parts does
in_either : (x y : Bool) (a b : List ℕ) → (x ≡ true → Holds a) → (y ≡ true → Holds b) → x || y ≡ true → Holds (a ++ b)
in_either true y a b f g h = in_front a b (f refl)
in_either false y a b f g h = in_rest a b (g h)

in_branches : (x y z : Bool) (a b : List ℕ) → (x || y ≡ true → Holds a) → (z ≡ true → Holds b) → x || (y || z) ≡ true → Holds (a ++ b)
in_branches true y z a b f g h = in_front a b (f refl)
in_branches false true z a b f g h = in_front a b (f refl)
in_branches false false z a b f g h = in_rest a b (g h)

-- the opcodes
opcodes_hold : (op : Op) → not (is_load op) || holds_load (operator_bytes op) ≡ true
opcodes_hold operators.Store = refl
opcodes_hold _ = refl

opcode_holds : (op : Op) → is_load op ≡ true → Holds (operator_bytes op)
opcode_holds op h = ap (λ x. not x || holds_load (operator_bytes op)) (sym h) ∙ opcodes_hold op

-- ---- terms

module _ (g : Grammar) where
  mutual
    term_holds : (t : TermTree) (b : List ℕ) → Spells g t b → has_load t ≡ true → Holds b
    term_holds (buffer size content) b (s, here, hs, packs) h = in_package (0x11 ∷ []) (s ++ content) b packs (in_front s content (term_holds size s hs h))
    term_holds (pkg count es) b (x, hs, packs) h = in_package (0x12 ∷ []) (count ∷ x) b packs (in_rest (count ∷ []) x (elements_hold es x hs h))
    term_holds (var_pkg count es) b (s, x, here, hc, hs, packs) h =
        in_package (0x13 ∷ []) (s ++ x) b packs (in_either (has_load count) (have_load es) s x (λ k. term_holds count s hc k) (λ k. elements_hold es x hs k) h)
    term_holds (call n vs) b (count, w, x, sure, spells, hs, whole) h = subst Holds (sym whole) (in_rest w x (operands_hold (values count) vs x hs h))
    term_holds (apply op vs) b (x, allowed, hs, whole) h =
        subst Holds (sym whole) (in_either (is_load op) (have_load vs) (operator_bytes op) x (opcode_holds op) (λ k. operands_hold (operands_of op) vs x hs k) h)
    term_holds (if_do v ts e) b s h = absurd s
    term_holds (while_do v ts) b s h = absurd s
    term_holds (declare form before n behind) b s h = absurd s
    term_holds (declare_units form ns vs es) b s h = absurd s
    term_holds _ b s h = absurd (true≢false (sym h))

    operands_hold : (ks : List OperandKind) (ts : TermTrees) (b : List ℕ) → AreOperands g ks ts b → have_load ts ≡ true → Holds b
    operands_hold ks no_terms b s h = absurd (true≢false (sym h))
    operands_hold [] (more t ts) b s h = absurd s
    operands_hold (k ∷ ks) (more t ts) b (x, y, st, ht, hs, whole) h =
        subst Holds (sym whole) (in_either (has_load t) (have_load ts) x y (λ i. term_holds t x ht i) (λ i. operands_hold ks ts y hs i) h)

    elements_hold : (ts : TermTrees) (b : List ℕ) → AreElements g ts b → have_load ts ≡ true → Holds b
    elements_hold no_terms b s h = absurd (true≢false (sym h))
    elements_hold (more t ts) b (x, y, st, ht, hs, whole) h =
        subst Holds (sym whole) (in_either (has_load t) (have_load ts) x y (λ i. term_holds t x ht i) (λ i. elements_hold ts y hs i) h)

-- ---- statements

module _ (g : BodyGrammar) (s : List Segment) where
  mutual
    statement_holds : (locals : Locals) (t : TermTree) (b : List ℕ) → IsStatement g s locals t b → has_load t ≡ true → Holds b
    statement_holds locals (if_do v ts e) b (x, y, f, z, here, hv, hs, packs, other, whole) h =
        subst Holds (sym whole)
        (in_branches (has_load v) (have_load ts) (else_has_load e) f z
        (λ k. in_package (0xA0 ∷ []) (x ++ y) f packs (in_either (has_load v) (have_load ts) x y (term_holds (g locals) v x hv) (λ i. statements_hold locals ts y hs i) k))
        (λ k. else_holds (locals_after_all s locals ts) e z other k) h)
    statement_holds locals (while_do v ts) b (x, y, here, hv, hs, packs) h =
        in_package (0xA2 ∷ []) (x ++ y) b packs (in_either (has_load v) (have_load ts) x y (term_holds (g locals) v x hv) (λ k. statements_hold locals ts y hs k) h)
    statement_holds locals (declare form before n behind) b (x, y, z, hb, may, hn, ha, whole) h =
        subst Holds (sym whole) (in_rest (opcode_bytes (named_opcode form)) (x ++ (y ++ z)) (in_either (have_load before) (have_load behind) x (y ++ z)
        (operands_hold (g locals) (operands_before form) before x hb) (λ k. in_rest y z (operands_hold (g locals) (operands_behind form) behind z ha k)) h))
    statement_holds locals (declare_units form ns vs es) b (x, y, z, count, hn, hv, he, packs) h =
        in_package (opcode_bytes (units_opcode form)) (x ++ (y ++ z)) b packs (in_rest x (y ++ z) (in_front y z (operands_hold (g locals) (operands_of_units form) vs y hv h)))
    statement_holds locals t b i h = term_holds (g locals) t b i.1 h

    else_holds : (locals : Locals) (e : ElseTree) (b : List ℕ) → IsElse g s locals e b → else_has_load e ≡ true → Holds b
    else_holds locals no_else b i h = absurd (true≢false (sym h))
    else_holds locals (else_do ts) b (x, hs, packs) h = in_package (0xA1 ∷ []) x b packs (statements_hold locals ts x hs h)

    pub statements_hold : (locals : Locals) (ts : TermTrees) (b : List ℕ) → AreStatements g s locals ts b → have_load ts ≡ true → Holds b
    statements_hold locals no_terms b i h = absurd (true≢false (sym h))
    statements_hold locals (more t ts) b (x, y, ht, hs, whole) h =
        subst Holds (sym whole) (in_either (has_load t) (have_load ts) x y (λ k. statement_holds locals t x ht k) (λ k. statements_hold (locals_after s locals t) ts y hs k) h)
