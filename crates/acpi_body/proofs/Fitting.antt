-- What is read fits.
use Rattle.std.proofs.Common.{◌≡◌, ◌∙◌, ℕ, zero, suc, true, false, List, [], ◌∷◌, ◌++◌, length, Option, Result, Ok, Err, refl, sym, ap}
use Rattle.std.specs.Prelude.{◌↔◌, IfOk}
use Rattle.std.specs.FinMap as finite
use Rattle.std.proofs.lemmas.Bool.{eq-eqb, le-leb}
use Rattle.acpi_name.specs.Names.{Segment}
use Rattle.acpi_tree.specs.declared.place.Place.TheVariants.{Value, Element, Statement}
use Rattle.acpi_tree.specs.declared.place.OperandKind.{OperandKind}
use Rattle.acpi_tree.specs.Terms.{TermTree, TermTrees, int, str, buffer, pkg, var_pkg, local, arg, debug, no_target, raw, ref, call, apply, ElseTree, if_do, no_else, else_do, while_do, declare, declare_units, no_terms, more}
use Rattle.acpi_tree.specs.Operators.{operands_of, operands_before, operands_behind, names_of_units, operands_of_units}
use Rattle.acpi_tree.specs.Places.{may_stand}
use Rattle.acpi_tree.specs.TermFits.{term_fits, terms_fit, else_fits, all_stand, operands_fit}
use Rattle.acpi_code.specs.Opcodes.{opcode_bytes}
use Rattle.acpi_code.proofs.Fitting.{AreBytes, both, parts, packed, term_name_fits, text_all, fields_fit}
use Rattle.acpi_values.specs.Arguments.{Locals, BodyGrammar}
use Rattle.acpi_values.specs.Grammars.{Grammar, is_allowed}
use Rattle.acpi_values.specs.Spelling.{values, Spells, AreOperands, AreElements}
use Rattle.acpi_body.specs.Bodies.{BodyTree, read, unread, IsBodyOf, body_fits}
use Rattle.acpi_code.specs.Forms.{units_opcode}
use Rattle.acpi_body.specs.Statements.{locals_after, locals_after_all, IsStatement, IsElse, AreStatements, ReadsBody}

-- ---- terms

module _ (g : Grammar) (none : g.loads ≡ false) where
  mutual
    term_fit : (t : TermTree) (b : List ℕ) → Spells g t b → term_fits t ≡ true
    term_fit (int i) b h = refl
    term_fit (str text) b (a, h, whole) = text_all text h.0
    term_fit (buffer size content) b (s, st, hs, packs) = both st (term_fit size s hs)
    term_fit (pkg count es) b (x, hs, packs) = elements_fit es x hs
    term_fit (var_pkg count es) b (s, x, st, hc, hs, packs) = both (both st (term_fit count s hc)) (elements_fit es x hs)
    term_fit (local n) b h = le-leb n 7 h.1
    term_fit (arg n) b h = le-leb n 6 h.1
    term_fit debug b h = refl
    term_fit no_target b h = refl
    term_fit (raw k n) b h = refl
    term_fit (ref n) b h = term_name_fits n b h
    term_fit (call n vs) b (count, w, x, sure, spells, hs, whole) = both (term_name_fits n w spells) (values_fit count vs x hs)
    term_fit (apply op vs) b (x, allowed, hs, whole) = both (sym (ap (λ l. is_allowed l op) none) ∙ allowed) (operands_are_fit (operands_of op) vs x hs)
    term_fit (if_do v ts e) b h = absurd h
    term_fit (while_do v ts) b h = absurd h
    term_fit (declare form before n behind) b h = absurd h
    term_fit (declare_units form ns vs es) b h = absurd h

    operands_are_fit : (ks : List OperandKind) (ts : TermTrees) (b : List ℕ) → AreOperands g ks ts b → operands_fit ks ts ≡ true
    operands_are_fit [] no_terms b h = refl
    operands_are_fit (k ∷ ks) no_terms b h = absurd h
    operands_are_fit [] (more t ts) b h = absurd h
    operands_are_fit (k ∷ ks) (more t ts) b (x, y, st, ht, hs, whole) = both (both st (term_fit t x ht)) (operands_are_fit ks ts y hs)

    values_fit : (n : ℕ) (ts : TermTrees) (b : List ℕ) → AreOperands g (values n) ts b → all_stand Value ts ≡ true
    values_fit n no_terms b h = refl
    values_fit zero (more t ts) b h = absurd h
    values_fit (suc n) (more t ts) b (x, y, st, ht, hs, whole) = both (both st (term_fit t x ht)) (values_fit n ts y hs)

    elements_fit : (ts : TermTrees) (b : List ℕ) → AreElements g ts b → all_stand Element ts ≡ true
    elements_fit no_terms b h = refl
    elements_fit (more t ts) b (x, y, st, ht, hs, whole) = both (both st (term_fit t x ht)) (elements_fit ts y hs)

-- ---- statements

mutual
  statement_fit : (args : BodyGrammar) (none : (locals : Locals) → (args locals).loads ≡ false) (s : List Segment) (locals : Locals) (t : TermTree) (bytes : List ℕ) → IsStatement args s locals t bytes
      → AreBytes bytes → (may_stand Statement t ≡ true) × (term_fits t ≡ true)
  statement_fit args none s locals (if_do v ts e) bytes (a, b, x, y, st, hv, hs, packs, other, whole) all =
      let split = parts x y bytes whole all in
      let inner = parts a b (a ++ b) refl (packed (0xA0 ∷ []) (a ++ b) x packs split.0) in
      (refl, both (both (both st (term_fit (args locals) (none locals) v a hv)) (statements_fit args none s locals ts b hs inner.1)) (else_fit args none s (locals_after_all s locals ts) e y other split.1))
  statement_fit args none s locals (while_do v ts) bytes (a, b, st, hv, hs, packs) all =
      let inner = parts a b (a ++ b) refl (packed (0xA2 ∷ []) (a ++ b) bytes packs all) in
      (refl, both (both st (term_fit (args locals) (none locals) v a hv)) (statements_fit args none s locals ts b hs inner.1))
  statement_fit args none s locals (declare form before n behind) bytes (a, b, c, hb, may, hn, ha, whole) all =
      (refl, both (operands_are_fit (args locals) (none locals) (operands_before form) before a hb) (operands_are_fit (args locals) (none locals) (operands_behind form) behind c ha))
  statement_fit args none s locals (declare_units form ns vs es) bytes (a, b, c, count, hn, hv, he, packs) all =
      let content = parts a (b ++ c) (a ++ (b ++ c)) refl (packed (opcode_bytes (units_opcode form)) (a ++ (b ++ c)) bytes packs all) in
      let units = parts b c (b ++ c) refl content.1 in (
        refl,
        both (both (eq-eqb (length ns) (names_of_units form) count) (operands_are_fit (args locals) (none locals) (operands_of_units form) vs b hv))
            (fields_fit es c he units.1),
      )
  statement_fit args none s locals t bytes h all = (h.0, term_fit (args locals) (none locals) t bytes h.1)

  else_fit : (args : BodyGrammar) (none : (locals : Locals) → (args locals).loads ≡ false) (s : List Segment) (locals : Locals) (e : ElseTree) (bytes : List ℕ) → IsElse args s locals e bytes → AreBytes bytes → else_fits e ≡ true
  else_fit args none s locals no_else bytes h all = refl
  else_fit args none s locals (else_do ts) bytes (b, hs, packs) all = statements_fit args none s locals ts b hs (packed (0xA1 ∷ []) b bytes packs all)

  pub statements_fit : (args : BodyGrammar) (none : (locals : Locals) → (args locals).loads ≡ false) (s : List Segment) (locals : Locals) (ts : TermTrees) (bytes : List ℕ) → AreStatements args s locals ts bytes → AreBytes bytes → all_stand Statement ts ≡ true
  statements_fit args none s locals no_terms bytes h all = refl
  statements_fit args none s locals (more t ts) bytes (a, b, ht, hs, whole) all =
      let split = parts a b bytes whole all in
      let first = statement_fit args none s locals t a ht split.0 in
      both (both first.0 first.1) (statements_fit args none s (locals_after s locals t) ts b hs split.1)

-- ---- bodies

pub terms_fit_law : {V : Type 0} {E : Type 0} (view : V → TermTrees) (args : BodyGrammar) (none : (locals : Locals) → (args locals).loads ≡ false) (s : List Segment) (depth : ℕ) (bytes : List ℕ) (result : Result V E) → AreBytes bytes
    → IfOk result (λ v. (ts : TermTrees) → (view v ≡ ts) ↔ ReadsBody args s depth bytes ts) → IfOk result (λ v. terms_fit (view v) ≡ true)
terms_fit_law view args none s depth bytes (Ok v) all h = statements_fit args none s finite.empty (view v) bytes ((h (view v)).0 refl).spelled all
terms_fit_law view args none s depth bytes (Err e) all h = tt

pub fits_law : {V : Type 0} {E : Type 0} (view : V → BodyTree) (args : BodyGrammar) (none : (locals : Locals) → (args locals).loads ≡ false) (s : List Segment) (depth : ℕ) (bytes : List ℕ) (result : Result V E) → AreBytes bytes
    → IfOk result (λ b. IsBodyOf args s depth bytes (view b)) → IfOk result (λ b. body_fits (view b) ≡ true)
fits_law view args none s depth bytes (Ok b) all h = by_body (view b) h
  where
    by_body : (b : BodyTree) → IsBodyOf args s depth bytes b → body_fits b ≡ true
    by_body (read ts) r = statements_fit args none s finite.empty ts bytes r.spelled all
    by_body (unread kept) r = refl
fits_law view args none s depth bytes (Err e) all h = tt
