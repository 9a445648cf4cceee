-- What is written of terms spells them.
use Rattle.std.proofs.Common.{◌≡◌, ◌≤◌, ◌+◌, ◌%◌, ℕ, true, not, ◌&&◌, List, [], ◌∷◌, ◌++◌, length, Option, Some, refl, sym, ap, subst, ◌∙◌, arith}
use Rattle.std.specs.FinMap as finite
use Rattle.std.specs.List.{AllByRecursion, list_all}
use Rattle.std.specs.Prelude.{nat_eq}
use Rattle.std.specs.Fmt.{option_append}
use Rattle.std.proofs.lemmas.Bool.{leb-true, eqb-true, not-true, or_right}
use Rattle.byteorder.specs.Endian.{little_bytes}
use Rattle.acpi_name.specs.Names.{Segment, NameParts, IsName, is_null_name}
use Rattle.acpi_name.specs.Spelling.{SpellsName, name_bytes}
use Rattle.acpi_name.proofs.NameWritten.{name_written}
use Rattle.acpi_code.specs.Opcodes.{opcode_bytes, operator_bytes}
use Rattle.acpi_code.specs.Spelling.{SpellsNumber, SpellsInt, SpellsTermName, SpellsEach, Packs}
use Rattle.acpi_tree.specs.declared.place.Place.TheVariants.{Value, Element, Statement}
use Rattle.acpi_tree.specs.declared.place.OperandKind.{OperandKind}
use Rattle.acpi_tree.specs.Terms.{TermTree, TermTrees, int, str, buffer, pkg, var_pkg, local, arg, debug, no_target, raw, ref, call, apply, ElseTree, if_do, no_else, else_do, while_do, declare, declare_units, no_terms, more}
use Rattle.acpi_tree.specs.Operators.{operands_of, is_load, operands_before, operands_behind, names_of_units, operands_of_units}
use Rattle.acpi_tree.specs.Places.{may_stand, may_be}
use Rattle.acpi_tree.specs.Fits.{field_fits}
use Rattle.acpi_tree.specs.TermFits.{term_fits, else_fits, all_stand, operands_fit}
use Rattle.acpi_body.specs.Arguments.{Locals, BodyGrammar}
use Rattle.acpi_body.specs.Grammars.{Grammar}
use Rattle.acpi_body.specs.Spelling.{values, Spells, AreOperands, AreElements}
use Rattle.acpi_body.specs.Statements.{named_opcode, units_opcode, locals_after, locals_after_all, IsStatement, IsElse, AreStatements}
use Rattle.acpi_write.specs.Canonical.{int_bytes, filled_with, fields_bytes}
use Rattle.acpi_write.specs.CanonicalTerms.{names_bytes, term_bytes, else_bytes, terms_bytes}
use Rattle.acpi_write.specs.TermLaws.{count_of, IsCounted, AreCounted, MayStandIn, ElseMayStandIn, AllMayStandIn, TermsAreSpelled}
use Rattle.acpi_write.specs.Laws.{IsTermTyped, IsElseTyped, AreTermsTyped}
use Rattle.acpi_write.proofs.Written.{first_of, second_of, both_of, some_is, filled_is, front_is, number_written, int_written, term_name_written, text_written, fields_written}

-- arguments of a call are operands, each of which is a value
as_operands : (ts : TermTrees) → all_stand Value ts ≡ operands_fit (values (count_of ts)) ts
as_operands no_terms = refl
as_operands (more t ts) = ap (λ b. may_stand Value t && term_fits t && b) (as_operands ts)

-- ---- values

mutual
  pub term_written : (args : Grammar) (t : TermTree) (bytes : List ℕ) → IsTermTyped t → term_fits t ≡ true → IsCounted args t → term_bytes t ≡ Some bytes → Spells args t bytes
  term_written args (int i) bytes h fit k e = subst (SpellsInt i) (some_is (int_bytes i) bytes e) (int_written i h)
  term_written args (str text) bytes h fit k e = (text ++ 0 ∷ [], (text_written text fit, refl), sym (some_is (13 ∷ (text ++ 0 ∷ [])) bytes e))
  term_written args (buffer size content) bytes h fit k e =
      let f = filled_is (17 ∷ []) [] (option_append (term_bytes size) (Some content)) bytes e in
      let b = both_of (term_bytes size) (Some content) f.0 f.1 in
      let whole : f.0 ≡ b.front ++ content = b.whole ∙ ap (λ x. b.front ++ x) (sym (some_is content b.back b.is_back)) in (
        b.front,
        first_of (may_stand Value size) (term_fits size) fit,
        term_written args size b.front h (second_of (may_stand Value size) (term_fits size) fit) k b.is_front,
        subst (λ c. Packs (17 ∷ []) c bytes) whole f.2,
      )
  term_written args (pkg count es) bytes h fit k e =
      let f = filled_is (18 ∷ []) (count ∷ []) (terms_bytes es) bytes e in
      (f.0, elements_written args es f.0 h fit k f.1, f.2)
  term_written args (var_pkg count es) bytes h fit k e =
      let f = filled_is (19 ∷ []) [] (option_append (term_bytes count) (terms_bytes es)) bytes e in
      let b = both_of (term_bytes count) (terms_bytes es) f.0 f.1 in
      let fits_count = first_of (may_stand Value count && term_fits count) (all_stand Element es) fit in (
        b.front,
        b.back,
        first_of (may_stand Value count) (term_fits count) fits_count,
        term_written args count b.front h.0 (second_of (may_stand Value count) (term_fits count) fits_count) k.0 b.is_front,
        elements_written args es b.back h.1 (second_of (may_stand Value count && term_fits count) (all_stand Element es) fit) k.1 b.is_back,
        subst (λ c. Packs (19 ∷ []) c bytes) b.whole f.2,
      )
  term_written args (local n) bytes h fit k e = let le : n ≤ 7 = leb-true n 7 fit in (sym (some_is (((n + 96) % 256) ∷ []) bytes e) ∙ ap (λ (m : ℕ). m ∷ []) (omega (arith, le)), le)
  term_written args (arg n) bytes h fit k e = let le : n ≤ 6 = leb-true n 6 fit in (sym (some_is (((n + 104) % 256) ∷ []) bytes e) ∙ ap (λ (m : ℕ). m ∷ []) (omega (arith, le)), le)
  term_written args debug bytes h fit k e = sym (some_is (91 ∷ 49 ∷ []) bytes e)
  term_written args no_target bytes h fit k e = sym (some_is (0 ∷ []) bytes e)
  term_written args (raw j n) bytes h fit k e = subst (SpellsNumber j n) (some_is (little_bytes j n) bytes e) (number_written j n h)
  term_written args (ref n) bytes h fit k e = subst (SpellsTermName n) (some_is (name_bytes n) bytes e) (term_name_written n h (not-true (is_null_name n) fit))
  term_written args (call n vs) bytes h fit k e =
      let b = front_is (name_bytes n) (terms_bytes vs) bytes e in
      let named = term_name_written n h.0 (not-true (is_null_name n) (first_of (not (is_null_name n)) (all_stand Value vs) fit)) in
      let fits_values = sym (as_operands vs) ∙ second_of (not (is_null_name n)) (all_stand Value vs) fit in
      let operands = operands_written args (values (count_of vs)) vs b.0 h.1 fits_values k.1 b.1 in
      (count_of vs, name_bytes n, b.0, k.0, named, operands, b.2)
  term_written args (apply op vs) bytes h fit k e =
      let b = front_is (operator_bytes op) (terms_bytes vs) bytes e in
      let no_load = first_of (not (is_load op)) (operands_fit (operands_of op) vs) fit in
      let operands = second_of (not (is_load op)) (operands_fit (operands_of op) vs) fit in
      (b.0, or_right args.loads (not (is_load op)) no_load, operands_written args (operands_of op) vs b.0 h operands k b.1, b.2)
  term_written args (if_do v ts o) bytes h fit k e = absurd k
  term_written args (while_do v ts) bytes h fit k e = absurd k
  term_written args (declare form before n behind) bytes h fit k e = absurd k
  term_written args (declare_units form ns vs es) bytes h fit k e = absurd k

  elements_written : (args : Grammar) (ts : TermTrees) (bytes : List ℕ) → AreTermsTyped ts → all_stand Element ts ≡ true → AreCounted args ts
      → terms_bytes ts ≡ Some bytes → AreElements args ts bytes
  elements_written args no_terms bytes h fit k e = sym (some_is [] bytes e)
  elements_written args (more t ts) bytes h fit k e =
      let b = both_of (term_bytes t) (terms_bytes ts) bytes e in
      let one = first_of (may_stand Element t && term_fits t) (all_stand Element ts) fit in (
        b.front,
        b.back,
        first_of (may_stand Element t) (term_fits t) one,
        term_written args t b.front h.0 (second_of (may_stand Element t) (term_fits t) one) k.0 b.is_front,
        elements_written args ts b.back h.1 (second_of (may_stand Element t && term_fits t) (all_stand Element ts) fit) k.1 b.is_back,
        b.whole,
      )

  operands_written : (args : Grammar) (ks : List OperandKind) (ts : TermTrees) (bytes : List ℕ) → AreTermsTyped ts → operands_fit ks ts ≡ true
      → AreCounted args ts → terms_bytes ts ≡ Some bytes → AreOperands args ks ts bytes
  operands_written args [] no_terms bytes h fit k e = sym (some_is [] bytes e)
  operands_written args (p ∷ ks) no_terms bytes h fit k e = absurd cc
  operands_written args [] (more t ts) bytes h fit k e = absurd cc
  operands_written args (p ∷ ks) (more t ts) bytes h fit k e =
      let b = both_of (term_bytes t) (terms_bytes ts) bytes e in
      let one = first_of (may_be p t && term_fits t) (operands_fit ks ts) fit in (
        b.front,
        b.back,
        first_of (may_be p t) (term_fits t) one,
        term_written args t b.front h.0 (second_of (may_be p t) (term_fits t) one) k.0 b.is_front,
        operands_written args ks ts b.back h.1 (second_of (may_be p t && term_fits t) (operands_fit ks ts) fit) k.1 b.is_back,
        b.whole,
      )

-- ---- names

names_written : (ns : List NameParts) (bytes : List ℕ) → AllByRecursion IsName ns → names_bytes ns ≡ Some bytes → SpellsEach SpellsName ns bytes
names_written [] bytes h e = sym (some_is [] bytes e)
names_written (n ∷ ns) bytes h e =
    let b = front_is (name_bytes n) (names_bytes ns) bytes e in
    (name_bytes n, b.0, name_written n h.0, names_written ns b.0 h.1 b.1, b.2)

-- ---- statements

mutual
  statement_written : (args : BodyGrammar) (s : List Segment) (locals : Locals) (t : TermTree) (bytes : List ℕ) → IsTermTyped t
      → may_stand Statement t ≡ true → term_fits t ≡ true → MayStandIn args s locals t → term_bytes t ≡ Some bytes
      → IsStatement args s locals t bytes
  statement_written args s locals (if_do v ts o) bytes h st fit k e =
      let split = both_of (filled_with (160 ∷ []) [] (option_append (term_bytes v) (terms_bytes ts))) (else_bytes o) bytes e in
      let f = filled_is (160 ∷ []) [] (option_append (term_bytes v) (terms_bytes ts)) split.front split.is_front in
      let b = both_of (term_bytes v) (terms_bytes ts) f.0 f.1 in
      let inner = first_of (may_stand Value v && term_fits v && all_stand Statement ts) (else_fits o) fit in
      let test = first_of (may_stand Value v && term_fits v) (all_stand Statement ts) inner in (
        b.front,
        b.back,
        split.front,
        split.back,
        first_of (may_stand Value v) (term_fits v) test,
        term_written (args locals) v b.front h.0 (second_of (may_stand Value v) (term_fits v) test) k.0 b.is_front,
        statements_written args s locals ts b.back h.1 (second_of (may_stand Value v && term_fits v) (all_stand Statement ts) inner) k.1 b.is_back,
        subst (λ c. Packs (160 ∷ []) c split.front) b.whole f.2,
        else_written args s (locals_after_all s locals ts) o split.back h.2 (second_of (may_stand Value v && term_fits v && all_stand Statement ts) (else_fits o) fit) k.2 split.is_back,
        split.whole,
      )
  statement_written args s locals (while_do v ts) bytes h st fit k e =
      let f = filled_is (162 ∷ []) [] (option_append (term_bytes v) (terms_bytes ts)) bytes e in
      let b = both_of (term_bytes v) (terms_bytes ts) f.0 f.1 in
      let test = first_of (may_stand Value v && term_fits v) (all_stand Statement ts) fit in (
        b.front,
        b.back,
        first_of (may_stand Value v) (term_fits v) test,
        term_written (args locals) v b.front h.0 (second_of (may_stand Value v) (term_fits v) test) k.0 b.is_front,
        statements_written args s locals ts b.back h.1 (second_of (may_stand Value v && term_fits v) (all_stand Statement ts) fit) k.1 b.is_back,
        subst (λ c. Packs (162 ∷ []) c bytes) b.whole f.2,
      )
  statement_written args s locals (declare form before n behind) bytes h st fit k e =
      let o = front_is (opcode_bytes (named_opcode form)) (option_append (terms_bytes before) (option_append (Some (name_bytes n)) (terms_bytes behind))) bytes e in
      let p = both_of (terms_bytes before) (option_append (Some (name_bytes n)) (terms_bytes behind)) o.0 o.1 in
      let q = front_is (name_bytes n) (terms_bytes behind) p.back p.is_back in
      let first = first_of (operands_fit (operands_before form) before) (operands_fit (operands_behind form) behind) fit in
      let last = second_of (operands_fit (operands_before form) before) (operands_fit (operands_behind form) behind) fit in (
        p.front,
        name_bytes n,
        q.0,
        operands_written (args locals) (operands_before form) before p.front h.0 first k.0 p.is_front,
        k.1,
        name_written n h.1,
        operands_written (args locals) (operands_behind form) behind q.0 h.2 last k.2 q.1,
        o.2 ∙ ap (λ x. opcode_bytes (named_opcode form) ++ x) (p.whole ∙ ap (λ x. p.front ++ x) q.2),
      )
  statement_written args s locals (declare_units form ns vs es) bytes h st fit k e =
      let f = filled_is (opcode_bytes (units_opcode form)) [] (option_append (names_bytes ns) (option_append (terms_bytes vs) (fields_bytes es))) bytes e in
      let p = both_of (names_bytes ns) (option_append (terms_bytes vs) (fields_bytes es)) f.0 f.1 in
      let q = both_of (terms_bytes vs) (fields_bytes es) p.back p.is_back in
      let heads = first_of (nat_eq (length ns) (names_of_units form) && operands_fit (operands_of_units form) vs) (list_all field_fits es) fit in (
        p.front,
        q.front,
        q.back,
        eqb-true (length ns) (names_of_units form) (first_of (nat_eq (length ns) (names_of_units form)) (operands_fit (operands_of_units form) vs) heads),
        names_written ns p.front h.0 p.is_front,
        operands_written (args locals) (operands_of_units form) vs q.front h.1 (second_of (nat_eq (length ns) (names_of_units form)) (operands_fit (operands_of_units form) vs) heads) k q.is_front,
        fields_written es q.back h.2
            (second_of (nat_eq (length ns) (names_of_units form) && operands_fit (operands_of_units form) vs) (list_all field_fits es) fit) q.is_back,
        subst (λ c. Packs (opcode_bytes (units_opcode form)) c bytes) (p.whole ∙ ap (λ x. p.front ++ x) q.whole) f.2,
      )
  statement_written args s locals t bytes h st fit k e = (st, term_written (args locals) t bytes h fit k e)

  else_written : (args : BodyGrammar) (s : List Segment) (locals : Locals) (o : ElseTree) (bytes : List ℕ) → IsElseTyped o → else_fits o ≡ true
      → ElseMayStandIn args s locals o → else_bytes o ≡ Some bytes → IsElse args s locals o bytes
  else_written args s locals no_else bytes h fit k e = sym (some_is [] bytes e)
  else_written args s locals (else_do ts) bytes h fit k e =
      let f = filled_is (161 ∷ []) [] (terms_bytes ts) bytes e in
      (f.0, statements_written args s locals ts f.0 h fit k f.1, f.2)

  statements_written : (args : BodyGrammar) (s : List Segment) (locals : Locals) (ts : TermTrees) (bytes : List ℕ) → AreTermsTyped ts
      → all_stand Statement ts ≡ true → AllMayStandIn args s locals ts → terms_bytes ts ≡ Some bytes
      → AreStatements args s locals ts bytes
  statements_written args s locals no_terms bytes h fit k e = sym (some_is [] bytes e)
  statements_written args s locals (more t ts) bytes h fit k e =
      let b = both_of (term_bytes t) (terms_bytes ts) bytes e in
      let one = first_of (may_stand Statement t && term_fits t) (all_stand Statement ts) fit in (
        b.front,
        b.back,
        statement_written args s locals t b.front h.0 (first_of (may_stand Statement t) (term_fits t) one) (second_of (may_stand Statement t) (term_fits t) one) k.0 b.is_front,
        statements_written args s (locals_after s locals t) ts b.back h.1 (second_of (may_stand Statement t && term_fits t) (all_stand Statement ts) fit) k.1 b.is_back,
        b.whole,
      )

pub terms_written : TermsAreSpelled
terms_written args s depth ts bytes h fit k high e = record { spelled = statements_written args s finite.empty ts bytes h fit k e; within = high }
