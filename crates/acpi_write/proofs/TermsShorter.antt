-- No spelling is shorter: terms.
use Rattle.std.proofs.Common.{◌≡◌, ◌<◌, ℕ, zero, suc, List, [], ◌∷◌, ◌++◌, Option, Some, None, refl, sym, ap, ◌∙◌, arith}
use Rattle.std.proofs.lemmas.List.Elements.{recursion_from_All}
use Rattle.std.specs.FinMap as finite
use Rattle.std.specs.Fmt.{option_append}
use Rattle.acpi_name.specs.Names.{Segment, NameParts, IsName}
use Rattle.acpi_name.specs.Spelling.{SpellsName, name_bytes}
use Rattle.acpi_name.proofs.NameWritten.{name_shortest}
use Rattle.acpi_code.specs.Opcodes.{opcode_bytes, operator_bytes}
use Rattle.acpi_code.specs.Spelling.{SpellsEach, Packs}
use Rattle.acpi_code.proofs.Fitting.{AreBytes, parts, packed}
use Rattle.acpi_tree.specs.declared.place.OperandKind.{OperandKind}
use Rattle.acpi_tree.specs.Terms.{TermTree, TermTrees, int, str, buffer, pkg, var_pkg, local, arg, debug, no_target, raw, ref, call, apply, ElseTree, if_do, no_else, else_do, while_do, declare, declare_units, no_terms, more}
use Rattle.acpi_tree.specs.Operators.{operands_of, operands_before, operands_behind, operands_of_units}
use Rattle.acpi_body.specs.Arguments.{Locals, BodyGrammar}
use Rattle.acpi_body.specs.Grammars.{Grammar}
use Rattle.acpi_body.specs.Spelling.{values, Spells, AreOperands, AreElements}
use Rattle.acpi_body.specs.Statements.{named_opcode, units_opcode, locals_after, locals_after_all, IsStatement, IsElse, AreStatements}
use Rattle.acpi_body.proofs.Fitting.{statements_fit}
use Rattle.acpi_write.specs.Canonical.{filled_with, fields_bytes}
use Rattle.acpi_write.specs.CanonicalTerms.{names_bytes, term_bytes, else_bytes, terms_bytes}
use Rattle.acpi_write.specs.TermLaws.{count_of, IsCounted, AreCounted, MayStandIn, ElseMayStandIn, AllMayStandIn}
use Rattle.acpi_write.specs.Laws.{IsTermTyped, IsElseTyped, AreTermsTyped}
use Rattle.acpi_write.specs.Shortest.{HasWithin, IsWritten, ReadTermsAreWritten}
use Rattle.acpi_write.proofs.TermsWritten.{terms_written}
use Rattle.acpi_write.proofs.Shorter.{within_both, within_packed, number_short, int_short, fields_short, number_below, int_typed, each_typed, fields_typed}

-- a package of what is put together
within_package : (op : List ℕ) (content : Option (List ℕ)) (inner bytes : List ℕ) → AreBytes bytes → Packs op inner bytes → HasWithin content inner → HasWithin (filled_with op [] content) bytes
within_package op content inner bytes all packs h = within_packed op [] content inner bytes all packs (ahead content h)
  where
    ahead : (c : Option (List ℕ)) → HasWithin c inner → HasWithin (option_append (Some []) c) inner
    ahead None h = h
    ahead (Some c) h = h

-- ---- values

mutual
  pub term_short : (args : Grammar) (t : TermTree) (bytes : List ℕ) → AreBytes bytes → Spells args t bytes → HasWithin (term_bytes t) bytes
  term_short args (int i) bytes all h = int_short i bytes h
  term_short args (str text) bytes all h = rw (h.2, h.1.1) (omega arith)
  term_short args (buffer size content) bytes all (s, stands, hs, packs) =
      let split = parts s content (s ++ content) refl (packed (17 ∷ []) (s ++ content) bytes packs all) in
      within_package (17 ∷ []) (option_append (term_bytes size) (Some content)) (s ++ content) bytes all packs
      (within_both (term_bytes size) (Some content) s content (s ++ content) (term_short args size s split.0 hs) (omega arith) refl)
  term_short args (pkg count es) bytes all (b, hs, packs) =
      let split = parts (count ∷ []) b (count ∷ b) refl (packed (18 ∷ []) (count ∷ b) bytes packs all) in
      within_packed (18 ∷ []) (count ∷ []) (terms_bytes es) (count ∷ b) bytes all packs
      (within_both (Some (count ∷ [])) (terms_bytes es) (count ∷ []) b (count ∷ b) (omega arith) (elements_short args es b split.1 hs) refl)
  term_short args (var_pkg count es) bytes all (s, b, stands, hc, hs, packs) =
      let split = parts s b (s ++ b) refl (packed (19 ∷ []) (s ++ b) bytes packs all) in
      within_package (19 ∷ []) (option_append (term_bytes count) (terms_bytes es)) (s ++ b) bytes all packs
      (within_both (term_bytes count) (terms_bytes es) s b (s ++ b) (term_short args count s split.0 hc)
      (elements_short args es b split.1 hs) refl)
  term_short args (local n) bytes all h = rw h.0 (omega arith)
  term_short args (arg n) bytes all h = rw h.0 (omega arith)
  term_short args debug bytes all h = rw h (omega arith)
  term_short args no_target bytes all h = rw h (omega arith)
  term_short args (raw k n) bytes all h = number_short k n bytes h
  term_short args (ref n) bytes all h = name_shortest n bytes h.0
  term_short args (call n vs) bytes all (count, w, x, sure, named, hs, whole) =
      let split = parts w x bytes whole all in
      within_both (Some (name_bytes n)) (terms_bytes vs) w x bytes (name_shortest n w named.0) (operands_short args (values count) vs x split.1 hs) whole
  term_short args (apply op vs) bytes all (x, allowed, hs, whole) =
      let split = parts (operator_bytes op) x bytes whole all in
      within_both (Some (operator_bytes op)) (terms_bytes vs) (operator_bytes op) x bytes (omega arith) (operands_short args (operands_of op) vs x split.1 hs) whole
  term_short args (if_do v ts e) bytes all h = absurd h
  term_short args (while_do v ts) bytes all h = absurd h
  term_short args (declare form before n behind) bytes all h = absurd h
  term_short args (declare_units form ns vs es) bytes all h = absurd h

  operands_short : (args : Grammar) (ks : List OperandKind) (ts : TermTrees) (bytes : List ℕ) → AreBytes bytes → AreOperands args ks ts bytes → HasWithin (terms_bytes ts) bytes
  operands_short args [] no_terms bytes all h = omega arith
  operands_short args (k ∷ ks) no_terms bytes all h = absurd h
  operands_short args [] (more t ts) bytes all h = absurd h
  operands_short args (k ∷ ks) (more t ts) bytes all (a, b, stands, first, rest, whole) =
      let split = parts a b bytes whole all in
      within_both (term_bytes t) (terms_bytes ts) a b bytes (term_short args t a split.0 first) (operands_short args ks ts b split.1 rest) whole

  elements_short : (args : Grammar) (ts : TermTrees) (bytes : List ℕ) → AreBytes bytes → AreElements args ts bytes → HasWithin (terms_bytes ts) bytes
  elements_short args no_terms bytes all h = omega arith
  elements_short args (more t ts) bytes all (a, b, stands, first, rest, whole) =
      let split = parts a b bytes whole all in
      within_both (term_bytes t) (terms_bytes ts) a b bytes (term_short args t a split.0 first) (elements_short args ts b split.1 rest) whole

mutual
  pub term_typed : (args : Grammar) (t : TermTree) (bytes : List ℕ) → AreBytes bytes → Spells args t bytes → IsTermTyped t
  term_typed args (int i) bytes all h = int_typed i bytes all h
  term_typed args (str text) bytes all h = tt
  term_typed args (buffer size content) bytes all (s, stands, hs, packs) = term_typed args size s (parts s content (s ++ content) refl (packed (17 ∷ []) (s ++ content) bytes packs all)).0 hs
  term_typed args (pkg count es) bytes all (b, hs, packs) = elements_typed args es b (parts (count ∷ []) b (count ∷ b) refl (packed (18 ∷ []) (count ∷ b) bytes packs all)).1 hs
  term_typed args (var_pkg count es) bytes all (s, b, stands, hc, hs, packs) =
      let split = parts s b (s ++ b) refl (packed (19 ∷ []) (s ++ b) bytes packs all) in
      (term_typed args count s split.0 hc, elements_typed args es b split.1 hs)
  term_typed args (local n) bytes all h = tt
  term_typed args (arg n) bytes all h = tt
  term_typed args debug bytes all h = tt
  term_typed args no_target bytes all h = tt
  term_typed args (raw k n) bytes all h = number_below k n bytes all h
  term_typed args (ref n) bytes all h = h.0.is_name
  term_typed args (call n vs) bytes all (count, w, x, sure, named, hs, whole) = (named.0.is_name, operands_typed args (values count) vs x (parts w x bytes whole all).1 hs)
  term_typed args (apply op vs) bytes all (x, allowed, hs, whole) = operands_typed args (operands_of op) vs x (parts (operator_bytes op) x bytes whole all).1 hs
  term_typed args (if_do v ts e) bytes all h = absurd h
  term_typed args (while_do v ts) bytes all h = absurd h
  term_typed args (declare form before n behind) bytes all h = absurd h
  term_typed args (declare_units form ns vs es) bytes all h = absurd h

  operands_typed : (args : Grammar) (ks : List OperandKind) (ts : TermTrees) (bytes : List ℕ) → AreBytes bytes → AreOperands args ks ts bytes → AreTermsTyped ts
  operands_typed args [] no_terms bytes all h = tt
  operands_typed args (k ∷ ks) no_terms bytes all h = absurd h
  operands_typed args [] (more t ts) bytes all h = absurd h
  operands_typed args (k ∷ ks) (more t ts) bytes all (a, b, stands, first, rest, whole) = let split = parts a b bytes whole all in
      (term_typed args t a split.0 first, operands_typed args ks ts b split.1 rest)

  elements_typed : (args : Grammar) (ts : TermTrees) (bytes : List ℕ) → AreBytes bytes → AreElements args ts bytes → AreTermsTyped ts
  elements_typed args no_terms bytes all h = tt
  elements_typed args (more t ts) bytes all (a, b, stands, first, rest, whole) = let split = parts a b bytes whole all in (term_typed args t a split.0 first, elements_typed args ts b split.1 rest)

counted_values : (args : Grammar) (n : ℕ) (ts : TermTrees) (bytes : List ℕ) → AreOperands args (values n) ts bytes → count_of ts ≡ n
counted_values args zero no_terms bytes h = refl
counted_values args zero (more t ts) bytes h = absurd h
counted_values args (suc n) no_terms bytes h = absurd h
counted_values args (suc n) (more t ts) bytes (a, b, stands, first, rest, whole) = ap (λ (k : ℕ). suc k) (counted_values args n ts b rest)

mutual
  term_counted : (args : Grammar) (t : TermTree) (bytes : List ℕ) → Spells args t bytes → IsCounted args t
  term_counted args (int i) bytes h = tt
  term_counted args (str text) bytes h = tt
  term_counted args (buffer size content) bytes h = term_counted args size h.0 h.2
  term_counted args (pkg count es) bytes h = elements_counted args es h.0 h.1
  term_counted args (var_pkg count es) bytes (s, b, stands, hc, hs, packs) = (term_counted args count s hc, elements_counted args es b hs)
  term_counted args (local n) bytes h = tt
  term_counted args (arg n) bytes h = tt
  term_counted args debug bytes h = tt
  term_counted args no_target bytes h = tt
  term_counted args (raw k n) bytes h = tt
  term_counted args (ref n) bytes h = tt
  term_counted args (call n vs) bytes (count, w, x, sure, named, hs, whole) = (sure ∙ ap Some (sym (counted_values args count vs x hs)), operands_counted args (values count) vs x hs)
  term_counted args (apply op vs) bytes h = operands_counted args (operands_of op) vs h.0 h.2
  term_counted args (if_do v ts e) bytes h = h
  term_counted args (while_do v ts) bytes h = h
  term_counted args (declare form before n behind) bytes h = h
  term_counted args (declare_units form ns vs es) bytes h = h

  operands_counted : (args : Grammar) (ks : List OperandKind) (ts : TermTrees) (bytes : List ℕ) → AreOperands args ks ts bytes → AreCounted args ts
  operands_counted args [] no_terms bytes h = tt
  operands_counted args (k ∷ ks) no_terms bytes h = absurd h
  operands_counted args [] (more t ts) bytes h = absurd h
  operands_counted args (k ∷ ks) (more t ts) bytes (a, b, stands, first, rest, whole) = (term_counted args t a first, operands_counted args ks ts b rest)

  elements_counted : (args : Grammar) (ts : TermTrees) (bytes : List ℕ) → AreElements args ts bytes → AreCounted args ts
  elements_counted args no_terms bytes h = tt
  elements_counted args (more t ts) bytes (a, b, stands, first, rest, whole) = (term_counted args t a first, elements_counted args ts b rest)

-- ---- names

names_short : (ns : List NameParts) (bytes : List ℕ) → SpellsEach SpellsName ns bytes → HasWithin (names_bytes ns) bytes
names_short [] bytes h = omega arith
names_short (n ∷ ns) bytes (a, b, first, rest, whole) = within_both (Some (name_bytes n)) (names_bytes ns) a b bytes (name_shortest n a first) (names_short ns b rest) whole

-- ---- statements

mutual
  statement_short : (args : BodyGrammar) (s : List Segment) (locals : Locals) (t : TermTree) (bytes : List ℕ) → AreBytes bytes → IsStatement args s locals t bytes → HasWithin (term_bytes t) bytes
  statement_short args s locals (if_do v ts e) bytes all (a, b, x, y, stands, hv, hs, packs, other, whole) =
      let split = parts x y bytes whole all in
      let inner = parts a b (a ++ b) refl (packed (160 ∷ []) (a ++ b) x packs split.0) in
      let test = within_both (term_bytes v) (terms_bytes ts) a b (a ++ b) (term_short (args locals) v a inner.0 hv) (statements_short args s locals ts b inner.1 hs) refl in
      within_both (filled_with (160 ∷ []) [] (option_append (term_bytes v) (terms_bytes ts))) (else_bytes e) x y bytes
      (within_package (160 ∷ []) (option_append (term_bytes v) (terms_bytes ts)) (a ++ b) x split.0 packs test) (else_short args s (locals_after_all s locals ts) e y split.1 other) whole
  statement_short args s locals (while_do v ts) bytes all (a, b, stands, hv, hs, packs) =
      let inner = parts a b (a ++ b) refl (packed (162 ∷ []) (a ++ b) bytes packs all) in
      within_package (162 ∷ []) (option_append (term_bytes v) (terms_bytes ts)) (a ++ b) bytes all packs
      (within_both (term_bytes v) (terms_bytes ts) a b (a ++ b) (term_short (args locals) v a inner.0 hv) (statements_short args s locals ts b inner.1 hs) refl)
  statement_short args s locals (declare form before n behind) bytes all (a, b, c, hb, may, named, ha, whole) =
      let op : List ℕ = opcode_bytes (named_opcode form) in
      let first = parts op (a ++ (b ++ c)) bytes whole all in
      let second = parts a (b ++ c) (a ++ (b ++ c)) refl first.1 in
      let third = parts b c (b ++ c) refl second.1 in
      let tail = within_both (Some (name_bytes n)) (terms_bytes behind) b c (b ++ c) (name_shortest n b named) (operands_short (args locals) (operands_behind form) behind c third.1 ha) refl in
      let rest = within_both (terms_bytes before) (option_append (Some (name_bytes n)) (terms_bytes behind)) a (b ++ c) (a ++ (b ++ c))
      (operands_short (args locals) (operands_before form) before a second.0 hb) tail refl in
      within_both (Some op) (option_append (terms_bytes before) (option_append (Some (name_bytes n)) (terms_bytes behind))) op (a ++ (b ++ c)) bytes (omega arith) rest whole
  statement_short args s locals (declare_units form ns vs es) bytes all (a, b, c, many, named, hs, units, packs) =
      let first = parts a (b ++ c) (a ++ (b ++ c)) refl (packed (opcode_bytes (units_opcode form)) (a ++ (b ++ c)) bytes packs all) in
      let second = parts b c (b ++ c) refl first.1 in
      let tail = within_both (terms_bytes vs) (fields_bytes es) b c (b ++ c) (operands_short (args locals) (operands_of_units form) vs b second.0 hs)
      (fields_short es c second.1 units) refl in
      within_package (opcode_bytes (units_opcode form)) (option_append (names_bytes ns) (option_append (terms_bytes vs) (fields_bytes es))) (a ++ (b ++ c)) bytes all packs
      (within_both (names_bytes ns) (option_append (terms_bytes vs) (fields_bytes es)) a (b ++ c) (a ++ (b ++ c)) (names_short ns a named) tail refl)
  statement_short args s locals t bytes all h = term_short (args locals) t bytes all h.1

  else_short : (args : BodyGrammar) (s : List Segment) (locals : Locals) (e : ElseTree) (bytes : List ℕ) → AreBytes bytes → IsElse args s locals e bytes → HasWithin (else_bytes e) bytes
  else_short args s locals no_else bytes all h = omega arith
  else_short args s locals (else_do ts) bytes all (b, hs, packs) = within_package (161 ∷ []) (terms_bytes ts) b bytes all packs
      (statements_short args s locals ts b (packed (161 ∷ []) b bytes packs all) hs)

  statements_short : (args : BodyGrammar) (s : List Segment) (locals : Locals) (ts : TermTrees) (bytes : List ℕ) → AreBytes bytes
      → AreStatements args s locals ts bytes → HasWithin (terms_bytes ts) bytes
  statements_short args s locals no_terms bytes all h = omega arith
  statements_short args s locals (more t ts) bytes all (a, b, first, rest, whole) =
      let split = parts a b bytes whole all in
      within_both (term_bytes t) (terms_bytes ts) a b bytes (statement_short args s locals t a split.0 first) (statements_short args s (locals_after s locals t) ts b split.1 rest) whole

mutual
  statement_typed : (args : BodyGrammar) (s : List Segment) (locals : Locals) (t : TermTree) (bytes : List ℕ) → AreBytes bytes → IsStatement args s locals t bytes → IsTermTyped t
  statement_typed args s locals (if_do v ts e) bytes all (a, b, x, y, stands, hv, hs, packs, other, whole) =
      let split = parts x y bytes whole all in
      let inner = parts a b (a ++ b) refl (packed (160 ∷ []) (a ++ b) x packs split.0) in
      (term_typed (args locals) v a inner.0 hv, statements_typed args s locals ts b inner.1 hs, else_typed args s (locals_after_all s locals ts) e y split.1 other)
  statement_typed args s locals (while_do v ts) bytes all (a, b, stands, hv, hs, packs) =
      let inner = parts a b (a ++ b) refl (packed (162 ∷ []) (a ++ b) bytes packs all) in
      (term_typed (args locals) v a inner.0 hv, statements_typed args s locals ts b inner.1 hs)
  statement_typed args s locals (declare form before n behind) bytes all (a, b, c, hb, may, named, ha, whole) =
      let second = parts a (b ++ c) (a ++ (b ++ c)) refl (parts (opcode_bytes (named_opcode form)) (a ++ (b ++ c)) bytes whole all).1 in
      (operands_typed (args locals) (operands_before form) before a second.0 hb, named.is_name, operands_typed (args locals) (operands_behind form) behind c (parts b c (b ++ c) refl second.1).1 ha)
  statement_typed args s locals (declare_units form ns vs es) bytes all (a, b, c, many, named, hs, units, packs) =
      let first = parts a (b ++ c) (a ++ (b ++ c)) refl (packed (opcode_bytes (units_opcode form)) (a ++ (b ++ c)) bytes packs all) in
      let second = parts b c (b ++ c) refl first.1 in (
        each_typed SpellsName IsName (λ n b small h. h.is_name) ns a first.0 named,
        operands_typed (args locals) (operands_of_units form) vs b second.0 hs,
        fields_typed es c second.1 units,
      )
  statement_typed args s locals t bytes all h = term_typed (args locals) t bytes all h.1

  else_typed : (args : BodyGrammar) (s : List Segment) (locals : Locals) (e : ElseTree) (bytes : List ℕ) → AreBytes bytes → IsElse args s locals e bytes → IsElseTyped e
  else_typed args s locals no_else bytes all h = tt
  else_typed args s locals (else_do ts) bytes all (b, hs, packs) = statements_typed args s locals ts b (packed (161 ∷ []) b bytes packs all) hs

  statements_typed : (args : BodyGrammar) (s : List Segment) (locals : Locals) (ts : TermTrees) (bytes : List ℕ) → AreBytes bytes → AreStatements args s locals ts bytes → AreTermsTyped ts
  statements_typed args s locals no_terms bytes all h = tt
  statements_typed args s locals (more t ts) bytes all (a, b, first, rest, whole) =
      let split = parts a b bytes whole all in
      (statement_typed args s locals t a split.0 first, statements_typed args s (locals_after s locals t) ts b split.1 rest)

mutual
  statement_may : (args : BodyGrammar) (s : List Segment) (locals : Locals) (t : TermTree) (bytes : List ℕ) → IsStatement args s locals t bytes → MayStandIn args s locals t
  statement_may args s locals (if_do v ts e) bytes (a, b, x, y, stands, hv, hs, packs, other, whole) =
      (term_counted (args locals) v a hv, statements_may args s locals ts b hs, else_may args s (locals_after_all s locals ts) e y other)
  statement_may args s locals (while_do v ts) bytes (a, b, stands, hv, hs, packs) = (term_counted (args locals) v a hv, statements_may args s locals ts b hs)
  statement_may args s locals (declare form before n behind) bytes (a, b, c, hb, may, named, ha, whole) =
      (operands_counted (args locals) (operands_before form) before a hb, may, operands_counted (args locals) (operands_behind form) behind c ha)
  statement_may args s locals (declare_units form ns vs es) bytes (a, b, c, many, named, hs, units, packs) = operands_counted (args locals) (operands_of_units form) vs b hs
  statement_may args s locals t bytes h = term_counted (args locals) t bytes h.1

  else_may : (args : BodyGrammar) (s : List Segment) (locals : Locals) (e : ElseTree) (bytes : List ℕ) → IsElse args s locals e bytes → ElseMayStandIn args s locals e
  else_may args s locals no_else bytes h = tt
  else_may args s locals (else_do ts) bytes (b, hs, packs) = statements_may args s locals ts b hs

  statements_may : (args : BodyGrammar) (s : List Segment) (locals : Locals) (ts : TermTrees) (bytes : List ℕ) → AreStatements args s locals ts bytes → AllMayStandIn args s locals ts
  statements_may args s locals no_terms bytes h = tt
  statements_may args s locals (more t ts) bytes (a, b, first, rest, whole) = (statement_may args s locals t a first, statements_may args s (locals_after s locals t) ts b rest)

-- ---- a body that is read

pub read_terms_are_written : ReadTermsAreWritten
read_terms_are_written args s depth bytes ts none bytes_are h =
    let all : AreBytes bytes = recursion_from_All (λ b. b < 256) bytes bytes_are in
    by_spelling (terms_bytes ts) refl (statements_short args s finite.empty ts bytes all h.spelled)
  where
    by_spelling : (b : Option (List ℕ)) → terms_bytes ts ≡ b → HasWithin b bytes → IsWritten args s depth bytes ts
    by_spelling None is within = absurd within
    by_spelling (Some b) is within =
        let all : AreBytes bytes = recursion_from_All (λ b. b < 256) bytes bytes_are in
        record {
          written = b;
          spelling = is;
          reads = terms_written args s depth ts b (statements_typed args s finite.empty ts bytes all h.spelled)
              (statements_fit args none s finite.empty ts bytes h.spelled all) (statements_may args s finite.empty ts bytes h.spelled) h.within is;
          within = within;
        }
