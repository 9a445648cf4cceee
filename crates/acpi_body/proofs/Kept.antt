-- A reading depends on a namespace only by the arguments of the names that it searches, and each is spelled in its bytes.
use Rattle.std.proofs.Common.{◌≡◌, ◌||◌, ℕ, Bool, true, false, true≢false, not, List, [], ◌∷◌, ◌++◌, inl, inr, refl, sym, ap, ◌∙◌, append_assoc}
use Rattle.std.proofs.lemmas.Bool.{or_right}
use Rattle.std.specs.List.{AllByRecursion}
use Rattle.acpi_name.specs.Names.{Segment, NameParts}
use Rattle.acpi_space.proofs.Elements.{all_append, all_map}
use Rattle.acpi_tree.specs.declared.place.OperandKind.{OperandKind}
use Rattle.acpi_tree.specs.Terms.{TermTree, TermTrees, buffer, pkg, var_pkg, call, apply, ElseTree, if_do, no_else, else_do, while_do, declare, declare_units, no_terms, more}
use Rattle.acpi_tree.specs.Operators.{is_load, operands_of, operands_before, operands_behind, operands_of_units}
use Rattle.acpi_code.specs.Opcodes.{opcode_bytes, operator_bytes}
use Rattle.acpi_code.specs.Spelling.{Packs}
use Rattle.acpi_tree.specs.declared.op.Op.{Op}
use Rattle.acpi_values.specs.Arguments.{Locals, BodyGrammar}
use Rattle.acpi_values.specs.Grammars.{Grammar, is_allowed}
use Rattle.acpi_values.specs.Spelling.{values, Spells, AreOperands, AreElements}
use Rattle.acpi_code.specs.Forms.{named_opcode, units_opcode}
use Rattle.acpi_body.specs.Statements.{locals_after, locals_after_all, IsStatement, IsElse, AreStatements}
use Rattle.acpi_body.specs.Searches.{Searched, term_searches, terms_searches, searches, else_searches, all_searches, IsSpelledIn}
use Rattle.acpi_body.specs.Loads.{has_load, else_has_load, have_load, KeepsLoads}
use Rattle.acpi_body.specs.Laws.{AgreeAt}

-- ---- all of a list

pub all_left : {A : Type 0} (P : A → Type 0) (xs ys : List A) → AllByRecursion P (xs ++ ys) → AllByRecursion P xs
all_left P [] ys h = tt
all_left P (x ∷ xs) ys h = (h.0, all_left P xs ys h.1)

pub all_right : {A : Type 0} (P : A → Type 0) (xs ys : List A) → AllByRecursion P (xs ++ ys) → AllByRecursion P ys
all_right P [] ys h = h
all_right P (x ∷ xs) ys h = all_right P xs ys h.1

-- ---- loads

neither_left : (x y : Bool) → x || y ≡ false → x ≡ false
neither_left true y e = absurd (true≢false e)
neither_left false y e = refl

neither_right : (x y : Bool) → x || y ≡ false → y ≡ false
neither_right true y e = absurd (true≢false e)
neither_right false y e = e

keeps_left : (c d : BodyGrammar) (x y : Bool) → KeepsLoads c d (x || y) → KeepsLoads c d x
keeps_left c d x y (inl may) = inl may
keeps_left c d x y (inr none) = inr (neither_left x y none)

keeps_right : (c d : BodyGrammar) (x y : Bool) → KeepsLoads c d (x || y) → KeepsLoads c d y
keeps_right c d x y (inl may) = inl may
keeps_right c d x y (inr none) = inr (neither_right x y none)

stays_allowed : (a b : Bool) (op : Op) → (a ≡ true → b ≡ true) → is_allowed a op ≡ true → is_allowed b op ≡ true
stays_allowed true b op may h = ap (λ l. is_allowed l op) (may refl)
stays_allowed false b op may h = or_right b (not (is_load op)) h

kept_allowed : (c d : BodyGrammar) (locals : Locals) (op : Op) → KeepsLoads c d (is_load op) → is_allowed (c locals).loads op ≡ true → is_allowed (d locals).loads op ≡ true
kept_allowed c d locals op (inl may) h = stays_allowed (c locals).loads (d locals).loads op (may locals) h
kept_allowed c d locals op (inr none) h = or_right (d locals).loads (not (is_load op)) (ap not none)

-- ---- kept

module _ (c d : BodyGrammar) where
  mutual
    kept_term : (locals : Locals) (t : TermTree) (b : List ℕ) → KeepsLoads c d (has_load t) → AllByRecursion (AgreeAt c d) (term_searches locals t) → Spells (c locals) t b → Spells (d locals) t b
    kept_term locals (buffer size content) b keep same (s, here, hs, packs) = (s, here, kept_term locals size s keep same hs, packs)
    kept_term locals (pkg count es) b keep same (x, hs, packs) = (x, kept_elements locals es x keep same hs, packs)
    kept_term locals (var_pkg count es) b keep same (s, x, here, hc, hs, packs) = (
      s,
      x,
      here,
      kept_term locals count s (keeps_left c d (has_load count) (have_load es) keep) (all_left (AgreeAt c d) (term_searches locals count) (terms_searches locals es) same) hc,
      kept_elements locals es x (keeps_right c d (has_load count) (have_load es) keep) (all_right (AgreeAt c d) (term_searches locals count) (terms_searches locals es) same) hs,
      packs,
    )
    kept_term locals (call n vs) b keep same (count, w, x, sure, spells, hs, whole) =
        (count, w, x, sym same.0 ∙ sure, spells, kept_operands locals (values count) vs x keep same.1 hs, whole)
    kept_term locals (apply op vs) b keep same (x, allowed, hs, whole) =
        (x, kept_allowed c d locals op (keeps_left c d (is_load op) (have_load vs) keep) allowed, kept_operands locals (operands_of op) vs x (keeps_right c d (is_load op) (have_load vs) keep) same hs, whole)
    kept_term locals _ b keep same h = h

    kept_operands : (locals : Locals) (ks : List OperandKind) (ts : TermTrees) (b : List ℕ) → KeepsLoads c d (have_load ts) → AllByRecursion (AgreeAt c d) (terms_searches locals ts)
        → AreOperands (c locals) ks ts b → AreOperands (d locals) ks ts b
    kept_operands locals [] no_terms b keep same h = h
    kept_operands locals (k ∷ ks) no_terms b keep same h = h
    kept_operands locals [] (more t ts) b keep same h = h
    kept_operands locals (k ∷ ks) (more t ts) b keep same (x, y, st, ht, hs, whole) = (
      x,
      y,
      st,
      kept_term locals t x (keeps_left c d (has_load t) (have_load ts) keep) (all_left (AgreeAt c d) (term_searches locals t) (terms_searches locals ts) same) ht,
      kept_operands locals ks ts y (keeps_right c d (has_load t) (have_load ts) keep) (all_right (AgreeAt c d) (term_searches locals t) (terms_searches locals ts) same) hs,
      whole,
    )

    kept_elements : (locals : Locals) (ts : TermTrees) (b : List ℕ) → KeepsLoads c d (have_load ts) → AllByRecursion (AgreeAt c d) (terms_searches locals ts) → AreElements (c locals) ts b → AreElements (d locals) ts b
    kept_elements locals no_terms b keep same h = h
    kept_elements locals (more t ts) b keep same (x, y, st, ht, hs, whole) = (
      x,
      y,
      st,
      kept_term locals t x (keeps_left c d (has_load t) (have_load ts) keep) (all_left (AgreeAt c d) (term_searches locals t) (terms_searches locals ts) same) ht,
      kept_elements locals ts y (keeps_right c d (has_load t) (have_load ts) keep) (all_right (AgreeAt c d) (term_searches locals t) (terms_searches locals ts) same) hs,
      whole,
    )

  mutual
    kept_statement : (s : List Segment) (locals : Locals) (t : TermTree) (b : List ℕ) → KeepsLoads c d (has_load t) → AllByRecursion (AgreeAt c d) (searches s locals t) → IsStatement c s locals t b → IsStatement d s locals t b
    kept_statement s locals (if_do v ts e) b keep same (x, y, f, g, here, hv, hs, packs, other, whole) =
        let behind = all_searches s locals ts ++ else_searches s (locals_after_all s locals ts) e in
        let inner = all_right (AgreeAt c d) (term_searches locals v) behind same in (
          x,
          y,
          f,
          g,
          here,
          kept_term locals v x (keeps_left c d (has_load v) (have_load ts || else_has_load e) keep) (all_left (AgreeAt c d) (term_searches locals v) behind same) hv,
          kept_statements s locals ts y (keeps_left c d (have_load ts) (else_has_load e) (keeps_right c d (has_load v) (have_load ts || else_has_load e) keep))
              (all_left (AgreeAt c d) (all_searches s locals ts) (else_searches s (locals_after_all s locals ts) e) inner) hs,
          packs,
          kept_else s (locals_after_all s locals ts) e g (keeps_right c d (have_load ts) (else_has_load e) (keeps_right c d (has_load v) (have_load ts || else_has_load e) keep)) (all_right (AgreeAt c d) (all_searches s locals ts) (else_searches s (locals_after_all s locals ts) e) inner) other,
          whole,
        )
    kept_statement s locals (while_do v ts) b keep same (x, y, here, hv, hs, packs) = (
      x,
      y,
      here,
      kept_term locals v x (keeps_left c d (has_load v) (have_load ts) keep) (all_left (AgreeAt c d) (term_searches locals v) (all_searches s locals ts) same) hv,
      kept_statements s locals ts y (keeps_right c d (has_load v) (have_load ts) keep) (all_right (AgreeAt c d) (term_searches locals v) (all_searches s locals ts) same) hs,
      packs,
    )
    kept_statement s locals (declare form before n behind) b keep same (x, y, z, hb, may, hn, ha, whole) = (
      x,
      y,
      z,
      kept_operands locals (operands_before form) before x (keeps_left c d (have_load before) (have_load behind) keep) (all_left (AgreeAt c d) (terms_searches locals before) (terms_searches locals behind) same) hb,
      may,
      hn,
      kept_operands locals (operands_behind form) behind z (keeps_right c d (have_load before) (have_load behind) keep) (all_right (AgreeAt c d) (terms_searches locals before) (terms_searches locals behind) same) ha,
      whole,
    )
    kept_statement s locals (declare_units form ns vs es) b keep same (x, y, z, count, hn, hv, he, packs) = (x, y, z, count, hn, kept_operands locals (operands_of_units form) vs y keep same hv, he, packs)
    kept_statement s locals t b keep same h = (h.0, kept_term locals t b keep same h.1)

    kept_else : (s : List Segment) (locals : Locals) (e : ElseTree) (b : List ℕ) → KeepsLoads c d (else_has_load e) → AllByRecursion (AgreeAt c d) (else_searches s locals e) → IsElse c s locals e b → IsElse d s locals e b
    kept_else s locals no_else b keep same h = h
    kept_else s locals (else_do ts) b keep same (x, hs, packs) = (x, kept_statements s locals ts x keep same hs, packs)

    pub kept_statements : (s : List Segment) (locals : Locals) (ts : TermTrees) (b : List ℕ) → KeepsLoads c d (have_load ts) → AllByRecursion (AgreeAt c d) (all_searches s locals ts)
        → AreStatements c s locals ts b → AreStatements d s locals ts b
    kept_statements s locals no_terms b keep same h = h
    kept_statements s locals (more t ts) b keep same (x, y, ht, hs, whole) = (
      x,
      y,
      kept_statement s locals t x (keeps_left c d (has_load t) (have_load ts) keep) (all_left (AgreeAt c d) (searches s locals t) (all_searches s (locals_after s locals t) ts) same) ht,
      kept_statements s (locals_after s locals t) ts y (keeps_right c d (has_load t) (have_load ts) keep) (all_right (AgreeAt c d) (searches s locals t) (all_searches s (locals_after s locals t) ts) same) hs,
      whole,
    )

-- ---- spelled

abbrev Spelled : List ℕ → Searched → Type 0
Spelled bytes e = IsSpelledIn bytes e.1

within : (n : NameParts) (a x c b : List ℕ) → b ≡ a ++ (x ++ c) → IsSpelledIn x n → IsSpelledIn b n
within n a x c b is h = record {
  before = a ++ h.before;
  spelled = h.spelled;
  after = h.after ++ c;
  whole = is ∙ ap (λ (l : List ℕ). a ++ (l ++ c)) h.whole ∙ simp append_assoc;
  spells = h.spells;
}

last_within : (n : NameParts) (a x b : List ℕ) → b ≡ a ++ x → IsSpelledIn x n → IsSpelledIn b n
last_within n a x b is h = record {
  before = a ++ h.before;
  spelled = h.spelled;
  after = h.after;
  whole = is ∙ ap (λ (l : List ℕ). a ++ l) h.whole ∙ sym (append_assoc a h.before (h.spelled ++ h.after));
  spells = h.spells;
}

-- what is spelled in a part is spelled in the whole
part_of : (a x c b : List ℕ) (es : List Searched) → b ≡ a ++ (x ++ c) → AllByRecursion (Spelled x) es → AllByRecursion (Spelled b) es
part_of a x c b es is = all_map (Spelled x) (Spelled b) (λ e. within e.1 a x c b is) es

end_of : (a x b : List ℕ) (es : List Searched) → b ≡ a ++ x → AllByRecursion (Spelled x) es → AllByRecursion (Spelled b) es
end_of a x b es is = all_map (Spelled x) (Spelled b) (λ e. last_within e.1 a x b is) es

-- in the front and at the end of a package
pack_front : (op x y b : List ℕ) (es : List Searched) → Packs op (x ++ y) b → AllByRecursion (Spelled x) es → AllByRecursion (Spelled b) es
pack_front op x y b es packs = part_of (op ++ packs.len) x y b es (packs.whole ∙ sym (append_assoc op packs.len (x ++ y)))

pack_end : (op x y b : List ℕ) (es : List Searched) → Packs op (x ++ y) b → AllByRecursion (Spelled y) es → AllByRecursion (Spelled b) es
pack_end op x y b es packs = end_of (op ++ (packs.len ++ x)) y b es (packs.whole ∙ ap (λ (l : List ℕ). op ++ l) (sym (append_assoc packs.len x y)) ∙ sym (append_assoc op (packs.len ++ x) y))

mutual
  spelled_term : (grammar : Grammar) (locals : Locals) (t : TermTree) (b : List ℕ) → Spells grammar t b → AllByRecursion (Spelled b) (term_searches locals t)
  spelled_term grammar locals (buffer size content) b (s, here, hs, packs) = pack_front (0x11 ∷ []) s content b (term_searches locals size) packs (spelled_term grammar locals size s hs)
  spelled_term grammar locals (pkg count es) b (x, hs, packs) = pack_end (0x12 ∷ []) (count ∷ []) x b (terms_searches locals es) packs (spelled_elements grammar locals es x hs)
  spelled_term grammar locals (var_pkg count es) b (s, x, here, hc, hs, packs) =
      all_append (Spelled b) (term_searches locals count) (terms_searches locals es)
      (pack_front (0x13 ∷ []) s x b (term_searches locals count) packs (spelled_term grammar locals count s hc))
      (pack_end (0x13 ∷ []) s x b (terms_searches locals es) packs (spelled_elements grammar locals es x hs))
  spelled_term grammar locals (call n vs) b (count, w, x, sure, spells, hs, whole) =
      (record { before = []; spelled = w; after = x; whole = whole; spells = spells.0 }, end_of w x b (terms_searches locals vs) whole (spelled_operands grammar locals (values count) vs x hs))
  spelled_term grammar locals (apply op vs) b (x, allowed, hs, whole) = end_of (operator_bytes op) x b (terms_searches locals vs) whole (spelled_operands grammar locals (operands_of op) vs x hs)
  spelled_term grammar locals _ b h = tt

  spelled_operands : (grammar : Grammar) (locals : Locals) (ks : List OperandKind) (ts : TermTrees) (b : List ℕ) → AreOperands grammar ks ts b → AllByRecursion (Spelled b) (terms_searches locals ts)
  spelled_operands grammar locals ks no_terms b h = tt
  spelled_operands grammar locals [] (more t ts) b h = absurd h
  spelled_operands grammar locals (k ∷ ks) (more t ts) b (x, y, st, ht, hs, whole) =
      all_append (Spelled b) (term_searches locals t) (terms_searches locals ts)
      (part_of [] x y b (term_searches locals t) whole (spelled_term grammar locals t x ht))
      (end_of x y b (terms_searches locals ts) whole (spelled_operands grammar locals ks ts y hs))

  spelled_elements : (grammar : Grammar) (locals : Locals) (ts : TermTrees) (b : List ℕ) → AreElements grammar ts b → AllByRecursion (Spelled b) (terms_searches locals ts)
  spelled_elements grammar locals no_terms b h = tt
  spelled_elements grammar locals (more t ts) b (x, y, st, ht, hs, whole) =
      all_append (Spelled b) (term_searches locals t) (terms_searches locals ts)
      (part_of [] x y b (term_searches locals t) whole (spelled_term grammar locals t x ht))
      (end_of x y b (terms_searches locals ts) whole (spelled_elements grammar locals ts y hs))

mutual
  spelled_statement : (args : BodyGrammar) (s : List Segment) (locals : Locals) (t : TermTree) (b : List ℕ) → IsStatement args s locals t b → AllByRecursion (Spelled b) (searches s locals t)
  spelled_statement args s locals (if_do v ts e) b (x, y, p, q, here, hv, hs, packs, other, whole) =
      let after = locals_after_all s locals ts in
      all_append (Spelled b) (term_searches locals v) (all_searches s locals ts ++ else_searches s after e)
      (part_of [] p q b (term_searches locals v) whole (pack_front (0xA0 ∷ []) x y p (term_searches locals v) packs (spelled_term (args locals) locals v x hv)))
      (all_append (Spelled b) (all_searches s locals ts) (else_searches s after e)
      (part_of [] p q b (all_searches s locals ts) whole (pack_end (0xA0 ∷ []) x y p (all_searches s locals ts) packs (spelled_statements args s locals ts y hs)))
      (end_of p q b (else_searches s after e) whole (spelled_else args s after e q other)))
  spelled_statement args s locals (while_do v ts) b (x, y, here, hv, hs, packs) =
      all_append (Spelled b) (term_searches locals v) (all_searches s locals ts)
      (pack_front (0xA2 ∷ []) x y b (term_searches locals v) packs (spelled_term (args locals) locals v x hv))
      (pack_end (0xA2 ∷ []) x y b (all_searches s locals ts) packs (spelled_statements args s locals ts y hs))
  spelled_statement args s locals (declare form before n behind) b (x, y, z, hb, may, hn, ha, whole) =
      let op = opcode_bytes (named_opcode form) in
      all_append (Spelled b) (terms_searches locals before) (terms_searches locals behind)
      (part_of op x (y ++ z) b (terms_searches locals before) whole (spelled_operands (args locals) locals (operands_before form) before x hb))
      (end_of (op ++ (x ++ y)) z b (terms_searches locals behind) (whole ∙ simp append_assoc) (spelled_operands (args locals) locals (operands_behind form) behind z ha))
  spelled_statement args s locals (declare_units form ns vs es) b (x, y, z, count, hn, hv, he, packs) =
      let op = opcode_bytes (units_opcode form) in
      part_of (op ++ (packs.len ++ x)) y z b (terms_searches locals vs) (packs.whole ∙ simp append_assoc) (spelled_operands (args locals) locals (operands_of_units form) vs y hv)
  spelled_statement args s locals t b h = spelled_term (args locals) locals t b h.1

  spelled_else : (args : BodyGrammar) (s : List Segment) (locals : Locals) (e : ElseTree) (b : List ℕ) → IsElse args s locals e b → AllByRecursion (Spelled b) (else_searches s locals e)
  spelled_else args s locals no_else b h = tt
  spelled_else args s locals (else_do ts) b (x, hs, packs) = pack_end (0xA1 ∷ []) [] x b (all_searches s locals ts) packs (spelled_statements args s locals ts x hs)

  pub spelled_statements : (args : BodyGrammar) (s : List Segment) (locals : Locals) (ts : TermTrees) (b : List ℕ) → AreStatements args s locals ts b
      → AllByRecursion (Spelled b) (all_searches s locals ts)
  spelled_statements args s locals no_terms b h = tt
  spelled_statements args s locals (more t ts) b (x, y, ht, hs, whole) =
      all_append (Spelled b) (searches s locals t) (all_searches s (locals_after s locals t) ts)
      (part_of [] x y b (searches s locals t) whole (spelled_statement args s locals t x ht))
      (end_of x y b (all_searches s (locals_after s locals t) ts) whole (spelled_statements args s (locals_after s locals t) ts y hs))

pub same_readings : (c d : BodyGrammar) (s : List Segment) (locals : Locals) (ts : TermTrees) (b : List ℕ)
    → KeepsLoads c d (have_load ts) → ((n : NameParts) → IsSpelledIn b n → (locals : Locals) → (c locals).args n ≡ (d locals).args n) → AreStatements c s locals ts b
    → AreStatements d s locals ts b
same_readings c d s locals ts b keep same h = kept_statements c d s locals ts b keep
    (all_map (Spelled b) (AgreeAt c d) (λ e spelled. same e.1 spelled e.0) (all_searches s locals ts) (spelled_statements c s locals ts b h)) h
