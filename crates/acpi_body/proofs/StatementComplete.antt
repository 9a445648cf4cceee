-- Statements that are spelled are read.
use Rattle.std.proofs.Common.{◌≡◌, ℕ, zero, suc, ◌-◌, ◌+◌, ◌≤◌, ◌<◌, Bool, true, false, eqb, List, [], ◌∷◌, ◌++◌, length, Option, Some, None, Result, Ok, Err, refl, sym, ap, ◌∙◌, append_assoc, arith}
use Rattle.std.proofs.lemmas.List.{append-nil, length-append}
use Rattle.std.proofs.lemmas.Bool.{eqb-true}
use Rattle.acpi_name.specs.Names.{Segment, NameParts}
use Rattle.acpi_name.specs.Paths.{place_of}
use Rattle.acpi_name.specs.Spelling.{SpellsName}
use Rattle.acpi_table.specs.PkgLength.{SpellsPkgLength}
use Rattle.acpi_tree.specs.declared.place.Place.TheVariants.{Value, Statement}
use Rattle.acpi_tree.specs.declared.place.NamedForm.{NamedForm}
use Rattle.acpi_tree.specs.declared.place.NamedForm.TheVariants as named
use Rattle.acpi_tree.specs.declared.place.UnitsForm.{UnitsForm}
use Rattle.acpi_tree.specs.declared.place.UnitsForm.TheVariants as units
use Rattle.acpi_tree.specs.Tree.{FieldTree}
use Rattle.acpi_tree.specs.Terms.{TermTree, TermTrees, raw, ElseTree, if_do, no_else, else_do, while_do, declare, declare_units, no_terms, more, terms_of}
use Rattle.acpi_tree.specs.Operators.{operands_before, operands_behind, names_of_units, operands_of_units}
use Rattle.acpi_code.specs.declared.fault.CodeFault.{CodeFault}
use Rattle.acpi_code.specs.declared.opcode.Opcode.{Opcode}
use Rattle.acpi_code.specs.declared.opcode.Opcode.TheVariants as opcodes
use Rattle.acpi_code.specs.Opcodes.{opcode_bytes}
use Rattle.acpi_code.specs.Spelling.{SpellsEach}
use Rattle.acpi_code.specs.steps.Reading.{Reading, byte_at, opcode_at}
use Rattle.acpi_code.proofs.Names.{name_in_complete}
use Rattle.acpi_code.proofs.Opcodes.{opens}
use Rattle.acpi_code.proofs.Packages.{front_is, package_complete}
use Rattle.acpi_values.specs.declared.fault.BodyFault.{BodyFault}
use Rattle.acpi_values.specs.Arguments.{Locals, BodyGrammar}
use Rattle.acpi_values.specs.Grammars.{Grammar}
use Rattle.acpi_values.specs.Spelling.{Spells, height, else_height, heights}
use Rattle.acpi_code.specs.Fields.{SpellsFields}
use Rattle.acpi_code.specs.Forms.{named_opcode, units_opcode}
use Rattle.acpi_body.specs.Statements.{MayDeclare, locals_after, locals_after_all, IsStatement, IsElse, AreStatements}
use Rattle.acpi_values.specs.Refusals.{refusal_at}
use Rattle.acpi_values.specs.steps.Reading.{Reader, operands_at, placed_by, term_at}
use Rattle.acpi_body.specs.steps.Reading.{Statements, declared_if, declared_at, named_form, names_at, units_form, statements_with, else_at, if_form, while_form, statement_by, statement_at, statements_at}
use Rattle.acpi_values.proofs.Allowed.{lead_of, Allowed, allowed_at}
use Rattle.acpi_code.proofs.Fields.{fields_complete}
use Rattle.acpi_values.proofs.Declarations.{named_spelled, units_spelled, named_long, units_long}
use Rattle.acpi_values.proofs.TermComplete.{listed, terms_of-listed, spelled_long, suits_high, placed_made, term_complete, operands_complete, form_complete}

-- ---- what begins with an Else

abbrev pub begins_else : List ℕ → Bool
begins_else [] = false
begins_else (b ∷ rest) = eqb b 0xA1

abbrev is_else : Opcode → Bool
is_else opcodes.Else = true
is_else _ = false

abbrev reads_else : Reading CodeFault Opcode → Bool
reads_else (Ok x) = is_else x.0
reads_else (Err f) = false

else_opens : (rest : List ℕ) (o : Opcode) (r : List ℕ) → opcode_at 0 (0xA1 ∷ rest) ≡ Ok (o, r) → is_else o ≡ true
unfolding opcode_at byte_at
else_opens rest o r e = sym (ap reads_else e)

-- what opens otherwise is no Else
other_opens : (bytes : List ℕ) (o : Opcode) (r : List ℕ) → is_else o ≡ false → opcode_at 0 bytes ≡ Ok (o, r) → begins_else bytes ≡ false
other_opens [] o r n e = refl
other_opens (b ∷ bytes) o r n e = by_test (eqb b 0xA1) refl
  where
    by_test : (t : Bool) → eqb b 0xA1 ≡ t → eqb b 0xA1 ≡ false
    by_test true t = let y : is_else o ≡ true = else_opens bytes o r (ap (λ k. opcode_at 0 (k ∷ bytes)) (sym (eqb-true b 0xA1 t)) ∙ e) in absurd cc
    by_test false t = t

no_else_lead : (loads : Bool) (o : Opcode) → refusal_at loads Statement o ≡ None → is_else o ≡ false
no_else_lead loads opcodes.Else h = absurd cc
no_else_lead loads opcodes.Str h = refl
no_else_lead loads _ h = refl

named_no_else : (form : NamedForm) → is_else (named_opcode form) ≡ false
named_no_else named.Name = refl
named_no_else _ = refl

units_no_else : (form : UnitsForm) → is_else (units_opcode form) ≡ false
units_no_else units.Field = refl
units_no_else _ = refl

-- an Else that follows would belong to the statement
abbrev pub Closes : ElseTree → List ℕ → Type 0
Closes no_else rest = begins_else rest ≡ false
Closes (else_do ts) rest = Unit {0}

-- .. which ends before the rest
abbrev pub Ends : TermTree → List ℕ → Type 0
Ends (if_do v ts e) rest = Closes e rest
Ends _ rest = Unit {0}

closes : (e : ElseTree) (rest : List ℕ) → begins_else rest ≡ false → Closes e rest
closes no_else rest h = h
closes (else_do ts) rest h = tt

pub ends : (t : TermTree) (rest : List ℕ) → begins_else rest ≡ false → Ends t rest
ends (if_do v ts e) rest h = closes e rest h
ends _ rest h = tt

abbrev Starts : List ℕ → List ℕ → Type 0
Starts a rest = (begins_else (a ++ rest) ≡ false) × (0 < length a)

plain_starts : (grammar : Grammar) (t : TermTree) (a rest : List ℕ) → Allowed grammar.loads Statement t → Spells grammar t a → Starts a rest
plain_starts grammar t a rest al h =
    let f = form_complete grammar t (height t) Statement 0 a rest al h (omega arith) in
    (other_opens (a ++ rest) (lead_of t) f.0 (no_else_lead grammar.loads (lead_of t) al.allowed) f.1, spelled_long grammar Statement t a al.suits h)

-- a statement has a byte or more, and doesn't begin with an Else
pub statement_starts : (args : BodyGrammar) (s : List Segment) (locals : Locals) (t : TermTree) (a rest : List ℕ) → IsStatement args s locals t a → Starts a rest
statement_starts args s locals (if_do v ts e) a rest (x, y, f, g, here, hv, hs, packs, other, whole) = (rw (whole, packs.whole) refl, rw (whole, packs.whole) (omega arith))
statement_starts args s locals (while_do v ts) a rest h = (rw h.5.whole refl, rw h.5.whole (omega arith))
statement_starts args s locals (declare form before n behind) a rest (x, y, z, hb, may, hn, ha, whole) =
    let is : a ++ rest ≡ opcode_bytes (named_opcode form) ++ ((x ++ (y ++ z)) ++ rest) = ap (λ (l : List ℕ). l ++ rest) whole
    ∙ append_assoc (opcode_bytes (named_opcode form)) (x ++ (y ++ z)) rest in (
      other_opens (a ++ rest) (named_opcode form) ((x ++ (y ++ z)) ++ rest) (named_no_else form) (ap (opcode_at 0) is ∙ named_spelled form ((x ++ (y ++ z)) ++ rest) 0),
      omega (arith, ap length whole, length-append (opcode_bytes (named_opcode form)) (x ++ (y ++ z)), named_long form),
    )
statement_starts args s locals (declare_units form ns vs es) a rest (x, y, z, hc, hn, hv, he, packs) =
    let op = opcode_bytes (units_opcode form) in
    let is = front_is op a packs.len (x ++ (y ++ z)) rest packs.whole in (
      other_opens (a ++ rest) (units_opcode form) (packs.len ++ ((x ++ (y ++ z)) ++ rest)) (units_no_else form) (ap (opcode_at 0) is ∙ units_spelled form (packs.len ++ ((x ++ (y ++ z)) ++ rest)) 0),
      omega (arith, ap length packs.whole, length-append op (packs.len ++ (x ++ (y ++ z))), units_long form),
    )
statement_starts args s locals t a rest h = plain_starts (args locals) t a rest (allowed_at (args locals) Statement t a h.0 h.1) h.1

pub statements_start : (args : BodyGrammar) (s : List Segment) (locals : Locals) (ts : TermTrees) (b w : List ℕ) → AreStatements args s locals ts b → begins_else w ≡ false → begins_else (b ++ w) ≡ false
statements_start args s locals no_terms b w h none = rw h none
statements_start args s locals (more t ts) b w (x, y, ht, hs, whole) none = rw (whole, append_assoc x y w) ((statement_starts args s locals t x (y ++ w) ht).0)

-- ---- a statement, behind its opcode

pub stated : (args : BodyGrammar) (s : List Segment) (level : ℕ) (locals : Locals) (end : ℕ) (bytes r : List ℕ) (o : Opcode) (x : TermTree × List ℕ) → opcode_at end bytes ≡ Ok (o, r)
    → statement_by (args locals) (term_at (args locals) level) (statements_at args s level) s locals end bytes o r ≡ Ok x → statement_at args s (suc level) locals end bytes ≡ Ok x
unfolding statement_at
stated args s level locals end bytes r o x h m = rw h m

-- a term that is no block and no declaration is read as one
is_placed : (grammar : Grammar) (value : Reader) (inner : Statements) (s : List Segment) (locals : Locals) (end : ℕ) (bytes r : List ℕ)
    (t : TermTree) → refusal_at grammar.loads Statement (lead_of t) ≡ None → statement_by grammar value inner s locals end bytes
    (lead_of t) r ≡ placed_by grammar value Statement end bytes (lead_of t) r
unfolding statement_by
is_placed grammar value inner s locals end bytes r (if_do v ts e) h = refl
is_placed grammar value inner s locals end bytes r (raw k n) h = refl
is_placed grammar value inner s locals end bytes r _ h = refl

-- ---- blocks

no_else_read : (inner : ℕ → List ℕ → Result (List TermTree) BodyFault) (end : ℕ) (rest : List ℕ) → begins_else rest ≡ false → else_at inner end rest ≡ Ok (no_else, rest)
unfolding else_at
no_else_read inner end [] h = refl
no_else_read inner end (b ∷ rest) h = rw h refl

else_read : (inner : ℕ → List ℕ → Result (List TermTree) BodyFault) (end : ℕ) (us : List TermTree) (c len rest : List ℕ)
    → SpellsPkgLength (length len + length c) len → inner (end - length rest) c ≡ Ok us
    → else_at inner end (0xA1 ∷ (len ++ (c ++ rest))) ≡ Ok (else_do (terms_of us), rest)
unfolding else_at
else_read inner end us c len rest h all = rw (package_complete end len c rest h, all) refl

if_read : (value : Reader) (inner : Statements) (s : List Segment) (locals : Locals) (end : ℕ) (v : TermTree) (ts : List TermTree) (e : ElseTree)
    (a b len back rest : List ℕ) → SpellsPkgLength (length len + length (a ++ b)) len
    → value Value (end - length back) (a ++ b) ≡ Ok (v, b) → inner locals (end - length back) b ≡ Ok ts → else_at (inner (locals_after_all s locals (terms_of ts))) end back ≡ Ok (e, rest)
    → if_form value inner s locals end (len ++ ((a ++ b) ++ back)) ≡ Ok (if_do v (terms_of ts) e, rest)
unfolding if_form
if_read value inner s locals end v ts e a b len back rest h i all other = rw (package_complete end len (a ++ b) back h, i, all, other) refl

while_read : (value : Reader) (inner : Statements) (locals : Locals) (end : ℕ) (v : TermTree) (ts : List TermTree) (a b len rest : List ℕ) → SpellsPkgLength (length len + length (a ++ b)) len
    → value Value (end - length rest) (a ++ b) ≡ Ok (v, b) → inner locals (end - length rest) b ≡ Ok ts
    → while_form value inner locals end (len ++ ((a ++ b) ++ rest)) ≡ Ok (while_do v (terms_of ts), rest)
unfolding while_form
while_read value inner locals end v ts a b len rest h i all = rw (package_complete end len (a ++ b) rest h, i, all) refl

-- ---- declarations

declared : {A : Type 0} (p : List Segment) (o : Option (List Segment)) (gs : List Segment) (end : ℕ) (bytes : List ℕ) (r : Result A BodyFault)
    → o ≡ Some p → 0 < length gs → declared_if o gs end bytes r ≡ r
declared p None gs end bytes r e h = absurd cc
declared p (Some q) [] end bytes r e h = absurd (omega arith)
declared p (Some q) (g ∷ gs) end bytes r e h = refl

pub declared_read : (s : List Segment) (end : ℕ) (n : NameParts) (w y : List ℕ) → MayDeclare s n → SpellsName n w → declared_at s end (w ++ y) ≡ Ok (n, y)
unfolding declared_at
declared_read s end n w y may h = rw (name_in_complete end n w y h) (declared may.path (place_of s n) n.segments end (w ++ y) (Ok (n, y)) may.place may.some)

named_read : (inner : Reader) (s : List Segment) (form : NamedForm) (end : ℕ) (n : NameParts) (before behind : List TermTree) (w y after rest : List ℕ) → MayDeclare s n → SpellsName n w
    → operands_at inner (operands_before form) end y ≡ Ok (before, w ++ after) → operands_at inner (operands_behind form) end after ≡ Ok (behind, rest)
    → named_form inner s form end y ≡ Ok (declare form (terms_of before) n (terms_of behind), rest)
unfolding named_form
named_read inner s form end n before behind w y after rest may h i k = rw (i, declared_read s end n w after may h, k) refl

pub names_read : (ns : List NameParts) (end : ℕ) (a rest : List ℕ) → SpellsEach SpellsName ns a → names_at (length ns) end (a ++ rest) ≡ Ok (ns, rest)
unfolding names_at
names_read [] end a rest h = rw h refl
names_read (n ∷ ns) end a rest (x, y, hn, hs, whole) = rw (whole, append_assoc x y rest, name_in_complete end n x (y ++ rest) hn, names_read ns end y rest hs) refl

units_read : (inner : Reader) (form : UnitsForm) (end : ℕ) (ns : List NameParts) (vs : List TermTree) (es : List FieldTree) (a b c len rest : List ℕ)
    → length ns ≡ names_of_units form → SpellsEach SpellsName ns a
    → operands_at inner (operands_of_units form) (end - length rest) (b ++ c) ≡ Ok (vs, c) → SpellsFields es c → SpellsPkgLength (length len + length (a ++ (b ++ c))) len
    → units_form inner form end (len ++ ((a ++ (b ++ c)) ++ rest)) ≡ Ok (declare_units form ns (terms_of vs) es, rest)
unfolding units_form
units_read inner form end ns vs es a b c len rest count h i k l =
    let names : names_at (names_of_units form) (end - length rest) (a ++ (b ++ c)) ≡ Ok (ns, b ++ c) =
    ap (λ n. names_at n (end - length rest) (a ++ (b ++ c))) (sym count) ∙ names_read ns (end - length rest) a (b ++ c) h in
    rw (package_complete end len (a ++ (b ++ c)) rest l, names, i, fields_complete (end - length rest) es c k) refl

-- the declarations are read by their opcodes
by_named : (grammar : Grammar) (value : Reader) (inner : Statements) (s : List Segment) (locals : Locals) (end : ℕ) (bytes r : List ℕ)
    (form : NamedForm) → statement_by grammar value inner s locals end bytes (named_opcode form) r ≡ named_form value s form end r
unfolding statement_by
by_named grammar value inner s locals end bytes r named.Name = refl
by_named grammar value inner s locals end bytes r (named.Create w) = refl
by_named grammar value inner s locals end bytes r named.CreateField = refl
by_named grammar value inner s locals end bytes r named.Region = refl
by_named grammar value inner s locals end bytes r named.Mutex = refl
by_named grammar value inner s locals end bytes r named.Event = refl

by_units : (grammar : Grammar) (value : Reader) (inner : Statements) (s : List Segment) (locals : Locals) (end : ℕ) (bytes r : List ℕ)
    (form : UnitsForm) → statement_by grammar value inner s locals end bytes (units_opcode form) r ≡ units_form value form end r
unfolding statement_by
by_units grammar value inner s locals end bytes r units.Field = refl
by_units grammar value inner s locals end bytes r units.IndexField = refl
by_units grammar value inner s locals end bytes r units.BankField = refl

-- ---- one after another

-- what they are, however many turns more are left
abbrev pub AreAllStated : (Locals → List ℕ → Reading BodyFault TermTree) → List Segment → Locals → List ℕ → List TermTree → Type 0
AreAllStated one s locals bytes xs = (n : ℕ) → length bytes ≤ n → statements_with one s n locals bytes ≡ Ok xs

none_stated : (one : Locals → List ℕ → Reading BodyFault TermTree) (s : List Segment) (locals : Locals) (bytes : List ℕ) → bytes ≡ [] → AreAllStated one s locals bytes []
unfolding statements_with
none_stated one s locals bytes e zero le = refl
none_stated one s locals bytes e (suc n) le = rw e refl

one_stated : (one : Locals → List ℕ → Reading BodyFault TermTree) (s : List Segment) (locals : Locals) (a b : List ℕ) (x : TermTree)
    (xs : List TermTree) → 0 < length a → one locals (a ++ b) ≡ Ok (x, b)
    → AreAllStated one s (locals_after s locals x) b xs → AreAllStated one s locals (a ++ b) (x ∷ xs)
unfolding statements_with
one_stated one s locals [] b x xs long h all n le = absurd (omega arith)
one_stated one s locals (c ∷ a) b x xs long h all zero le = absurd (omega arith)
one_stated one s locals (c ∷ a) b x xs long h all (suc n) le = rw (h, all n (omega (arith, length-append a b))) refl

high : (args : BodyGrammar) (s : List Segment) (locals : Locals) (t : TermTree) (b : List ℕ) → IsStatement args s locals t b → 0 < height t
high args s locals (if_do v ts e) b h = omega arith
high args s locals (while_do v ts) b h = omega arith
high args s locals (declare form before n behind) b h = omega arith
high args s locals (declare_units form ns vs es) b h = omega arith
high args s locals t b h = suits_high Statement t (allowed_at (args locals) Statement t b h.0 h.1).suits

mutual
  unfolding statement_by

  pub statement_complete : (args : BodyGrammar) (s : List Segment) (t : TermTree) (level : ℕ) (locals : Locals) (end : ℕ) (b rest : List ℕ)
      → IsStatement args s locals t b → height t ≤ level → Ends t rest
      → statement_at args s level locals end (b ++ rest) ≡ Ok (t, rest)
  statement_complete args s t zero locals end b rest h le none = absurd (omega (arith, high args s locals t b h))
  statement_complete args s (if_do v ts e) (suc level) locals end b rest (x, y, f, g, here, hv, hs, packs, other, whole) le none =
      let back = g ++ rest in
      let is : b ++ rest ≡ 0xA0 ∷ (packs.len ++ ((x ++ y) ++ back)) = ap (λ (l : List ℕ). l ++ rest) whole ∙ append_assoc f g rest ∙ front_is (0xA0 ∷ []) f packs.len (x ++ y) back packs.whole in
      let within = end - length back in
      let i = term_complete (args locals) v level Value within x y here hv (omega arith) in
      let all = statements_complete args s ts level locals within y hs (omega arith) in
      let then = else_complete args s e level (locals_after_all s locals ts) end g rest other (omega arith) none in
      let then_here : else_at (statements_at args s level (locals_after_all s locals (terms_of (listed ts)))) end back ≡ Ok (e, rest) = rw (terms_of-listed ts) then in
      rw is
      (stated args s level locals end (0xA0 ∷ (packs.len ++ ((x ++ y) ++ back))) (packs.len ++ ((x ++ y) ++ back)) opcodes.If (if_do v ts e, rest)
      (opens end opcodes.If (packs.len ++ ((x ++ y) ++ back)) refl)
      (if_read (term_at (args locals) level) (statements_at args s level) s locals end v (listed ts) e x y packs.len back rest packs.spells_len i (all (length y) (omega arith)) then_here
      ∙ ap (λ ts. Ok (if_do v ts e, rest)) (terms_of-listed ts)))
  statement_complete args s (while_do v ts) (suc level) locals end b rest (x, y, here, hv, hs, packs) le none =
      let i = term_complete (args locals) v level Value (end - length rest) x y here hv (omega arith) in
      let all = statements_complete args s ts level locals (end - length rest) y hs (omega arith) in
      rw (front_is (0xA2 ∷ []) b packs.len (x ++ y) rest packs.whole)
      (stated args s level locals end (0xA2 ∷ (packs.len ++ ((x ++ y) ++ rest))) (packs.len ++ ((x ++ y) ++ rest)) opcodes.While (while_do v ts, rest)
      (opens end opcodes.While (packs.len ++ ((x ++ y) ++ rest)) refl)
      (while_read (term_at (args locals) level) (statements_at args s level) locals end v (listed ts) x y packs.len rest packs.spells_len i (all (length y) (omega arith))
      ∙ ap (λ ts. Ok (while_do v ts, rest)) (terms_of-listed ts)))
  statement_complete args s (declare form before n behind) (suc level) locals end b rest (x, y, z, hb, may, hn, ha, whole) le none =
      let is : b ++ rest ≡ opcode_bytes (named_opcode form) ++ (x ++ (y ++ (z ++ rest))) = ap (λ (l : List ℕ). l ++ rest) whole ∙ simp append_assoc in
      let i = operands_complete (args locals) (operands_before form) before level end x (y ++ (z ++ rest)) hb (omega arith) in
      let k = operands_complete (args locals) (operands_behind form) behind level end z rest ha (omega arith) in
      stated args s level locals end (b ++ rest) (x ++ (y ++ (z ++ rest))) (named_opcode form) (declare form before n behind, rest)
      (ap (opcode_at end) is ∙ named_spelled form (x ++ (y ++ (z ++ rest))) end)
      (by_named (args locals) (term_at (args locals) level) (statements_at args s level) s locals end (b ++ rest) (x ++ (y ++ (z ++ rest))) form
      ∙ named_read (term_at (args locals) level) s form end n (listed before) (listed behind) y (x ++ (y ++ (z ++ rest))) (z ++ rest) rest may hn i k
      ∙ ap (λ ts. Ok (declare form ts n (terms_of (listed behind)), rest)) (terms_of-listed before) ∙ ap (λ ts. Ok (declare form before n ts, rest)) (terms_of-listed behind))
  statement_complete args s (declare_units form ns vs es) (suc level) locals end b rest (x, y, z, count, hn, hv, he, packs) le none =
      let op = opcode_bytes (units_opcode form) in
      let back = packs.len ++ ((x ++ (y ++ z)) ++ rest) in
      let is = front_is op b packs.len (x ++ (y ++ z)) rest packs.whole in
      let k = operands_complete (args locals) (operands_of_units form) vs level (end - length rest) y z hv (omega arith) in
      stated args s level locals end (b ++ rest) back (units_opcode form) (declare_units form ns vs es, rest) (ap (opcode_at end) is ∙ units_spelled form back end)
      (by_units (args locals) (term_at (args locals) level) (statements_at args s level) s locals end (b ++ rest) back form
      ∙ units_read (term_at (args locals) level) form end ns (listed vs) es x y z packs.len rest count hn k he packs.spells_len
      ∙ ap (λ ts. Ok (declare_units form ns ts es, rest)) (terms_of-listed vs))
  statement_complete args s t (suc level) locals end b rest h le none =
      let al = allowed_at (args locals) Statement t b h.0 h.1 in
      let f = form_complete (args locals) t level Statement end b rest al h.1 le in
      stated args s level locals end (b ++ rest) f.0 (lead_of t) (t, rest) f.1
      (is_placed (args locals) (term_at (args locals) level) (statements_at args s level) s locals end (b ++ rest) f.0 t al.allowed
      ∙ placed_made (args locals) (term_at (args locals) level) Statement end (b ++ rest) f.0 (lead_of t) (t, rest) al.allowed f.2)

  else_complete : (args : BodyGrammar) (s : List Segment) (e : ElseTree) (level : ℕ) (locals : Locals) (end : ℕ) (b rest : List ℕ)
      → IsElse args s locals e b → else_height e ≤ level → Closes e rest
      → else_at (statements_at args s level locals) end (b ++ rest) ≡ Ok (e, rest)
  else_complete args s no_else level locals end b rest h le none = rw h (no_else_read (statements_at args s level locals) end rest none)
  else_complete args s (else_do ts) level locals end b rest (c, hs, packs) le none =
      let all = statements_complete args s ts level locals (end - length rest) c hs le in
      rw (front_is (0xA1 ∷ []) b packs.len c rest packs.whole) (else_read (statements_at args s level locals) end (listed ts) c packs.len rest
      packs.spells_len (all (length c) (omega arith)) ∙ ap (λ ts. Ok (else_do ts, rest)) (terms_of-listed ts))

  pub statements_complete : (args : BodyGrammar) (s : List Segment) (ts : TermTrees) (level : ℕ) (locals : Locals) (end : ℕ) (b : List ℕ) → AreStatements args s locals ts b → heights ts ≤ level
      → AreAllStated (λ locals. statement_at args s level locals end) s locals b (listed ts)
  statements_complete args s no_terms level locals end b h le = none_stated (λ locals. statement_at args s level locals end) s locals b h
  statements_complete args s (more t ts) level locals end b (x, y, ht, hs, whole) le =
      let behind : begins_else y ≡ false = ap begins_else (sym (append-nil y)) ∙ statements_start args s (locals_after s locals t) ts y [] hs refl in
      rw whole (one_stated (λ locals. statement_at args s level locals end) s locals x y t (listed ts) ((statement_starts args s locals t x [] ht).1)
      (statement_complete args s t level locals end x y ht (omega arith) (ends t y behind))
      (statements_complete args s ts level (locals_after s locals t) end y hs (omega arith)))
