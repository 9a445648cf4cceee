-- A term that is spelled is read.
use Rattle.std.proofs.Common.{◌≡◌, ℕ, zero, suc, ◌-◌, ◌+◌, ◌≤◌, ◌<◌, Bool, true, false, cond, eqb, List, [], ◌∷◌, ◌++◌, length, slice_index, Option, Some, None, Ok, refl, sym, ap, subst, ◌∙◌, append_assoc, arith}
use Rattle.std.proofs.lemmas.List.{length-append}
use Rattle.std.proofs.lemmas.Bool.{eqb-true, lt-ltb}
use Rattle.acpi_name.specs.Names.{NameParts}
use Rattle.acpi_name.proofs.NameAgain.{name_long}
use Rattle.acpi_table.specs.PkgLength.{SpellsPkgLength}
use Rattle.acpi_tree.specs.declared.op.Op.{Op}
use Rattle.acpi_tree.specs.declared.place.Place.{Place}
use Rattle.acpi_tree.specs.declared.place.Place.TheVariants.{Value, SuperName, Element}
use Rattle.acpi_tree.specs.declared.place.OperandKind.{OperandKind}
use Rattle.acpi_tree.specs.declared.place.OperandKind.TheVariants.{At, Target, Byte, Word, DWord}
use Rattle.acpi_tree.specs.Terms.{TermTree, TermTrees, int, str, buffer, pkg, var_pkg, local, arg, debug, no_target, raw, ref, call, apply, no_terms, more, terms_of}
use Rattle.acpi_tree.specs.Operators.{operands_of}
use Rattle.acpi_tree.specs.Places.{is_raw}
use Rattle.acpi_code.specs.declared.opcode.Opcode.{Opcode}
use Rattle.acpi_code.specs.declared.opcode.Opcode.TheVariants as opcodes
use Rattle.acpi_code.specs.declared.opcode.ConstantForm.{ConstantForm}
use Rattle.acpi_code.specs.Opcodes.{operator_bytes, is_name_start}
use Rattle.acpi_code.specs.Spelling.{SpellsNumber, SpellsTermName}
use Rattle.acpi_code.specs.steps.Reading.{Reading, byte_at, number_at, each_at, opcode_at, constant_at, string_at}
use Rattle.acpi_code.proofs.Constants.{form_of, int_opens, int_long}
use Rattle.acpi_code.proofs.Lists.{AreAll, none_left, one_more, all_at}
use Rattle.acpi_code.proofs.Names.{name_in_complete}
use Rattle.acpi_code.proofs.Numbers.{byte_complete, number_complete}
use Rattle.acpi_code.proofs.Opcodes.{opens, opens_name}
use Rattle.acpi_code.proofs.Packages.{front_is, package_complete}
use Rattle.acpi_code.proofs.Strings.{string_complete}
use Rattle.acpi_values.specs.Grammars.{Grammar}
use Rattle.acpi_values.specs.Refusals.{refusal_at}
use Rattle.acpi_values.specs.Spelling.{Stands, StandsFor, values, Spells, AreOperands, AreElements, height, heights}
use Rattle.acpi_values.specs.steps.Reading.{Reader, as_raw, target_at, operand_at, operands_at, constant_form, string_form, buffer_form, package_form, var_package_form, calls, name_form, operator_form, form_by, placed_by, term_at}
use Rattle.acpi_values.proofs.Allowed.{lead_of, Suits, Allowed, allowed_at}

-- ---- lists

abbrev pub listed : TermTrees → List TermTree
listed no_terms = []
listed (more t ts) = t ∷ listed ts

pub terms_of-listed : (ts : TermTrees) → terms_of (listed ts) ≡ ts
terms_of-listed no_terms = refl
terms_of-listed (more t ts) = ap (more t) (terms_of-listed ts)

-- ---- lengths and heights

opened_long : (o : Opcode) (b : List ℕ) → opcode_at 0 (b ++ []) ≡ Ok (o, []) → 0 < length b
unfolding opcode_at byte_at
opened_long o [] e = absurd cc
opened_long o (x ∷ b) e = omega arith

pub operator_long : (op : Op) → 0 < length (operator_bytes op)
operator_long op = opened_long (opcodes.Operator op) (operator_bytes op) (opens 0 (opcodes.Operator op) [] refl)

-- a spelling of a term has a byte or more
pub spelled_long : (grammar : Grammar) (p : Place) (t : TermTree) (b : List ℕ) → Suits p t → Spells grammar t b → 0 < length b
spelled_long grammar p (int i) b u h = int_long i b h
spelled_long grammar p (str text) b u h = rw h.2 (omega arith)
spelled_long grammar p (buffer size content) b u h = rw h.3.whole (omega arith)
spelled_long grammar p (pkg count es) b u h = rw h.2.whole (omega arith)
spelled_long grammar p (var_pkg count es) b u h = rw h.5.whole (omega arith)
spelled_long grammar p (local n) b u h = rw h.0 (omega arith)
spelled_long grammar p (arg n) b u h = rw h.0 (omega arith)
spelled_long grammar p debug b u h = rw h (omega arith)
spelled_long grammar p no_target b u h = absurd u
spelled_long grammar p (raw k n) b u h = absurd u
spelled_long grammar p (ref n) b u h = name_long n b h.0
spelled_long grammar p (call n vs) b u h = omega (arith, ap length h.6, length-append h.1 h.2, name_long n h.1 h.4.0)
spelled_long grammar p (apply op vs) b u h = omega (arith, ap length h.3, length-append (operator_bytes op) h.0, operator_long op)
spelled_long grammar p _ b u h = absurd h

pub suits_high : (p : Place) (t : TermTree) → Suits p t → 0 < height t
suits_high p (raw k n) u = absurd u
suits_high p no_target u = absurd u
suits_high p _ u = omega arith

-- ---- forms, behind their opcodes

constant_made : (form : ConstantForm) (end : ℕ) (i : _) (bytes rest : List ℕ) → constant_at form end bytes ≡ Ok (i, rest) → constant_form form end bytes ≡ Ok (int i, rest)
unfolding constant_form
constant_made form end i bytes rest h = rw h refl

string_made : (end : ℕ) (text bytes rest : List ℕ) → string_at end bytes ≡ Ok (text, rest) → string_form end bytes ≡ Ok (str text, rest)
unfolding string_form
string_made end text bytes rest h = rw h refl

buffer_made : (inner : Reader) (end : ℕ) (size : TermTree) (s content len rest : List ℕ)
    → inner Value (end - length rest) (s ++ content) ≡ Ok (size, content) → SpellsPkgLength (length len + length (s ++ content)) len
    → buffer_form inner end (len ++ ((s ++ content) ++ rest)) ≡ Ok (buffer size content, rest)
unfolding buffer_form
buffer_made inner end size s content len rest i h = rw (package_complete end len (s ++ content) rest h, i) refl

package_made : (inner : Reader) (end count : ℕ) (es : List TermTree) (b len rest : List ℕ) → each_at (inner Element (end - length rest)) b ≡ Ok es
    → SpellsPkgLength (length len + length (count ∷ b)) len
    → package_form inner end (len ++ ((count ∷ b) ++ rest)) ≡ Ok (pkg count (terms_of es), rest)
unfolding package_form
package_made inner end count es b len rest all h = rw (package_complete end len (count ∷ b) rest h, byte_complete (end - length rest) count b, all) refl

var_package_made : (inner : Reader) (end : ℕ) (count : TermTree) (es : List TermTree) (s b len rest : List ℕ)
    → inner Value (end - length rest) (s ++ b) ≡ Ok (count, b) → each_at (inner Element (end - length rest)) b ≡ Ok es
    → SpellsPkgLength (length len + length (s ++ b)) len
    → var_package_form inner end (len ++ ((s ++ b) ++ rest)) ≡ Ok (var_pkg count (terms_of es), rest)
unfolding var_package_form
var_package_made inner end count es s b len rest i all h = rw (package_complete end len (s ++ b) rest h, i, all) refl

ref_made : (args : NameParts → Option ℕ) (inner : Reader) (p : Place) (end : ℕ) (n : NameParts) (w y : List ℕ) → calls p ≡ false → SpellsTermName n w → name_form args inner p end (w ++ y) ≡ Ok (ref n, y)
unfolding name_form
ref_made args inner p end n w y c h = rw (name_in_complete end n w y h.0, c) refl

call_made : (args : NameParts → Option ℕ) (inner : Reader) (p : Place) (end : ℕ) (n : NameParts) (count : ℕ) (vs : List TermTree) (w y rest : List ℕ) → calls p ≡ true
    → SpellsTermName n w → args n ≡ Some count → operands_at inner (values count) end y ≡ Ok (vs, rest)
    → name_form args inner p end (w ++ y) ≡ Ok (call n (terms_of vs), rest)
unfolding name_form
call_made args inner p end n count vs w y rest c h sure o = rw (name_in_complete end n w y h.0, c, sure, o) refl

operator_made : (inner : Reader) (op : Op) (end : ℕ) (vs : List TermTree) (bytes rest : List ℕ)
    → operands_at inner (operands_of op) end bytes ≡ Ok (vs, rest) → operator_form inner op end bytes ≡ Ok (apply op (terms_of vs), rest)
unfolding operator_form
operator_made inner op end vs bytes rest o = rw o refl

-- ---- a term

-- its opcode begins there, and what is behind that is read
abbrev pub Leads : Grammar → ℕ → Place → ℕ → List ℕ → TermTree → List ℕ → Type 0
Leads grammar level p end bytes t rest = (r : List ℕ) × (opcode_at end bytes ≡ Ok (lead_of t, r)) × (form_by grammar (term_at grammar level) p end bytes (lead_of t) r ≡ Ok (t, rest))

pub placed_made : (grammar : Grammar) (inner : Reader) (p : Place) (end : ℕ) (bytes r : List ℕ) (o : Opcode) (x : TermTree × List ℕ)
    → refusal_at grammar.loads p o ≡ None → form_by grammar inner p end bytes o r ≡ Ok x → placed_by grammar inner p end bytes o r ≡ Ok x
unfolding placed_by
placed_made grammar inner p end bytes r o x ok h = rw ok h

pub term_made : (grammar : Grammar) (level : ℕ) (p : Place) (end : ℕ) (bytes : List ℕ) (t : TermTree) (rest : List ℕ) → Allowed grammar.loads p t
    → height t ≤ level → ((l : ℕ) → height t ≤ suc l → Leads grammar l p end bytes t rest) → term_at grammar level p end bytes ≡ Ok (t, rest)
unfolding term_at
term_made grammar zero p end bytes t rest a le leads = absurd (omega (arith, suits_high p t a.suits))
term_made grammar (suc level) p end bytes t rest a le leads =
    let l = leads level le in
    rw l.1 (placed_made grammar (term_at grammar level) p end bytes l.0 (lead_of t) (t, rest) a.allowed l.2)

name_leads : (end : ℕ) (n : NameParts) (w rest : List ℕ) → SpellsTermName n w → (r : List ℕ) × (opcode_at end (w ++ rest) ≡ Ok (opcodes.Name, r))
name_leads end n w rest h = by_bytes w (name_long n w h.0) h.1
  where
    by_bytes : (w : List ℕ) → 0 < length w → is_name_start (slice_index w 0) ≡ true → (r : List ℕ) × (opcode_at end (w ++ rest) ≡ Ok (opcodes.Name, r))
    by_bytes [] some start = absurd (omega arith)
    by_bytes (b ∷ w) some start = (w ++ rest, opens_name end b (w ++ rest) start)

-- ---- operands

raw_complete : (grammar : Grammar) (j end : ℕ) (t : TermTree) (a rest : List ℕ) (read : Reading _ ℕ) → is_raw j t ≡ true → Spells grammar t a
    → ((n : ℕ) → SpellsNumber j n a → read ≡ Ok (n, rest)) → as_raw j read ≡ Ok (t, rest)
raw_complete grammar j end (raw k n) a rest read is h again =
    let same : k ≡ j = eqb-true k j is in
    rw (again n (subst (λ k. SpellsNumber k n a) same h)) (ap (λ k. Ok (raw k n, rest)) (sym same))
raw_complete grammar j end _ a rest read is h again = absurd cc

byte_number : (end n : ℕ) (a rest : List ℕ) → SpellsNumber 1 n a → byte_at end (a ++ rest) ≡ Ok (n, rest)
byte_number end n [] rest h = absurd (omega (arith, h.0))
byte_number end n (b ∷ []) rest h = let is : b ≡ n = omega (arith, h.1) in byte_complete end b rest ∙ ap (λ k. Ok (k, rest)) is
byte_number end n (b ∷ c ∷ a) rest h = absurd (omega (arith, h.0))

-- no term begins with the byte 00 where a super name stands
no_zero : (grammar : Grammar) (level end : ℕ) (rest : List ℕ) (x : TermTree × List ℕ) → term_at grammar level SuperName end (0 ∷ rest) ≡ Ok x → ⊥
unfolding term_at placed_by opcode_at byte_at
no_zero grammar zero end rest x e = cc
no_zero grammar (suc level) end rest x e = cc

pub super_is_target : (grammar : Grammar) (level end : ℕ) (bytes : List ℕ) (x : TermTree × List ℕ) → term_at grammar level SuperName end bytes ≡ Ok x → target_at (term_at grammar level) end bytes ≡ Ok x
super_is_target grammar level end [] x e = e
super_is_target grammar level end (b ∷ rest) x e = by_test (eqb b 0) refl
  where
    by_test : (t : Bool) → eqb b 0 ≡ t → cond t (Ok (no_target, rest)) (term_at grammar level SuperName end (b ∷ rest)) ≡ Ok x
    by_test true t = absurd (no_zero grammar level end rest x (ap (λ k. term_at grammar level SuperName end (k ∷ rest)) (sym (eqb-true b 0 t)) ∙ e))
    by_test false t = e

pub operand_complete : (grammar : Grammar) (level end : ℕ) (k : OperandKind) (t : TermTree) (a rest : List ℕ)
    → ((p : Place) → Stands p t → term_at grammar level p end (a ++ rest) ≡ Ok (t, rest)) → StandsFor k t → Spells grammar t a
    → operand_at (term_at grammar level) k end (a ++ rest) ≡ Ok (t, rest)
unfolding operand_at
operand_complete grammar level end (At p) t a rest again st h = again p st
operand_complete grammar level end Target no_target a rest again st h = rw h refl
operand_complete grammar level end Target t a rest again st h = super_is_target grammar level end (a ++ rest) (t, rest) (again SuperName st)
operand_complete grammar level end Byte t a rest again st h = raw_complete grammar 1 end t a rest (byte_at end (a ++ rest)) st h (λ n k. byte_number end n a rest k)
operand_complete grammar level end Word t a rest again st h = raw_complete grammar 2 end t a rest (number_at 2 end (a ++ rest)) st h (λ n k. number_complete 2 n end a rest k)
operand_complete grammar level end DWord t a rest again st h = raw_complete grammar 4 end t a rest (number_at 4 end (a ++ rest)) st h (λ n k. number_complete 4 n end a rest k)

operands_step : (inner : Reader) (end : ℕ) (k : OperandKind) (ks : List OperandKind) (t : TermTree) (ts : List TermTree) (bytes after rest : List ℕ)
    → operand_at inner k end bytes ≡ Ok (t, after) → operands_at inner ks end after ≡ Ok (ts, rest)
    → operands_at inner (k ∷ ks) end bytes ≡ Ok (t ∷ ts, rest)
unfolding operands_at
operands_step inner end k ks t ts bytes after rest h o = rw (h, o) refl

operands_end : (inner : Reader) (end : ℕ) (b rest : List ℕ) → b ≡ [] → operands_at inner [] end (b ++ rest) ≡ Ok ([], rest)
unfolding operands_at
operands_end inner end b rest e = rw e refl

mutual
  unfolding form_by

  pub form_complete : (grammar : Grammar) (t : TermTree) (level : ℕ) (p : Place) (end : ℕ) (b rest : List ℕ) → Allowed grammar.loads p t → Spells grammar t b
      → height t ≤ suc level → Leads grammar level p end (b ++ rest) t rest
  form_complete grammar (int i) level p end b rest a h le =
      let o = int_opens i end b rest h in
      (o.0, o.1, constant_made (form_of i) end i o.0 rest o.2)
  form_complete grammar (str text) level p end b rest a (x, spells, whole) le =
      let is : b ++ rest ≡ 0x0D ∷ (text ++ 0 ∷ rest) = ap (λ (b : List ℕ). b ++ rest) (whole ∙ ap (λ (x : List ℕ). 0x0D ∷ x) spells.1)
      ∙ ap (λ (l : List ℕ). 0x0D ∷ l) (append_assoc text (0 ∷ []) rest) in
      rw is (text ++ 0 ∷ rest, opens end opcodes.Str (text ++ 0 ∷ rest) refl, string_made end text (text ++ 0 ∷ rest) rest (string_complete end text rest spells.0))
  form_complete grammar (buffer size content) level p end b rest a (s, here, hs, packs) le =
      let is = front_is (0x11 ∷ []) b packs.len (s ++ content) rest packs.whole in
      let al = allowed_at grammar Value size s here hs in
      let i = term_made grammar level Value (end - length rest) (s ++ content) size content al (omega arith) (λ l k. form_complete grammar size l Value (end - length rest) s content al hs k) in
      rw is (
        packs.len ++ ((s ++ content) ++ rest),
        opens end opcodes.Buffer (packs.len ++ ((s ++ content) ++ rest)) refl,
        buffer_made (term_at grammar level) end size s content packs.len rest i packs.spells_len,
      )
  form_complete grammar (pkg count es) level p end b rest a (x, hs, packs) le =
      let is = front_is (0x12 ∷ []) b packs.len (count ∷ x) rest packs.whole in
      let all = elements_complete grammar es level (end - length rest) x hs (omega arith) in
      rw is (
        packs.len ++ ((count ∷ x) ++ rest),
        opens end opcodes.Package (packs.len ++ ((count ∷ x) ++ rest)) refl,
        package_made (term_at grammar level) end count (listed es) x packs.len rest
            (all_at (term_at grammar level Element (end - length rest)) x (listed es) all) packs.spells_len
            ∙ ap (λ ts. Ok (pkg count ts, rest)) (terms_of-listed es),
      )
  form_complete grammar (var_pkg count es) level p end b rest a (s, x, here, hc, hs, packs) le =
      let is = front_is (0x13 ∷ []) b packs.len (s ++ x) rest packs.whole in
      let al = allowed_at grammar Value count s here hc in
      let i = term_made grammar level Value (end - length rest) (s ++ x) count x al (omega arith) (λ l k. form_complete grammar count l Value (end - length rest) s x al hc k) in
      let all = elements_complete grammar es level (end - length rest) x hs (omega arith) in
      rw is (
        packs.len ++ ((s ++ x) ++ rest),
        opens end opcodes.VarPackage (packs.len ++ ((s ++ x) ++ rest)) refl,
        var_package_made (term_at grammar level) end count (listed es) s x packs.len rest i
            (all_at (term_at grammar level Element (end - length rest)) x (listed es) all) packs.spells_len
            ∙ ap (λ ts. Ok (var_pkg count ts, rest)) (terms_of-listed es),
      )
  form_complete grammar (local n) level p end b rest a h le = rw h.0 (rest, opens end (opcodes.Local n) rest (lt-ltb n 8 (omega (arith, h.1))), refl)
  form_complete grammar (arg n) level p end b rest a h le = rw h.0 (rest, opens end (opcodes.Arg n) rest (lt-ltb n 7 (omega (arith, h.1))), refl)
  form_complete grammar debug level p end b rest a h le = rw h (rest, opens end opcodes.Debug rest refl, refl)
  form_complete grammar (ref n) level p end b rest a h le =
      let l = name_leads end n b rest h in
      (l.0, l.1, ref_made grammar.args (term_at grammar level) p end n b rest a.suits h)
  form_complete grammar (call n vs) level p end b rest a (count, w, x, sure, spells, hs, whole) le =
      let is : b ++ rest ≡ w ++ (x ++ rest) = ap (λ (b : List ℕ). b ++ rest) whole ∙ append_assoc w x rest in
      let o = operands_complete grammar (values count) vs level end x rest hs (omega arith) in
      let l = name_leads end n w (x ++ rest) spells in
      rw is (l.0, l.1, call_made grammar.args (term_at grammar level) p end n count (listed vs) w (x ++ rest) rest a.suits spells sure o ∙ ap (λ ts. Ok (call n ts, rest)) (terms_of-listed vs))
  form_complete grammar (apply op vs) level p end b rest a (x, allowed, hs, whole) le =
      let is : b ++ rest ≡ operator_bytes op ++ (x ++ rest) = ap (λ (b : List ℕ). b ++ rest) whole ∙ append_assoc (operator_bytes op) x rest in
      let o = operands_complete grammar (operands_of op) vs level end x rest hs (omega arith) in (
        x ++ rest,
        ap (opcode_at end) is ∙ opens end (opcodes.Operator op) (x ++ rest) refl,
        operator_made (term_at grammar level) op end (listed vs) (x ++ rest) rest o ∙ ap (λ ts. Ok (apply op ts, rest)) (terms_of-listed vs),
      )
  form_complete grammar no_target level p end b rest a h le = absurd a.suits
  form_complete grammar (raw k n) level p end b rest a h le = absurd a.suits
  form_complete grammar _ level p end b rest a h le = absurd h

  pub operands_complete : (grammar : Grammar) (ks : List OperandKind) (ts : TermTrees) (level end : ℕ) (b rest : List ℕ) → AreOperands grammar ks ts b
      → heights ts ≤ level → operands_at (term_at grammar level) ks end (b ++ rest) ≡ Ok (listed ts, rest)
  operands_complete grammar [] no_terms level end b rest h le = operands_end (term_at grammar level) end b rest h
  operands_complete grammar (k ∷ ks) no_terms level end b rest h le = absurd h
  operands_complete grammar [] (more t ts) level end b rest h le = absurd h
  operands_complete grammar (k ∷ ks) (more t ts) level end b rest (x, y, st, hx, hy, whole) le =
      let is : b ++ rest ≡ x ++ (y ++ rest) = ap (λ (b : List ℕ). b ++ rest) whole ∙ append_assoc x y rest in
      let one = operand_complete grammar level end k t x (y ++ rest) (λ p here. let al = allowed_at grammar p t x here hx in term_made grammar level p end
      (x ++ (y ++ rest)) t (y ++ rest) al (omega arith) (λ l j. form_complete grammar t l p end x (y ++ rest) al hx j)) st hx in
      rw is (operands_step (term_at grammar level) end k ks t (listed ts) (x ++ (y ++ rest)) (y ++ rest) rest one (operands_complete grammar ks ts level end y rest hy (omega arith)))

  elements_complete : (grammar : Grammar) (ts : TermTrees) (level end : ℕ) (b : List ℕ) → AreElements grammar ts b → heights ts ≤ level → AreAll (term_at grammar level Element end) b (listed ts)
  elements_complete grammar no_terms level end b h le = none_left (term_at grammar level Element end) b h
  elements_complete grammar (more t ts) level end b (x, y, st, hx, hy, whole) le =
      let al = allowed_at grammar Element t x st hx in
      rw whole (one_more (term_at grammar level Element end) x y t (listed ts) (spelled_long grammar Element t x al.suits hx)
      (term_made grammar level Element end (x ++ y) t y al (omega arith) (λ l j. form_complete grammar t l Element end x y al hx j)) (elements_complete grammar ts level end y hy (omega arith)))

pub term_complete : (grammar : Grammar) (t : TermTree) (level : ℕ) (p : Place) (end : ℕ) (b rest : List ℕ) → Stands p t → Spells grammar t b
    → height t ≤ level → term_at grammar level p end (b ++ rest) ≡ Ok (t, rest)
term_complete grammar t level p end b rest st h le =
    let al = allowed_at grammar p t b st h in
    term_made grammar level p end (b ++ rest) t rest al le (λ l k. form_complete grammar t l p end b rest al h k)
