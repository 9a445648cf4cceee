-- What is read is spelled so, or the bytes fail by its fault, and where they fail reading stops so: plain nodes.
use Rattle.std.proofs.Common.{◌≡◌, ◌⊎◌, ℕ, suc, ◌≤◌, ◌<◌, Bool, true, false, ltb, ◌&&◌, cond, List, [], ◌∷◌, ◌++◌, length, Option, Some, None, Result, Ok, Err, refl, sym, ap, subst, ◌∙◌, append_assoc, arith, inl, inr}
use Rattle.std.specs.Prelude.{is_none}
use Rattle.std.proofs.lemmas.List.{length-append}
use Rattle.std.proofs.lemmas.Bool.{lt-ltb, ltb-true, ltb-false}
use Rattle.acpi_name.specs.Names.{NameParts}
use Rattle.acpi_name.specs.Spelling.{SpellsName}
use Rattle.acpi_tree.specs.declared.place.Place.{Place}
use Rattle.acpi_tree.specs.declared.place.Place.TheVariants.{Value, SuperName, Statement}
use Rattle.acpi_tree.specs.declared.place.OperandKind.{OperandKind}
use Rattle.acpi_tree.specs.declared.place.OperandKind.TheVariants.{At}
use Rattle.acpi_tree.specs.declared.place.NamedForm.{NamedForm}
use Rattle.acpi_tree.specs.declared.place.NamedForm.TheVariants as named
use Rattle.acpi_tree.specs.Terms.{TermTree, TermTrees, int, str, local, arg, debug, declare, no_terms, more, terms_of}
use Rattle.acpi_code.specs.declared.fault.CodeFault.{CodeFault}
use Rattle.acpi_code.specs.declared.opcode.Opcode.{Opcode}
use Rattle.acpi_code.specs.declared.opcode.Opcode.TheVariants as opcodes
use Rattle.acpi_code.specs.Faults.{Failure, FailsBehind, FailsInTurn, FailsNumber, FailsName}
use Rattle.acpi_code.specs.Forms.{named_opcode}
use Rattle.acpi_code.specs.Opcodes.{opcode_bytes}
use Rattle.acpi_code.specs.Spelling.{SpellsByte}
use Rattle.acpi_code.specs.steps.Opcodes.{is_spelled}
use Rattle.acpi_code.specs.steps.Reading.{◌>>=◌, Reading, byte_at, name_in, opcode_at}
use Rattle.acpi_code.proofs.Exact.{turn_judged, turn_stops, fails_behind}
use Rattle.acpi_code.proofs.Lists.{fails_on, reads_on}
use Rattle.acpi_code.proofs.Opcodes.{Opened}
use Rattle.acpi_code.proofs.Readings.{Judge, judge_bind, judge_into, judge_if, Front}
use Rattle.acpi_values.specs.Faults.{IsTermAt, AreOperandsIn}
use Rattle.acpi_values.specs.Grammars.{Grammar}
use Rattle.acpi_values.specs.Refusals.{refusal_at}
use Rattle.acpi_values.specs.Spelling.{Stands, Spells, height, heights}
use Rattle.acpi_values.specs.steps.Reading.{operands_at, term_at}
use Rattle.acpi_values.proofs.Allowed.{lead_of, Suits, allowed_at}
use Rattle.acpi_values.proofs.Declarations.{named_long}
use Rattle.acpi_values.proofs.TermComplete.{spelled_long, form_complete}
use Rattle.acpi_values.proofs.TermExact.{is_block, are_inner}
use Rattle.acpi_outline.specs.declared.fault.LostFault.{LostFault}
use Rattle.acpi_outline.specs.declared.fault.LostReason.TheVariants.{NoNode, ManyArguments}
use Rattle.acpi_outline.specs.Nodes.{PlainTree, term, external, alias, table_region}
use Rattle.acpi_outline.specs.Rules.{Rules, grammar_at}
use Rattle.acpi_outline.specs.Spelling.{operands_first, operands_after, is_stray, SpellsPlain, first_heights, plain_height, AreFirst}
use Rattle.acpi_outline.specs.Faults.{fault_at, FailsPart, FailsNamed, FailsTermAt, FailsInOrder, FailsFirst, FailsDeclared, FailsCount, FailsExternal, place_of, FailsPlain}
use Rattle.acpi_outline.specs.steps.Reading.{part, of_term, first_in, named_in, external_in, term_in, alias_in, table_region_in, plain_by, packed_form}
use Rattle.acpi_outline.proofs.Parts.{name_part, byte_part, named_judged, named_stops, terms_part, term_here_judged, term_here_stops}
use Rattle.acpi_outline.proofs.Sources.{source_low, exact_first}

abbrev read_opcode : Opcode × List ℕ → Reading CodeFault Opcode
read_opcode x = Ok x

same_opcode : (x y : Opcode × List ℕ) → read_opcode x ≡ read_opcode y → x ≡ y
same_opcode x y e = cc

pub record Spelled {S : Type 0} (r : Rules S) (level : ℕ) (known : S) (p : PlainTree) (bytes : List ℕ) : Type 0 where
  pub spells : SpellsPlain r known p bytes
  pub within : plain_height p ≤ suc level
  pub long : 0 < length bytes

firsts_low : (vs : TermTrees) → first_heights vs ≤ heights vs
firsts_low no_terms = omega arith
firsts_low (more v vs) = omega (arith, source_low v)

plain_low : (t : TermTree) → plain_height (term t) ≤ height t
plain_low (declare form before n behind) = omega (arith, firsts_low before)
plain_low _ = omega arith

after_inner : (form : NamedForm) → are_inner (operands_after form) ≡ true
after_inner named.Name = refl
after_inner _ = refl

-- what has no effect begins with an opcode of its own
abbrev is_stray_lead : Opcode → Bool
is_stray_lead (opcodes.Constant form) = true
is_stray_lead opcodes.Str = true
is_stray_lead (opcodes.Local n) = true
is_stray_lead (opcodes.Arg n) = true
is_stray_lead opcodes.Debug = true
is_stray_lead _ = false

stray_by_lead : (t : TermTree) → is_stray t ≡ is_stray_lead (lead_of t)
stray_by_lead (int i) = refl
stray_by_lead _ = refl

stray_suits : (t : TermTree) → is_stray t ≡ true → Suits Value t
stray_suits (int i) st = tt
stray_suits (str text) st = tt
stray_suits (local n) st = tt
stray_suits (arg n) st = tt
stray_suits debug st = tt
stray_suits _ st = absurd cc

stray_long : (grammar : Grammar) (t : TermTree) (b : List ℕ) → is_stray t ≡ true → Spells grammar t b → 0 < length b
stray_long grammar t b st h = spelled_long grammar Value t b (stray_suits t st) h

term_long : (grammar : Grammar) (t : TermTree) (b : List ℕ) → Stands Statement t ⊎ (is_stray t ≡ true) → Spells grammar t b → 0 < length b
term_long grammar t b (inl st) h = spelled_long grammar Statement t b (allowed_at grammar Statement t b st h).suits h
term_long grammar t b (inr st) h = stray_long grammar t b st h

-- a spelling has a byte or more
pub plain_long : {S : Type 0} (r : Rules S) (known : S) (p : PlainTree) (b : List ℕ) → SpellsPlain r known p b → 0 < length b
plain_long r known (term (declare form before n behind)) b (x, a, c, hb, hn, ho, whole) =
    omega (arith, ap length whole, length-append (opcode_bytes (named_opcode form)) (x ++ (a ++ c)), named_long form)
plain_long r known (term t) b h = term_long (grammar_at r known) t b h.0 h.1
plain_long r known (external x) b h = rw h.2 (omega arith)
plain_long r known (alias source n) b (x, y, hs, hn, whole) = rw whole (omega arith)
plain_long r known (table_region n vs) b (x, y, hn, ho, whole) = rw whole (omega arith)

pub opened : (o : Opcode) (bytes rest : List ℕ) → (k : Opened bytes (o, rest)) → k.front ≡ opcode_bytes o → bytes ≡ opcode_bytes o ++ rest
opened o bytes rest k e = k.whole ∙ ap (λ (l : List ℕ). l ++ rest) e

-- what fails behind an opcode
pub behind_judged : {A F : Type 0} (op : List ℕ) (Fails : Failure F) (Good : A → Type 0) (end : ℕ) (bytes rest : List ℕ) (q : Result A F)
    → bytes ≡ op ++ rest → Judge Good (Fails end rest) q → Judge Good (FailsBehind op Fails end bytes) q
behind_judged op Fails Good end bytes rest (Ok x) is h = h
behind_judged op Fails Good end bytes rest (Err f) is h = (rest, is, h)

named_is_spelled : (form : NamedForm) → is_spelled (named_opcode form) ≡ true
named_is_spelled named.Name = refl
named_is_spelled (named.Create w) = refl
named_is_spelled named.CreateField = refl
named_is_spelled named.Region = refl
named_is_spelled named.Mutex = refl
named_is_spelled named.Event = refl

-- ---- the number of an External's arguments

abbrev read_byte : ℕ → List ℕ → Reading LostFault ℕ
read_byte b rest = Ok (b, rest)

count_stops : {B : Type 0} (end : ℕ) (bytes : List ℕ) (f : LostFault) (k : ℕ × List ℕ → Result B LostFault) → FailsCount end bytes f
    → (part (byte_at end bytes) >>= λ args. cond (ltb 7 args.0) (Err (fault_at end bytes ManyArguments)) (k args)) ≡ Err f
unfolding byte_at
count_stops end bytes f k (inl h) = fails_on f (part (byte_at end bytes)) _ (byte_part.stops end bytes f h)
count_stops end bytes f k (inr (count, rest, is, many, fault)) =
    let test : ltb 7 count ≡ true = lt-ltb 7 count many in
    let read : part (byte_at end bytes) ≡ read_byte count rest = ap (λ (l : List ℕ). part (byte_at end l)) is in
    reads_on (part (byte_at end bytes)) (count, rest) _ read ∙ rw test (ap Err (sym fault))

module _ {S : Type 0} (r : Rules S) (level : ℕ) (known : S) where
  abbrev pub Plain : List ℕ → PlainTree × List ℕ → Type 0
  Plain bytes x = Front (Spelled r level known) bytes x

  -- ---- declarations

  abbrev After : NamedForm → Failure LostFault
  After form = FailsInOrder r level known (operands_after form)

  named_judged_by : (form : NamedForm) (end : ℕ) (bytes rest : List ℕ) → bytes ≡ opcode_bytes (named_opcode form) ++ rest
      → Judge (Plain bytes) (FailsInTurn (FailsFirst r level known (operands_first form)) (AreFirst r level known (operands_first form)) (λ vs. FailsNamed (After form)) end rest) (named_in r level known form end rest)
  unfolding named_in
  named_judged_by form end bytes rest is =
      let g = grammar_at r known in
      let op = opcode_bytes (named_opcode form) in
      let ks = operands_first form in
      turn_judged (AreFirst r level known ks) (FailsFirst r level known ks) (λ vs. FailsNamed (After form)) (first_in r level known form) (Plain bytes) end rest _ (exact_first r level known form) (λ us u.
      named_judged (After form) (Plain bytes) end us.1 _ (λ n f.
      judge_bind (Front (AreOperandsIn g level (operands_after form)) n.1) (Plain bytes) (After form end n.1) (of_term (operands_at (term_at g level) (operands_after form) end n.1)) _
      ((terms_part r level known (operands_after form) (after_inner form)).judged end n.1) (λ vs o.
      let front = u.front ++ (f.front ++ o.front) in
      let back : rest ≡ front ++ vs.1 = u.whole ∙ ap (λ (l : List ℕ). u.front ++ l) (f.whole ∙ ap (λ (l : List ℕ). f.front ++ l) o.whole) ∙ simp append_assoc in
      record {
        front = op ++ front;
        spells = record {
          spells = (u.front, f.front, o.front, u.spells.0, f.spells, o.spells.0, refl);
          within = omega (arith, u.spells.1, o.spells.1);
          long = omega (arith, named_long form, length-append op front);
        };
        whole = is ∙ ap (λ (l : List ℕ). op ++ l) back ∙ sym (append_assoc op front vs.1);
      })))

  declared_judged : (form : NamedForm) (end : ℕ) (bytes rest : List ℕ) → bytes ≡ opcode_bytes (named_opcode form) ++ rest
      → Judge (Plain bytes) (FailsDeclared r level known form end bytes) (named_in r level known form end rest)
  declared_judged form end bytes rest is =
      behind_judged (opcode_bytes (named_opcode form)) (FailsInTurn (FailsFirst r level known (operands_first form)) (AreFirst r level known (operands_first form)) (λ vs. FailsNamed (After form))) (Plain bytes) end bytes rest (named_in r level known form end rest) is
      (named_judged_by form end bytes rest is)

  named_stops_by : (form : NamedForm) (end : ℕ) (rest : List ℕ) (f : LostFault)
      → FailsInTurn (FailsFirst r level known (operands_first form)) (AreFirst r level known (operands_first form)) (λ vs. FailsNamed (After form)) end rest f → named_in r level known form end rest ≡ Err f
  unfolding named_in
  named_stops_by form end rest f h =
      let g = grammar_at r known in
      let ks = operands_first form in
      turn_stops (AreFirst r level known ks) (FailsFirst r level known ks) (λ vs. FailsNamed (After form)) (first_in r level known form) end rest _ f (exact_first r level known form) (λ us b.
      named_stops (After form) end b _ f (λ n c k.
      fails_on f (of_term (operands_at (term_at g level) (operands_after form) end c)) _ ((terms_part r level known (operands_after form) (after_inner form)).stops end c f k))) h

  declared_stops : (form : NamedForm) (end : ℕ) (bytes rest : List ℕ) (f : LostFault) → opcode_at end bytes ≡ Ok (named_opcode form, rest)
      → FailsDeclared r level known form end bytes f → named_in r level known form end rest ≡ Err f
  declared_stops form end bytes rest f e h =
      named_stops_by form end rest f
      (fails_behind (FailsInTurn (FailsFirst r level known (operands_first form)) (AreFirst r level known (operands_first form)) (λ vs. FailsNamed (After form))) (named_opcode form) end bytes rest f (named_is_spelled form) e h)

  -- ---- an External

  external_judged : (end : ℕ) (bytes rest : List ℕ) → bytes ≡ 0x15 ∷ rest → Judge (Plain bytes) (FailsExternal end rest) (external_in end rest)
  unfolding external_in
  external_judged end bytes rest is =
      named_judged (FailsInTurn (FailsPart (FailsNumber 1)) SpellsByte (λ kind. FailsCount)) (Plain bytes) end rest _ (λ n f.
      turn_judged SpellsByte (FailsPart (FailsNumber 1)) (λ kind. FailsCount) (λ end bytes. part (byte_at end bytes)) (Plain bytes) end n.1 _ byte_part (λ kind k.
      judge_bind (Front SpellsByte kind.1) (Plain bytes) (FailsCount end kind.1) (part (byte_at end kind.1)) _
      (judge_into (Front SpellsByte kind.1) (Front SpellsByte kind.1) (FailsPart (FailsNumber 1) end kind.1) (FailsCount end kind.1) (part (byte_at end kind.1)) (λ x t. t) (λ g b. inl b) (byte_part.judged end kind.1)) (λ args a.
      let args_is : kind.1 ≡ args.0 ∷ args.1 = a.whole ∙ ap (λ (l : List ℕ). l ++ args.1) a.spells in
      let kind_is : n.1 ≡ kind.0 ∷ kind.1 = k.whole ∙ ap (λ (l : List ℕ). l ++ kind.1) k.spells in
      judge_if (Plain bytes) (FailsCount end kind.1) (ltb 7 args.0) _ _
      (λ many. inr (args.0, args.1, args_is, ltb-true 7 args.0 many, refl))
      (λ few.
      let low : args.0 ≤ 7 = ltb-false 7 args.0 few in
      let two = kind.0 ∷ args.0 ∷ [] in
      record {
        front = 0x15 ∷ (f.front ++ two);
        spells = record {
          spells = (f.front ++ two, (f.front, two, f.spells, (kind.0 ∷ [], args.0 ∷ [], refl, (args.0 ∷ [], [], (low, refl), refl, refl), refl), refl), refl);
          within = omega arith;
          long = omega arith;
        };
        whole = is ∙ ap (λ (l : List ℕ). 0x15 ∷ l) (f.whole ∙ ap (λ (l : List ℕ). f.front ++ l) (kind_is ∙ ap (λ (l : List ℕ). kind.0 ∷ l) args_is)
            ∙ sym (append_assoc f.front two args.1));
      }))))

  external_stops : (end : ℕ) (rest : List ℕ) (f : LostFault) → FailsExternal end rest f → external_in end rest ≡ Err f
  unfolding external_in
  external_stops end rest f h =
      named_stops (FailsInTurn (FailsPart (FailsNumber 1)) SpellsByte (λ kind. FailsCount)) end rest _ f (λ n b k.
      turn_stops SpellsByte (FailsPart (FailsNumber 1)) (λ kind. FailsCount) (λ end bytes. part (byte_at end bytes)) end b _ f byte_part (λ kind c count.
      count_stops end c f _ count) k) h

  -- ---- an Alias, a region that is a table

  alias_judged : (end : ℕ) (bytes rest : List ℕ) → bytes ≡ 0x06 ∷ rest → Judge (Plain bytes) (FailsNamed (FailsPart FailsName) end rest) (alias_in end rest)
  unfolding alias_in
  alias_judged end bytes rest is =
      named_judged (FailsPart FailsName) (Plain bytes) end rest _ (λ n f.
      judge_bind (Front SpellsName n.1) (Plain bytes) (FailsPart FailsName end n.1) (part (name_in end n.1)) _ (name_part.judged end n.1) (λ m g. record {
        front = 0x06 ∷ (f.front ++ g.front);
        spells = record { spells = (f.front, g.front, f.spells, g.spells, refl); within = omega arith; long = omega arith };
        whole = is ∙ ap (λ (l : List ℕ). 0x06 ∷ l) (f.whole ∙ ap (λ (l : List ℕ). f.front ++ l) g.whole ∙ sym (append_assoc f.front g.front m.1));
      }))

  alias_stops : (end : ℕ) (rest : List ℕ) (f : LostFault) → FailsNamed (FailsPart FailsName) end rest f → alias_in end rest ≡ Err f
  unfolding alias_in
  alias_stops end rest f h = named_stops (FailsPart FailsName) end rest _ f (λ n b k. fails_on f (part (name_in end b)) _ (name_part.stops end b f k)) h

  abbrev three : List OperandKind
  three = At Value ∷ At Value ∷ At Value ∷ []

  region_judged : (end : ℕ) (bytes rest : List ℕ) → bytes ≡ 0x5B ∷ 0x88 ∷ rest → Judge (Plain bytes) (FailsNamed (FailsInOrder r level known three) end rest) (table_region_in r level known end rest)
  unfolding table_region_in
  region_judged end bytes rest is =
      let g = grammar_at r known in
      named_judged (FailsInOrder r level known three) (Plain bytes) end rest _ (λ n f.
      judge_bind (Front (AreOperandsIn g level three) n.1) (Plain bytes) (FailsInOrder r level known three end n.1) (of_term (operands_at (term_at g level) three end n.1)) _
      ((terms_part r level known three refl).judged end n.1) (λ vs o. record {
        front = 0x5B ∷ 0x88 ∷ (f.front ++ o.front);
        spells = record { spells = (f.front, o.front, f.spells, o.spells.0, refl); within = omega (arith, o.spells.1); long = omega arith };
        whole = is ∙ ap (λ (l : List ℕ). 0x5B ∷ 0x88 ∷ l) (f.whole ∙ ap (λ (l : List ℕ). f.front ++ l) o.whole ∙ sym (append_assoc f.front o.front vs.1));
      }))

  region_stops : (end : ℕ) (rest : List ℕ) (f : LostFault) → FailsNamed (FailsInOrder r level known three) end rest f → table_region_in r level known end rest ≡ Err f
  unfolding table_region_in
  region_stops end rest f h =
      let g = grammar_at r known in
      named_stops (FailsInOrder r level known three) end rest _ f (λ n b k. fails_on f (of_term (operands_at (term_at g level) three end b)) _ ((terms_part r level known three refl).stops end b f k)) h

  -- ---- a term as one stands at a place

  as_plain : (t : TermTree) (a : List ℕ) → Stands Statement t ⊎ (is_stray t ≡ true) → Spells (grammar_at r known) t a → SpellsPlain r known (term t) a
  as_plain (declare form before n behind) a h k = absurd k
  as_plain _ a h k = (h, k)

  -- which is a plain node by its opcode
  term_judged : (place : Place) (end : ℕ) (bytes rest : List ℕ) (x : Opcode) → is_block x ≡ false
      → ((t : TermTree) → Stands place t → lead_of t ≡ x → Stands Statement t ⊎ (is_stray t ≡ true)) → opcode_at end bytes ≡ Ok (x, rest)
      → Judge (Plain bytes) (FailsTermAt r (suc level) known place end bytes) (term_in r level known place end bytes)
  unfolding term_in
  term_judged place end bytes rest x clear suits e =
      let g = grammar_at r known in
      judge_bind (Front (IsTermAt g (suc level) place) bytes) (Plain bytes) (FailsTermAt r (suc level) known place end bytes) (of_term (term_at g (suc level) place end bytes)) _
      (term_here_judged r level known place end bytes rest x clear e)
      (λ t k.
      let f = form_complete g t.0 level place end k.front t.1 (allowed_at g place t.0 k.front k.spells.0 k.spells.1) k.spells.1 k.spells.2 in
      let same : (lead_of t.0, f.0) ≡ (x, rest) = same_opcode (lead_of t.0, f.0) (x, rest) (sym f.1 ∙ ap (opcode_at end) (sym k.whole) ∙ e) in
      record {
        front = k.front;
        spells = record {
          spells = as_plain t.0 k.front (suits t.0 k.spells.0 (ap (λ (y : Opcode × List ℕ). y.0) same)) k.spells.1;
          within = omega (arith, k.spells.2, plain_low t.0);
          long = spelled_long g place t.0 k.front (allowed_at g place t.0 k.front k.spells.0 k.spells.1).suits k.spells.1;
        };
        whole = k.whole;
      })

  abbrev AtPlace : Option Place → ℕ → List ℕ → LostFault → Type 0
  AtPlace o end bytes f = (p : Place) × (o ≡ Some p) × FailsTermAt r (suc level) known p end bytes f

  at_place : (place : Place) (end : ℕ) (bytes : List ℕ) → Judge (Plain bytes) (FailsTermAt r (suc level) known place end bytes) (term_in r level known place end bytes)
      → Judge (Plain bytes) (AtPlace (Some place) end bytes) (term_in r level known place end bytes)
  at_place place end bytes h =
      judge_into (Plain bytes) (Plain bytes) (FailsTermAt r (suc level) known place end bytes) (AtPlace (Some place) end bytes) (term_in r level known place end bytes) (λ x g. g) (λ f b. (place, refl, b)) h

  statement_judged : (end : ℕ) (bytes rest : List ℕ) (x : Opcode) → is_block x ≡ false → opcode_at end bytes ≡ Ok (x, rest)
      → Judge (Plain bytes) (AtPlace (Some Statement) end bytes) (term_in r level known Statement end bytes)
  statement_judged end bytes rest x clear e = at_place Statement end bytes (term_judged Statement end bytes rest x clear (λ t st lead. inl st) e)

  stray_judged : (place : Place) (end : ℕ) (bytes rest : List ℕ) (x : Opcode) → is_block x ≡ false → is_stray_lead x ≡ true → opcode_at end bytes ≡ Ok (x, rest)
      → Judge (Plain bytes) (AtPlace (Some place) end bytes) (term_in r level known place end bytes)
  stray_judged place end bytes rest x clear stray e =
      at_place place end bytes (term_judged place end bytes rest x clear (λ t st lead. inr (stray_by_lead t ∙ ap is_stray_lead lead ∙ stray)) e)

  term_stops : (place : Place) (end : ℕ) (bytes : List ℕ) (f : LostFault) → AtPlace (Some place) end bytes f → term_in r level known place end bytes ≡ Err f
  unfolding term_in
  term_stops place end bytes f (p, is, h) =
      let same : p ≡ place = cc in
      fails_on f (of_term (term_at (grammar_at r known) (suc level) place end bytes)) _
      (term_here_stops r level known place end bytes f (subst (λ q. FailsTermAt r (suc level) known q end bytes f) same h))

  -- ---- by what begins there

  pub plain_judged : (end : ℕ) (bytes rest : List ℕ) (x : Opcode) → packed_form x ≡ None → opcode_at end bytes ≡ Ok (x, rest) → Opened bytes (x, rest)
      → Judge (Plain bytes) (FailsPlain r level known x end bytes) (plain_by r level known end bytes x rest)
  plain_judged end bytes rest opcodes.DeclareName n e o = declared_judged named.Name end bytes rest (opened _ bytes rest o o.told.1)
  plain_judged end bytes rest opcodes.Region n e o = declared_judged named.Region end bytes rest (opened _ bytes rest o o.told.1)
  plain_judged end bytes rest opcodes.Mutex n e o = declared_judged named.Mutex end bytes rest (opened _ bytes rest o o.told.1)
  plain_judged end bytes rest opcodes.Event n e o = declared_judged named.Event end bytes rest (opened _ bytes rest o o.told.1)
  plain_judged end bytes rest (opcodes.Create w) n e o = declared_judged (named.Create w) end bytes rest (opened _ bytes rest o o.told.1)
  plain_judged end bytes rest opcodes.CreateField n e o = declared_judged named.CreateField end bytes rest (opened _ bytes rest o o.told.1)
  plain_judged end bytes rest opcodes.External n e o =
      let is = opened _ bytes rest o o.told.1 in
      behind_judged (0x15 ∷ []) FailsExternal (Plain bytes) end bytes rest (external_in end rest) is (external_judged end bytes rest is)
  plain_judged end bytes rest opcodes.Alias n e o =
      let is = opened _ bytes rest o o.told.1 in
      behind_judged (0x06 ∷ []) (FailsNamed (FailsPart FailsName)) (Plain bytes) end bytes rest (alias_in end rest) is (alias_judged end bytes rest is)
  plain_judged end bytes rest opcodes.DataRegion n e o =
      let is = opened _ bytes rest o o.told.1 in
      behind_judged (0x5B ∷ 0x88 ∷ []) (FailsNamed (FailsInOrder r level known three)) (Plain bytes) end bytes rest (table_region_in r level known end rest) is (region_judged end bytes rest is)
  plain_judged end bytes rest opcodes.Buffer n e o = statement_judged end bytes rest opcodes.Buffer refl e
  plain_judged end bytes rest opcodes.Package n e o = statement_judged end bytes rest opcodes.Package refl e
  plain_judged end bytes rest opcodes.VarPackage n e o = statement_judged end bytes rest opcodes.VarPackage refl e
  plain_judged end bytes rest opcodes.Name n e o = statement_judged end bytes rest opcodes.Name refl e
  plain_judged end bytes rest (opcodes.Operator op) n e o = statement_judged end bytes rest (opcodes.Operator op) refl e
  plain_judged end bytes rest (opcodes.Constant form) n e o = stray_judged Value end bytes rest (opcodes.Constant form) refl refl e
  plain_judged end bytes rest opcodes.Str n e o = stray_judged Value end bytes rest opcodes.Str refl refl e
  plain_judged end bytes rest (opcodes.Local k) n e o = stray_judged Value end bytes rest (opcodes.Local k) refl refl e
  plain_judged end bytes rest (opcodes.Arg k) n e o = stray_judged Value end bytes rest (opcodes.Arg k) refl refl e
  plain_judged end bytes rest opcodes.Debug n e o = stray_judged SuperName end bytes rest opcodes.Debug refl refl e
  plain_judged end bytes rest opcodes.Nothing n e o = refl
  plain_judged end bytes rest opcodes.Scope n e o = absurd cc
  plain_judged end bytes rest opcodes.Device n e o = absurd cc
  plain_judged end bytes rest opcodes.Processor n e o = absurd cc
  plain_judged end bytes rest opcodes.Power n e o = absurd cc
  plain_judged end bytes rest opcodes.Thermal n e o = absurd cc
  plain_judged end bytes rest opcodes.While n e o = absurd cc
  plain_judged end bytes rest opcodes.IndexField n e o = absurd cc
  plain_judged end bytes rest opcodes.BankField n e o = absurd cc
  plain_judged end bytes rest opcodes.Method n e o = absurd cc
  plain_judged end bytes rest opcodes.If n e o = absurd cc
  plain_judged end bytes rest opcodes.Else n e o = absurd cc
  plain_judged end bytes rest opcodes.Field n e o = absurd cc

  no_place : (end : ℕ) (bytes : List ℕ) (f : LostFault) → AtPlace None end bytes f → ⊥
  no_place end bytes f (p, is, h) = cc

  pub plain_stops : (end : ℕ) (bytes rest : List ℕ) (x : Opcode) (f : LostFault) → opcode_at end bytes ≡ Ok (x, rest) → FailsPlain r level known x end bytes f
      → plain_by r level known end bytes x rest ≡ Err f
  plain_stops end bytes rest opcodes.DeclareName f e h = declared_stops named.Name end bytes rest f e h
  plain_stops end bytes rest opcodes.Region f e h = declared_stops named.Region end bytes rest f e h
  plain_stops end bytes rest opcodes.Mutex f e h = declared_stops named.Mutex end bytes rest f e h
  plain_stops end bytes rest opcodes.Event f e h = declared_stops named.Event end bytes rest f e h
  plain_stops end bytes rest (opcodes.Create w) f e h = declared_stops (named.Create w) end bytes rest f e h
  plain_stops end bytes rest opcodes.CreateField f e h = declared_stops named.CreateField end bytes rest f e h
  plain_stops end bytes rest opcodes.External f e h = external_stops end rest f (fails_behind FailsExternal opcodes.External end bytes rest f refl e h)
  plain_stops end bytes rest opcodes.Alias f e h = alias_stops end rest f (fails_behind (FailsNamed (FailsPart FailsName)) opcodes.Alias end bytes rest f refl e h)
  plain_stops end bytes rest opcodes.DataRegion f e h = region_stops end rest f (fails_behind (FailsNamed (FailsInOrder r level known three)) opcodes.DataRegion end bytes rest f refl e h)
  plain_stops end bytes rest opcodes.Buffer f e h = term_stops Statement end bytes f h
  plain_stops end bytes rest opcodes.Package f e h = term_stops Statement end bytes f h
  plain_stops end bytes rest opcodes.VarPackage f e h = term_stops Statement end bytes f h
  plain_stops end bytes rest opcodes.Name f e h = term_stops Statement end bytes f h
  plain_stops end bytes rest (opcodes.Operator op) f e h = term_stops Statement end bytes f h
  plain_stops end bytes rest (opcodes.Constant form) f e h = term_stops Value end bytes f h
  plain_stops end bytes rest opcodes.Str f e h = term_stops Value end bytes f h
  plain_stops end bytes rest (opcodes.Local k) f e h = term_stops Value end bytes f h
  plain_stops end bytes rest (opcodes.Arg k) f e h = term_stops Value end bytes f h
  plain_stops end bytes rest opcodes.Debug f e h = term_stops SuperName end bytes f h
  plain_stops end bytes rest opcodes.Nothing f e h = ap Err (sym h)
  plain_stops end bytes rest opcodes.Scope f e h = absurd (no_place end bytes f h)
  plain_stops end bytes rest opcodes.Device f e h = absurd (no_place end bytes f h)
  plain_stops end bytes rest opcodes.Processor f e h = absurd (no_place end bytes f h)
  plain_stops end bytes rest opcodes.Power f e h = absurd (no_place end bytes f h)
  plain_stops end bytes rest opcodes.Thermal f e h = absurd (no_place end bytes f h)
  plain_stops end bytes rest opcodes.While f e h = absurd (no_place end bytes f h)
  plain_stops end bytes rest opcodes.IndexField f e h = absurd (no_place end bytes f h)
  plain_stops end bytes rest opcodes.BankField f e h = absurd (no_place end bytes f h)
  plain_stops end bytes rest opcodes.Method f e h = absurd (no_place end bytes f h)
  plain_stops end bytes rest opcodes.If f e h = absurd (no_place end bytes f h)
  plain_stops end bytes rest opcodes.Else f e h = absurd (no_place end bytes f h)
  plain_stops end bytes rest opcodes.Field f e h = absurd (no_place end bytes f h)

  -- it is no package
  pub plain_unpacked : (end : ℕ) (bytes : List ℕ) (x : Opcode) (f : LostFault) → FailsPlain r level known x end bytes f → packed_form x ≡ None
  plain_unpacked end bytes opcodes.Scope f h = absurd (no_place end bytes f h)
  plain_unpacked end bytes opcodes.Device f h = absurd (no_place end bytes f h)
  plain_unpacked end bytes opcodes.Processor f h = absurd (no_place end bytes f h)
  plain_unpacked end bytes opcodes.Power f h = absurd (no_place end bytes f h)
  plain_unpacked end bytes opcodes.Thermal f h = absurd (no_place end bytes f h)
  plain_unpacked end bytes opcodes.While f h = absurd (no_place end bytes f h)
  plain_unpacked end bytes opcodes.IndexField f h = absurd (no_place end bytes f h)
  plain_unpacked end bytes opcodes.BankField f h = absurd (no_place end bytes f h)
  plain_unpacked end bytes opcodes.Method f h = absurd (no_place end bytes f h)
  plain_unpacked end bytes opcodes.If f h = absurd (no_place end bytes f h)
  plain_unpacked end bytes opcodes.Else f h = absurd (no_place end bytes f h)
  plain_unpacked end bytes opcodes.Field f h = absurd (no_place end bytes f h)
  plain_unpacked end bytes _ f h = refl
