-- What stands before a declared name: it is read exactly where it is spelled, and reading stops exactly where it fails.
use Rattle.std.proofs.Common.{◌≡◌, ℕ, ◌≤◌, Bool, true, false, cond, List, [], ◌∷◌, ◌++◌, Result, Ok, Err, refl, sym, ap, ◌∙◌, append_assoc, arith, inl, inr}
use Rattle.acpi_name.specs.Names.{NameParts}
use Rattle.acpi_name.specs.Spelling.{SpellsName}
use Rattle.acpi_name.proofs.NameAgain.{name_long}
use Rattle.acpi_tree.specs.declared.place.Place.TheVariants.{Value}
use Rattle.acpi_tree.specs.declared.place.Place.TheVariants as places
use Rattle.acpi_tree.specs.declared.place.OperandKind.{OperandKind}
use Rattle.acpi_tree.specs.declared.place.OperandKind.TheVariants.{At}
use Rattle.acpi_tree.specs.declared.place.NamedForm.{NamedForm}
use Rattle.acpi_tree.specs.declared.place.NamedForm.TheVariants as named
use Rattle.acpi_tree.specs.Terms.{TermTree, TermTrees, int, str, local, arg, ref, no_terms, more, terms_of, buffer, pkg, var_pkg, apply}
use Rattle.acpi_code.specs.declared.fault.CodeFault.{CodeFault}
use Rattle.acpi_code.specs.declared.opcode.Opcode.{Opcode}
use Rattle.acpi_code.specs.declared.opcode.Opcode.TheVariants as opcodes
use Rattle.acpi_code.specs.Faults.{FailsName}
use Rattle.acpi_code.specs.Opcodes.{BeginsWith, is_name_start, is_name_opcode}
use Rattle.acpi_code.specs.Spelling.{SpellsTermName}
use Rattle.acpi_code.specs.steps.Reading.{name_in, opcode_at}
use Rattle.acpi_code.proofs.Exact.{Exact, turn_judged, turn_stops}
use Rattle.acpi_code.proofs.Lists.{fails_on}
use Rattle.acpi_code.proofs.Readings.{Judge, judge_bind, judge_into, judge_if, Front}
use Rattle.acpi_code.proofs.Names.{name_in_complete}
use Rattle.acpi_code.proofs.Opcodes.{opens_name}
use Rattle.acpi_values.specs.Grammars.{Grammar}
use Rattle.acpi_values.specs.Faults.{IsTermAt, AreOperandsIn}
use Rattle.acpi_values.specs.Spelling.{Stands, Spells, AreOperands, height}
use Rattle.acpi_values.specs.steps.Reading.{operands_at, term_at}
use Rattle.acpi_values.proofs.Allowed.{lead_of, allowed_at}
use Rattle.acpi_values.proofs.TermComplete.{form_complete, listed, operands_complete, term_complete}
use Rattle.acpi_values.proofs.TermExact.{are_inner}
use Rattle.acpi_outline.specs.declared.fault.LostFault.{LostFault}
use Rattle.acpi_outline.specs.Rules.{Rules, grammar_at}
use Rattle.acpi_outline.specs.Spelling.{operands_first, source_height, first_heights, IsSource, AreFirst}
use Rattle.acpi_outline.specs.Faults.{FailsPart, FailsTermAt, FailsInOrder, FailsSource, FailsFirst}
use Rattle.acpi_outline.specs.steps.Reading.{part, of_term, source_at, reference_in, source_in, sourced_in, first_in}
use Rattle.acpi_outline.proofs.Parts.{name_part, term_part, terms_part}

pub source_low : (v : TermTree) → source_height v ≤ height v
source_low (ref n) = omega arith
source_low _ = omega arith

-- ---- what is spelled is read

reference_made : (end : ℕ) (n : NameParts) (a rest : List ℕ) → SpellsName n a → reference_in end (a ++ rest) ≡ Ok (ref n, rest)
unfolding reference_in
reference_made end n a rest h = rw (name_in_complete end n a rest h) refl

named_source : {S : Type 0} (r : Rules S) (level : ℕ) (known : S) (end : ℕ) (n : NameParts) (a rest : List ℕ) → SpellsTermName n a
    → source_in r level known end (a ++ rest) ≡ Ok (ref n, rest)
named_source r level known end n [] rest h = absurd (omega (arith, name_long n [] h.0))
named_source r level known end n (b ∷ a) rest h = rw h.1 (reference_made end n (b ∷ a) rest h.0)

abbrev read_opcode : Opcode × List ℕ → Result (Opcode × List ℕ) CodeFault
read_opcode x = Ok x

abbrev names_of : Result (Opcode × List ℕ) CodeFault → Bool
names_of (Ok x) = is_name_opcode x.0
names_of (Err f) = false

-- another term begins with no name
starts_none : (end b : ℕ) (rest : List ℕ) (o : Opcode) (x : List ℕ) → is_name_opcode o ≡ false → opcode_at end (b ∷ rest) ≡ read_opcode (o, x) → is_name_start b ≡ false
starts_none end b rest o x other e = by_start (is_name_start b) refl
  where
    by_start : (t : Bool) → is_name_start b ≡ t → t ≡ false
    by_start false is = refl
    by_start true is =
        let same : read_opcode (opcodes.Name, rest) ≡ read_opcode (o, x) = sym (opens_name end b rest is) ∙ e in
        let names : is_name_opcode o ≡ true = ap (λ (y : Result (Opcode × List ℕ) CodeFault). names_of y) (sym same) in
        sym names ∙ other

other_source : {S : Type 0} (r : Rules S) (level : ℕ) (known : S) (end : ℕ) (v : TermTree) (bytes rest : List ℕ) (o : Opcode) (x : List ℕ)
    → is_name_opcode o ≡ false → opcode_at end bytes ≡ read_opcode (o, x) → source_at r level known end bytes ≡ Ok (v, rest)
    → source_in r level known end bytes ≡ Ok (v, rest)
other_source r level known end v [] rest o x other opens e = e
other_source r level known end v (b ∷ bytes) rest o x other opens e = rw (starts_none end b bytes o x other opens) e

-- a source that is no name
value_source : {S : Type 0} (r : Rules S) (level : ℕ) (known : S) (end : ℕ) (v : TermTree) (a rest : List ℕ) → Stands places.Source v → Spells (grammar_at r known) v a
    → height v ≤ level → is_name_opcode (lead_of v) ≡ false → source_in r level known end (a ++ rest) ≡ Ok (v, rest)
value_source r level known end v a rest st h le other =
    let grammar = grammar_at r known in
    let f = form_complete grammar v level places.Source end a rest (allowed_at grammar places.Source v a st h) h (omega (arith, le)) in
    other_source r level known end v (a ++ rest) rest (lead_of v) f.0 other f.1 (rw (term_complete grammar v level places.Source end a rest st h le) refl)

source_complete : {S : Type 0} (r : Rules S) (level : ℕ) (known : S) (end : ℕ) (v : TermTree) (a rest : List ℕ) → Stands places.Source v → Spells (grammar_at r known) v a
    → source_height v ≤ level → source_in r level known end (a ++ rest) ≡ Ok (v, rest)
source_complete r level known end (ref n) a rest st h le = named_source r level known end n a rest h
source_complete r level known end (int i) a rest st h le = value_source r level known end (int i) a rest st h le refl
source_complete r level known end (str text) a rest st h le = value_source r level known end (str text) a rest st h le refl
source_complete r level known end (buffer size content) a rest st h le = value_source r level known end (buffer size content) a rest st h le refl
source_complete r level known end (pkg count es) a rest st h le = value_source r level known end (pkg count es) a rest st h le refl
source_complete r level known end (var_pkg count es) a rest st h le = value_source r level known end (var_pkg count es) a rest st h le refl
source_complete r level known end (local n) a rest st h le = value_source r level known end (local n) a rest st h le refl
source_complete r level known end (arg n) a rest st h le = value_source r level known end (arg n) a rest st h le refl
source_complete r level known end (apply op vs) a rest st h le = value_source r level known end (apply op vs) a rest st h le refl
source_complete r level known end _ a rest st h le = absurd cc

sourced_made : {S : Type 0} (r : Rules S) (level : ℕ) (known : S) (ks : List OperandKind) (end : ℕ) (v : TermTree) (vs : List TermTree) (bytes y rest : List ℕ)
    → source_in r level known end bytes ≡ Ok (v, y) → operands_at (term_at (grammar_at r known) level) ks end y ≡ Ok (vs, rest)
    → sourced_in r level known ks end bytes ≡ Ok (v ∷ vs, rest)
unfolding sourced_in
sourced_made r level known ks end v vs bytes y rest e o = rw (e, o) refl

sourced_complete : {S : Type 0} (r : Rules S) (level : ℕ) (known : S) (ks : List OperandKind) (end : ℕ) (ts : TermTrees) (b rest : List ℕ)
    → AreOperands (grammar_at r known) (At places.Source ∷ ks) ts b → first_heights ts ≤ level → sourced_in r level known ks end (b ++ rest) ≡ Ok (listed ts, rest)
sourced_complete r level known ks end no_terms b rest h le = absurd h
sourced_complete r level known ks end (more t ts) b rest (x, y, st, ht, hs, whole) le =
    let is : b ++ rest ≡ x ++ (y ++ rest) = ap (λ (b : List ℕ). b ++ rest) whole ∙ append_assoc x y rest in
    let one = source_complete r level known end t x (y ++ rest) st ht (omega (arith, le)) in
    let others = operands_complete (grammar_at r known) ks ts level end y rest hs (omega (arith, le)) in
    rw is (sourced_made r level known ks end t (listed ts) (x ++ (y ++ rest)) (y ++ rest) rest one others)

abbrev read_terms : List TermTree × List ℕ → Result (List TermTree × List ℕ) LostFault
read_terms x = Ok x

none_first : (grammar : Grammar) (ts : TermTrees) (b rest : List ℕ) → AreOperands grammar [] ts b → read_terms ([], b ++ rest) ≡ read_terms (listed ts, rest)
none_first grammar no_terms b rest h = rw h refl
none_first grammar (more t ts) b rest h = absurd h

pub first_complete : {S : Type 0} (r : Rules S) (level : ℕ) (known : S) (form : NamedForm) (end : ℕ) (ts : TermTrees) (b rest : List ℕ)
    → AreOperands (grammar_at r known) (operands_first form) ts b → first_heights ts ≤ level → first_in r level known form end (b ++ rest) ≡ Ok (listed ts, rest)
first_complete r level known (named.Create w) end ts b rest h le = sourced_complete r level known (At Value ∷ []) end ts b rest h le
first_complete r level known named.CreateField end ts b rest h le = sourced_complete r level known (At Value ∷ At Value ∷ []) end ts b rest h le
first_complete r level known _ end ts b rest h le = none_first (grammar_at r known) ts b rest h

-- ---- exactly

listed_terms : (ts : List TermTree) → listed (terms_of ts) ≡ ts
listed_terms [] = refl
listed_terms (t ∷ ts) = ap (λ us. t ∷ us) (listed_terms ts)

module _ {S : Type 0} (r : Rules S) (level : ℕ) (known : S) where
  value_judged : (end : ℕ) (bytes : List ℕ) → Judge (Front (IsSource r level known) bytes) (FailsTermAt r level known places.Source end bytes) (source_at r level known end bytes)
  value_judged end bytes =
      judge_into (Front (IsTermAt (grammar_at r known) level places.Source) bytes) (Front (IsSource r level known) bytes) (FailsTermAt r level known places.Source end bytes) (FailsTermAt r level known places.Source end bytes)
      (source_at r level known end bytes)
      (λ v t. record { front = t.front; spells = (t.spells.0, t.spells.1, omega (arith, t.spells.2, source_low v.0)); whole = t.whole }) (λ f b. b)
      ((term_part r level known places.Source refl).judged end bytes)

  -- the name begins as these bytes do
  first_is : (b : ℕ) (rest front behind : List ℕ) (n : NameParts) → is_name_start b ≡ true → SpellsName n front → b ∷ rest ≡ front ++ behind → SpellsTermName n front
  first_is b rest [] behind n starts h whole = absurd (omega (arith, name_long n [] h))
  first_is b rest (c ∷ front) behind n starts h whole = let same : b ≡ c = cc in (h, rw (sym same) starts)

  reference_judged : (end b : ℕ) (rest : List ℕ) → is_name_start b ≡ true → Judge (Front (IsSource r level known) (b ∷ rest)) (FailsPart FailsName end (b ∷ rest)) (reference_in end (b ∷ rest))
  unfolding reference_in
  reference_judged end b rest starts =
      let bytes = b ∷ rest in
      judge_bind (Front SpellsName bytes) (Front (IsSource r level known) bytes) (FailsPart FailsName end bytes) (part (name_in end bytes)) _ (name_part.judged end bytes)
      (λ n t. record { front = t.front; spells = (refl, first_is b rest t.front n.1 n.0 starts t.spells t.whole, omega arith); whole = t.whole })

  no_name : (b : ℕ) (rest : List ℕ) → is_name_start b ≡ false → ¬ BeginsWith opcodes.Name (b ∷ rest)
  no_name b rest other starts = let both : true ≡ false = sym starts ∙ other in cc

  none_begins : ¬ BeginsWith opcodes.Name []
  none_begins starts = cc

  source_judged : (end : ℕ) (bytes : List ℕ) → Judge (Front (IsSource r level known) bytes) (FailsSource r level known end bytes) (source_in r level known end bytes)
  source_judged end [] =
      judge_into (Front (IsSource r level known) []) (Front (IsSource r level known) []) (FailsTermAt r level known places.Source end []) (FailsSource r level known end []) (source_at r level known end [])
      (λ v t. t) (λ f h. inr (none_begins, h)) (value_judged end [])
  source_judged end (b ∷ rest) =
      let bytes = b ∷ rest in
      let Good = Front (IsSource r level known) bytes in
      judge_if Good (FailsSource r level known end bytes) (is_name_start b) (reference_in end bytes) (source_at r level known end bytes)
      (λ starts. judge_into Good Good (FailsPart FailsName end bytes) (FailsSource r level known end bytes) (reference_in end bytes) (λ v t. t) (λ f h. inl (starts, h)) (reference_judged end b rest starts))
      (λ other. judge_into Good Good (FailsTermAt r level known places.Source end bytes) (FailsSource r level known end bytes) (source_at r level known end bytes) (λ v t. t) (λ f h. inr (no_name b rest other, h)) (value_judged end bytes))

  reference_stops : (end : ℕ) (bytes : List ℕ) (f : LostFault) → FailsPart FailsName end bytes f → reference_in end bytes ≡ Err f
  unfolding reference_in
  reference_stops end bytes f h = fails_on f (part (name_in end bytes)) _ (name_part.stops end bytes f h)

  value_stops : (end : ℕ) (bytes : List ℕ) (f : LostFault) → FailsTermAt r level known places.Source end bytes f → source_at r level known end bytes ≡ Err f
  value_stops end bytes f h = (term_part r level known places.Source refl).stops end bytes f h

  source_stops : (end : ℕ) (bytes : List ℕ) (f : LostFault) → FailsSource r level known end bytes f → source_in r level known end bytes ≡ Err f
  source_stops end [] f (inl h) = absurd (none_begins h.0)
  source_stops end [] f (inr h) = value_stops end [] f h.1
  source_stops end (b ∷ rest) f (inl h) = let starts : is_name_start b ≡ true = h.0 in rw starts (reference_stops end (b ∷ rest) f h.1)
  source_stops end (b ∷ rest) f (inr h) = by_start (is_name_start b) refl
    where
      by_start : (t : Bool) → is_name_start b ≡ t → cond t (reference_in end (b ∷ rest)) (source_at r level known end (b ∷ rest)) ≡ Err f
      by_start true starts = absurd (h.0 starts)
      by_start false other = value_stops end (b ∷ rest) f h.1

  exact_source : Exact (IsSource r level known) (FailsSource r level known) (source_in r level known)
  exact_source = record {
    found = λ end v a rest h. source_complete r level known end v a rest h.0 h.1 h.2;
    judged = source_judged;
    stops = source_stops;
  }

  sourced_judged : (ks : List OperandKind) (end : ℕ) (bytes : List ℕ) → are_inner ks ≡ true
      → Judge (Front (AreFirst r level known (At places.Source ∷ ks)) bytes) (FailsFirst r level known (At places.Source ∷ ks) end bytes) (sourced_in r level known ks end bytes)
  unfolding sourced_in
  sourced_judged ks end bytes ok =
      let g = grammar_at r known in
      let Good = Front (AreFirst r level known (At places.Source ∷ ks)) bytes in
      turn_judged (IsSource r level known) (FailsSource r level known) (λ v. FailsInOrder r level known ks) (source_in r level known) Good end bytes _ exact_source (λ v t.
      judge_bind (Front (AreOperandsIn g level ks) v.1) Good (FailsInOrder r level known ks end v.1) (of_term (operands_at (term_at g level) ks end v.1)) _
      ((terms_part r level known ks ok).judged end v.1) (λ vs u. record {
        front = t.front ++ u.front;
        spells = ((t.front, u.front, t.spells.0, t.spells.1, u.spells.0, refl), omega (arith, t.spells.2, u.spells.1));
        whole = t.whole ∙ ap (λ (l : List ℕ). t.front ++ l) u.whole ∙ sym (append_assoc t.front u.front vs.1);
      }))

  sourced_stops : (ks : List OperandKind) (end : ℕ) (bytes : List ℕ) (f : LostFault) → are_inner ks ≡ true → FailsFirst r level known (At places.Source ∷ ks) end bytes f → sourced_in r level known ks end bytes ≡ Err f
  unfolding sourced_in
  sourced_stops ks end bytes f ok h =
      let g = grammar_at r known in
      turn_stops (IsSource r level known) (FailsSource r level known) (λ v. FailsInOrder r level known ks) (source_in r level known) end bytes _ f exact_source
      (λ v b more. fails_on f (of_term (operands_at (term_at g level) ks end b)) _ ((terms_part r level known ks ok).stops end b f more)) h

  first_judged : (form : NamedForm) (end : ℕ) (bytes : List ℕ) → Judge (Front (AreFirst r level known (operands_first form)) bytes) (FailsFirst r level known (operands_first form) end bytes) (first_in r level known form end bytes)
  first_judged (named.Create w) end bytes = sourced_judged (At Value ∷ []) end bytes refl
  first_judged named.CreateField end bytes = sourced_judged (At Value ∷ At Value ∷ []) end bytes refl
  first_judged _ end bytes = record { front = []; spells = (refl, omega arith); whole = refl }

  first_stops : (form : NamedForm) (end : ℕ) (bytes : List ℕ) (f : LostFault) → FailsFirst r level known (operands_first form) end bytes f → first_in r level known form end bytes ≡ Err f
  first_stops (named.Create w) end bytes f h = sourced_stops (At Value ∷ []) end bytes f refl h
  first_stops named.CreateField end bytes f h = sourced_stops (At Value ∷ At Value ∷ []) end bytes f refl h
  first_stops _ end bytes f h = absurd h

  pub exact_first : (form : NamedForm) → Exact (AreFirst r level known (operands_first form)) (FailsFirst r level known (operands_first form)) (first_in r level known form)
  exact_first form = record {
    found = λ end us a rest h. first_complete r level known form end (terms_of us) a rest h.0 h.1 ∙ ap (λ vs. Ok (vs, rest)) (listed_terms us);
    judged = first_judged form;
    stops = first_stops form;
  }
