-- Fixed arguments: they are read exactly where they are spelled, and reading stops exactly where they fail.
use Rattle.std.proofs.Common.{◌≡◌, ◌≢◌, ℕ, zero, suc, ◌≤◌, Bool, true, false, eqb, cond, List, [], ◌∷◌, ◌++◌, length, Ok, Err, refl, sym, ap, ◌∙◌, append_assoc, arith}
use Rattle.std.proofs.lemmas.Bool.{eqb-true}
use Rattle.acpi_name.specs.Names.{NameParts}
use Rattle.acpi_name.specs.Spelling.{SpellsName}
use Rattle.acpi_tree.specs.declared.tree.Int.TheVariants.{Zero}
use Rattle.acpi_tree.specs.declared.place.Place.TheVariants.{Value}
use Rattle.acpi_tree.specs.declared.place.UnitsForm.{UnitsForm}
use Rattle.acpi_tree.specs.Terms.{TermTree, int}
use Rattle.acpi_tree.specs.Operators.{names_of_units, operands_of_units}
use Rattle.acpi_code.specs.Faults.{Failure, FailsNumber, FailsName}
use Rattle.acpi_code.specs.Spelling.{SpellsByte, SpellsEach}
use Rattle.acpi_code.specs.steps.Reading.{byte_at, name_in}
use Rattle.acpi_code.proofs.Exact.{Exact, turn_judged, turn_stops}
use Rattle.acpi_code.proofs.Lists.{fails_on, reads_on}
use Rattle.acpi_code.proofs.Names.{name_in_complete}
use Rattle.acpi_code.proofs.Readings.{Judge, judge_bind, judge_into, judge_if, Front}
use Rattle.acpi_values.specs.Faults.{IsTermAt, AreOperandsIn}
use Rattle.acpi_values.specs.Spelling.{height}
use Rattle.acpi_values.specs.steps.Reading.{operands_at, term_at}
use Rattle.acpi_values.proofs.Declarations.{units_inner}
use Rattle.acpi_values.proofs.TermExact.{are_inner}
use Rattle.acpi_outline.specs.declared.form.ContainerForm.{ContainerForm}
use Rattle.acpi_outline.specs.declared.form.ContainerForm.TheVariants as containers
use Rattle.acpi_outline.specs.declared.form.PackedForm.{PackedForm}
use Rattle.acpi_outline.specs.declared.form.PackedForm.TheVariants as forms
use Rattle.acpi_outline.specs.declared.fault.LostFault.{LostFault}
use Rattle.acpi_outline.specs.Nodes.{FixedTree, form_of}
use Rattle.acpi_outline.specs.Rules.{Rules, grammar_at}
use Rattle.acpi_outline.specs.Spelling.{test_height, IsTest, container_operands, IsFixed, AreNames}
use Rattle.acpi_outline.specs.Faults.{FailsPart, FailsNamed, FailsTermAt, FailsInOrder, FailsTest, FailsNames, FailsFixed}
use Rattle.acpi_outline.specs.steps.Reading.{part, of_term, value_in, test_in, names_in, container_in, units_in, fixed_in}
use Rattle.acpi_outline.proofs.Complete.{names_complete}
use Rattle.acpi_outline.proofs.Parts.{name_part, byte_part, named_judged, named_stops, term_part, terms_part}

container_inner : (form : ContainerForm) → are_inner (container_operands form) ≡ true
container_inner containers.Device = refl
container_inner containers.Processor = refl
container_inner containers.Power = refl
container_inner containers.Thermal = refl

test_low : (v : TermTree) → test_height v ≤ height v
test_low (int Zero) = omega arith
test_low _ = omega arith

none_there : (rest : List ℕ) → [] ≢ 0 ∷ rest
none_there rest e = cc

not_there : (b : ℕ) (rest more : List ℕ) → eqb b 0 ≡ false → b ∷ rest ≢ 0 ∷ more
not_there b rest more other e = let is : b ≡ 0 = cc in let zero : eqb b 0 ≡ true = rw is refl in cc

-- ---- names

names_judged : (count end : ℕ) (bytes : List ℕ) → Judge (Front (AreNames count) bytes) (FailsNames count end bytes) (names_in count end bytes)
unfolding names_in
names_judged zero end bytes = record { front = []; spells = (refl, refl); whole = refl }
names_judged (suc count) end bytes =
    let Good = Front (AreNames (suc count)) bytes in
    named_judged (FailsNames count) Good end bytes _ (λ n t.
    judge_bind (Front (AreNames count) n.1) Good (FailsNames count end n.1) (names_in count end n.1) _ (names_judged count end n.1) (λ ns u. record {
      front = t.front ++ u.front;
      spells = (ap suc u.spells.0, (t.front, u.front, t.spells, u.spells.1, refl));
      whole = t.whole ∙ ap (λ (l : List ℕ). t.front ++ l) u.whole ∙ sym (append_assoc t.front u.front ns.1);
    }))

names_stop : (count end : ℕ) (bytes : List ℕ) (f : LostFault) → FailsNames count end bytes f → names_in count end bytes ≡ Err f
unfolding names_in
names_stop zero end bytes f h = absurd h
names_stop (suc count) end bytes f h = named_stops (FailsNames count) end bytes _ f (λ n b k. fails_on f (names_in count end b) _ (names_stop count end b f k)) h

exact_names : (count : ℕ) → Exact (AreNames count) (FailsNames count) (names_in count)
exact_names count = record {
  found = λ end ns a rest h. ap (λ k. names_in k end (a ++ rest)) (sym h.0) ∙ names_complete ns end a rest h.1;
  judged = names_judged count;
  stops = names_stop count;
}

module _ {S : Type 0} (r : Rules S) (level : ℕ) (known : S) where
  -- ---- predicates

  value_judged : (end : ℕ) (bytes : List ℕ) → Judge (Front (IsTest r level known) bytes) (FailsTermAt r level known Value end bytes) (value_in r level known end bytes)
  value_judged end bytes =
      judge_into (Front (IsTermAt (grammar_at r known) level Value) bytes) (Front (IsTest r level known) bytes) (FailsTermAt r level known Value end bytes) (FailsTermAt r level known Value end bytes) (value_in r level known end bytes)
      (λ v t. record { front = t.front; spells = record { stands = t.spells.0; spells = t.spells.1; within = omega (arith, t.spells.2, test_low v.0) }; whole = t.whole })
      (λ f b. b) ((term_part r level known Value refl).judged end bytes)

  other_judged : (end : ℕ) (bytes : List ℕ) → ((rest : List ℕ) → bytes ≢ 0 ∷ rest) → Judge (Front (IsTest r level known) bytes) (FailsTest r level known end bytes) (value_in r level known end bytes)
  other_judged end bytes other =
      judge_into (Front (IsTest r level known) bytes) (Front (IsTest r level known) bytes) (FailsTermAt r level known Value end bytes) (FailsTest r level known end bytes) (value_in r level known end bytes) (λ v t. t) (λ f b. (other, b)) (value_judged end bytes)

  test_judged : (end : ℕ) (bytes : List ℕ) → Judge (Front (IsTest r level known) bytes) (FailsTest r level known end bytes) (test_in r level known end bytes)
  test_judged end [] = other_judged end [] none_there
  test_judged end (b ∷ rest) =
      judge_if (Front (IsTest r level known) (b ∷ rest)) (FailsTest r level known end (b ∷ rest)) (eqb b 0) (Ok (int Zero, rest)) (value_in r level known end (b ∷ rest))
      (λ zero. record { front = b ∷ []; spells = record { stands = refl; spells = ap (λ k. k ∷ []) (eqb-true b 0 zero); within = omega arith }; whole = refl })
      (λ other. other_judged end (b ∷ rest) (λ more. not_there b rest more other))

  test_stops : (end : ℕ) (bytes : List ℕ) (f : LostFault) → FailsTest r level known end bytes f → test_in r level known end bytes ≡ Err f
  test_stops end [] f h = (term_part r level known Value refl).stops end [] f h.1
  test_stops end (b ∷ rest) f h = by_test (eqb b 0) refl
    where
      by_test : (t : Bool) → eqb b 0 ≡ t → cond t (Ok (int Zero, rest)) (value_in r level known end (b ∷ rest)) ≡ Err f
      by_test true e = absurd (h.0 rest (ap (λ k. k ∷ rest) (eqb-true b 0 e)))
      by_test false e = (term_part r level known Value refl).stops end (b ∷ rest) f h.1

  -- ---- by the form of the package

  -- fixed arguments of a package of that form
  abbrev pub FixedOf : PackedForm → FixedTree → List ℕ → Type 0
  FixedOf form f a = (form_of f ≡ form) × IsFixed r level known f a

  container_judged : (form : ContainerForm) (end : ℕ) (bytes : List ℕ) → Judge (Front (FixedOf (forms.Container form)) bytes) (FailsFixed r level known (forms.Container form) end bytes) (container_in r level known form end bytes)
  unfolding container_in
  container_judged form end bytes =
      let g = grammar_at r known in
      let ks = container_operands form in
      let Good = Front (FixedOf (forms.Container form)) bytes in
      named_judged (FailsInOrder r level known ks) Good end bytes _ (λ n f.
      judge_bind (Front (AreOperandsIn g level ks) n.1) Good (FailsInOrder r level known ks end n.1) (of_term (operands_at (term_at g level) ks end n.1)) _
      ((terms_part r level known ks (container_inner form)).judged end n.1) (λ vs o. record {
        front = f.front ++ o.front;
        spells = (refl, (f.front, o.front, f.spells, o.spells.0, refl));
        whole = f.whole ∙ ap (λ (l : List ℕ). f.front ++ l) o.whole ∙ sym (append_assoc f.front o.front vs.1);
      }))

  container_stops : (form : ContainerForm) (end : ℕ) (bytes : List ℕ) (f : LostFault) → FailsFixed r level known (forms.Container form) end bytes f → container_in r level known form end bytes ≡ Err f
  unfolding container_in
  container_stops form end bytes f h =
      let g = grammar_at r known in
      let ks = container_operands form in
      named_stops (FailsInOrder r level known ks) end bytes _ f (λ n b k. fails_on f (of_term (operands_at (term_at g level) ks end b)) _ ((terms_part r level known ks (container_inner form)).stops end b f k)) h

  units_judged : (form : UnitsForm) (end : ℕ) (bytes : List ℕ) → Judge (Front (FixedOf (forms.Units form)) bytes) (FailsFixed r level known (forms.Units form) end bytes) (units_in r level known form end bytes)
  unfolding units_in
  units_judged form end bytes =
      let g = grammar_at r known in
      let ks = operands_of_units form in
      let Good = Front (FixedOf (forms.Units form)) bytes in
      turn_judged (AreNames (names_of_units form)) (FailsNames (names_of_units form)) (λ ns. FailsInOrder r level known ks) (names_in (names_of_units form)) Good end bytes _ (exact_names (names_of_units form)) (λ ns f.
      judge_bind (Front (AreOperandsIn g level ks) ns.1) Good (FailsInOrder r level known ks end ns.1) (of_term (operands_at (term_at g level) ks end ns.1)) _
      ((terms_part r level known ks (units_inner form)).judged end ns.1) (λ vs o. record {
        front = f.front ++ o.front;
        spells = (
          refl,
          (
            record { names = f.front; operands = o.front; all_names = f.spells.0; are_names = f.spells.1; are_operands = o.spells.0; whole = refl },
            o.spells.1,
          ),
        );
        whole = f.whole ∙ ap (λ (l : List ℕ). f.front ++ l) o.whole ∙ sym (append_assoc f.front o.front vs.1);
      }))

  units_stop : (form : UnitsForm) (end : ℕ) (bytes : List ℕ) (f : LostFault) → FailsFixed r level known (forms.Units form) end bytes f → units_in r level known form end bytes ≡ Err f
  unfolding units_in
  units_stop form end bytes f h =
      let g = grammar_at r known in
      let ks = operands_of_units form in
      turn_stops (AreNames (names_of_units form)) (FailsNames (names_of_units form)) (λ ns. FailsInOrder r level known ks) (names_in (names_of_units form)) end bytes _ f (exact_names (names_of_units form))
      (λ ns b k. fails_on f (of_term (operands_at (term_at g level) ks end b)) _ ((terms_part r level known ks (units_inner form)).stops end b f k)) h

  pub fixed_judged : (form : PackedForm) (end : ℕ) (bytes : List ℕ) → Judge (Front (FixedOf form) bytes) (FailsFixed r level known form end bytes) (fixed_in r level known form end bytes)
  unfolding fixed_in
  fixed_judged forms.Scope end bytes =
      judge_bind (Front SpellsName bytes) (Front (FixedOf forms.Scope) bytes) (FailsPart FailsName end bytes) (part (name_in end bytes)) _ (name_part.judged end bytes)
      (λ n f. record { front = f.front; spells = (refl, f.spells); whole = f.whole })
  fixed_judged (forms.Container form) end bytes = container_judged form end bytes
  fixed_judged forms.Method end bytes =
      let Good = Front (FixedOf forms.Method) bytes in
      named_judged (FailsPart (FailsNumber 1)) Good end bytes _ (λ n f.
      judge_bind (Front SpellsByte n.1) Good (FailsPart (FailsNumber 1) end n.1) (part (byte_at end n.1)) _ (byte_part.judged end n.1) (λ flags g. record {
        front = f.front ++ flags.0 ∷ [];
        spells = (refl, (f.front, f.spells, refl));
        whole = f.whole ∙ ap (λ (l : List ℕ). f.front ++ l) (g.whole ∙ ap (λ (l : List ℕ). l ++ flags.1) g.spells) ∙ sym (append_assoc f.front (flags.0 ∷ []) flags.1);
      }))
  fixed_judged forms.If end bytes =
      judge_bind (Front (IsTest r level known) bytes) (Front (FixedOf forms.If) bytes) (FailsTest r level known end bytes) (test_in r level known end bytes) _ (test_judged end bytes)
      (λ v f. record { front = f.front; spells = (refl, f.spells); whole = f.whole })
  fixed_judged forms.Else end bytes = record { front = []; spells = (refl, refl); whole = refl }
  fixed_judged forms.While end bytes =
      judge_bind (Front (IsTest r level known) bytes) (Front (FixedOf forms.While) bytes) (FailsTest r level known end bytes) (test_in r level known end bytes) _ (test_judged end bytes)
      (λ v f. record { front = f.front; spells = (refl, f.spells); whole = f.whole })
  fixed_judged (forms.Units form) end bytes = units_judged form end bytes

  pub fixed_stops : (form : PackedForm) (end : ℕ) (bytes : List ℕ) (f : LostFault) → FailsFixed r level known form end bytes f → fixed_in r level known form end bytes ≡ Err f
  unfolding fixed_in
  fixed_stops forms.Scope end bytes f h = fails_on f (part (name_in end bytes)) _ (name_part.stops end bytes f h)
  fixed_stops (forms.Container form) end bytes f h = container_stops form end bytes f h
  fixed_stops forms.Method end bytes f h = named_stops (FailsPart (FailsNumber 1)) end bytes _ f (λ n b k. fails_on f (part (byte_at end b)) _ (byte_part.stops end b f k)) h
  fixed_stops forms.If end bytes f h = fails_on f (test_in r level known end bytes) _ (test_stops end bytes f h)
  fixed_stops forms.Else end bytes f h = absurd h
  fixed_stops forms.While end bytes f h = fails_on f (test_in r level known end bytes) _ (test_stops end bytes f h)
  fixed_stops (forms.Units form) end bytes f h = units_stop form end bytes f h
