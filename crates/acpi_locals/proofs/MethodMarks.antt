-- Marks of the entries that mean a method.
use Rattle.std.proofs.Common.{◌≡◌, ◌⊎◌, ◌↔◌, ◌<◌, ◌≤◌, ◌&&◌, ◌∙◌, ℕ, Bool, true, false, cond, IsTrue, List, [], ◌∷◌, length, map, inl, inr, Option, Some, None, refl, sym, ap, subst, get_or, slice_get}
use Rattle.std.specs.Prelude.{nat_lt}
use Rattle.std.proofs.lemmas.Option.{slice_get_past}
use Rattle.acpi_space.specs.Laws.{Among}
use Rattle.acpi_conditions.specs.Entries.{Path, Entry}
use Rattle.acpi_survey.specs.declared.machine_survey.Survey.{Survey}
use Rattle.acpi_locals.specs.BodyNames.{BodyNameParts, last_path}
use Rattle.acpi_locals.specs.Leading.{LeadsTo}
use Rattle.acpi_locals.specs.Callables.{entry_object, is_method, declares_method, alias_path, alias_entries, numbers_seen, MeansMethod, AreCallables, named_entries, NamesMethod}
use Rattle.acpi_locals.specs.steps.AliasPaths.{each_below}
use Rattle.acpi_locals.specs.steps.Rounds.{is_marked, any_marked}
use Rattle.acpi_locals.proofs.Rounds.{compare, some_marked, any_is}
use Rattle.acpi_locals.proofs.EachBelow.{each_at, each_mark}

none_seen : (es : List Entry) (n : ℕ) (p : Option Path) → slice_get es n ≡ None → numbers_seen es (slice_get es n) p ≡ []
none_seen es n p past = ap (λ (o : Option Entry). numbers_seen es o p) past

pub none_beyond : (es : List Entry) (n : ℕ) (p : Option Path) → length es ≤ n → numbers_seen es (slice_get es n) p ≡ []
none_beyond es n p le = none_seen es n p (slice_get_past es n le)

-- where an Alias leads, by the paths that are kept
same_next : (s : Survey) (es : List Entry) (paths : List (Option Path)) → es ≡ s.reading.walk.entries → paths ≡ each_below (alias_path s) (length es) → (n : ℕ)
    → numbers_seen es (slice_get es n) (get_or paths n None) ≡ alias_entries s n
same_next s es paths same kept n = elim (compare n (length es)) [
  | inl lt ↦ ap (λ (p : Option Path). numbers_seen es (slice_get es n) p) (ap (λ (ps : List (Option Path)). get_or ps n None) kept ∙ each_at (alias_path s) (length es) n None lt)
      ∙ ap (λ (es : List Entry). numbers_seen es (slice_get es n) (alias_path s n)) same
  | inr le ↦ none_beyond es n (get_or paths n None) le ∙ sym (subst (λ (es : List Entry). numbers_seen es (slice_get es n) (alias_path s n) ≡ []) same (none_beyond es n (alias_path s n) le))
]

same_marks : (s : Survey) (count : ℕ) (marks : List Bool) → count ≡ length s.reading.walk.entries → marks ≡ each_below (λ n. is_method (entry_object s n)) count → (n : ℕ)
    → is_marked marks n ≡ declares_method s n
same_marks s count marks same kept n = ap (λ (ms : List Bool). is_marked ms n) kept ∙ each_mark (λ n. is_method (entry_object s n)) count n ∙ ap (λ k. nat_lt n k && is_method (entry_object s n)) same

pub marks_mean : (s : Survey) (es : List Entry) (paths : List (Option Path)) (old new : List Bool) → es ≡ s.reading.walk.entries → paths ≡ each_below (alias_path s) (length es)
    → old ≡ each_below (λ n. is_method (entry_object s n)) (length es)
    → ((n : ℕ) → IsTrue (is_marked new n) ↔ LeadsTo (λ k. numbers_seen es (slice_get es k) (get_or paths k None)) (is_marked old) n) → AreCallables s new
marks_mean s es paths old new same kept marked are n =
    let next : (λ k. numbers_seen es (slice_get es k) (get_or paths k None)) ≡ alias_entries s = λ i k. same_next s es paths same kept k i in
    let test : is_marked old ≡ declares_method s = λ i k. same_marks s (length es) old (ap length same) marked k i in
    subst (λ (f : ℕ → List ℕ). IsTrue (is_marked new n) ↔ LeadsTo f (declares_method s) n) next
    (subst (λ (t : ℕ → Bool). IsTrue (is_marked new n) ↔ LeadsTo (λ k. numbers_seen es (slice_get es k) (get_or paths k None)) t n) test (are n))

-- one of these is marked where one of them means a method
pub marked_among : (s : Survey) (marks : List Bool) → AreCallables s marks → (ns : List ℕ) → IsTrue (any_marked marks ns) ↔ ((m : ℕ) × Among ns m × MeansMethod s m)
marked_among s marks are ns = (λ is. let r = some_marked marks ns is in (r.0, r.1, (are r.0).0 r.2), λ r. any_is marks ns r.0 r.1 ((are r.0).1 r.2))

pub names_local : (s : Survey) (marks : List Bool) (n : BodyNameParts) → AreCallables s marks → n.is_local ≡ true → IsTrue false ↔ NamesMethod s n
names_local s marks n are is =
    let none : named_entries s n ≡ [] = ap (λ b. cond b [] (numbers_seen s.reading.walk.entries (slice_get s.reading.walk.entries n.method) (last_path n.link.paths))) is in
    subst (λ (ns : List ℕ). IsTrue false ↔ ((m : ℕ) × Among ns m × MeansMethod s m)) (sym none) (marked_among s marks are [])

-- by the marks
pub marked_local : (s : Survey) (marks : List Bool) (n : BodyNameParts) → n.is_local ≡ true → false ≡ any_marked marks (named_entries s n)
marked_local s marks n is =
    sym (ap (any_marked marks) (ap (λ b. cond b [] (numbers_seen s.reading.walk.entries (slice_get s.reading.walk.entries n.method) (last_path n.link.paths))) is))

pub marked_seen : (s : Survey) (marks : List Bool) (n : BodyNameParts) (es : List Entry) (b : Bool) → n.is_local ≡ false → es ≡ s.reading.walk.entries
    → b ≡ any_marked marks (numbers_seen es (slice_get es n.method) (last_path n.link.paths)) → b ≡ any_marked marks (named_entries s n)
marked_seen s marks n es b is same seen =
    let some : named_entries s n ≡ numbers_seen s.reading.walk.entries (slice_get s.reading.walk.entries n.method) (last_path n.link.paths) =
    ap (λ b. cond b [] (numbers_seen s.reading.walk.entries (slice_get s.reading.walk.entries n.method) (last_path n.link.paths))) is in
    seen ∙ ap (λ (es : List Entry). any_marked marks (numbers_seen es (slice_get es n.method) (last_path n.link.paths))) same ∙ ap (any_marked marks) (sym some)

pub names_seen : (s : Survey) (marks : List Bool) (n : BodyNameParts) (es : List Entry) (b : Bool) → AreCallables s marks → n.is_local ≡ false → es ≡ s.reading.walk.entries
    → b ≡ any_marked marks (numbers_seen es (slice_get es n.method) (last_path n.link.paths)) → IsTrue b ↔ NamesMethod s n
names_seen s marks n es b are is same seen =
    subst (λ b. IsTrue b ↔ NamesMethod s n) (sym (marked_seen s marks n es b is same seen)) (marked_among s marks are (named_entries s n))
