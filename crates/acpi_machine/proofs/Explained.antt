-- The reason of the method at a path, among the methods that tables note.
use Rattle.std.proofs.Common.{◌≡◌, ◌≢◌, ◌↔◌, ◌⊎◌, inl, inr, ℕ, Bool, true, false, cond, List, [], ◌∷◌, ◌++◌, map, length, find, Option, Some, None, Result, Ok, Err, IfOk, IfSome, refl, sym, ap, subst, ◌∙◌}
use Rattle.std.specs.FinMap.{get}
use Rattle.std.specs.FinMap as finite
use Rattle.acpi_name.specs.Names.{Segment}
use Rattle.acpi_space.specs.Laws.{Among}
use Rattle.acpi_space.specs.Lookups.{Lookup, is_same_path}
use Rattle.acpi_space.proofs.Comparisons.{path_itself}
use Rattle.acpi_space.proofs.Elements.{among_left, among_right, among_append}
use Rattle.acpi_tree.specs.Terms.{TermTrees}
use Rattle.acpi_declare.specs.Links.{Links}
use Rattle.acpi_pass.specs.declared.keep.Keep.{Keep}
use Rattle.acpi_declare.specs.Keeping.{AreKeptNotes}
use Rattle.acpi_pass.specs.Kept.{methods_at, with_methods, kept_of}
use Rattle.acpi_declare.specs.Loads.{IsLoad}
use Rattle.acpi_declare.specs.Namespace.{Namespace}
use Rattle.acpi_declare.specs.Notes.{Notes, method_of, notes_of, all_notes}
use Rattle.acpi_declare.specs.Predefined.{predefined}
use Rattle.acpi_pass.specs.declared.notes.Method as code
use Rattle.acpi_pass.specs.declared.notes.TableNotes.{TableNotes}
use Rattle.acpi_pass.proofs.Unions.{path_same}
use Rattle.acpi_values.specs.declared.fault.BodyFault.{BodyFault}
use Rattle.acpi_values.specs.declared.fault.BodyReason.{BodyReason}
use Rattle.acpi_body.specs.Arguments.{BodyGrammar, body_grammar}
use Rattle.acpi_body.specs.Faults.{ShowsBody, IsNoStatement}
use Rattle.acpi_body.specs.Reasons.{IsReason}
use Rattle.acpi_body.specs.Statements.{locals_after_all, ReadsBody}
use Rattle.acpi_order.specs.Bodies.{Method, with_counts, grammar_of, all_methods}
use Rattle.acpi_machine.specs.Explaining.{IsReasonAt, IsExplained}
use Rattle.acpi_order.specs.steps.Noted.{noted, all_noted}
use Rattle.acpi_machine.proofs.Machines.{noted_of_load}
use Rattle.acpi_machine.proofs.OneBody.{noted_at, told_of_all}

-- ---- the method of a path

abbrev at_path : List Segment → code.Method → Bool
at_path p m = is_same_path m.path p

abbrev counted : Lookup ℕ → List code.Method → List Method
counted counts ms = map (with_counts counts) (map method_of ms)

-- what was found is one of them, and stands at the path
abbrev IsThere : Lookup ℕ → List Segment → List code.Method → code.Method → Type 0
IsThere counts p ms m = Among (counted counts ms) (with_counts counts (method_of m)) × (m.path ≡ p)

found_among : (counts : Lookup ℕ) (p : List Segment) (ms : List code.Method) (m : code.Method) → find (at_path p) ms ≡ Some m → IsThere counts p ms m
found_among counts p [] m e = cc
found_among counts p (x ∷ ms) m e = by (found_among counts p ms m) (at_path p x) refl e
  where
    by : (find (at_path p) ms ≡ Some m → IsThere counts p ms m) → (b : Bool) → at_path p x ≡ b → cond b (Some x) (find (at_path p) ms) ≡ Some m → IsThere counts p (x ∷ ms) m
    by more true same e =
        let it : x ≡ m = cc in
        (inl (ap (λ (y : code.Method). with_counts counts (method_of y)) it), subst (λ (y : code.Method). y.path ≡ p) it (path_same x.path p same))
    by more false other e = let later = more e in (inr later.0, later.1)

itself : (p q : List Segment) → p ≡ q → is_same_path p q ≡ true
itself p q e = ap (is_same_path p) (sym e) ∙ path_itself p

-- where none was found, none of them stands at the path
none_among : (counts : Lookup ℕ) (p : List Segment) (ms : List code.Method) → find (at_path p) ms ≡ None → (m : Method) → Among (counted counts ms) m → m.path ≢ p
none_among counts p [] e m i = absurd i
none_among counts p (x ∷ ms) e m i = by (λ e i. none_among counts p ms e m i) (at_path p x) refl e i
  where
    by : (find (at_path p) ms ≡ None → Among (counted counts ms) m → m.path ≢ p) → (b : Bool) → at_path p x ≡ b → cond b (Some x) (find (at_path p) ms) ≡ None
        → (with_counts counts (method_of x) ≡ m) ⊎ Among (counted counts ms) m → m.path ≢ p
    by more true same e i = cc
    by more false other e (inl it) = λ there. let never : true ≡ false = sym (itself x.path p (ap (λ (y : Method). y.path) it ∙ there)) ∙ other in cc
    by more false other e (inr i) = more e i

-- ---- the methods of a table, and those of later ones

-- ---- what is told of the tables that are left

-- what `why` answers
pub reason_of : {E : Type 0} (args : BodyGrammar) (s : List Segment) (depth : ℕ) (bytes : List ℕ) (r : Result (Option BodyFault) E)
    → IfOk r (λ w. (w ≡ None) ↔ ((ts : TermTrees) × ReadsBody args s depth bytes ts)) → IfOk r (λ w. IfSome w (λ f. ShowsBody args s depth bytes f.reason f.place))
    → ((u v : List ℕ) (ts : TermTrees) (reason : BodyReason) → bytes ≡ u ++ v → ReadsBody args s depth u ts → IsNoStatement (args (locals_after_all s finite.empty ts)).loads reason v
    → IfOk r (λ w. w ≡ Some (record { reason = reason; place = length u })))
    → IfOk r (λ w. IsReason args s depth bytes w)
reason_of args s depth bytes (Ok w) read shown next = record { read = read; shown = shown; next = next }
reason_of args s depth bytes (Err e) read shown next = tt

-- the reason of a method of the first of these tables
pub told_here : {E : Type 0} (depth : ℕ) (objects : Namespace) (t : TableNotes) (later : List TableNotes) (p : List Segment) (methods : List code.Method) (m : code.Method) (bytes : List ℕ)
    (r : Result (Option BodyFault) E) → methods ≡ t.methods.items → find (at_path p) methods ≡ Some m → bytes ≡ m.code
    → IfOk r (λ w. IsReason (body_grammar objects (get t.counts) m.path) m.path depth bytes w) → IfOk r (λ w. IsReasonAt depth objects (all_noted (map notes_of (t ∷ later))) p w)
told_here depth objects t later p methods m bytes (Err e) same found code told = tt
told_here depth objects t later p methods m bytes (Ok w) same found code told =
    let one = found_among (get t.counts) p t.methods.items m (ap (find (at_path p)) (sym same) ∙ found) in
    let it : Method = with_counts (get t.counts) (method_of m) in
    inl (it, among_left (noted (notes_of t)) (all_noted (map notes_of later)) it one.0, one.1, subst (λ (b : List ℕ). IsReason (grammar_of objects it) m.path depth b w) code told)

behind_none : (depth : ℕ) (objects : Namespace) (here behind : List Method) (p : List Segment) (w : Option BodyFault)
    → ((m : Method) → Among here m → m.path ≢ p) → IsReasonAt depth objects behind p w → IsReasonAt depth objects (here ++ behind) p w
behind_none depth objects here behind p w none (inl r) = inl (r.0, among_right here behind r.0 r.1, r.2, r.3)
behind_none depth objects here behind p w none (inr r) = inr (λ m i. by m (among_append here behind m i), r.1)
  where
    by : (m : Method) → Among here m ⊎ Among behind m → m.path ≢ p
    by m (inl i) = none m i
    by m (inr i) = r.0 m i

-- where the first of them has no method there, what the others tell
pub told_later : (depth : ℕ) (objects : Namespace) (t : TableNotes) (later : List TableNotes) (p : List Segment) (methods : List code.Method) (w : Option BodyFault)
    → methods ≡ t.methods.items → find (at_path p) methods ≡ None → IsReasonAt depth objects (all_noted (map notes_of later)) p w
    → IsReasonAt depth objects (all_noted (map notes_of (t ∷ later))) p w
told_later depth objects t later p methods w same none h =
    behind_none depth objects (noted (notes_of t)) (all_noted (map notes_of later)) p w (none_among (get t.counts) p t.methods.items (ap (find (at_path p)) (sym same) ∙ none)) h

-- ---- of the tables

pub explained : (keep : Keep) (depth : ℕ) (tables : List (List ℕ)) (objects : Namespace) (links : Lookup Links) (kept : List Notes) (p : List Segment) (w : Option BodyFault)
    → ((n : Notes) → kept_of keep n ≡ with_methods n (methods_at p n.methods))
    → IsLoad depth tables objects links → AreKeptNotes depth tables keep kept → IsReasonAt depth objects (all_noted kept) p w → IsExplained depth tables p w
explained keep depth tables objects links kept p w is_at h k r =
    let all = all_notes predefined k.placements in
    let methods : all_noted all ≡ all_methods h.placements =
    noted_of_load depth tables objects links all h (record { placements = k.placements; listings = k.listings; notes_are = refl }) in
    let told = told_of_all depth objects p (all_noted all) w (subst (λ (ms : List Method). IsReasonAt depth objects ms p w) (ap all_noted k.notes_are ∙ noted_at keep p is_at all) r) in
    record {
      placements = h.placements;
      listings = h.listings;
      reason = subst (λ (N : Namespace). IsReasonAt depth N (all_methods h.placements) p w) h.objects_are (subst (λ (ms : List Method). IsReasonAt depth objects ms p w) methods told);
    }
