-- The methods at one path, among those that tables note.
use Rattle.std.proofs.Common.{◌≡◌, ◌≢◌, inl, inr, ℕ, Bool, true, false, cond, List, [], ◌∷◌, ◌++◌, map, Option, Some, None, refl, sym, ap, subst, ◌∙◌, append-nil, append_assoc}
use Rattle.std.proofs.lemmas.List.Elements.{filter-append}
use Rattle.std.specs.List.{filter}
use Rattle.std.specs.Option.{option_or}
use Rattle.acpi_name.specs.Names.{Segment}
use Rattle.acpi_space.specs.Laws.{Among}
use Rattle.acpi_space.specs.Lookups.{Lookup, is_same_path, nothing}
use Rattle.acpi_space.proofs.Comparisons.{path_itself}
use Rattle.acpi_space.proofs.AmongPaths.{filter_mapped}
use Rattle.acpi_declare.specs.Keeping.{AreKeptNotes}
use Rattle.acpi_pass.specs.Kept.{methods_at, with_methods, kept_of, all_kept}
use Rattle.acpi_pass.specs.declared.keep.Keep.{Keep}
use Rattle.acpi_declare.specs.Loads.{IsLoad}
use Rattle.acpi_declare.specs.Namespace.{Namespace}
use Rattle.acpi_declare.specs.Notes.{Notes, all_notes}
use Rattle.acpi_declare.specs.Notes as notes
use Rattle.acpi_declare.specs.Predefined.{predefined}
use Rattle.acpi_pass.proofs.Unions.{path_same, union-nothing}
use Rattle.acpi_values.specs.declared.fault.BodyFault.{BodyFault}
use Rattle.acpi_body.specs.Bodies.{BodyTree}
use Rattle.acpi_order.specs.Bodies.{Method, with_counts, all_methods, bodies_at}
use Rattle.acpi_order.specs.Machines.{Machine}
use Rattle.acpi_order.proofs.ReadBodies.{body_of, bodies_of, are_bodies, bodies_are}
use Rattle.acpi_machine.specs.Explaining.{IsReasonAt}
use Rattle.acpi_machine.specs.OneBody.{IsMachineAt}
use Rattle.acpi_order.specs.steps.Noted.{noted, all_noted}
use Rattle.acpi_machine.specs.steps.Adding.{AddsBodies}
use Rattle.acpi_machine.proofs.AddedBodies.{Added, added}
use Rattle.acpi_machine.proofs.Machines.{noted_of_load}

-- ---- the methods that are kept

abbrev at_path : List Segment → Method → Bool
at_path p m = is_same_path m.path p

noted_with : (n : Notes) (ms : List notes.Method) → all_noted (with_methods n ms) ≡ map (with_counts n.counts) ms
noted_with n [] = refl
noted_with n (m ∷ ms) = append-nil (map (with_counts n.counts) (m ∷ ms))

noted_both : (ns more : List Notes) → all_noted (ns ++ more) ≡ all_noted ns ++ all_noted more
noted_both [] more = refl
noted_both (n ∷ ns) more = ap (λ l. noted n ++ l) (noted_both ns more) ∙ sym (append_assoc (noted n) (all_noted ns) (all_noted more))

module _ (keep : Keep) (p : List Segment) (is_at : (n : Notes) → kept_of keep n ≡ with_methods n (methods_at p n.methods)) where
  pub noted_at : (ns : List Notes) → all_noted (all_kept keep ns) ≡ filter (at_path p) (all_noted ns)
  noted_at [] = refl
  noted_at (n ∷ ns) =
      noted_both (kept_of keep n) (all_kept keep ns)
      ∙ ap (λ l. l ++ all_noted (all_kept keep ns)) (ap all_noted (is_at n) ∙ noted_with n (methods_at p n.methods) ∙ sym (filter_mapped (at_path p) (with_counts n.counts) n.methods))
      ∙ ap (λ l. filter (at_path p) (noted n) ++ l) (noted_at ns)
      ∙ sym (filter-append (at_path p) (noted n) (all_noted ns))

-- ---- their bodies

turned : (p q : List Segment) → is_same_path p q ≡ is_same_path q p
turned p q = by (is_same_path p q) (is_same_path q p) refl refl
  where
    by : (b c : Bool) → is_same_path p q ≡ b → is_same_path q p ≡ c → is_same_path p q ≡ is_same_path q p
    by true c e f = ap (is_same_path p) (sym (path_same p q e)) ∙ ap (λ r. is_same_path r p) (path_same p q e)
    by false true e f = ap (is_same_path p) (path_same q p f) ∙ ap (λ r. is_same_path r p) (sym (path_same q p f))
    by false false e f = e ∙ sym f

module _ (depth : ℕ) (objects : Namespace) (p : List Segment) where
  same_at : (ms : List Method) → bodies_of depth objects (filter (at_path p) ms) p ≡ bodies_of depth objects ms p
  same_at [] = refl
  same_at (m ∷ ms) = by (is_same_path m.path p) (turned p m.path) (same_at ms)
    where
      last : Option BodyTree → Bool → Option BodyTree
      last later b = option_or later (cond b (Some (body_of depth objects m)) None)

      none : (later : Option BodyTree) → later ≡ last later false
      none None = refl
      none (Some b) = refl

      by : (b : Bool) → is_same_path p m.path ≡ b → bodies_of depth objects (filter (at_path p) ms) p ≡ bodies_of depth objects ms p
          → bodies_of depth objects (cond b (m ∷ filter (at_path p) ms) (filter (at_path p) ms)) p ≡ bodies_of depth objects (m ∷ ms) p
      by true e later = ap (λ l. last l (is_same_path p m.path)) later
      by false e later = later ∙ none (bodies_of depth objects ms p) ∙ ap (last (bodies_of depth objects ms p)) (sym e)

  none_elsewhere : (q : List Segment) → q ≢ p → (ms : List Method) → bodies_of depth objects (filter (at_path p) ms) q ≡ None
  none_elsewhere q other [] = refl
  none_elsewhere q other (m ∷ ms) = by (is_same_path m.path p) refl (is_same_path q m.path) refl (none_elsewhere q other ms)
    where
      there : (b c : Bool) → Option BodyTree → Option BodyTree
      there b c later = cond b (option_or later (cond c (Some (body_of depth objects m)) None)) later

      by : (b : Bool) → is_same_path m.path p ≡ b → (c : Bool) → is_same_path q m.path ≡ c → bodies_of depth objects (filter (at_path p) ms) q ≡ None
          → bodies_of depth objects (cond b (m ∷ filter (at_path p) ms) (filter (at_path p) ms)) q ≡ None
      by true e true f later = absurd (other (path_same q m.path f ∙ path_same m.path p e))
      by true e false f later = ap (λ c. there true c (bodies_of depth objects (filter (at_path p) ms) q)) f ∙ ap (there true false) later
      by false e c f later = later

-- ---- the machine

pub has_machine_at : (keep : Keep) (depth : ℕ) (tables : List (List ℕ)) (p : List Segment) (kept : List Notes) (m : Machine)
    → ((n : Notes) → kept_of keep n ≡ with_methods n (methods_at p n.methods))
    → IsLoad depth tables m.objects m.links → AreKeptNotes depth tables keep kept → AddsBodies depth m.objects (all_noted kept) nothing m.bodies → IsMachineAt depth tables p m
has_machine_at keep depth tables p kept m is_at h k bodies =
    let all = all_notes predefined k.placements in
    let methods = all_methods h.placements in
    let noted : all_noted all ≡ methods = noted_of_load depth tables m.objects m.links all h (record { placements = k.placements; listings = k.listings; notes_are = refl }) in
    let at : all_noted kept ≡ filter (at_path p) methods = ap all_noted k.notes_are ∙ noted_at keep p is_at all ∙ ap (filter (at_path p)) noted in
    let those = filter (at_path p) methods in
    let a : Added depth m.objects those nothing m.bodies = added depth m.objects those nothing m.bodies (subst (λ (ms : List Method). AddsBodies depth m.objects ms nothing m.bodies) at bodies) in
    let now : m.bodies ≡ bodies_of depth m.objects those = a.now_is ∙ union-nothing (bodies_at those a.trees) ∙ bodies_are depth m.objects those a.trees a.read in
    let trees = map (body_of depth m.objects) methods in
    let read = are_bodies depth m.objects methods in
    record {
      whole = record { objects = m.objects; links = m.links; bodies = bodies_at methods trees };
      loads = record { placements = h.placements; listings = h.listings; objects_are = h.objects_are; links_are = h.links_are; trees = trees; read = read; bodies_are = refl };
      objects_are = refl;
      links_are = refl;
      others = λ q other. ap (λ (l : Lookup BodyTree). l q) now ∙ none_elsewhere depth m.objects p q other methods;
      body_is = ap (λ (l : Lookup BodyTree). l p) now ∙ same_at depth m.objects p methods ∙ ap (λ (l : Lookup BodyTree). l p) (sym (bodies_are depth m.objects methods trees read));
    }

-- ---- what is told of a body

among_at : (p : List Segment) (ms : List Method) (m : Method) → Among (filter (at_path p) ms) m → Among ms m
among_at p [] m i = i
among_at p (x ∷ ms) m i = by (is_same_path x.path p) (among_at p ms m) i
  where
    by : (b : Bool) → (Among (filter (at_path p) ms) m → Among ms m) → Among (cond b (x ∷ filter (at_path p) ms) (filter (at_path p) ms)) m → Among (x ∷ ms) m
    by true later (inl e) = inl e
    by true later (inr i) = inr (later i)
    by false later i = inr (later i)

kept_among : (p : List Segment) (ms : List Method) (m : Method) → m.path ≡ p → Among ms m → Among (filter (at_path p) ms) m
kept_among p [] m e i = i
kept_among p (x ∷ ms) m e i = by (is_same_path x.path p) refl (kept_among p ms m e) i
  where
    by : (b : Bool) → is_same_path x.path p ≡ b → (Among ms m → Among (filter (at_path p) ms) m) → Among (x ∷ ms) m → Among (cond b (x ∷ filter (at_path p) ms) (filter (at_path p) ms)) m
    by true same later (inl f) = inl f
    by true same later (inr i) = inr (later i)
    by false same later (inl f) =
        let there : is_same_path x.path p ≡ true = ap (λ (y : Method). is_same_path y.path p) f ∙ ap (λ q. is_same_path q p) e ∙ path_itself p in
        let never : true ≡ false = sym there ∙ same in cc
    by false same later (inr i) = later i

pub told_of_all : (depth : ℕ) (objects : Namespace) (p : List Segment) (ms : List Method) (w : Option BodyFault)
    → IsReasonAt depth objects (filter (at_path p) ms) p w → IsReasonAt depth objects ms p w
told_of_all depth objects p ms w (inl r) = inl (r.0, among_at p ms r.0 r.1, r.2, r.3)
told_of_all depth objects p ms w (inr r) = inr (λ m i e. r.0 m (kept_among p ms m e i) e, r.1)
