-- A walk over nodes gives their survey.
use Rattle.std.proofs.Common.{◌≡◌, List, [], ◌∷◌, ◌++◌, map, length, take, drop, append_assoc, append-nil, Some, None, refl, sym, ap, subst, ◌∙◌, Result, Ok, Err}
use Rattle.std.proofs.Math.Seq.{take-append_seam, drop-append_seam}
use Rattle.std.proofs.lemmas.List.{map-append, take-append-drop}
use Rattle.acpi_name.specs.Names.{NameParts}
use Rattle.acpi_conditions.specs.Nodes.{Place, Term, Nodes, no_nodes, declares, opens, branch, loop, stop}
use Rattle.acpi_conditions.specs.Entries.{Path, Turn, then_branch, else_branch, past, in_round, Entry, Why, Refusal, StopAt}
use Rattle.acpi_conditions.specs.Known.{Known, is_certain_scope, declared_at, opened_at}
use Rattle.acpi_conditions.specs.Survey.{Around, turning, Survey, Surveying, behind, passing, joined, followed_by, empty_survey, entry_at, inside_of, known_inside, declaring_as, declaring, inside_scope, known_in_scope, opening_as, opening, branching, known_in_loop, looping, stopping, survey, behind_table, table_survey, known_behind, surveys, all_entries, all_refused}
use Rattle.acpi_conditions.specs.Walk.{Kind, of_term, of_scope, of_first, of_other, of_body, Package, Walk, passed, pass, package_at, into, enter_term_as, enter_scope_as, enter_first, enter_other, given_inside, given_by, if_of, leave_from, leave, started, end_table, through, walked_term, walked_scope, walked_if, walked_while, stop_at, walked, walked_tables}
use Rattle.acpi_conditions.specs.Laws.{IsInFirst}

-- the walk through a node gives what the node gives, but for whether an If stands directly before
abbrev Gives : Surveying → (Walk → Walk) → Type 0
Gives x f = (w : Walk) → pass (f w) ≡ passed (x w.around w.known) w

-- ---- one after another

more_turns : (w : List Turn) (xs ys : List StopAt) → (w ++ map (λ (s : StopAt). past s.place) xs) ++ map (λ (s : StopAt). past s.place) ys ≡ w ++ map (λ (s : StopAt). past s.place) (xs ++ ys)
more_turns w xs ys = append_assoc w (map (λ (s : StopAt). past s.place) xs) (map (λ (s : StopAt). past s.place) ys) ∙ ap (λ (m : List Turn). w ++ m) (sym (map-append (λ (s : StopAt). past s.place) xs ys))

passed_twice : (x y : Survey) (w : Walk) → passed y (passed x w) ≡ passed (joined x y) w
passed_twice x y w = λ i. record w {
  around = record w.around { way = more_turns w.around.way x.stops y.stops i };
  known = record w.known { entries = append_assoc w.known.entries x.entries y.entries i; certain = y.certain };
  entries = append_assoc w.entries x.entries y.entries i;
  refused = append_assoc w.refused x.refused y.refused i;
  stops = append_assoc w.stops x.stops y.stops i;
  last_if = None;
}

gives_followed : (x y : Surveying) (f g : Walk → Walk) → Gives x f → Gives y g → Gives (followed_by x y) (λ w. g (f w))
gives_followed x y f g hf hg w =
    hg (f w)
    ∙ ap (λ (u : Walk). passed (y u.around u.known) u) (hf w)
    ∙ passed_twice (x w.around w.known) (y (passing w.around (x w.around w.known)) (behind w.known (x w.around w.known))) w

gives_nothing : Gives empty_survey (λ w. w)
gives_nothing w = λ i. record w {
  around = record w.around { way = sym (append-nil w.around.way) i };
  known = record w.known { entries = sym (append-nil w.known.entries) i };
  entries = sym (append-nil w.entries) i;
  refused = sym (append-nil w.refused) i;
  stops = sym (append-nil w.stops) i;
  last_if = None;
}

-- ---- out of a package

-- leaving a package doesn't look at what stands directly before
left_same : (u : Walk) (p : Package) (outer : List Package) → u.packages ≡ p ∷ outer → leave u ≡ leave (pass u)
left_same u p outer e = ap (λ (ps : List Package). leave_from ps u) e ∙ sym (ap (λ (ps : List Package). leave_from ps (pass u)) e)

module _ (w : Walk) (kind : Kind) (place : Place) (a : Around) (k : Known) (es : List Entry) (rs : List Refusal) (ss : List StopAt) where
  -- inside of the package, behind these
  abbrev begun : Walk
  begun = record (into (record (package_at of_first place w) { kind = kind }) a k w) { entries = es; refused = rs; stops = ss }

  -- behind the package, where this stands inside
  left : (x y : Survey) → es ++ x.entries ≡ w.entries ++ y.entries → rs ++ x.refused ≡ w.refused ++ y.refused → ss ++ x.stops ≡ w.stops ++ y.stops → y.certain ≡ x.certain
      → (given_by kind w.known (record y { refused = [] })).entries ≡ y.entries
      → leave (passed x begun) ≡ record (passed (record (given_by kind w.known (record y { refused = [] })) { refused = y.refused }) w) { last_if = if_of kind (record (package_at of_first place w) { kind = kind }) }
  left x y he hr hs hc same = λ i. record w {
    around = passing w.around (given_by kind w.known (inside i));
    known = behind w.known (given_by kind w.known (inside i));
    entries = (he ∙ ap (λ (l : List Entry). w.entries ++ l) (sym same)) i;
    refused = hr i;
    stops = before i ++ (given_by kind w.known (inside i)).stops;
    last_if = if_of kind (record (package_at of_first place w) { kind = kind });
  }
    where
      inside : given_inside (package_at kind place w) (passed x begun) ≡ record y { refused = [] }
      inside = λ i. record {
        entries = (ap (drop (length w.entries)) he ∙ drop-append_seam w.entries y.entries) i;
        refused = [];
        stops = (ap (drop (length w.stops)) hs ∙ drop-append_seam w.stops y.stops) i;
        certain = sym hc i;
      }

      before : take (length w.stops) (ss ++ x.stops) ≡ w.stops
      before = ap (take (length w.stops)) hs ∙ take-append_seam w.stops y.stops

  left_behind : (x : Surveying) (f : Walk → Walk) → Gives x f → leave (f begun) ≡ leave (passed (x a k) begun)
  left_behind x f hf = left_same (f begun) (record (package_at of_first place w) { kind = kind }) w.packages (ap (λ (u : Walk). u.packages) (hf begun)) ∙ ap leave (hf begun)

-- ---- each node

gives_term : (t : Term) (x : Surveying) (f : Walk → Walk) → Gives x f → Gives (declaring t x) (walked_term t f)
gives_term t x f hf w = by (declared_at w.known w.around.scope t.name)
  where
    by : (o : Result Path Why) → pass (through o f (enter_term_as t w o)) ≡ passed (declaring_as t x w.around w.known o) w
    by (Err why) = refl
    by (Ok p) =
        let e : Entry = entry_at w.around w.known t p in
        let a : Around = inside_of e in
        let k : Known = known_inside w.known e in
        let es : List Entry = w.entries ++ e ∷ [] in
        ap pass (left_behind w of_term t.place a k es w.refused w.stops x f hf
        ∙ left w of_term t.place a k es w.refused w.stops (x a k) (record (x a k) { entries = e ∷ (x a k).entries }) (append_assoc w.entries (e ∷ []) (x a k).entries) refl refl refl refl)

gives_scope : (place : Place) (n : NameParts) (x : Surveying) (f : Walk → Walk) → Gives x f → Gives (opening place n x) (walked_scope place n f)
gives_scope place n x f hf w = by (opened_at w.known w.around.scope n)
  where
    by : (o : Result Path Why) → pass (through o f (enter_scope_as place w o)) ≡ passed (opening_as place x w.around w.known o) w
    by (Err why) = refl
    by (Ok p) =
        let kind : Kind = of_scope (is_certain_scope w.known p) in
        let a : Around = inside_scope place w.around w.known p in
        let k : Known = known_in_scope w.known p in
        ap pass (left_behind w kind place a k w.entries w.refused w.stops x f hf ∙ left w kind place a k w.entries w.refused w.stops (x a k) (x a k) refl refl refl refl refl)

gives_if : (place : Place) (x y : Surveying) (f g : Walk → Walk) → Gives x f → Gives y g → Gives (branching place x y) (walked_if place f g)
gives_if place x y f g hf hg w = ap (λ (u : Walk). pass (leave (g (enter_other place u)))) first ∙ ap pass other
  where
    first : leave (f (enter_first place w)) ≡ record (passed (record (x (turning w.around (then_branch place)) w.known) { certain = w.known.certain }) w) { last_if = Some (package_at of_first place w) }
    first =
        let a : Around = turning w.around (then_branch place) in
        left_behind w of_first place a w.known w.entries w.refused w.stops x f hf ∙ left w of_first place a w.known w.entries w.refused w.stops (x a w.known) (x a w.known) refl refl refl refl refl

    other : leave (g (begun w of_other place (turning w.around (else_branch place)) w.known (w.entries ++ (x (turning w.around (then_branch place)) w.known).entries)
        (w.refused ++ (x (turning w.around (then_branch place)) w.known).refused) (w.stops ++ (x (turning w.around (then_branch place)) w.known).stops)))
        ≡ record (passed (branching place x y w.around w.known) w) { last_if = None }
    other =
        let a : Around = turning w.around (then_branch place) in
        let b : Around = turning w.around (else_branch place) in
        let u : Survey = x a w.known in
        let v : Survey = y b w.known in
        left_behind w of_other place b w.known (w.entries ++ u.entries) (w.refused ++ u.refused) (w.stops ++ u.stops) y g hg
        ∙ left w of_other place b w.known (w.entries ++ u.entries) (w.refused ++ u.refused) (w.stops ++ u.stops) v (joined u v)
        (append_assoc w.entries u.entries v.entries) (append_assoc w.refused u.refused v.refused) (append_assoc w.stops u.stops v.stops) refl refl

gives_while : (place : Place) (x : Surveying) (f : Walk → Walk) → Gives x f → Gives (looping place x) (walked_while place f)
gives_while place x f hf w =
    let a : Around = turning w.around (in_round place) in
    let k : Known = known_in_loop w.known in
    ap pass (left_behind w of_body place a k w.entries w.refused w.stops x f hf ∙ left w of_body place a k w.entries w.refused w.stops (x a k) (x a k) refl refl refl refl refl)

pub gives_nodes : (ns : Nodes) → Gives (survey ns) (walked ns)
gives_nodes no_nodes = gives_nothing
gives_nodes (declares t inside rest) = gives_followed (declaring t (survey inside)) (survey rest) (walked_term t (walked inside)) (walked rest) (gives_term t (survey inside) (walked inside) (gives_nodes inside)) (gives_nodes rest)
gives_nodes (opens place n inside rest) =
    gives_followed (opening place n (survey inside)) (survey rest) (walked_scope place n (walked inside)) (walked rest) (gives_scope place n (survey inside) (walked inside) (gives_nodes inside)) (gives_nodes rest)
gives_nodes (branch place first other rest) =
    gives_followed (branching place (survey first) (survey other)) (survey rest) (walked_if place (walked first) (walked other)) (walked rest)
    (gives_if place (survey first) (survey other) (walked first) (walked other) (gives_nodes first) (gives_nodes other)) (gives_nodes rest)
gives_nodes (loop place body rest) = gives_followed (looping place (survey body)) (survey rest) (walked_while place (walked body)) (walked rest) (gives_while place (survey body) (walked body) (gives_nodes body)) (gives_nodes rest)
gives_nodes (stop place kind rest) = gives_followed (stopping place kind) (survey rest) (stop_at place kind) (walked rest) (λ w. refl) (gives_nodes rest)

-- ---- an If without an Else

empty_else : (place : Place) (w : Walk) (p : Package) (outer : List Package) → pass (leave (enter_other place (leave (record w { packages = record p { kind = of_first } ∷ outer })))) ≡ pass (leave (record w { packages = record p { kind = of_first } ∷ outer }))
empty_else place w p outer = λ i. record w {
  around = passing p.around (record { entries = []; refused = []; stops = drop p.stops (whole i); certain = [] });
  known = record p.known { entries = p.known.entries ++ drop p.entries w.entries };
  stops = take p.stops (whole i) ++ drop p.stops (whole i);
  packages = outer;
  last_if = None;
}
  where
    whole : take p.stops w.stops ++ drop p.stops w.stops ≡ w.stops
    whole = take-append-drop p.stops w.stops

pub empty_else_is_none : (place : Place) (w : Walk) → IsInFirst w → pass (leave (enter_other place (leave w))) ≡ pass (leave w)
empty_else_is_none place w h = subst (λ (u : Walk). pass (leave (enter_other place (leave u))) ≡ pass (leave u)) is (empty_else place w h.0 h.1)
  where
    is : record w { packages = record h.0 { kind = of_first } ∷ h.1 } ≡ w
    is = ap (λ (ps : List Package). record w { packages = ps }) (ap (λ (kind : Kind). record h.0 { kind = kind } ∷ h.1) (sym h.3) ∙ sym h.2)

-- ---- tables

ended : (w : Walk) (t : Nodes) → end_table (walked t (started w)) ≡ started (record w {
  known = behind_table w.known (table_survey w.known t);
  entries = w.entries ++ (table_survey w.known t).entries;
  refused = w.refused ++ (table_survey w.known t).refused;
})
ended w t =
    ap end_table (gives_nodes t (started w))
    ∙ ap (λ (es : List Entry). started (record w {
      known = behind_table w.known (record (table_survey w.known t) { entries = es });
      entries = w.entries ++ (table_survey w.known t).entries;
      refused = w.refused ++ (table_survey w.known t).refused;
    })) (drop-append_seam w.entries (table_survey w.known t).entries)

pub walk_is_surveys : (ts : List Nodes) (w : Walk) → walked_tables ts (started w) ≡ started (record w {
  known = known_behind w.known ts;
  entries = w.entries ++ all_entries (surveys w.known ts);
  refused = w.refused ++ all_refused (surveys w.known ts);
})
walk_is_surveys [] w = λ i. started (record w { entries = sym (append-nil w.entries) i; refused = sym (append-nil w.refused) i })
walk_is_surveys (t ∷ ts) w =
    let x : Survey = table_survey w.known t in
    ap (walked_tables ts) (ended w t)
    ∙ walk_is_surveys ts (record w { known = behind_table w.known x; entries = w.entries ++ x.entries; refused = w.refused ++ x.refused })
    ∙ (λ i. started (record w {
      known = known_behind (behind_table w.known x) ts;
      entries = append_assoc w.entries x.entries (all_entries (surveys (behind_table w.known x) ts)) i;
      refused = append_assoc w.refused x.refused (all_refused (surveys (behind_table w.known x) ts)) i;
    }))
