-- Where the reading of strict tables stands: the objects so far, and the scope.
use Rattle.std.proofs.Common.{◌≡◌, ◌+◌, ℕ, Bool, true, false, not, ◌&&◌, ◌||◌, cond, List, [], ◌∷◌, ◌++◌, append_assoc, Option, Some, None, Result, Ok, Err, is_some, inr, refl, sym, ap, subst, ◌∙◌}
use Rattle.std.specs.Prelude.{option_to_list}
use Rattle.std.specs.List.{list_any}
use Rattle.std.proofs.lemmas.Bool.{and_from, false_from_ne_true}
use Rattle.acpi_name.specs.Names.{NameParts}
use Rattle.acpi_name.specs.Paths.{place_of, parent_of}
use Rattle.acpi_space.specs.Lookups.{is_same_path, is_defined_in, singleton, union}
use Rattle.acpi_space.specs.Search.{tries}
use Rattle.acpi_space.proofs.Elements.{not_both}
use Rattle.acpi_tree.specs.Objects.{ObjectTree, opens_scope}
use Rattle.acpi_declare.specs.Namespace.{Namespace}
use Rattle.acpi_declare.specs.Placing.{IsDeclared, IsOpened}
use Rattle.acpi_outline.specs.Nodes as outline
use Rattle.acpi_outline.specs.Nodes.{NodeTrees}
use Rattle.acpi_outline.specs.Rules.{after_all}
use Rattle.acpi_outline.specs.Outline.{AreNodes}
use Rattle.acpi_conditions.specs.Nodes.{Term, Nodes, no_nodes, declares, opens}
use Rattle.acpi_conditions.specs.Entries as entries
use Rattle.acpi_conditions.specs.Entries.{Path, IsScopeIn, is_empty, asks_nothing, Entry, Why, not_a_scope}
use Rattle.acpi_conditions.specs.Known.{Known, is_certain, is_certain_scope, is_possible, asks_of, settled, why_missing, declared_at, opened_in, opened_at}
use Rattle.acpi_conditions.specs.Survey.{Survey, behind, empty_survey, entry_at, known_inside, with_inside, declaring_as, declaring, known_in_scope, with_scope, opening_as, opening, survey}
use Rattle.acpi_conditions.specs.Runs.{Makes, Finds}
use Rattle.acpi_conditions.specs.Listings.{with_object}
use Rattle.acpi_conditions.specs.Laws.{IsAllOf}
use Rattle.acpi_conditions.specs.Walk as walks
use Rattle.acpi_conditions.specs.Walk.{of_term, of_scope, Package, Walk, passed, pass, package_at, enter_term_as, enter_scope_as, leave_from, through, walked}
use Rattle.acpi_conditions.proofs.Basics.{any_some, some_any, same_path, path_itself}
use Rattle.acpi_conditions.proofs.Knowing.{free_uncertain, made_possible_scope}
use Rattle.acpi_conditions.proofs.Declaring.{makes_allowed, true_in_scope}
use Rattle.acpi_conditions.proofs.Strict.{all_inside}
use Rattle.acpi_conditions.proofs.Walks.{gives_nodes}
use Rattle.acpi_survey.specs.Nodes.{term_at, nodes_of}
use Rattle.acpi_survey.specs.Reading.{Reading, survey_rules, declaring as declaring_in, entering, enter, leave}
use Rattle.acpi_survey.proofs.Walking.{nodes_walked}
use Rattle.acpi_conservative.specs.Strict.{Agrees}
use Rattle.acpi_conservative.proofs.Agreeing.{agrees_open, agrees_free, agrees_finds, or_alike, one_alike}
use Rattle.acpi_conservative.proofs.AllSeen.{one_candidate}
use Rattle.acpi_conservative.proofs.GoingOn.{nothing_behind, left}

-- ---- where all that is made is certain

module _ (terms : entries.Namespace) (k : Known) (all : IsAllOf terms k) where
  made_certain_scope : (p : Path) → IsScopeIn terms p → is_certain_scope k p ≡ true
  made_certain_scope p s =
      some_any (λ c. is_same_path c.path p && c.is_scope) k.certain (record { path = p; is_scope = s.0.is_scope }) (all.made_are_certain p s.0 s.1)
      (and_from (is_same_path p p) s.0.is_scope (path_itself p p refl) s.2)

  free_impossible : (p : Path) → terms p ≡ None → is_possible k p ≡ false
  free_impossible p free = false_from_ne_true (is_possible k p) (λ is.
      let e = any_some (λ e. is_same_path e.path p) k.entries (sym (ap (λ b. b || list_any (λ (e : Entry). is_same_path e.path p) k.entries) all.not_in_loop) ∙ is) in
      not_both (terms p) e.0.term (ap terms (sym (same_path e.0.path p e.2)) ∙ all.entries_are_made e.0 e.1) free)

  certain_there : (p : Path) → is_certain k p ≡ is_defined_in terms p
  certain_there p = by (terms p) refl
    where
      by : (o : Option Term) → terms p ≡ o → is_certain k p ≡ is_some (terms p)
      by None is = free_uncertain terms k all.is_true p is ∙ sym (ap is_some is)
      by (Some t) is =
          some_any (λ c. is_same_path c.path p) k.certain (record { path = p; is_scope = t.is_scope }) (all.made_are_certain p t is) (path_itself p p refl)
          ∙ sym (ap is_some is)

  possible_there : (p : Path) → is_possible k p ≡ true → is_defined_in terms p ≡ true
  possible_there p y = by (terms p) refl
    where
      by : (o : Option Term) → terms p ≡ o → is_some (terms p) ≡ true
      by None is = let no = free_impossible p is in let h : true ≡ false = sym y ∙ no in cc
      by (Some t) is = ap is_some is

  asks_none : (s : Path) (t : Term) (p : Path) → t.needs ≡ [] → IsScopeIn terms (parent_of p) → terms p ≡ None → asks_nothing (asks_of k s t p) ≡ true
  asks_none s t p needs parent free =
      ap (λ b. not (not b) && not (asks_of k s t p).no && is_empty (asks_of k s t p).needs) (made_certain_scope (parent_of p) parent)
      ∙ ap (λ b. not b && is_empty (asks_of k s t p).needs) (free_impossible p free)
      ∙ ap (λ ns. is_empty (asks_of k s (record t { needs = ns }) p).needs) needs

  finds_opened : (s : Path) (n : NameParts) (p : Path) → Finds terms s n p → opened_at k s n ≡ Ok p
  finds_opened s n p f =
      ap (opened_in k (why_missing s (place_of s n))) (one_candidate k (is_defined_in terms) certain_there possible_there (tries s n) ∙ ap option_to_list f.0)
      ∙ ap (λ b. cond b (Ok p) (Err (not_a_scope p))) (made_possible_scope terms k all.is_true p f.1)

  all_in_scope : (p : Path) → IsScopeIn terms p → IsAllOf terms (known_in_scope k p)
  all_in_scope p s = record {
    is_true = true_in_scope terms k all.is_true p s;
    not_in_loop = all.not_in_loop;
    made_are_certain = λ q u is. inr (all.made_are_certain q u is);
    entries_are_made = all.entries_are_made;
  }

-- ---- the state

-- it stands in the scope, and known is that these objects are there
pub record StandsIn (objects : Namespace) (scope : Path) (s : Reading) : Type 0 where
  pub terms : entries.Namespace
  pub agrees : Agrees objects terms
  pub known : IsAllOf terms s.walk.known
  pub scope_is : s.walk.around.scope ≡ scope

pub stands_on : (objects : Namespace) (scope : Path) (s s' : Reading) → s'.walk.known ≡ s.walk.known → s'.walk.around.scope ≡ s.walk.around.scope → StandsIn objects scope s → StandsIn objects scope s'
stands_on objects scope s s' known around h = record { terms = h.terms; agrees = h.agrees; known = subst (IsAllOf h.terms) (sym known) h.known; scope_is = around ∙ h.scope_is }

leaving_keeps : (w : Walk) → (walks.leave w).entries ≡ w.entries
leaving_keeps w = by w.packages
  where
    by : (ps : List Package) → (leave_from ps w).entries ≡ w.entries
    by [] = refl
    by (p ∷ ps) = refl

pub entries_left : (s : Reading) → (leave s).walk.entries ≡ s.walk.entries
entries_left s = leaving_keeps s.walk

-- ---- a term that declares

module _ (objects : Namespace) (scope : Path) (s : Reading) (h : StandsIn objects scope s) (o : ObjectTree) (place : ℕ) (n : NameParts) (b : Bool) (is : opens_scope o ≡ b) (p : Path)
    (d : IsDeclared objects scope n p) where
  abbrev term : Term
  term = term_at place n b []

  abbrev w : Walk
  w = s.walk

  abbrev pub made : Entry
  made = entry_at w.around w.known term p

  makes : Makes h.terms w.around.scope term p
  makes = subst (λ (s : Path). Makes h.terms s term p) (sym h.scope_is) (record {
    has_segments = d.has_segments;
    placed = d.placed;
    parent = agrees_open objects h.terms h.agrees (parent_of p) d.parent;
    free = agrees_free objects h.terms h.agrees p d.free;
    needs = tt;
  })

  pub allowed : declared_at w.known w.around.scope n ≡ Ok p
  allowed = makes_allowed h.terms w.known h.known.is_true w.around.scope term p makes

  asked : asks_nothing made.asks ≡ true
  asked = asks_none h.terms w.known h.known w.around.scope term p refl makes.parent makes.free

  all_with : IsAllOf (with_object h.terms p term) (known_inside w.known made)
  all_with = all_inside h.terms w.known h.known made makes.free

  agrees_with : Agrees (union objects (singleton p o)) (with_object h.terms p term)
  agrees_with q = or_alike (objects q) (singleton p o q) (h.terms q) (singleton p term q) (h.agrees q) (one_alike (is_same_path q p) o term is)

  -- behind it
  known_behind : (walks.declare term w).known ≡ known_inside w.known made
  known_behind =
      ap (λ (r : Result Path Why). behind w.known (declaring_as term empty_survey w.around w.known r)) allowed
      ∙ (λ i. record w.known {
        entries = w.known.entries ++ made ∷ [];
        certain = ap (λ c. cond c (record { path = p; is_scope = b } ∷ w.known.certain) (settled made ++ w.known.certain)) asked i;
      })

  pub stands_behind : (c : Option ℕ) → StandsIn (union objects (singleton p o)) scope (declaring_in term c s)
  stands_behind c = record {
    terms = with_object h.terms p term;
    agrees = agrees_with;
    known = subst (IsAllOf (with_object h.terms p term)) (sym known_behind) all_with;
    scope_is = h.scope_is;
  }

  pub entries_behind : (c : Option ℕ) → (declaring_in term c s).walk.entries ≡ w.entries ++ made ∷ []
  entries_behind c = ap (λ (r : Result Path Why). w.entries ++ (declaring_as term empty_survey w.around w.known r).entries) allowed

  -- inside it
  at : (entering term s).walk ≡ enter_term_as term w (Ok p)
  at = ap (enter_term_as term w) allowed

  pub stands_inside : StandsIn (union objects (singleton p o)) p (entering term s)
  stands_inside = record {
    terms = with_object h.terms p term;
    agrees = agrees_with;
    known = subst (IsAllOf (with_object h.terms p term)) (sym (ap (λ (v : Walk). v.known) at)) all_with;
    scope_is = ap (λ (v : Walk). v.around.scope) at;
  }

  pub entries_inside : (entering term s).walk.entries ≡ w.entries ++ made ∷ []
  entries_inside = ap (λ (v : Walk). v.entries) at

  -- out of it
  module _ (ms : NodeTrees) (level end : ℕ) (bytes : List ℕ) (are : AreNodes survey_rules level end (entering term s) ms bytes) where
    abbrev inner : Reading
    inner = entering term s

    abbrev last : Walk
    last = (after_all survey_rules inner ms).walk

    abbrev m : Nodes
    m = nodes_of s.base ms

    abbrev found : Survey
    found = survey m inner.walk.around inner.walk.known

    fresh : inner.walk.last_if ≡ None
    fresh = ap (λ (v : Walk). v.last_if) at

    inside_is : pass last ≡ passed found inner.walk
    inside_is = nodes_walked level end inner ms bytes are fresh ∙ gives_nodes m inner.walk

    outside_is : pass (walks.leave last) ≡ passed (survey (declares term m no_nodes) w.around w.known) w
    outside_is =
        left s inner ms level end bytes are (package_at of_term term.place w) w.packages (ap (λ (v : Walk). v.packages) at) fresh (declares term m no_nodes)
        (ap (λ (r : Result Path Why). through r (walked m) (walks.enter_term term w)) allowed)

    given : survey (declares term m no_nodes) w.around w.known ≡ with_inside w.known made found
    given =
        nothing_behind (declaring term (survey m)) w.around w.known
        ∙ ap (declaring_as term (survey m) w.around w.known) allowed
        ∙ ap (with_inside w.known made) (sym (ap (λ (v : Walk). survey m v.around v.known) at))

    same : behind w.known (with_inside w.known made found) ≡ behind (known_inside w.known made) found
    same = λ i. record w.known {
      entries = sym (append_assoc w.known.entries (made ∷ []) found.entries) i;
      certain = ap (λ c. cond c found.certain (settled made ++ w.known.certain)) asked i;
    }

    known_left : (walks.leave last).known ≡ last.known
    known_left =
        ap (λ (v : Walk). v.known) outside_is
        ∙ ap (behind w.known) given
        ∙ same
        ∙ sym (ap (λ (v : Walk). v.known) inside_is ∙ ap (λ (v : Walk). behind v.known found) at)

    pub stands_left : (all : Namespace) → StandsIn all p (after_all survey_rules inner ms) → StandsIn all scope (leave (after_all survey_rules inner ms))
    stands_left all i = record {
      terms = i.terms;
      agrees = i.agrees;
      known = subst (IsAllOf i.terms) (sym known_left) i.known;
      scope_is = ap (λ (v : Walk). v.around.scope) outside_is ∙ h.scope_is;
    }

-- ---- a Scope

module _ (objects : Namespace) (scope : Path) (s : Reading) (h : StandsIn objects scope s) (place : ℕ) (n : NameParts) (p : Path) (d : IsOpened objects scope n p) where
  abbrev v : Walk
  v = s.walk

  abbrev q : ℕ
  q = s.base + place

  finds : Finds h.terms v.around.scope n p
  finds = subst (λ (s : Path). Finds h.terms s n p) (sym h.scope_is) (agrees_finds objects h.terms h.agrees scope n p d)

  pub opened : opened_at v.known v.around.scope n ≡ Ok p
  opened = finds_opened h.terms v.known h.known v.around.scope n p finds

  certain : is_certain_scope v.known p ≡ true
  certain = made_certain_scope h.terms v.known h.known p finds.1

  entered : (enter s place (outline.scope n)).walk ≡ enter_scope_as q v (Ok p)
  entered = ap (enter_scope_as q v) opened

  pub stands_in_scope : StandsIn objects p (enter s place (outline.scope n))
  stands_in_scope = record {
    terms = h.terms;
    agrees = h.agrees;
    known = subst (IsAllOf h.terms) (sym (ap (λ (u : Walk). u.known) entered)) (all_in_scope h.terms v.known h.known p finds.1);
    scope_is = ap (λ (u : Walk). u.around.scope) entered;
  }

  pub entries_in_scope : (enter s place (outline.scope n)).walk.entries ≡ v.entries
  entries_in_scope = ap (λ (u : Walk). u.entries) entered

  module _ (ms : NodeTrees) (level end : ℕ) (bytes : List ℕ) (are : AreNodes survey_rules level end (enter s place (outline.scope n)) ms bytes) where
    abbrev in_scope : Reading
    in_scope = enter s place (outline.scope n)

    abbrev scope_end : Walk
    scope_end = (after_all survey_rules in_scope ms).walk

    abbrev ns : Nodes
    ns = nodes_of s.base ms

    abbrev gives : Survey
    gives = survey ns in_scope.walk.around in_scope.walk.known

    scope_fresh : in_scope.walk.last_if ≡ None
    scope_fresh = ap (λ (u : Walk). u.last_if) entered

    in_scope_is : pass scope_end ≡ passed gives in_scope.walk
    in_scope_is = nodes_walked level end in_scope ms bytes are scope_fresh ∙ gives_nodes ns in_scope.walk

    out_of_scope_is : pass (walks.leave scope_end) ≡ passed (survey (opens q n ns no_nodes) v.around v.known) v
    out_of_scope_is =
        left s in_scope ms level end bytes are (package_at (of_scope (is_certain_scope v.known p)) q v) v.packages (ap (λ (u : Walk). u.packages) entered) scope_fresh (opens q n ns no_nodes)
        (ap (λ (r : Result Path Why). through r (walked ns) (walks.enter_scope q n v)) opened)

    scope_gives : survey (opens q n ns no_nodes) v.around v.known ≡ with_scope v.known p gives
    scope_gives =
        nothing_behind (opening q n (survey ns)) v.around v.known
        ∙ ap (opening_as q (survey ns) v.around v.known) opened
        ∙ ap (with_scope v.known p) (sym (ap (λ (u : Walk). survey ns u.around u.known) entered))

    known_out_of_scope : (walks.leave scope_end).known ≡ scope_end.known
    known_out_of_scope =
        ap (λ (u : Walk). u.known) out_of_scope_is
        ∙ ap (behind v.known) scope_gives
        ∙ (λ i. record v.known { entries = v.known.entries ++ gives.entries; certain = ap (λ c. cond c gives.certain v.known.certain) certain i })
        ∙ sym (ap (λ (u : Walk). u.known) in_scope_is ∙ ap (λ (u : Walk). behind u.known gives) entered)

    pub stands_out_of_scope : (all : Namespace) → StandsIn all p (after_all survey_rules in_scope ms) → StandsIn all scope (leave (after_all survey_rules in_scope ms))
    stands_out_of_scope all i = record {
      terms = i.terms;
      agrees = i.agrees;
      known = subst (IsAllOf i.terms) (sym known_out_of_scope) i.known;
      scope_is = ap (λ (u : Walk). u.around.scope) out_of_scope_is ∙ h.scope_is;
    }
