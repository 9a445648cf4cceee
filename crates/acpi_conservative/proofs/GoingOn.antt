-- How the survey goes on behind one node, where nothing is refused: as behind a node whose package is gone into.
use Rattle.std.proofs.Common.{◌≡◌, ◌+◌, ℕ, true, false, true≢false, is_ok, List, [], ◌∷◌, append-nil, Option, None, Result, Ok, Err, refl, sym, ap, ◌∙◌}
use Rattle.acpi_name.specs.Names.{NameParts}
use Rattle.acpi_tree.specs.Terms.{TermTrees}
use Rattle.acpi_outline.specs.declared.form.ContainerForm.{ContainerForm}
use Rattle.acpi_outline.specs.Nodes as outline
use Rattle.acpi_outline.specs.Nodes.{FixedTree, container, NodeTrees}
use Rattle.acpi_outline.specs.Rules.{goes_into, after_all}
use Rattle.acpi_outline.specs.Outline.{AreNodes}
use Rattle.acpi_conditions.specs.Nodes.{Term, Nodes, no_nodes, declares, opens, branch}
use Rattle.acpi_conditions.specs.Entries.{Path, Entry, Why, Refusal}
use Rattle.acpi_conditions.specs.Known.{Known, is_certain_scope, declared_at, opened_at}
use Rattle.acpi_conditions.specs.Survey.{Around, Survey, Surveying, behind, passing, joined, followed_by, empty_survey, entry_at, inside_of, known_inside, with_inside, declaring_as, declaring, inside_scope, known_in_scope, with_scope, opening_as, opening, survey}
use Rattle.acpi_conditions.specs.Walk as walks
use Rattle.acpi_conditions.specs.Walk.{Package, Walk, of_term, of_scope, passed, pass, package_at, leave_from, leave, through, walked, enter_term_as, enter_scope_as, enter_first}
use Rattle.acpi_conditions.proofs.Basics.{append_nothing}
use Rattle.acpi_conditions.proofs.Walks.{gives_nodes, empty_else_is_none}
use Rattle.acpi_survey.specs.Nodes.{term_at, nodes_of}
use Rattle.acpi_survey.specs.Reading.{Reading, survey_rules, declaring as declaring_in, enter}
use Rattle.acpi_survey.proofs.Walking.{left_alike, nodes_walked}

-- From one state to another: a node before others, as it is read and as a whole. Where nothing in the whole is refused, nothing in those
-- others is; and where these give the same both ways, all does.
abbrev pub GoesOn : Reading → Reading → (put whole : Nodes → Nodes) → Type 0
GoesOn s s' put whole = (t o : Nodes) → (survey (whole o) s.walk.around s.walk.known).refused ≡ []
    → ((survey o s'.walk.around s'.walk.known).refused ≡ [])
    × (survey t s'.walk.around s'.walk.known ≡ survey o s'.walk.around s'.walk.known → survey (put t) s.walk.around s.walk.known ≡ survey (whole o) s.walk.around s.walk.known)

-- what a node gives as it is read and as a whole, and the state behind it
record IsGiven (s s' : Reading) (x y : Survey) : Type 0 where
  same : x ≡ y
  around : s'.walk.around ≡ passing s.walk.around y
  known : s'.walk.known ≡ behind s.walk.known y

module _ (s s' : Reading) (x y : Surveying) (given : (y s.walk.around s.walk.known).refused ≡ [] → IsGiven s s' (x s.walk.around s.walk.known) (y s.walk.around s.walk.known)) where
  abbrev a : Around
  a = s.walk.around

  abbrev k : Known
  k = s.walk.known

  goes_on : (t o : Nodes) → (followed_by y (survey o) a k).refused ≡ []
      → ((survey o s'.walk.around s'.walk.known).refused ≡ [])
      × (survey t s'.walk.around s'.walk.known ≡ survey o s'.walk.around s'.walk.known → followed_by x (survey t) a k ≡ followed_by y (survey o) a k)
  goes_on t o none =
      let u : Survey = y a k in
      let both = append_nothing u.refused (survey o (passing a u) (behind k u)).refused none in
      let g : IsGiven s s' (x a k) u = given both.0 in
      let at : (n : Nodes) → survey n s'.walk.around s'.walk.known ≡ survey n (passing a u) (behind k u) = λ n i. survey n (g.around i) (g.known i) in (
        ap (λ (z : Survey). z.refused) (at o) ∙ both.1,
        λ same. ap (λ (z : Survey). joined z (survey t (passing a z) (behind k z))) g.same ∙ ap (joined u) (sym (at t) ∙ same ∙ at o),
      )

pub two_go_on : (s m s' : Reading) (p q v w : Nodes → Nodes) → GoesOn s m p v → GoesOn m s' q w → GoesOn s s' (λ r. p (q r)) (λ r. v (w r))
two_go_on s m s' p q v w h n t o none =
    let here = h (q t) (w o) none in
    let later = n t o here.0 in
    (later.0, λ same. here.1 (later.1 same))

-- ---- what has no effect

pub stays : (s s' : Reading) → s'.walk.around ≡ s.walk.around → s'.walk.known ≡ s.walk.known → GoesOn s s' (λ r. r) (λ r. r)
stays s s' around known t o none =
    let at : (n : Nodes) → survey n s'.walk.around s'.walk.known ≡ survey n s.walk.around s.walk.known = λ n i. survey n (around i) (known i) in
    (ap (λ (z : Survey). z.refused) (at o) ∙ none, λ same. sym (at t) ∙ same ∙ at o)

empty_branch : (q : ℕ) (n : Nodes) (a : Around) (k : Known) → survey (branch q no_nodes no_nodes n) a k ≡ survey n a k
empty_branch q n a k = λ i. survey n (record a { way = append-nil a.way i }) (record k { entries = append-nil k.entries i })

-- an If in which nothing is declared
pub branch_stays : (q : ℕ) (s s' : Reading) → s'.walk ≡ leave (enter_first q s.walk) → GoesOn s s' (branch q no_nodes no_nodes) (λ r. r)
branch_stays q s s' is t o none =
    let w : Walk = s.walk in
    let there : pass (leave (enter_first q w)) ≡ passed (survey (branch q no_nodes no_nodes no_nodes) w.around w.known) w =
    sym (empty_else_is_none q (enter_first q w) (package_at walks.of_first q w, w.packages, refl, refl)) ∙ gives_nodes (branch q no_nodes no_nodes no_nodes) w in
    let around : s'.walk.around ≡ w.around = ap (λ (v : Walk). v.around) (ap pass is ∙ there) ∙ (λ i. record w.around { way = append-nil w.around.way i }) in
    let known : s'.walk.known ≡ w.known = ap (λ (v : Walk). v.known) (ap pass is ∙ there) ∙ (λ i. record w.known { entries = append-nil w.known.entries i }) in
    let go = stays s s' around known t o none in
    (go.0, λ same. empty_branch q t w.around w.known ∙ go.1 same)

-- ---- a term without nodes inside

pub term_goes_on : (t : Term) (c : Option ℕ) (s : Reading) → GoesOn s (declaring_in t c s) (declares t no_nodes) (declares t no_nodes)
term_goes_on t c s r o none =
    goes_on s (declaring_in t c s) (declaring t empty_survey) (declaring t empty_survey) (λ h. record { same = refl; around = refl; known = refl }) r o none

-- ---- out of a package

pub nothing_behind : (x : Surveying) (a : Around) (k : Known) → followed_by x empty_survey a k ≡ x a k
nothing_behind x a k = λ i. record {
  entries = append-nil (x a k).entries i;
  refused = append-nil (x a k).refused i;
  stops = append-nil (x a k).stops i;
  certain = (x a k).certain;
}

-- the state behind a package: what it gives, where `n` are its node and what stands in it
module _ (s s1 : Reading) (ms : NodeTrees) (level end : ℕ) (bytes : List ℕ) (are : AreNodes survey_rules level end s1 ms bytes) (p : Package) (outer : List Package)
    (around : s1.walk.packages ≡ p ∷ outer) (fresh : s1.walk.last_if ≡ None) (n : Nodes)
    (through_it : walked n s.walk ≡ leave (walked (nodes_of s1.base ms) s1.walk)) where
  pub left : pass (leave (after_all survey_rules s1 ms).walk) ≡ passed (survey n s.walk.around s.walk.known) s.walk
  left =
      let u : Walk = (after_all survey_rules s1 ms).walk in
      let v : Walk = walked (nodes_of s1.base ms) s1.walk in
      let in_v : v.packages ≡ p ∷ outer = ap (λ (w : Walk). w.packages) (gives_nodes (nodes_of s1.base ms) s1.walk) ∙ around in
      ap pass (left_alike u v p outer in_v (nodes_walked level end s1 ms bytes are fresh) ∙ sym through_it) ∙ gives_nodes n s.walk

-- what stands in a package gives the same as a whole
abbrev pub GivesAlike : Reading → (n whole : Nodes) → Type 0
GivesAlike s n whole = (survey whole s.walk.around s.walk.known).refused ≡ [] → survey n s.walk.around s.walk.known ≡ survey whole s.walk.around s.walk.known

one_refused : (r : Refusal) (rs : List Refusal) → r ∷ rs ≡ [] → ⊥
one_refused r rs e = cc

module _ (s : Reading) (place : ℕ) (n : NameParts) (whole : Nodes) where
  abbrev scope_place : ℕ
  scope_place = s.base + place

  abbrev found : Result Path Why
  found = opened_at s.walk.known s.walk.around.scope n

  -- a Scope that is gone into
  module _ (ms : NodeTrees) (level end : ℕ) (bytes : List ℕ) (are : AreNodes survey_rules level end (enter s place (outline.scope n)) ms bytes)
      (inside : GivesAlike (enter s place (outline.scope n)) (nodes_of s.base ms) whole) where
    abbrev in_scope : Reading
    in_scope = enter s place (outline.scope n)

    abbrev behind_scope : Reading
    behind_scope = record (after_all survey_rules in_scope ms) { walk = leave (after_all survey_rules in_scope ms).walk }

    scope_given : (r : Result Path Why) → found ≡ r → (opening scope_place n (survey whole) s.walk.around s.walk.known).refused ≡ []
        → IsGiven s behind_scope (opening scope_place n (survey (nodes_of s.base ms)) s.walk.around s.walk.known) (opening scope_place n (survey whole) s.walk.around s.walk.known)
    scope_given (Err why) e none = absurd (one_refused _ _ (sym (ap (λ (r : Result Path Why). (opening_as scope_place (survey whole) s.walk.around s.walk.known r).refused) e) ∙ none))
    scope_given (Ok p) e none =
        let w : Walk = s.walk in
        let q : ℕ = scope_place in
        let m : Nodes = nodes_of s.base ms in
        let at : in_scope.walk ≡ enter_scope_as q w (Ok p) = ap (enter_scope_as q w) e in
        let there : (x : Nodes) → survey x in_scope.walk.around in_scope.walk.known ≡ survey x (inside_scope q w.around w.known p) (known_in_scope w.known p) =
        λ x. ap (λ (v : Walk). survey x v.around v.known) at in
        let opened : (x : Nodes) → opening q n (survey x) w.around w.known ≡ with_scope w.known p (survey x in_scope.walk.around in_scope.walk.known) =
        λ x. ap (opening_as q (survey x) w.around w.known) e ∙ ap (with_scope w.known p) (sym (there x)) in
        let alike : survey m in_scope.walk.around in_scope.walk.known ≡ survey whole in_scope.walk.around in_scope.walk.known =
        inside (sym (ap (λ (z : Survey). z.refused) (opened whole)) ∙ none) in
        let same : opening q n (survey m) w.around w.known ≡ opening q n (survey whole) w.around w.known = opened m ∙ ap (with_scope w.known p) alike ∙ sym (opened whole) in
        let out : pass (leave (after_all survey_rules in_scope ms).walk) ≡ passed (survey (opens q n m no_nodes) w.around w.known) w =
        left s in_scope ms level end bytes are (package_at (of_scope (is_certain_scope w.known p)) q w) w.packages (ap (λ (v : Walk). v.packages) at) (ap (λ (v : Walk). v.last_if) at)
        (opens q n m no_nodes) (ap (λ (r : Result Path Why). through r (walked m) (walks.enter_scope q n w)) e) in
        let given : pass (leave (after_all survey_rules in_scope ms).walk) ≡ passed (opening q n (survey whole) w.around w.known) w =
        out ∙ ap (λ (z : Survey). passed z w) (nothing_behind (opening q n (survey m)) w.around w.known ∙ same) in
        record { same = same; around = ap (λ (v : Walk). v.around) given; known = ap (λ (v : Walk). v.known) given }

    pub scope_goes_on : GoesOn s behind_scope (opens scope_place n (nodes_of s.base ms)) (opens scope_place n whole)
    scope_goes_on t o none =
        goes_on s behind_scope (opening scope_place n (survey (nodes_of s.base ms))) (opening scope_place n (survey whole)) (scope_given found refl) t o none

  -- one that isn't would be refused
  scope_not_refused : (r : Result Path Why) → found ≡ r → is_ok r ≡ false → (opening scope_place n (survey whole) s.walk.around s.walk.known).refused ≡ [] → ⊥
  scope_not_refused (Err why) e closed none = one_refused _ _ (sym (ap (λ (r : Result Path Why). (opening_as scope_place (survey whole) s.walk.around s.walk.known r).refused) e) ∙ none)
  scope_not_refused (Ok p) e closed none = true≢false closed

  pub closed_scope : goes_into survey_rules s (outline.scope n) ≡ false → (s' : Reading) (put : Nodes → Nodes) → GoesOn s s' put (opens scope_place n whole)
  closed_scope closed s' put t o none =
      let both = append_nothing (opening scope_place n (survey whole) s.walk.around s.walk.known).refused _ none in
      absurd (scope_not_refused found refl closed both.0)

module _ (s : Reading) (place : ℕ) (form : ContainerForm) (n : NameParts) (vs : TermTrees) (whole : Nodes) where
  abbrev container_term : Term
  container_term = term_at (s.base + place) n true []

  abbrev declared : Result Path Why
  declared = declared_at s.walk.known s.walk.around.scope n

  -- a term with a scope of its own that is gone into
  module _ (ms : NodeTrees) (level end : ℕ) (bytes : List ℕ) (are : AreNodes survey_rules level end (enter s place (container form n vs)) ms bytes)
      (inside : GivesAlike (enter s place (container form n vs)) (nodes_of s.base ms) whole) where
    abbrev in_container : Reading
    in_container = enter s place (container form n vs)

    abbrev behind_container : Reading
    behind_container = record (after_all survey_rules in_container ms) { walk = leave (after_all survey_rules in_container ms).walk }

    container_given : (r : Result Path Why) → declared ≡ r → (declaring container_term (survey whole) s.walk.around s.walk.known).refused ≡ []
        → IsGiven s behind_container (declaring container_term (survey (nodes_of s.base ms)) s.walk.around s.walk.known) (declaring container_term (survey whole) s.walk.around s.walk.known)
    container_given (Err why) e none = absurd (one_refused _ _ (sym (ap (λ (r : Result Path Why). (declaring_as container_term (survey whole) s.walk.around s.walk.known r).refused) e) ∙ none))
    container_given (Ok p) e none =
        let w : Walk = s.walk in
        let t : Term = container_term in
        let en : Entry = entry_at w.around w.known t p in
        let m : Nodes = nodes_of s.base ms in
        let at : in_container.walk ≡ enter_term_as t w (Ok p) = ap (enter_term_as t w) e in
        let there : (x : Nodes) → survey x in_container.walk.around in_container.walk.known ≡ survey x (inside_of en) (known_inside w.known en) =
        λ x. ap (λ (v : Walk). survey x v.around v.known) at in
        let opened : (x : Nodes) → declaring t (survey x) w.around w.known ≡ with_inside w.known en (survey x in_container.walk.around in_container.walk.known) =
        λ x. ap (declaring_as t (survey x) w.around w.known) e ∙ ap (with_inside w.known en) (sym (there x)) in
        let alike : survey m in_container.walk.around in_container.walk.known ≡ survey whole in_container.walk.around in_container.walk.known =
        inside (sym (ap (λ (z : Survey). z.refused) (opened whole)) ∙ none) in
        let same : declaring t (survey m) w.around w.known ≡ declaring t (survey whole) w.around w.known = opened m ∙ ap (with_inside w.known en) alike ∙ sym (opened whole) in
        let out : pass (leave (after_all survey_rules in_container ms).walk) ≡ passed (survey (declares t m no_nodes) w.around w.known) w =
        left s in_container ms level end bytes are (package_at of_term t.place w) w.packages (ap (λ (v : Walk). v.packages) at) (ap (λ (v : Walk). v.last_if) at)
        (declares t m no_nodes) (ap (λ (r : Result Path Why). through r (walked m) (walks.enter_term t w)) e) in
        let given : pass (leave (after_all survey_rules in_container ms).walk) ≡ passed (declaring t (survey whole) w.around w.known) w =
        out ∙ ap (λ (z : Survey). passed z w) (nothing_behind (declaring t (survey m)) w.around w.known ∙ same) in
        record { same = same; around = ap (λ (v : Walk). v.around) given; known = ap (λ (v : Walk). v.known) given }

    pub container_goes_on : GoesOn s behind_container (declares container_term (nodes_of s.base ms)) (declares container_term whole)
    container_goes_on t o none =
        goes_on s behind_container (declaring container_term (survey (nodes_of s.base ms))) (declaring container_term (survey whole)) (container_given declared refl) t o none

  container_not_refused : (r : Result Path Why) → declared ≡ r → is_ok r ≡ false → (declaring container_term (survey whole) s.walk.around s.walk.known).refused ≡ [] → ⊥
  container_not_refused (Err why) e closed none = one_refused _ _ (sym (ap (λ (r : Result Path Why). (declaring_as container_term (survey whole) s.walk.around s.walk.known r).refused) e) ∙ none)
  container_not_refused (Ok p) e closed none = true≢false closed

  pub closed_container : goes_into survey_rules s (container form n vs) ≡ false → (s' : Reading) (put : Nodes → Nodes) → GoesOn s s' put (declares container_term whole)
  closed_container closed s' put t o none =
      let both = append_nothing (declaring container_term (survey whole) s.walk.around s.walk.known).refused _ none in
      absurd (container_not_refused declared refl closed both.0)
