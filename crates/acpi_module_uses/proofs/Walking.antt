-- Steps of the walk over the nodes of a table.
use Rattle.std.proofs.Common.{◌≡◌, ◌<◌, ◌≤◌, ◌+◌, ◌++◌, ◌∙◌, ℕ, Bool, true, false, cond, List, [], ◌∷◌, length, map, take, drop, get_or, Option, Some, None, refl, sym, ap, ap₂, arith, append_assoc}
use Rattle.std.specs.List.{filter}
use Rattle.std.proofs.lemmas.Grind.{flat_map-append}
use Rattle.std.proofs.lemmas.List.{drop_more, map-append, take-append-le, take-append-drop, length-append, length-take-le}
use Rattle.std.proofs.Math.Seq.{take-append_seam}
use Rattle.acpi_outline.specs.Nodes.{FixedTree, NodeTree, NodeTrees, node}
use Rattle.acpi_outline.specs.View.{Placed, node_view, node_step, nodes_step, placed_step, placed_views, put_before, end_view}
use Rattle.acpi_outline.specs.declared.node.Lost.{Lost}
use Rattle.acpi_outline.specs.declared.node.PlacedNode.{PlacedNode, fold_out-PlacedNode}
use Rattle.acpi_conditions.specs.Entries.{Path, Turn, past, StopAt}
use Rattle.acpi_conditions.specs.Survey.{leaves_table}
use Rattle.acpi_conditions.specs.Turns.{stop_of, turn_of}
use Rattle.acpi_conditions.specs.declared.stops.StopAt.{StopAt as StopForm}
use Rattle.acpi_conditions.specs.declared.turns.Turn.{Turn as TurnForm}
use Rattle.acpi_conditions.specs.declared.turns.Turn.TheVariants.{Past}
use Rattle.acpi_survey.specs.Survey.{place_in}
use Rattle.acpi_ranges.specs.Ranges.{Entered, scope_inside, is_if}
use Rattle.acpi_module_uses.specs.Ways.{IfBefore, Position, stops_of, stops_in, past_stops, way_inside, position_inside, position_behind, nodes_from, nodes_inside}
use Rattle.acpi_module_uses.specs.ModuleNames.{ModuleNameParts, Setting, names_at}
use Rattle.acpi_module_uses.specs.steps.WayViews.{before_view, position_of, stop_view, stop_views, turns_past}
use Rattle.acpi_module_uses.specs.steps.Steps.{names_from, names_inside}
use Rattle.acpi_module_uses.specs.declared.ways.IfBefore.{IfBefore as IfForm}

-- ---- stops

kept_next : (b : Bool) (s : StopForm) (ss : List StopForm) (kept : List StopAt) → stop_views ss ≡ kept → stop_views (cond b (s ∷ ss) ss) ≡ cond b (stop_view s ∷ kept) kept
kept_next true s ss kept is = ap (λ xs. stop_view s ∷ xs) is
kept_next false s ss kept is = is

pub returns_kept : (ss : List StopForm) → stop_views (filter (λ (s : StopForm). leaves_table (stop_of s.kind)) ss) ≡ filter (λ (s : StopAt). leaves_table s.kind) (stop_views ss)
returns_kept [] = refl
returns_kept (s ∷ ss) =
    kept_next (leaves_table (stop_of s.kind)) s (filter (λ (s : StopForm). leaves_table (stop_of s.kind)) ss) (filter (λ (s : StopAt). leaves_table s.kind) (stop_views ss)) (returns_kept ss)

-- ---- turns

pasts : (ss : List StopForm) → map turn_of (turns_past ss) ≡ past_stops [] (stop_views ss)
pasts [] = refl
pasts (s ∷ ss) = ap (λ ts. past s.place ∷ ts) (pasts ss)

pub way_past : (ts : List TurnForm) (ss : List StopForm) → map turn_of (ts ++ turns_past ss) ≡ past_stops (map turn_of ts) (stop_views ss)
way_past ts ss = map-append turn_of ts (turns_past ss) ∙ ap (λ xs. map turn_of ts ++ xs) (pasts ss)

pub turns_more : (first ts now : List TurnForm) (ss more all : List StopForm) → ts ≡ first ++ turns_past ss → now ≡ ts ++ turns_past more → all ≡ ss ++ more → now ≡ first ++ turns_past all
turns_more first ts now ss more all before is stops =
    is ∙ ap (λ x. x ++ turns_past more) before ∙ append_assoc first (turns_past ss) (turns_past more)
    ∙ ap (λ x. first ++ x) (sym (map-append (λ (s : StopForm). Past s.place) ss more)) ∙ ap (λ x. first ++ turns_past x) (sym stops)

-- the turns into a package begin with some of those before it
pub entered_back : (old : List TurnForm) (t : TurnForm) (k : ℕ) → k ≤ length old → take k (take k old ++ t ∷ []) ++ drop k old ≡ old
entered_back old t k le =
    let size : length (take k old) ≡ k = length-take-le k old le in
    let cut : take k (take k old ++ t ∷ []) ≡ take k old = ap (λ n. take n (take k old ++ t ∷ [])) (sym size) ∙ take-append_seam (take k old) (t ∷ []) in
    ap (λ xs. xs ++ drop k old) cut ∙ take-append-drop k old

pub entered_within : (old : List TurnForm) (t : TurnForm) (k : ℕ) → k ≤ length old → k ≤ length (take k old ++ t ∷ [])
entered_within old t k le = omega (arith, length-take-le k old le, length-append (take k old) (t ∷ []))

-- they are back behind it
pub turns_restored : (old entered now new left more : List TurnForm) (k : ℕ) → take k entered ++ left ≡ old → k ≤ length entered → now ≡ entered ++ more → new ≡ take k now ++ left → new ≡ old
turns_restored old entered now new left more k back within is restored =
    restored ∙ ap (λ xs. take k xs ++ left) is ∙ ap (λ xs. xs ++ left) (take-append-le k entered more within) ∙ back

-- ---- positions

abbrev at : Path → List Turn → Option IfBefore → Position
at s way before = record { scope = s; way = way; before = before }

abbrev if_at : Bool → ℕ → ℕ → Option IfForm
if_at b place turns = cond b (Some (record { place = place; turns = turns })) None

kept_before : (b : Bool) (place : ℕ) (ts more : List TurnForm) → cond b (Some (record { place = place; way = map turn_of ts })) None ≡ before_view (ts ++ more) (if_at b place (length ts))
kept_before true place ts more = ap (λ xs. Some (record { place = place; way = map turn_of xs })) (sym (take-append_seam ts more))
kept_before false place ts more = refl

-- what the code knows of the node behind
pub behind_is : (table place : ℕ) (n : NodeTree) (s : Path) (ts now : List TurnForm) (before next : Option IfForm) (at_place count : ℕ) (ss : List StopForm)
    → stop_views ss ≡ stops_of table place n → now ≡ ts ++ turns_past ss → next ≡ cond (is_if n) (Some (record { place = at_place; turns = count })) None
    → at_place ≡ place_in table place → count ≡ length ts
    → position_behind table place n (position_of s ts before) ≡ position_of s now next
behind_is table place n s ts now before next at_place count ss stops turns is here many =
    let way : past_stops (map turn_of ts) (stops_of table place n) ≡ map turn_of now = ap (past_stops (map turn_of ts)) (sym stops) ∙ sym (way_past ts ss) ∙ ap (map turn_of) (sym turns) in
    let found : next ≡ if_at (is_if n) (place_in table place) (length ts) = is ∙ ap₂ (if_at (is_if n)) here many in
    let back : cond (is_if n) (Some (record { place = place_in table place; way = map turn_of ts })) None ≡ before_view now next =
    kept_before (is_if n) (place_in table place) ts (turns_past ss) ∙ ap₂ before_view (sym turns) (sym found) in
    ap₂ (at s) way back

pub inside_is : (entered : Entered) (table place : ℕ) (f : FixedTree) (s from : Path) (ts now : List TurnForm) (before : Option IfForm)
    → from ≡ scope_inside entered place f s → map turn_of now ≡ way_inside (place_in table place) f (position_of s ts before)
    → position_of from now None ≡ position_inside entered table place f (position_of s ts before)
inside_is entered table place f s from ts now before scope way = ap₂ (λ p w. at p w None) scope way

-- ---- names

pub names_step : (s : Setting) (a b : Position) (place : ℕ) (n : NodeTree) (l ns : NodeTrees) (f g all : List ModuleNameParts)
    → l ≡ node place n ns
    → f ++ names_from s a l ≡ all
    → g ≡ (f ++ names_at s (record { place = place; scope = a.scope; way = a.way; node = n })) ++ names_inside s place a n
    → position_behind s.table place n a ≡ b
    → g ++ names_from s b ns ≡ all
names_step s a b place n l ns f g all first h more behind =
    let x = names_at s (record { place = place; scope = a.scope; way = a.way; node = n }) in
    let y = names_inside s place a n in
    let z = names_from s b ns in
    let whole : names_from s a l ≡ x ++ (y ++ z) =
    ap (names_from s a) first
    ∙ ap (λ r. x ++ r) (flat_map-append (names_at s) (nodes_inside s.entered s.table place a n) (nodes_from s.entered s.table (position_behind s.table place n a) ns))
    ∙ ap (λ c. x ++ (y ++ names_from s c ns)) behind in
    ap (λ r. r ++ z) more ∙ append_assoc (f ++ x) y z ∙ append_assoc f x (y ++ z) ∙ ap (λ r. f ++ r) (sym whole) ∙ h

pub stops_more : (table place : ℕ) (n : NodeTree) (l ns : NodeTrees) (ss more now : List StopForm) (all : List StopAt)
    → l ≡ node place n ns → stop_views ss ++ stops_in table l ≡ all → stop_views more ≡ stops_of table place n → now ≡ ss ++ more → stop_views now ++ stops_in table ns ≡ all
stops_more table place n l ns ss more now all first h is stops =
    ap (λ x. stop_views x ++ stops_in table ns) stops ∙ ap (λ x. x ++ stops_in table ns) (map-append stop_view ss more)
    ∙ append_assoc (stop_views ss) (stop_views more) (stops_in table ns) ∙ ap (λ x. stop_views ss ++ (x ++ stops_in table ns)) is
    ∙ ap (λ x. stop_views ss ++ stops_in table x) (sym first) ∙ h

-- ---- lists of nodes

pub list_step : (ps : List PlacedNode) (i : ℕ) (p : PlacedNode) (l : Option Lost) → i < length ps → p ≡ get_or ps i p
    → put_before (placed_views (drop i ps)) (end_view l) ≡ node p.place (node_view p.node) (put_before (placed_views (drop (i + 1) ps)) (end_view l))
list_step ps i p l lt is =
    let more : drop i ps ≡ p ∷ drop (i + 1) ps = rw (drop_more ps i p lt, sym is) refl in
    ap (λ qs. put_before (placed_views qs) (end_view l)) more
    ∙ ap (λ q. node q.0 q.1 (put_before (placed_views (drop (i + 1) ps)) (end_view l))) (fold_out-PlacedNode NodeTree NodeTrees Placed node_step nodes_step placed_step p)
