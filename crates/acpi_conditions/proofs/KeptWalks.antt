-- What always holds of a walk as the code keeps it, and what it is, where its parts change.
use Rattle.std.proofs.Common.{◌≡◌, ℕ, ◌<◌, true, List, [], ◌∷◌, ◌++◌, map, reverse, length, Option, Some, None, Vec, Global, refl, sym, ap, ap₂, subst, ◌∙◌, arith, append-nil}
use Rattle.std.specs.List.{AllByRecursion}
use Rattle.std.specs.Option.{option_map}
use Rattle.std.proofs.lemmas.List.{length-append, length-map, map_push}
use Rattle.std.proofs.Math.Seq.{get_or-append_seam}
use Rattle.acpi_space.proofs.Elements.{all_append}
use Rattle.acpi_conditions.specs.Entries.{Turn, Entry}
use Rattle.acpi_conditions.specs.Known.{Certain}
use Rattle.acpi_conditions.specs.Turns.{way_of}
use Rattle.acpi_conditions.specs.EntryForms.{entry_view}
use Rattle.acpi_conditions.specs.KnownLists.{KnownLists, lists_at, known_by, seen_beyond}
use Rattle.acpi_conditions.specs.Walk.{Package}
use Rattle.acpi_conditions.specs.declared.turns.Way.{Way}
use Rattle.acpi_conditions.specs.declared.entry.Entry.{Entry as EntryForm}
use Rattle.acpi_conditions.specs.declared.packages.Package.{Package as PackageForm}
use Rattle.acpi_conditions.specs.declared.walk.Walk.TheInside.{Inside}
use Rattle.acpi_conditions.specs.steps.Stops.{IsWayOf}
use Rattle.acpi_conditions.specs.steps.Moves.{with_turn, with_certain, with_entry, with_loop}
use Rattle.acpi_conditions.specs.steps.Walks.{AreBefore, AreMarksOf, open_packages, marks_of, package_of, walk_of, IsWalk}
use Rattle.acpi_conditions.proofs.SeenLists.{before_more, seen_more}
use Rattle.acpi_conditions.proofs.Marks.{Extends, AreSameAt, marks_outer, still_ways, still_entry_ways, entries_grown, known_grown, packages_grown, same_extended, all_take}

-- ---- the If directly before, and the packages around

module _ (f g : PackageForm → Package) (ps : List PackageForm) where
  split_last : (o : Option PackageForm) → map f (open_packages o ps) ≡ map g (open_packages o ps) → option_map f o ≡ option_map g o
  split_last None e = refl
  split_last (Some p) e = cc

  split_packages : (o : Option PackageForm) → map f (open_packages o ps) ≡ map g (open_packages o ps) → map f (reverse ps) ≡ map g (reverse ps)
  split_packages None e = e
  split_packages (Some p) e = cc

-- ---- no If directly before

module _ (w : Inside) (h : IsWalk w) where
  pub no_if : IsWalk (record w { last_if = None })
  no_if = record { ways = h.ways; way = h.way; entries = h.entries; packages = packages w.last_if h.packages; marks = marks w.last_if h.marks; ranges = h.ranges }
    where
      packages : (o : Option PackageForm) → AllByRecursion (λ p. IsWayOf w.ways p.way) (open_packages o w.packages.items) → AllByRecursion (λ p. IsWayOf w.ways p.way) (open_packages None w.packages.items)
      packages None all = all
      packages (Some p) all = all.1

      marks : (o : Option PackageForm) → AreMarksOf w.paths (marks_of (open_packages o w.packages.items) w.start) → AreMarksOf w.paths (marks_of (open_packages None w.packages.items) w.start)
      marks None all = all
      marks (Some p) all = marks_outer w.paths p.mark (marks_of (open_packages None w.packages.items) w.start) all

  -- ---- more ways

  module _ (more : List (List Turn)) (v : Way) (is : IsWayOf (w.ways ++ more) v) where
    pub ways_kept : IsWalk (record w { ways = w.ways ++ more; way = v })
    ways_kept = record {
      ways = let l : 0 < length w.ways = h.ways in omega (arith, length-append w.ways more);
      way = is;
      entries = still_entry_ways w.ways more w.paths.entries h.entries;
      packages = still_ways w.ways more (open_packages w.last_if w.packages.items) h.packages;
      marks = h.marks;
      ranges = h.ranges;
    }

    pub ways_same : walk_of (record w { ways = w.ways ++ more; way = v }) ≡ record (walk_of w) { around = record { scope = w.scope; way = way_of (w.ways ++ more) v } }
    ways_same =
        let ps = packages_grown w.ways more w.paths (open_packages w.last_if w.packages.items) h.entries h.packages in
        λ i. record (walk_of w) {
          around = record { scope = w.scope; way = way_of (w.ways ++ more) v };
          known = known_grown w.ways more w.paths h.entries i;
          entries = entries_grown w.ways more w.paths.entries h.entries i;
          packages = split_packages (package_of (w.ways ++ more) w.paths) (package_of w.ways w.paths) w.packages.items w.last_if ps i;
          last_if = split_last (package_of (w.ways ++ more) w.paths) (package_of w.ways w.paths) w.packages.items w.last_if ps i;
          start = record { known = known_grown w.ways more (lists_at w.start w.paths) (all_take (λ e. IsWayOf w.ways e.way) w.start.entries w.paths.entries h.entries) i; entries = w.start.entries };
        }

  -- ---- longer lists

  module _ (k : KnownLists) (x : Extends w.paths k) (es : AllByRecursion (λ e. IsWayOf w.ways e.way) k.entries) (rs : AreBefore (length k.entries) k.hidden) where
    same_at : AreSameAt w.ways w.paths k (open_packages w.last_if w.packages.items) w.start
    same_at = same_extended w.ways w.paths k (open_packages w.last_if w.packages.items) w.start x h.marks

    pub lists_kept : IsWalk (record w { paths = k })
    lists_kept = record { ways = h.ways; way = h.way; entries = es; packages = h.packages; marks = same_at.marks; ranges = rs }

    pub lists_same : walk_of (record w { paths = k }) ≡ record (walk_of w) { known = known_by w.ways k; entries = map (entry_view w.ways) k.entries }
    lists_same = λ i. record (walk_of w) {
      known = known_by w.ways k;
      entries = map (entry_view w.ways) k.entries;
      packages = split_packages (package_of w.ways k) (package_of w.ways w.paths) w.packages.items w.last_if same_at.packages i;
      last_if = split_last (package_of w.ways k) (package_of w.ways w.paths) w.packages.items w.last_if same_at.packages i;
      start = record { known = ap (known_by w.ways) same_at.start i; entries = w.start.entries };
    }

-- ---- each move

-- a turn
module _ (w : Inside) (h : IsWalk w) (ways : List (List Turn)) (v : Way) (turn : Turn) (grown : ways ≡ w.ways ++ (way_of w.ways w.way ++ turn ∷ []) ∷ []) (number : v.number ≡ length w.ways) where
  turned_way : IsWayOf (w.ways ++ (way_of w.ways w.way ++ turn ∷ []) ∷ []) v
  turned_way = omega (arith, number, length-append w.ways ((way_of w.ways w.way ++ turn ∷ []) ∷ []))

  pub turn_kept : IsWalk (record w { ways = ways; way = v })
  turn_kept = subst (λ (ws : List (List Turn)). IsWalk (record w { ways = ws; way = v })) (sym grown) (ways_kept w h ((way_of w.ways w.way ++ turn ∷ []) ∷ []) v turned_way)

  pub turn_same : walk_of (record w { ways = ways; way = v }) ≡ with_turn turn (walk_of w)
  turn_same =
      ap (λ (ws : List (List Turn)). walk_of (record w { ways = ws; way = v })) grown ∙ ways_same w h ((way_of w.ways w.way ++ turn ∷ []) ∷ []) v turned_way
      ∙ ap (λ (l : List Turn). record (walk_of w) { around = record { scope = w.scope; way = l } })
      (ap (λ (n : ℕ). way_of (w.ways ++ (way_of w.ways w.way ++ turn ∷ []) ∷ []) (record { number = n })) number ∙ get_or-append_seam w.ways (way_of w.ways w.way ++ turn ∷ []) [] [])

-- more is certain
module _ (w : Inside) (h : IsWalk w) (k : KnownLists) (cs : List Certain) (is : k ≡ record w.paths { certain = cs ++ w.paths.certain }) where
  certain_extends : Extends w.paths (record w.paths { certain = cs ++ w.paths.certain })
  certain_extends = record { entries = ([], sym (append-nil w.paths.entries)); certain = (cs, refl); hidden = ([], sym (append-nil w.paths.hidden)) }

  pub certain_kept : IsWalk (record w { paths = k })
  certain_kept = subst (λ (k : KnownLists). IsWalk (record w { paths = k })) (sym is) (lists_kept w h (record w.paths { certain = cs ++ w.paths.certain }) certain_extends h.entries h.ranges)

  pub certain_same : walk_of (record w { paths = k }) ≡ with_certain (cs ++ w.paths.certain) (walk_of w)
  certain_same = ap (λ (k : KnownLists). walk_of (record w { paths = k })) is ∙ lists_same w h (record w.paths { certain = cs ++ w.paths.certain }) certain_extends h.entries h.ranges

-- a While
module _ (w : Inside) (h : IsWalk w) (k : KnownLists) (is : k ≡ record w.paths { in_loop = true }) where
  loop_extends : Extends w.paths (record w.paths { in_loop = true })
  loop_extends = record { entries = ([], sym (append-nil w.paths.entries)); certain = ([], refl); hidden = ([], sym (append-nil w.paths.hidden)) }

  pub loop_kept : IsWalk (record w { paths = k })
  loop_kept = subst (λ (k : KnownLists). IsWalk (record w { paths = k })) (sym is) (lists_kept w h (record w.paths { in_loop = true }) loop_extends h.entries h.ranges)

  pub loop_same : walk_of (record w { paths = k }) ≡ with_loop (walk_of w)
  loop_same = ap (λ (k : KnownLists). walk_of (record w { paths = k })) is ∙ lists_same w h (record w.paths { in_loop = true }) loop_extends h.entries h.ranges

-- an entry
module _ (w : Inside) (h : IsWalk w) (k : KnownLists) (e : EntryForm) (is : k ≡ record w.paths { entries = w.paths.entries ++ e ∷ [] }) (known : IsWayOf w.ways e.way) where
  entry_extends : Extends w.paths (record w.paths { entries = w.paths.entries ++ e ∷ [] })
  entry_extends = record { entries = (e ∷ [], refl); certain = ([], refl); hidden = ([], sym (append-nil w.paths.hidden)) }

  entry_ways : AllByRecursion (λ e. IsWayOf w.ways e.way) (w.paths.entries ++ e ∷ [])
  entry_ways = all_append (λ (e : EntryForm). IsWayOf w.ways e.way) w.paths.entries (e ∷ []) h.entries (known, tt)

  entry_ranges : AreBefore (length (w.paths.entries ++ e ∷ [])) w.paths.hidden
  entry_ranges = before_more (length w.paths.entries) (length (w.paths.entries ++ e ∷ [])) w.paths.hidden (omega (arith, length-append w.paths.entries (e ∷ []))) h.ranges

  pub entry_put : IsWalk (record w { paths = k })
  entry_put = subst (λ (k : KnownLists). IsWalk (record w { paths = k })) (sym is) (lists_kept w h (record w.paths { entries = w.paths.entries ++ e ∷ [] }) entry_extends entry_ways entry_ranges)

  pub entry_same : walk_of (record w { paths = k }) ≡ with_entry (entry_view w.ways e) (walk_of w)
  entry_same =
      ap (λ (k : KnownLists). walk_of (record w { paths = k })) is ∙ lists_same w h (record w.paths { entries = w.paths.entries ++ e ∷ [] }) entry_extends entry_ways entry_ranges
      ∙ ap₂ (λ (es seen : List Entry). record (walk_of w) { entries = es; known = record (known_by w.ways w.paths) { entries = seen } })
      (map_push (entry_view w.ways) w.paths.entries e)
      (ap (seen_beyond w.paths.hidden 0) (map_push (entry_view w.ways) w.paths.entries e)
      ∙ seen_more w.paths.hidden (map (entry_view w.ways) w.paths.entries) (entry_view w.ways e ∷ []) (subst (λ (n : ℕ). AreBefore n w.paths.hidden) (sym (length-map w.paths.entries (entry_view w.ways))) h.ranges))

-- ---- the same packages

pub packages_still : (w : Inside) → IsWalk w → (v : Vec PackageForm Global) → v.items ≡ w.packages.items → IsWalk (record w { packages = v; last_if = None })
packages_still w h v same = record {
  ways = h.ways;
  way = h.way;
  entries = h.entries;
  packages = subst (λ (ps : List PackageForm). AllByRecursion (λ p. IsWayOf w.ways p.way) (reverse ps)) (sym same) (no_if w h).packages;
  marks = subst (λ (ps : List PackageForm). AreMarksOf w.paths (marks_of (reverse ps) w.start)) (sym same) (no_if w h).marks;
  ranges = h.ranges;
}
