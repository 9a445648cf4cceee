-- A walk as the code keeps it, where it goes into packages and out of them.
use Rattle.std.proofs.Common.{◌≡◌, ℕ, zero, suc, ◌-◌, ◌≤◌, Bool, true, false, cond, List, [], ◌∷◌, ◌++◌, map, reverse, length, take, drop, Option, Some, None, slice_get, Vec, Global, refl, sym, ap, ap₂, subst, ◌∙◌, arith, append-nil}
use Rattle.std.specs.List.{AllByRecursion, filter, flat_map}
use Rattle.std.specs.Option.{option_map, option_to_list}
use Rattle.std.proofs.lemmas.Option.{slice_get-map}
use Rattle.std.proofs.Math.ListN.{drop_of_length-le}
use Rattle.std.proofs.lemmas.List.{map-append, length-map, reverse-append, take-map, take-append-drop}
use Rattle.std.specs.List.{drop-map}
use Rattle.acpi_space.proofs.Elements.{all_append, one_some}
use Rattle.acpi_conditions.specs.Entries.{Path, Turn, past, asks_nothing, Entry, StopAt}
use Rattle.acpi_conditions.specs.Known.{Certain, settled}
use Rattle.acpi_conditions.specs.Survey.{leaves_table, lasting}
use Rattle.acpi_conditions.specs.Turns.{way_of}
use Rattle.acpi_conditions.specs.EntryForms.{entry_view}
use Rattle.acpi_conditions.specs.KnownLists.{KnownLists, oldest, lists_behind, lists_at, known_by, seen_beyond}
use Rattle.acpi_conditions.specs.Walk.{Package, Walk, package_at, if_of, certain_after}
use Rattle.acpi_conditions.specs.declared.turns.Way.{Way}
use Rattle.acpi_conditions.specs.declared.entry.Entry.{Entry as EntryForm}
use Rattle.acpi_conditions.specs.declared.facts.HiddenRange.{HiddenRange}
use Rattle.acpi_conditions.specs.declared.stops.StopAt.{StopAt as StopAtForm}
use Rattle.acpi_conditions.specs.declared.packages.Kind.{Kind as KindForm}
use Rattle.acpi_conditions.specs.declared.packages.Kind.TheVariants.{Term, Scope, First, Other, Body}
use Rattle.acpi_conditions.specs.declared.packages.Package.{Package as PackageForm}
use Rattle.acpi_conditions.specs.declared.walk.Walk.TheInside.{Inside}
use Rattle.acpi_conditions.specs.steps.Stops.{IsWayOf, Grows, pasts, is_return, returns_from, stop_at_of}
use Rattle.acpi_conditions.specs.steps.Packages.{kind_of, if_directly_before}
use Rattle.acpi_conditions.specs.steps.Moves.{with_package, with_other, gone_back, gone_out, at_start, with_returns, IsBehindTerm}
use Rattle.acpi_conditions.specs.steps.Walks.{AreBefore, AreMarksOf, open_packages, marks_of, package_of, walk_of, IsWalk}
use Rattle.acpi_conditions.proofs.SeenLists.{before_more, seen_hidden, seen_since}
use Rattle.acpi_conditions.proofs.Marks.{Extends, AreSameAt, IsNow, marks_outer, marks_now, lists_now, same_again, marks_again, at_again, marks_start, behind_extends, back_extends, still_way}
use Rattle.acpi_conditions.proofs.KeptWalks.{no_if, ways_kept, ways_same}
use Rattle.acpi_conditions.proofs.StopLists.{pasts_of, returns_of}

-- ---- the innermost package

last_at : {X : Type 0} (xs : List X) (x : X) (n : ℕ) → suc n ≡ length xs → slice_get xs n ≡ Some x → (ys : List X) × (reverse xs ≡ x ∷ ys)
last_at [] x n l e = absurd (omega arith)
last_at (y ∷ []) x zero l e = ([], ap (λ z. z ∷ []) (one_some y x e))
last_at (y ∷ []) x (suc n) l e = absurd (omega arith)
last_at (y ∷ z ∷ zs) x zero l e = absurd (omega arith)
last_at (y ∷ z ∷ zs) x (suc n) l e =
    let r = last_at (z ∷ zs) x n (omega arith) e in
    (r.0 ++ y ∷ [], reverse-append (y ∷ []) (z ∷ zs) ∙ ap (λ l. l ++ y ∷ []) r.1)

pub last_is : {X : Type 0} (xs : List X) (x : X) → slice_get xs (length xs - 1) ≡ Some x → (ys : List X) × (reverse xs ≡ x ∷ ys)
last_is [] x e = cc
last_is (y ∷ ys) x e = last_at (y ∷ ys) x (length (y ∷ ys) - 1) (omega arith) e

none_past : {X : Type 0} (xs : List X) (n : ℕ) → slice_get xs n ≡ None → length xs ≤ n
none_past [] n e = omega arith
none_past (x ∷ xs) zero e = cc
none_past (x ∷ xs) (suc n) e = omega (arith, none_past xs n e)

-- ---- into a package

module _ (w : Inside) (h : IsWalk w) (v : Vec PackageForm Global) (p : PackageForm) (push : v.items ≡ w.packages.items ++ p ∷ []) where
  top_pushed : reverse v.items ≡ p ∷ reverse w.packages.items
  top_pushed = ap reverse push ∙ reverse-append w.packages.items (p ∷ [])

  pub push_kept : IsWayOf w.ways p.way → AreMarksOf w.paths (p.mark ∷ marks_of (reverse w.packages.items) w.start) → IsWalk (record w { packages = v; last_if = None })
  push_kept is marks = record {
    ways = h.ways;
    way = h.way;
    entries = h.entries;
    packages = subst (λ (ps : List PackageForm). AllByRecursion (λ p. IsWayOf w.ways p.way) ps) (sym top_pushed) (is, (no_if w h).packages);
    marks = subst (λ (ps : List PackageForm). AreMarksOf w.paths (marks_of ps w.start)) (sym top_pushed) marks;
    ranges = h.ranges;
  }

  pub push_same : walk_of (record w { packages = v; last_if = None }) ≡ with_package (package_of w.ways w.paths p) (walk_of w)
  push_same = ap (λ (ps : List PackageForm). record (walk_of w) { packages = map (package_of w.ways w.paths) ps; last_if = None }) top_pushed

-- where the code has the package before it is in
pub enter_kept : (w : Inside) → IsWalk w → (v : Vec PackageForm Global) (p : PackageForm) → v.items ≡ w.packages.items ++ p ∷ [] → p.way ≡ w.way → IsNow w.paths p.mark → IsWalk (record w { packages = v; last_if = None })
enter_kept w h v p push way now =
    push_kept w h v p push (subst (IsWayOf w.ways) (sym way) h.way) (marks_now w.paths p.mark (marks_of (reverse w.packages.items) w.start) now h.ranges (no_if w h).marks)

pub here_is : (w : Inside) (p : PackageForm) → p.scope ≡ w.scope → p.way ≡ w.way → IsNow w.paths p.mark → p.stops ≡ length w.stops.items → package_of w.ways w.paths p ≡ package_at (kind_of p.kind) p.place (walk_of w)
here_is w p scope way now stops = λ i. record {
  kind = kind_of p.kind;
  place = p.place;
  around = record { scope = scope i; way = way_of w.ways (way i) };
  known = known_by w.ways (lists_now w.paths p.mark now i);
  entries = (now.entries ∙ sym (length-map w.paths.entries (entry_view w.ways))) i;
  stops = (stops ∙ sym (length-map w.stops.items stop_at_of)) i;
}

pub enter_same : (w : Inside) → IsWalk w → (v : Vec PackageForm Global) (p : PackageForm) → v.items ≡ w.packages.items ++ p ∷ [] → p.scope ≡ w.scope → p.way ≡ w.way → IsNow w.paths p.mark → p.stops ≡ length w.stops.items
    → walk_of (record w { packages = v; last_if = None }) ≡ with_package (package_at (kind_of p.kind) p.place (walk_of w)) (walk_of w)
enter_same w h v p push scope way now stops = push_same w h v p push ∙ ap (λ (q : Package). with_package q (walk_of w)) (here_is w p scope way now stops)

-- the other branch of the If directly before
module _ (w : Inside) (h : IsWalk w) (p : PackageForm) (last : w.last_if ≡ Some p) where
  opened : IsWalk (record w { last_if = Some p })
  opened = subst (λ (o : Option PackageForm). IsWalk (record w { last_if = o })) last h

  pub other_kept : (v : Vec PackageForm Global) (q : PackageForm) → q ≡ record p { kind = Other } → v.items ≡ w.packages.items ++ q ∷ [] → IsWalk (record w { packages = v; last_if = None })
  other_kept v q is push =
      push_kept w h v q push (subst (λ (q : PackageForm). IsWayOf w.ways q.way) (sym is) opened.packages.0)
      (subst (λ (q : PackageForm). AreMarksOf w.paths (q.mark ∷ marks_of (reverse w.packages.items) w.start)) (sym is) opened.marks)

  pub other_same : (v : Vec PackageForm Global) (q : PackageForm) → q ≡ record p { kind = Other } → v.items ≡ w.packages.items ++ q ∷ [] → walk_of (record w { packages = v; last_if = None }) ≡ with_other (walk_of w).last_if (walk_of w)
  other_same v q is push =
      push_same w h v q push ∙ ap (λ (q : PackageForm). with_package (package_of w.ways w.paths q) (walk_of w)) is
      ∙ ap (λ (o : Option PackageForm). with_other (option_map (package_of w.ways w.paths) o) (walk_of w)) (sym last)

-- ---- back to where a package stands

module _ (w : Inside) (h : IsWalk w) (p : PackageForm) (ps : List PackageForm) (top : reverse w.packages.items ≡ p ∷ ps) where
  top_marks : AreMarksOf w.paths (marks_of (p ∷ ps) w.start)
  top_marks = subst (λ (ps : List PackageForm). AreMarksOf w.paths (marks_of ps w.start)) top (no_if w h).marks

  top_way : IsWayOf w.ways p.way
  top_way = (subst (λ (ps : List PackageForm). AllByRecursion (λ p. IsWayOf w.ways p.way) ps) top (no_if w h).packages).0

  top_ways : AllByRecursion (λ p. IsWayOf w.ways p.way) ps
  top_ways = (subst (λ (ps : List PackageForm). AllByRecursion (λ p. IsWayOf w.ways p.way) ps) top (no_if w h).packages).1

  ranges_before : AreBefore (length w.paths.entries) (take p.mark.hidden w.paths.hidden)
  ranges_before = before_more p.mark.entries (length w.paths.entries) (take p.mark.hidden w.paths.hidden) top_marks.0.entries top_marks.0.ranges

  -- with other lists, which have grown since the package
  module _ (k : KnownLists) (x : Extends (lists_at p.mark w.paths) k) (es : k.entries ≡ w.paths.entries) (rs : AreBefore (length k.entries) k.hidden) (s : Path) where
    same_top : AreSameAt w.ways w.paths k (p ∷ ps) w.start
    same_top = same_again w.ways w.paths k p ps w.start x top_marks

    pub there_kept : IsWalk (record w { paths = k; scope = s; way = p.way; last_if = None })
    there_kept = record {
      ways = h.ways;
      way = top_way;
      entries = subst (λ (l : List EntryForm). AllByRecursion (λ e. IsWayOf w.ways e.way) l) (sym es) h.entries;
      packages = (no_if w h).packages;
      marks = subst (λ (ps : List PackageForm). AreMarksOf k (marks_of ps w.start)) (sym top) same_top.marks;
      ranges = rs;
    }

    pub there_same : s ≡ p.scope → known_by w.ways k ≡ known_by w.ways (lists_at p.mark w.paths) → walk_of (record w { paths = k; scope = s; way = p.way; last_if = None }) ≡ gone_back (walk_of w).packages (walk_of w)
    there_same scope known =
        (λ i. record (walk_of w) {
          around = record { scope = scope i; way = way_of w.ways p.way };
          known = known i;
          entries = map (entry_view w.ways) (es i);
          packages = (ap (map (package_of w.ways k)) top ∙ same_top.packages ∙ ap (map (package_of w.ways w.paths)) (sym top)) i;
          last_if = None;
          start = record { known = known_by w.ways (same_top.start i); entries = w.start.entries };
        })
        ∙ ap (λ (ps : List PackageForm). gone_back (map (package_of w.ways w.paths) ps) (walk_of w)) (sym top)

  abbrev back : KnownLists
  back = record (lists_behind p.mark false w.paths) { hidden = take p.mark.hidden w.paths.hidden ++ record { from = p.mark.entries; to = length w.paths.entries } ∷ [] }

  back_ranges : AreBefore (length w.paths.entries) back.hidden
  back_ranges = all_append (λ (r : HiddenRange). r.to ≤ length w.paths.entries) (take p.mark.hidden w.paths.hidden) (record { from = p.mark.entries; to = length w.paths.entries } ∷ []) ranges_before (omega arith, tt)

  back_known : known_by w.ways back ≡ known_by w.ways (lists_at p.mark w.paths)
  back_known = λ i. record {
    entries = (ap (λ (n : ℕ). seen_beyond (take p.mark.hidden w.paths.hidden ++ record { from = p.mark.entries; to = n } ∷ []) 0 (map (entry_view w.ways) w.paths.entries)) (sym (length-map w.paths.entries (entry_view w.ways)))
        ∙ seen_hidden (take p.mark.hidden w.paths.hidden) p.mark.entries (map (entry_view w.ways) w.paths.entries) (omega (arith, top_marks.0.entries, length-map w.paths.entries (entry_view w.ways)))
        ∙ ap (seen_beyond (take p.mark.hidden w.paths.hidden) 0) (take-map (entry_view w.ways) p.mark.entries w.paths.entries)) i;
    certain = oldest p.mark.certain w.paths.certain;
    in_loop = p.mark.in_loop;
  }

  pub back_kept : (k : KnownLists) (s : Path) → k ≡ back → IsWalk (record w { paths = k; scope = s; way = p.way; last_if = None })
  back_kept k s is = subst (λ (k : KnownLists). IsWalk (record w { paths = k; scope = s; way = p.way; last_if = None })) (sym is) (there_kept back (back_extends w.paths p.mark (record { from = p.mark.entries; to = length w.paths.entries })) refl back_ranges s)

  pub back_same : (k : KnownLists) (s : Path) → k ≡ back → s ≡ p.scope → walk_of (record w { paths = k; scope = s; way = p.way; last_if = None }) ≡ gone_back (walk_of w).packages (walk_of w)
  back_same k s is scope =
      ap (λ (k : KnownLists). walk_of (record w { paths = k; scope = s; way = p.way; last_if = None })) is
      ∙ there_same back (back_extends w.paths p.mark (record { from = p.mark.entries; to = length w.paths.entries })) refl back_ranges s scope back_known

  -- where nothing could be hidden
  pub shown_kept : (k : KnownLists) (s : Path) → k ≡ lists_behind p.mark false w.paths → IsWalk (record w { paths = k; scope = s; way = p.way; last_if = None })
  shown_kept k s is =
      subst (λ (k : KnownLists). IsWalk (record w { paths = k; scope = s; way = p.way; last_if = None })) (sym is)
      (there_kept (lists_behind p.mark false w.paths) (behind_extends w.paths p.mark false) refl ranges_before s)

-- ---- out of a package

module _ (w : Inside) (h : IsWalk w) (v : Vec PackageForm Global) (p : PackageForm) (pop : w.packages.items ≡ v.items ++ p ∷ []) where
  top_popped : reverse w.packages.items ≡ p ∷ reverse v.items
  top_popped = ap reverse pop ∙ reverse-append v.items (p ∷ [])

  pub popped_way : IsWayOf w.ways p.way
  popped_way = top_way w h p (reverse v.items) top_popped

  pub popped_kept : IsWalk (record w { packages = v; last_if = None })
  popped_kept = record {
    ways = h.ways;
    way = h.way;
    entries = h.entries;
    packages = top_ways w h p (reverse v.items) top_popped;
    marks = marks_outer w.paths p.mark (marks_of (reverse v.items) w.start) (top_marks w h p (reverse v.items) top_popped);
    ranges = h.ranges;
  }

  pub popped_grown : (ways : List (List Turn)) → Grows w.ways ways → IsWalk (record w { ways = ways; packages = v; last_if = None })
  popped_grown ways g =
      subst (λ (ws : List (List Turn)). IsWalk (record w { ways = ws; packages = v; last_if = None })) (sym g.1)
      (ways_kept (record w { packages = v; last_if = None }) popped_kept g.0 w.way (still_way w.ways g.0 w.way h.way))

  module _ (keeps : Bool) where
    same_behind : AreSameAt w.ways w.paths (lists_behind p.mark keeps w.paths) (p ∷ reverse v.items) w.start
    same_behind = same_again w.ways w.paths (lists_behind p.mark keeps w.paths) p (reverse v.items) w.start (behind_extends w.paths p.mark keeps) (top_marks w h p (reverse v.items) top_popped)

    package_same : package_of w.ways (lists_behind p.mark keeps w.paths) p ≡ package_of w.ways w.paths p
    package_same = let e = same_behind.packages in cc

    outer_same : map (package_of w.ways (lists_behind p.mark keeps w.paths)) (reverse v.items) ≡ map (package_of w.ways w.paths) (reverse v.items)
    outer_same = let e = same_behind.packages in cc

    ways_by : (kind : KindForm) → AllByRecursion (λ p. IsWayOf w.ways p.way) (open_packages (if_directly_before kind p) v.items)
    ways_by Term = top_ways w h p (reverse v.items) top_popped
    ways_by (Scope b) = top_ways w h p (reverse v.items) top_popped
    ways_by First = (popped_way, top_ways w h p (reverse v.items) top_popped)
    ways_by Other = top_ways w h p (reverse v.items) top_popped
    ways_by Body = top_ways w h p (reverse v.items) top_popped

    marks_by : (kind : KindForm) → AreMarksOf (lists_behind p.mark keeps w.paths) (marks_of (open_packages (if_directly_before kind p) v.items) w.start)
    marks_by Term = marks_outer (lists_behind p.mark keeps w.paths) p.mark (marks_of (reverse v.items) w.start) same_behind.marks
    marks_by (Scope b) = marks_outer (lists_behind p.mark keeps w.paths) p.mark (marks_of (reverse v.items) w.start) same_behind.marks
    marks_by First = same_behind.marks
    marks_by Other = marks_outer (lists_behind p.mark keeps w.paths) p.mark (marks_of (reverse v.items) w.start) same_behind.marks
    marks_by Body = marks_outer (lists_behind p.mark keeps w.paths) p.mark (marks_of (reverse v.items) w.start) same_behind.marks

    last_by : (kind : KindForm) → option_map (package_of w.ways (lists_behind p.mark keeps w.paths)) (if_directly_before kind p) ≡ if_of (kind_of kind) (package_of w.ways w.paths p)
    last_by Term = refl
    last_by (Scope b) = refl
    last_by First = ap Some package_same
    last_by Other = refl
    last_by Body = refl

    abbrev behind_it : Inside
    behind_it = record w { paths = lists_behind p.mark keeps w.paths; packages = v; last_if = if_directly_before p.kind p; scope = p.scope }

    behind_kept : IsWalk behind_it
    behind_kept = record { ways = h.ways; way = h.way; entries = h.entries; packages = ways_by p.kind; marks = marks_by p.kind; ranges = ranges_before w h p (reverse v.items) top_popped }

    known_behind_it : (known_by w.ways (lists_behind p.mark keeps w.paths)).entries ≡ (known_by w.ways (lists_at p.mark w.paths)).entries ++ drop p.mark.entries (map (entry_view w.ways) w.paths.entries)
    known_behind_it =
        let m = top_marks w h p (reverse v.items) top_popped in
        seen_since (take p.mark.hidden w.paths.hidden) p.mark.entries (map (entry_view w.ways) w.paths.entries) (omega (arith, m.0.entries, length-map w.paths.entries (entry_view w.ways))) m.0.ranges
        ∙ ap (λ (es : List Entry). seen_beyond (take p.mark.hidden w.paths.hidden) 0 es ++ drop p.mark.entries (map (entry_view w.ways) w.paths.entries)) (take-map (entry_view w.ways) p.mark.entries w.paths.entries)

    behind_same : walk_of behind_it ≡ record (walk_of w) {
      around = record { scope = p.scope; way = way_of w.ways w.way };
      known = record (known_by w.ways (lists_at p.mark w.paths)) {
        entries = (known_by w.ways (lists_at p.mark w.paths)).entries ++ drop p.mark.entries (map (entry_view w.ways) w.paths.entries);
        certain = cond keeps w.paths.certain (oldest p.mark.certain w.paths.certain);
      };
      packages = map (package_of w.ways w.paths) (reverse v.items);
      last_if = if_of (kind_of p.kind) (package_of w.ways w.paths p);
    }
    behind_same = λ i. record (walk_of w) {
      around = record { scope = p.scope; way = way_of w.ways w.way };
      known = record (known_by w.ways (lists_behind p.mark keeps w.paths)) { entries = known_behind_it i };
      packages = outer_same i;
      last_if = last_by p.kind i;
      start = record { known = known_by w.ways (same_behind.start i); entries = w.start.entries };
    }

    module _ (ways : List (List Turn)) (grown : Grows w.ways ways) (way : Way) (is : IsWayOf ways way) (k : KnownLists) (lists : k ≡ lists_behind p.mark keeps w.paths) (s : Path) (scope : s ≡ p.scope) (o : Option PackageForm) (last : o ≡ if_directly_before p.kind p) where
      abbrev out : Inside
      out = record w { ways = ways; paths = k; scope = s; way = way; packages = v; last_if = o }

      out_is : out ≡ record behind_it { ways = w.ways ++ grown.0; way = way }
      out_is = λ i. record w { ways = grown.1 i; paths = lists i; scope = scope i; way = way; packages = v; last_if = last i }

      way_there : IsWayOf (w.ways ++ grown.0) way
      way_there = subst (λ (ws : List (List Turn)). IsWayOf ws way) grown.1 is

      pub out_kept : IsWalk out
      out_kept = subst IsWalk (sym out_is) (ways_kept behind_it behind_kept grown.0 way way_there)

      pub out_same : way_of ways way ≡ way_of w.ways p.way ++ pasts (drop p.stops w.stops.items) → walk_of out ≡ gone_out keeps (walk_of w).packages (walk_of w)
      out_same past_them =
          ap walk_of out_is ∙ ways_same behind_it behind_kept grown.0 way way_there
          ∙ ap (λ (u : Walk). record u { around = record { scope = p.scope; way = way_of (w.ways ++ grown.0) way } }) behind_same
          ∙ (λ i. record (walk_of w) {
            around = record { scope = p.scope; way = turns i };
            known = record (known_by w.ways (lists_at p.mark w.paths)) {
              entries = (known_by w.ways (lists_at p.mark w.paths)).entries ++ drop p.mark.entries (map (entry_view w.ways) w.paths.entries);
              certain = cond keeps w.paths.certain (oldest p.mark.certain w.paths.certain);
            };
            stops = sym (take-append-drop p.stops (map stop_at_of w.stops.items)) i;
            packages = map (package_of w.ways w.paths) (reverse v.items);
            last_if = if_of (kind_of p.kind) (package_of w.ways w.paths p);
          })
          ∙ ap (λ (ps : List PackageForm). gone_out keeps (map (package_of w.ways w.paths) ps) (walk_of w)) (sym top_popped)
        where
          turns : way_of (w.ways ++ grown.0) way ≡ way_of w.ways p.way ++ map (λ (s : StopAt). past s.place) (drop p.stops (map stop_at_of w.stops.items))
          turns =
              ap (λ (ws : List (List Turn)). way_of ws way) (sym grown.1) ∙ past_them
              ∙ ap (λ (l : List Turn). way_of w.ways p.way ++ l) (pasts_of (drop p.stops w.stops.items) ∙ ap (map (λ (s : StopAt). past s.place)) (sym (drop-map stop_at_of p.stops w.stops.items)))

-- ---- stops

returns_same : (n : ℕ) (xs : List StopAtForm) → map stop_at_of (returns_from n xs) ≡ take n (map stop_at_of xs) ++ filter (λ (s : StopAt). leaves_table s.kind) (drop n (map stop_at_of xs))
returns_same n xs =
    map-append stop_at_of (take n xs) (filter is_return (drop n xs))
    ∙ ap₂ (λ (l m : List StopAt). l ++ m) (sym (take-map stop_at_of n xs)) (returns_of (drop n xs) ∙ ap (filter (λ (s : StopAt). leaves_table s.kind)) (sym (drop-map stop_at_of n xs)))

pub left_returns : (w : Inside) (v : Vec StopAtForm Global) (p : PackageForm) (ps : List PackageForm) → reverse w.packages.items ≡ p ∷ ps → v.items ≡ returns_from p.stops w.stops.items → walk_of (record w { stops = v }) ≡ with_returns (walk_of w).packages (walk_of w)
left_returns w v p ps top is =
    ap (λ (l : List StopAt). record (walk_of w) { stops = l }) (ap (map stop_at_of) is ∙ returns_same p.stops w.stops.items)
    ∙ ap (λ (ps : List PackageForm). with_returns (map (package_of w.ways w.paths) ps) (walk_of w)) (sym top)

-- ---- the start of a table

module _ (w : Inside) (h : IsWalk w) (k : KnownLists) (is : k ≡ lists_behind w.start false w.paths) (v : Vec PackageForm Global) (none : v.items ≡ []) where
  start_marks : AreMarksOf w.paths (w.start ∷ [])
  start_marks = marks_start w.paths (reverse w.packages.items) w.start (no_if w h).marks

  pub start_kept : IsWalk (record w { paths = k; packages = v; last_if = None })
  start_kept = subst (λ (k : KnownLists). IsWalk (record w { paths = k; packages = v; last_if = None })) (sym is) (record {
    ways = h.ways;
    way = h.way;
    entries = h.entries;
    packages = subst (λ (ps : List PackageForm). AllByRecursion (λ p. IsWayOf w.ways p.way) (reverse ps)) (sym none) tt;
    marks = subst (λ (ps : List PackageForm). AreMarksOf (lists_behind w.start false w.paths) (marks_of (reverse ps) w.start)) (sym none) (marks_again w.paths (lists_behind w.start false w.paths) w.start (behind_extends w.paths w.start false) [] start_marks);
    ranges = before_more w.start.entries (length w.paths.entries) (take w.start.hidden w.paths.hidden) start_marks.0.entries start_marks.0.ranges;
  })

  pub start_same : walk_of (record w { paths = k; packages = v; last_if = None }) ≡ at_start (walk_of w)
  start_same =
      ap (λ (k : KnownLists). walk_of (record w { paths = k; packages = v; last_if = None })) is
      ∙ (λ i. record (walk_of w) {
        known = record (known_by w.ways (lists_behind w.start false w.paths)) {
          entries = (seen_since (take w.start.hidden w.paths.hidden) w.start.entries (map (entry_view w.ways) w.paths.entries) (omega (arith, start_marks.0.entries, length-map w.paths.entries (entry_view w.ways))) start_marks.0.ranges
              ∙ ap (λ (es : List Entry). seen_beyond (take w.start.hidden w.paths.hidden) 0 es ++ drop w.start.entries (map (entry_view w.ways) w.paths.entries)) (take-map (entry_view w.ways) w.start.entries w.paths.entries)) i;
        };
        packages = ap (λ (ps : List PackageForm). map (package_of w.ways (lists_behind w.start false w.paths)) (reverse ps)) none i;
        last_if = None;
        start = record { known = known_by w.ways (at_again w.paths (lists_behind w.start false w.paths) w.start (behind_extends w.paths w.start false) start_marks.0 i); entries = w.start.entries };
      })

-- ---- what entries settle

drop_there : {X : Type 0} (xs : List X) (n : ℕ) (x : X) → slice_get xs n ≡ Some x → drop n xs ≡ x ∷ drop (suc n) xs
drop_there [] n x e = cc
drop_there (y ∷ ys) zero x e = ap (λ z. z ∷ ys) (one_some y x e)
drop_there (y ∷ ys) (suc n) x e = drop_there ys n x e

pub lasting_there : (w : Inside) (n : ℕ) (e : EntryForm) (cs : List Certain) → slice_get w.paths.entries n ≡ Some e → cs ≡ lasting (entry_view w.ways e) → cs ≡ flat_map lasting (option_to_list (slice_get (walk_of w).entries n))
lasting_there w n e cs at is =
    is ∙ sym (append-nil (lasting (entry_view w.ways e)))
    ∙ ap (λ (o : Option Entry). flat_map lasting (option_to_list o)) (sym (slice_get-map (entry_view w.ways) w.paths.entries n ∙ ap (option_map (entry_view w.ways)) at))

pub none_lasting : (w : Inside) (n : ℕ) → slice_get w.paths.entries n ≡ None → flat_map lasting (option_to_list (slice_get (walk_of w).entries n)) ≡ []
none_lasting w n at = ap (λ (o : Option Entry). flat_map lasting (option_to_list o)) (slice_get-map (entry_view w.ways) w.paths.entries n ∙ ap (option_map (entry_view w.ways)) at)

module _ (w : Inside) (p : PackageForm) (ps : List PackageForm) (top : reverse w.packages.items ≡ p ∷ ps) where
  pub entry_behind : (e : EntryForm) (b : Bool) (cs : List Certain) → slice_get w.paths.entries p.mark.entries ≡ Some e → b ≡ asks_nothing (entry_view w.ways e).asks → cs ≡ cond b [] (settled (entry_view w.ways e))
      → IsBehindTerm (walk_of w).packages (walk_of w) b cs
  entry_behind e b cs at kind is =
      subst (λ (qs : List PackageForm). IsBehindTerm (map (package_of w.ways w.paths) qs) (walk_of w) b cs) (sym top)
      (ap (λ (es : List Entry). certain_after (known_by w.ways (lists_at p.mark w.paths)) es w.paths.certain) (drop_there (map (entry_view w.ways) w.paths.entries) p.mark.entries (entry_view w.ways e) (slice_get-map (entry_view w.ways) w.paths.entries p.mark.entries ∙ ap (option_map (entry_view w.ways)) at))
      ∙ ap (λ (d : Bool). cond d w.paths.certain (settled (entry_view w.ways e) ++ oldest p.mark.certain w.paths.certain)) (sym kind)
      ∙ by b
      ∙ ap (λ (l : List Certain). l ++ cond b w.paths.certain (oldest p.mark.certain w.paths.certain)) (sym is))
    where
      by : (d : Bool) → cond d w.paths.certain (settled (entry_view w.ways e) ++ oldest p.mark.certain w.paths.certain) ≡ cond d [] (settled (entry_view w.ways e)) ++ cond d w.paths.certain (oldest p.mark.certain w.paths.certain)
      by true = refl
      by false = refl

  pub nothing_behind : (b : Bool) (cs : List Certain) → slice_get w.paths.entries p.mark.entries ≡ None → b ≡ false → cs ≡ [] → IsBehindTerm (walk_of w).packages (walk_of w) b cs
  nothing_behind b cs at kind is =
      subst (λ (qs : List PackageForm). IsBehindTerm (map (package_of w.ways w.paths) qs) (walk_of w) b cs) (sym top)
      (ap (λ (es : List Entry). certain_after (known_by w.ways (lists_at p.mark w.paths)) es w.paths.certain) (drop_of_length-le (map (entry_view w.ways) w.paths.entries) (none_past (map (entry_view w.ways) w.paths.entries) p.mark.entries (slice_get-map (entry_view w.ways) w.paths.entries p.mark.entries ∙ ap (option_map (entry_view w.ways)) at)))
      ∙ ap₂ (λ (l : List Certain) (d : Bool). l ++ cond d w.paths.certain (oldest p.mark.certain w.paths.certain)) (sym is) (sym kind))

pub none_behind : (w : Inside) (b : Bool) (cs : List Certain) → w.packages.items ≡ [] → cs ≡ [] → IsBehindTerm (walk_of w).packages (walk_of w) b cs
none_behind w b cs none is = subst (λ (qs : List PackageForm). IsBehindTerm (map (package_of w.ways w.paths) (reverse qs)) (walk_of w) b cs) (sym none) is

-- ---- an If whose first branch isn't walked

pub lost_kept : (w : Inside) → IsWalk w → (p : PackageForm) → p.way ≡ w.way → IsNow w.paths p.mark → IsWalk (record w { last_if = Some p })
lost_kept w h p way now = record {
  ways = h.ways;
  way = h.way;
  entries = h.entries;
  packages = (subst (IsWayOf w.ways) (sym way) h.way, (no_if w h).packages);
  marks = marks_now w.paths p.mark (marks_of (reverse w.packages.items) w.start) now h.ranges (no_if w h).marks;
  ranges = h.ranges;
}

pub lost_same : (w : Inside) (p : PackageForm) → p.scope ≡ w.scope → p.way ≡ w.way → IsNow w.paths p.mark → p.stops ≡ length w.stops.items → walk_of (record w { last_if = Some p }) ≡ record (walk_of w) { last_if = Some (package_at (kind_of p.kind) p.place (walk_of w)) }
lost_same w p scope way now stops = ap (λ (q : Package). record (walk_of w) { last_if = Some q }) (here_is w p scope way now stops)
