-- The load of two tables, with all that it tells.
use Rattle.std.proofs.Common.{◌≡◌, ◌↔◌, ℕ, List, [], ◌∷◌, map, not, filter, length, refl, sym, ap, subst, ◌∙◌}
use Rattle.std.proofs.lemmas.List.{length-map}
use Rattle.std.specs.FinMap.{empty, keys}
use Rattle.acpi_name.specs.Names.{Segment}
use Rattle.acpi_space.specs.Laws.{Among}
use Rattle.acpi_space.specs.Lookups.{Lookup}
use Rattle.acpi_space.specs.Spaces.{PathMap, is_defined}
use Rattle.acpi_tree.specs.declared.object.Object.{Object}
use Rattle.acpi_pass.specs.declared.notes.TableNotes.{TableNotes}
use Rattle.acpi_declare.specs.Declaring.{State, HasTables}
use Rattle.acpi_pass.specs.Pending.{IsMissedLink}
use Rattle.acpi_declare.specs.Links.{Links, PendingLink, all_pending}
use Rattle.acpi_declare.specs.Loads.{AreListings, objects_after, IsLoad, AreNotes}
use Rattle.acpi_declare.specs.Namespace.{Namespace, namespace_of}
use Rattle.acpi_declare.specs.Notes.{Notes, notes_on, all_notes, notes_of, external_counts, scope_misses}
use Rattle.acpi_declare.specs.Notes as notes
use Rattle.acpi_declare.specs.Predefined.{predefined}
use Rattle.acpi_declare.proofs.Refusals.{same_listings}
use Rattle.acpi_declare.proofs.TableLists.{count_tables}
use Rattle.acpi_body.specs.steps.Gathering.{Paths, Grows}
use Rattle.acpi_order.specs.Bodies.{Method, methods_of}
use Rattle.acpi_order.specs.Independent.{AreSingleListings}
use Rattle.acpi_order.specs.Machines.{IsMachine}
use Rattle.acpi_order.specs.Misses.{Listing, objects_of_first, objects_of_both}
use Rattle.acpi_order.specs.Singles.{IsSingle}
use Rattle.acpi_machine.specs.MachineView.{bodies_of}
use Rattle.acpi_singles.specs.SingleView.{awaited_view}
use Rattle.acpi_verdict.specs.declared.misses.Misses.{Misses}
use Rattle.acpi_singles.specs.declared.single_misses.SingleMisses.{SingleMisses}
use Rattle.acpi_order.specs.steps.Noted.{noted}
use Rattle.acpi_verdict.specs.steps.Misses.{all_paths, IsMissedByAny, AddsMethods}
use Rattle.acpi_singles.specs.steps.SingleMisses.{AreSingleMisses}
use Rattle.acpi_singles.proofs.AwaitedMethods.{awaited_ascend, awaited_by}
use Rattle.acpi_verdict.proofs.DefinedPaths.{defined_are, defined_ascend}
use Rattle.acpi_machine.proofs.Machines.{has_machine}
use Rattle.acpi_singles.proofs.MissedPaths.{missed_are}
use Rattle.acpi_verdict.proofs.AwaitedCounts.{alike}
use Rattle.acpi_verdict.proofs.TableMisses.{all_missed, all_awaited}
use Rattle.acpi_body.proofs.Listed.{paths_ascend}

-- as many notes as tables
pub two_notes : (depth : ℕ) (dsdt ssdt : List ℕ) (two : State) (items : List TableNotes) → HasTables depth (dsdt ∷ ssdt ∷ []) two → map notes_of items ≡ two.notes → length items ≡ 2
two_notes depth dsdt ssdt two items h e = sym (length-map items notes_of) ∙ ap length e ∙ count_tables depth (dsdt ∷ ssdt ∷ []) two h

record Pair (depth : ℕ) (dsdt ssdt : List ℕ) (ts : List Listing) : Type 0 where
  first : Listing
  second : Listing
  are : ts ≡ first ∷ second ∷ []
  alone : AreSingleListings depth dsdt ssdt first second

pair_of : (depth : ℕ) (dsdt ssdt : List ℕ) (ts : List Listing) → AreListings depth 0 predefined (dsdt ∷ ssdt ∷ []) ts → Pair depth dsdt ssdt ts
pair_of depth dsdt ssdt [] h = absurd h
pair_of depth dsdt ssdt (f ∷ []) h = absurd h.1
pair_of depth dsdt ssdt (f ∷ t ∷ []) h = record { first = f; second = t; are = refl; alone = h }
pair_of depth dsdt ssdt (f ∷ t ∷ u ∷ us) h = absurd h.1.1

both_same : (a b c d : Notes) → a ∷ b ∷ [] ≡ c ∷ d ∷ [] → (a ≡ c) × (b ≡ d)
both_same a b c d e = (cc, cc)

module _ (depth : ℕ) (dsdt ssdt : List ℕ) (one two : State) (h1 : HasTables depth (dsdt ∷ []) one) (h2 : HasTables depth (dsdt ∷ ssdt ∷ []) two) (before now : PathMap Object)
    (one_is : namespace_of before ≡ one.objects) (two_is : namespace_of now ≡ two.objects) (links : Lookup Links) (load : IsLoad depth (dsdt ∷ ssdt ∷ []) (namespace_of now) links)
    (noted_of : List Notes) (notes_are : noted_of ≡ two.notes) (linked : Paths) (t : SingleMisses) (told : AreSingleMisses depth (namespace_of now) noted_of linked t) where
  pair : Pair depth dsdt ssdt h2.placements
  pair = pair_of depth dsdt ssdt h2.placements h2.listings

  abbrev first : Listing
  first = pair.first

  abbrev second : Listing
  second = pair.second

  abbrev N : Namespace
  N = objects_of_both first second

  objects_first : namespace_of before ≡ objects_of_first first
  objects_first = one_is ∙ h1.objects_are ∙ ap (objects_after predefined) (same_listings depth 0 predefined (dsdt ∷ []) h1.placements (first ∷ []) h1.listings (pair.alone.0, tt))

  objects_both : namespace_of now ≡ N
  objects_both = two_is ∙ h2.objects_are ∙ ap (objects_after predefined) pair.are

  are_notes : AreNotes depth (dsdt ∷ ssdt ∷ []) noted_of
  are_notes = record { placements = h2.placements; listings = h2.listings; notes_are = notes_are ∙ h2.notes_are }

  noted_both : (told.first ≡ notes_on predefined first) × (told.second ≡ notes_on (objects_of_first first) second)
  noted_both = both_same told.first told.second _ _ (sym told.both ∙ notes_are ∙ h2.notes_are ∙ ap (all_notes predefined) pair.are)

  abbrev start_first : Misses
  start_first = record { missed = told.scopes; awaited = empty }

  abbrev start_second : Misses
  start_second = record { missed = told.of_first.missed; awaited = empty }

  of_first : AddsMethods all_paths depth N (methods_of first) start_first told.of_first
  of_first =
      subst (λ (ms : List Method). AddsMethods all_paths depth N ms start_first told.of_first) (ap noted noted_both.0)
      (subst (λ (M : Namespace). AddsMethods all_paths depth M (noted told.first) start_first told.of_first) objects_both told.first_are)

  of_second : AddsMethods all_paths depth N (methods_of second) start_second told.of_second
  of_second =
      subst (λ (ms : List Method). AddsMethods all_paths depth N ms start_second told.of_second) (ap noted noted_both.1)
      (subst (λ (M : Namespace). AddsMethods all_paths depth M (noted told.second) start_second told.of_second) objects_both told.second_are)

  machine : IsMachine depth (dsdt ∷ ssdt ∷ []) (record { objects = namespace_of now; links = links; bodies = bodies_of t.bodies })
  machine = has_machine depth (dsdt ∷ ssdt ∷ []) (namespace_of now) links noted_of (bodies_of t.bodies) load are_notes told.bodies_are

  scopes : Grows linked told.scopes (Among (scope_misses (objects_of_first first) second))
  scopes = subst (λ (n : Notes). Grows linked told.scopes (Among n.missed)) noted_both.1 told.scopes_are

  by_second : Grows told.of_first.missed t.missed (IsMissedByAny depth N (methods_of second))
  by_second =
      subst (λ (m : Paths). Grows told.of_first.missed m (IsMissedByAny depth N (methods_of second))) (sym told.missed_are)
      (all_missed depth N (methods_of second) start_second told.of_second of_second)

  module _ (none known : Paths) (is_none : none ≡ empty) (grown : Grows none known (Among (keys before))) (defined : List (List Segment))
      (kept : defined ≡ filter (λ p. not (is_defined known p)) (keys now)) (none_missed : Paths) (is_none_missed : none_missed ≡ empty) (link_misses : List (List Segment))
      (with_links : Grows none_missed linked (Among link_misses)) (linked_are : (p : List Segment) → Among link_misses p ↔ IsMissedLink two.objects two.links p)
      (missed : List (List Segment)) (listed : missed ≡ keys t.missed) where
    links_are : (p : List Segment) → Among link_misses p ↔ IsMissedLink N (all_pending (first ∷ second ∷ [])) p
    links_are =
        subst (λ (ws : List PendingLink). (p : List Segment) → Among link_misses p ↔ IsMissedLink N ws p) (h2.links_are ∙ ap all_pending pair.are)
        (subst (λ (M : Namespace). (p : List Segment) → Among link_misses p ↔ IsMissedLink M two.links p) (sym two_is ∙ objects_both) linked_are)

    pub is_single : IsSingle depth dsdt ssdt (record { objects = namespace_of now; links = links; bodies = bodies_of t.bodies }) defined missed (map awaited_view t.awaited.items)
    is_single = record {
      load = machine;
      first = first;
      t = second;
      listings = pair.alone;
      defined_ascend = defined_ascend depth dsdt ssdt first second pair.alone before now objects_first objects_both none known is_none grown defined kept;
      defined_are = defined_are depth dsdt ssdt first second pair.alone before now objects_first objects_both none known is_none grown defined kept;
      missed_ascend = paths_ascend t.missed missed listed;
      missed_are = missed_are depth first second none_missed linked told.scopes told.of_first.missed t.missed link_misses is_none_missed with_links links_are scopes
          (all_missed depth N (methods_of first) start_first told.of_first of_first) by_second missed listed;
      awaited_ascend = awaited_ascend depth first second told.of_first.awaited told.of_second.awaited (map awaited_view t.awaited.items) told.awaited_are;
      awaited_are = awaited_by depth first second told.of_first.awaited told.of_second.awaited (map awaited_view t.awaited.items) told.awaited_are
          (all_awaited depth N (methods_of first) start_first told.of_first of_first (external_counts first) (alike (external_counts first) (notes.methods first)) refl)
          (all_awaited depth N (methods_of second) start_second told.of_second of_second (external_counts second) (alike (external_counts second) (notes.methods second)) refl);
    }
