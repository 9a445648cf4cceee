-- SSDTs that `check` found to commute are refused in no order, and shown alike in all.
use Rattle.std.proofs.Common.{◌≡◌, ◌≢◌, ℕ, List, [], ◌∷◌, ◌++◌, IsPermutation, Option, Some, None, sym, ap, subst, ◌∙◌}
use Rattle.std.proofs.lemmas.List.Sorted.{IsPermutation-sym, IsPermutation-trans}
use Rattle.acpi_name.specs.Names.{Segment}
use Rattle.acpi_name.specs.Text.{SpellsPathText}
use Rattle.acpi_name.proofs.PathTexts.{text_again}
use Rattle.acpi_space.proofs.Elements.{not_both, one_some}
use Rattle.acpi_text.specs.Terms.{opaque_text}
use Rattle.acpi_declare.specs.Listing.{Placement}
use Rattle.acpi_declare.specs.Loads.{AreListings}
use Rattle.acpi_declare.specs.Predefined.{predefined}
use Rattle.acpi_declare.specs.Refusals.{IsLoadFault}
use Rattle.acpi_declare.specs.declared.fault.LoadFault.{LoadFault}
use Rattle.acpi_declare.specs.declared.fault.LoadFault.TheVariants as faults
use Rattle.acpi_values.specs.declared.fault.BodyFault.{BodyFault}
use Rattle.acpi_body.specs.Bodies.{BodyTree, read, unread}
use Rattle.acpi_machine.specs.Explaining.{IsExplained}
use Rattle.acpi_order.specs.Machines.{Machine}
use Rattle.acpi_order.specs.Joins.{IsSingleLoad}
use Rattle.acpi_order.specs.Orders.{AreReordered, LoadsToJoin}
use Rattle.acpi_order.specs.Verdicts.{VerdictTree, commute}
use Rattle.acpi_order.proofs.Orders.{independent_in_any_order, one_join, some_in_any_order}
use Rattle.acpi_order.proofs.Told.{each_order_loads}
use Rattle.acpi_order.proofs.Verdicts.{commute_is_independent, one_verdict}
use Rattle.acpins_output.specs.Checked.{Checks, ChecksAs}
use Rattle.acpins_output.specs.Shown.{IsBodyText, Shows, reason_text}
use Rattle.acpins_words.specs.Words.{Text, listing, showing, checking, Asked}
use Rattle.acpins_run.specs.Input.{FileBytes}
use Rattle.acpins_run.specs.Runs.{IsChecking, IsNoSuchPath}
use Rattle.acpins_run.specs.RunLaws.{AreKnown, HasPrinted, HoldSame, EachOrderCommutes, NoOrderHidesPath, NoOrderIsRefused, ShowingsAreAlike}
use Rattle.acpins_run.proofs.HostFailures.{fails_by_host, only_memory}
use Rattle.acpins_run.proofs.Orders.{explained_alike}
use Rattle.acpins_run.proofs.Runs.{asked_output, head_is, is_printed, joined, reordered, showing_is_of_join, tables_of, tail_is}

-- ---- what is shown of one machine

module _ (depth : ℕ) (one two : List (List ℕ)) (path : List Segment) (alike : (w v : Option BodyFault) → IsExplained depth one path w → IsExplained depth two path v → w ≡ v) where
  one_body : (b : Option BodyTree) (x y : List ℕ) → IsBodyText depth one path b x → IsBodyText depth two path b y → x ≡ y
  one_body None x y h k = h ∙ sym k
  one_body (Some (read ts)) x y h k = h ∙ sym k
  one_body (Some (unread bytes)) x y h k = h.2 ∙ ap (λ (w : Option BodyFault). opaque_text bytes ++ reason_text w) (alike h.0 k.0 h.1 k.1) ∙ sym k.2

  one_shown : (m : Machine) (text other : List ℕ) → Shows depth one m path text → Shows depth two m path other → text ≡ other
  one_shown m text other h k =
      let object : h.object ≡ k.object = one_some h.object k.object (sym h.there ∙ k.there) in
      let body : h.body ≡ k.body = one_body (m.bodies path) h.body k.body h.is_body k.is_body in
      cc

one_path : (p q : List Segment) (word : Text) → SpellsPathText p word → SpellsPathText q word → p ≡ q
one_path p q word h k = one_some p q (sym (text_again word p h) ∙ text_again word q k)

module _ (checked_bytes other_bytes : FileBytes) (check : List Text) (checked other : Asked) (verdict : List ℕ) (dsdt : List ℕ) (ssdts given : List (List ℕ))
    (h : HasPrinted checked_bytes check checked checking verdict) (hold : HoldSame checked_bytes other_bytes checked other dsdt ssdts given) where
  in_order : AreReordered checked.depth dsdt ssdts given
  in_order = reordered checked_bytes other_bytes checked other dsdt ssdts given hold h.asks.known verdict (is_printed checked_bytes check checked checking verdict h)

pub showings_are_alike : ShowingsAreAlike
showings_are_alike checked_bytes one_bytes two_bytes check show again checked one two path word typed verdict text other dsdt ssdts first second s t h k l hold hold_two =
    let a = showing_is_of_join checked_bytes one_bytes check show checked one verdict text word dsdt ssdts first h k hold in
    let b = showing_is_of_join checked_bytes two_bytes check again checked two verdict other typed dsdt ssdts second h l hold_two in
    let r = in_order checked_bytes one_bytes check checked one verdict dsdt ssdts first h hold in
    let some : first ≢ [] = some_in_any_order checked.depth dsdt ssdts first r.order r.some in
    let order : IsPermutation first second = IsPermutation-trans first ssdts second (IsPermutation-sym ssdts first r.order) hold_two.order in
    let independent = independent_in_any_order checked.depth dsdt ssdts first r.order r.independent in
    let machine : b.1 ≡ a.1 = one_join (IsSingleLoad checked.depth dsdt ssdts) b.1 a.1 b.3 a.3 in
    let shown : Shows checked.depth (dsdt ∷ first) a.1 path text =
    subst (λ (p : List Segment). Shows checked.depth (dsdt ∷ first) a.1 p text) (one_path a.0 path word a.2 s) a.4 in
    let shown_again : Shows checked.depth (dsdt ∷ second) a.1 path other =
    subst (λ (m : Machine). Shows checked.depth (dsdt ∷ second) m path other) machine
    (subst (λ (p : List Segment). Shows checked.depth (dsdt ∷ second) b.1 p other) (one_path b.0 path typed b.2 t) b.4) in
    one_shown checked.depth (dsdt ∷ first) (dsdt ∷ second) path (explained_alike checked.depth dsdt first second some order independent path) a.1 text other shown shown_again

-- ---- no order is refused

first_loads : (depth : ℕ) (dsdt : List ℕ) (given : List (List ℕ)) (ps : List (List Placement)) → AreListings depth 0 predefined (dsdt ∷ given) ps
    → (first : List (List Placement)) × AreListings depth 0 predefined (dsdt ∷ []) first
first_loads depth dsdt given [] h = absurd h
first_loads depth dsdt given (p ∷ ps) h = (p ∷ [], (h.0, tt))

module _ (checked_bytes other_bytes : FileBytes) (check : List Text) (checked other : Asked) (verdict : List ℕ) (dsdt : List ℕ) (ssdts given : List (List ℕ))
    (h : HasPrinted checked_bytes check checked checking verdict) (hold : HoldSame checked_bytes other_bytes checked other dsdt ssdts given) where
  -- the machine of the tables in that order
  loaded : LoadsToJoin checked.depth dsdt ssdts given
  loaded = each_order_loads checked.depth dsdt ssdts given (in_order checked_bytes other_bytes check checked other verdict dsdt ssdts given h hold)

  listings : AreListings other.depth 0 predefined (dsdt ∷ given) loaded.loads.placements
  listings = subst (λ (n : ℕ). AreListings n 0 predefined (dsdt ∷ given) loaded.loads.placements) (sym hold.depth_is) loaded.loads.listings

  all_load : (e : LoadFault) → IsLoadFault other.depth (dsdt ∷ given) e → e ≡ faults.Memory
  all_load = only_memory other.depth (dsdt ∷ given) loaded.loads.placements listings

  first_is_loaded : (e : LoadFault) → IsLoadFault other.depth (dsdt ∷ []) e → e ≡ faults.Memory
  first_is_loaded = let r = first_loads other.depth dsdt given loaded.loads.placements listings in only_memory other.depth (dsdt ∷ []) r.0 r.1

pub no_listing_is_refused : NoOrderIsRefused listing
no_listing_is_refused checked_bytes other_bytes check words checked other verdict dsdt ssdts given h asks hold =
    fails_by_host other_bytes words other listing (dsdt ∷ given) asks hold.other_tables (λ e. cc)
    (record {
      good_path = λ bad. bad;
      path_there = λ missing. missing;
      no_file = λ failure unwritten. unwritten;
      loads = all_load checked_bytes other_bytes check checked other verdict dsdt ssdts given h hold;
    })

pub no_check_is_refused : NoOrderIsRefused checking
no_check_is_refused checked_bytes other_bytes check words checked other verdict dsdt ssdts given h asks hold =
    fails_by_host other_bytes words other checking (dsdt ∷ given) asks hold.other_tables (λ e. cc)
    (record {
      good_path = λ bad. bad;
      path_there = λ missing. missing;
      no_file = λ failure unwritten. unwritten;
      loads = first_is_loaded checked_bytes other_bytes check checked other verdict dsdt ssdts given h hold;
    })

-- ---- what one order shows, each does

-- the object at a path is the same in any order
there_too : (checked_bytes one_bytes two_bytes : FileBytes) (check show : List Text) (checked one two : Asked) (path : List Segment) (word typed : Text) (verdict text : List ℕ)
    (dsdt : List ℕ) (ssdts first second : List (List ℕ))
    → SpellsPathText path word → SpellsPathText path typed → HasPrinted checked_bytes check checked checking verdict → HasPrinted one_bytes show one (showing word) text
    → AreKnown two_bytes two.files → HoldSame checked_bytes one_bytes checked one dsdt ssdts first → HoldSame checked_bytes two_bytes checked two dsdt ssdts second
    → IsNoSuchPath two_bytes two typed → ⊥
there_too checked_bytes one_bytes two_bytes check show checked one two path word typed verdict text dsdt ssdts first second s t h k known hold hold_two missing =
    let a = showing_is_of_join checked_bytes one_bytes check show checked one verdict text word dsdt ssdts first h k hold in
    let joins = joined checked_bytes two_bytes checked two dsdt ssdts second hold_two h.asks.known known verdict missing.tables missing.machine
    (is_printed checked_bytes check checked checking verdict h) missing.loaded.of_files missing.loaded.loaded in
    let same : missing.machine ≡ a.1 = one_join (IsSingleLoad checked.depth dsdt ssdts) missing.machine a.1 joins a.3 in
    let here : missing.path ≡ a.0 = one_path missing.path path typed missing.spelled t ∙ one_path path a.0 word s a.2 in
    let none : a.1.objects a.0 ≡ None = subst (λ (p : List Segment). a.1.objects p ≡ None) here (subst (λ (m : Machine). m.objects missing.path ≡ None) same missing.none) in
    not_both (a.1.objects a.0) a.4.object a.4.there none

pub no_order_hides_path : NoOrderHidesPath
no_order_hides_path checked_bytes one_bytes two_bytes check show again checked one two path word typed verdict text dsdt ssdts first second s t h k asks hold hold_two =
    fails_by_host two_bytes again two (showing typed) (dsdt ∷ second) asks hold_two.other_tables (λ e. cc)
    (record {
      good_path = λ bad. bad (path, t);
      path_there = there_too checked_bytes one_bytes two_bytes check show checked one two path word typed verdict text dsdt ssdts first second s t h k asks.known hold hold_two;
      no_file = λ failure unwritten. unwritten;
      loads = all_load checked_bytes two_bytes check checked two verdict dsdt ssdts second h hold_two;
    })

-- ---- each order commutes

pub each_order_commutes : EachOrderCommutes
each_order_commutes checked_bytes other_bytes check again checked other verdict text status dsdt ssdts given h asks hold output =
    let r = in_order checked_bytes other_bytes check checked other verdict dsdt ssdts given h hold in
    let c : IsChecking other_bytes other status text = asked_output other_bytes again other checking status text asks output in
    let same = tables_of other_bytes other.hex other.files (c.dsdt ∷ c.ssdts) (dsdt ∷ given) asks.known c.of_files hold.other_tables in
    let first : c.dsdt ≡ dsdt = head_is c.dsdt dsdt c.ssdts given same in
    let later : c.ssdts ≡ given = tail_is c.dsdt dsdt c.ssdts given same in
    let checks : Checks checked.depth dsdt given status text =
    subst (λ (n : ℕ). Checks n dsdt given status text) hold.depth_is
    (subst (λ (b : List ℕ). Checks other.depth b given status text) first (subst (λ (bs : List (List ℕ)). Checks other.depth c.dsdt bs status text) later c.checked)) in
    let some = some_in_any_order checked.depth dsdt ssdts given r.order r.some in
    let commutes = (commute_is_independent checked.depth dsdt given some).1 (independent_in_any_order checked.depth dsdt ssdts given r.order r.independent) in
    let is : checks.0 ≡ commute = one_verdict checked.depth dsdt given checks.0 commute checks.1 commutes in
    subst (λ (v : VerdictTree). ChecksAs checked.depth dsdt given v status text) is checks.2
