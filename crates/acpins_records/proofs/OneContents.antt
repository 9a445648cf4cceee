-- Tables load to one list of contents at most, and a body has one text at most.
use Rattle.std.proofs.Common.{◌≡◌, ℕ, suc, ◌+◌, ◌<◌, ◌≤◌, true, List, [], ◌∷◌, length, Option, Some, refl, sym, ap, subst, ◌∙◌, arith}
use Rattle.std.specs.FinMap.{is_sorted}
use Rattle.acpi_name.specs.Names.{Segment}
use Rattle.acpi_name.specs.Paths.{path_cmp}
use Rattle.acpi_space.specs.Lookups.{Lookup}
use Rattle.acpi_space.proofs.Elements.{one_some}
use Rattle.acpi_tree.specs.Objects.{ObjectTree}
use Rattle.acpi_text.specs.Lines.{line_text}
use Rattle.acpi_declare.specs.Links.{Links}
use Rattle.acpi_declare.proofs.Refusals.{one_load}
use Rattle.acpi_body.specs.Bodies.{BodyTree, read, unread}
use Rattle.acpi_order.specs.Machines.{Machine}
use Rattle.acpi_order.proofs.Joined.{one_machine}
use Rattle.acpi_places.specs.declared.place.CodePlace.{CodePlace}
use Rattle.acpi_places.proofs.Once.{one_code_places}
use Rattle.acpins_records.specs.declared.body.BodyRecord.{BodyRecord}
use Rattle.acpins_records.specs.Bodies.{GivesBody}
use Rattle.acpins_records.specs.Contents.{Contents, AreContents, all_links}
use Rattle.acpins_records.specs.Laws.{OneContents, OneBodyText}
use Rattle.acpins_records.specs.Records.{record_of, own_links, records_from, part_count}
use Rattle.acpins_records.proofs.OnePlaces.{one_targets, one_parent, one_below}
use Rattle.acpins_records.proofs.OrderedRecords.{same_lines}

module _ (parents parents' belows belows' : ℕ → ℕ) (links : Lookup Links) (codes : Lookup CodePlace) where
  records_same : (k line target part : ℕ) (es : List (List Segment × ObjectTree)) → ((j : ℕ) → k ≤ j → j < k + length es → parents j ≡ parents' j)
      → ((j : ℕ) → k ≤ j → j < k + length es → belows j ≡ belows' j)
      → records_from k line target part parents belows es links codes ≡ records_from k line target part parents' belows' es links codes
  records_same k line target part [] a b = refl
  records_same k line target part (e ∷ es) a b =
      let first = ap (λ n. record_of line target part n (belows k) e.0 e.1 (own_links links e.0) (codes e.0)) (a k (omega arith) (omega arith))
      ∙ ap (λ n. record_of line target part (parents' k) n e.0 e.1 (own_links links e.0) (codes e.0)) (b k (omega arith) (omega arith)) in
      let later = records_same (suc k) (line + length (line_text e.0 e.1 (own_links links e.0))) (target + length (own_links links e.0)) (part + part_count e.1) es
      (λ j low high. a j (omega arith) (omega arith)) (λ j low high. b j (omega arith) (omega arith)) in
      λ i. first i ∷ later i

contents_same : (es : List (List Segment × ObjectTree)) → is_sorted path_cmp es ≡ true → (links : Lookup Links) (codes : Lookup CodePlace) (c d : Contents)
    → AreContents es links codes c → AreContents es links codes d → c ≡ d
contents_same es sorted links codes c d h k =
    let objects : c.objects ≡ d.objects = h.objects_are
    ∙ records_same h.parents k.parents h.belows k.belows links codes 0 0 0 0 es (one_parent es sorted links codes codes c d h k) (one_below es sorted links codes codes c d h k)
    ∙ sym k.objects_are in
    let targets : c.targets ≡ d.targets = one_targets es sorted (all_links es links) c.targets d.targets h.targets_are k.targets_are in
    let text : c.text ≡ d.text = h.text_is ∙ sym k.text_is in
    let parts : c.parts ≡ d.parts = h.parts_are ∙ sym k.parts_are in
    let bytes : c.bytes ≡ d.bytes = h.bytes_are ∙ sym k.bytes_are in
    λ i. record { objects = objects i; targets = targets i; text = text i; parts = parts i; bytes = bytes i }

pub one_contents : OneContents
one_contents depth tables c d h k =
    let loads = one_load depth tables k.objects h.objects k.links h.links k.loads h.loads in
    let codes : k.codes ≡ h.codes = one_code_places depth tables k.codes h.codes k.are_codes h.are_codes in
    contents_same h.lines h.ascending h.links h.codes c d h.contents
    (subst (λ (x : Lookup CodePlace). AreContents h.lines h.links x d) codes (same_lines depth tables tables c d h k loads.0 loads.1))

-- ---- bodies

module _ (depth : ℕ) (tables : List (List ℕ)) (path : List Segment) (r s : BodyRecord) (text other : List ℕ) where
  one_text : (b : BodyTree) → GivesBody depth tables path b r text → GivesBody depth tables path b s other → text ≡ other
  one_text (read ts) h k = h.1 ∙ sym k.1
  one_text (unread bytes) h k = h.3 ∙ sym k.3

pub one_body_text : OneBodyText
one_body_text depth tables path r s text other h k =
    let machine : k.machine ≡ h.machine = one_machine depth tables k.machine h.machine k.loads h.loads in
    let body : k.body ≡ h.body = one_some k.body h.body (sym k.there ∙ ap (λ (m : Machine). m.bodies path) machine ∙ h.there) in
    one_text depth tables path r s text other h.body h.gives (subst (λ (b : BodyTree). GivesBody depth tables path b s other) body k.gives)
