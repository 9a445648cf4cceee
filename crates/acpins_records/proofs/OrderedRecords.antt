-- Records of independent SSDTs are the same for every order, but for the numbers of tables.
use Rattle.std.proofs.Common.{◌≡◌, ◌⊎◌, inl, inr, ℕ, suc, ◌+◌, ◌<◌, ◌≤◌, T, true, List, [], ◌∷◌, map, length, Option, Some, None, slice_get, refl, sym, ap, subst, ◌∙◌, arith}
use Rattle.std.specs.List.{AllZip}
use Rattle.std.specs.FinMap.{is_sorted}
use Rattle.std.specs.FinMap.Entries.{same_entries}
use Rattle.std.proofs.lemmas.List.{length-map}
use Rattle.acpi_name.specs.Names.{Segment}
use Rattle.acpi_name.specs.Paths.{path_cmp}
use Rattle.acpi_name.specs.steps.PathOrder.{path_cmp_total, path_cmp-IsAntisymmetric}
use Rattle.acpi_space.specs.Lookups.{Lookup}
use Rattle.acpi_tree.specs.Objects.{ObjectTree}
use Rattle.acpi_text.specs.Lines.{line_text}
use Rattle.acpi_declare.specs.Links.{Links}
use Rattle.acpi_declare.specs.Namespace.{Namespace}
use Rattle.acpi_order.specs.Machines.{Machine}
use Rattle.acpi_order.specs.Orders.{AreReordered}
use Rattle.acpi_order.proofs.Orders.{one_in_any_order}
use Rattle.acpi_machine.proofs.Orders.{declared_have_machine}
use Rattle.acpi_places.specs.declared.place.CodePlace.{CodePlace}
use Rattle.acpins_records.specs.declared.records.ObjectRecord.{ObjectRecord}
use Rattle.acpins_records.specs.Contents.{Contents, IsTarget, AreContents, paths_in, all_links}
use Rattle.acpins_records.specs.Orders.{without_table, AreAlike, IsWrittenInAnyOrder}
use Rattle.acpins_records.specs.Records.{record_of, own_links, records_from, part_count}
use Rattle.acpins_records.specs.Tree.{IsPlaceOf, path_round, IsBelow, EndsBelow}
use Rattle.acpins_records.specs.Written.{IsContentsOf, IsWritten}
use Rattle.acpins_records.specs.declared.outcome.Outcome.{Outcome}
use Rattle.acpins_records.proofs.OrderedCodes.{AreSamePlace, code_place_of, code_length_of, codes_in_any_order}
use Rattle.acpins_records.proofs.OnePlaces.{one_targets, one_parent, one_below}

-- ---- records

abbrev with_place : ObjectRecord → ℕ → ℕ → ObjectRecord
with_place r place len = record (without_table r) { code_place = place; code_length = len }

module _ (parents parents' belows belows' : ℕ → ℕ) (links : Lookup Links) (codes codes' : Lookup CodePlace) (alike : (p : List Segment) → AreSamePlace (codes p) (codes' p)) where
  record_alike : (k line target part : ℕ) (path : List Segment) (object : ObjectTree) → parents k ≡ parents' k → belows k ≡ belows' k
      → without_table (record_of line target part (parents k) (belows k) path object (own_links links path) (codes path))
      ≡ without_table (record_of line target part (parents' k) (belows' k) path object (own_links links path) (codes' path))
  record_alike k line target part path object a b =
      let same = alike path in
      ap (λ n. without_table (record_of line target part n (belows k) path object (own_links links path) (codes path))) a
      ∙ ap (λ n. without_table (record_of line target part (parents' k) n path object (own_links links path) (codes path))) b
      ∙ placed same.place same.length
    where
      placed : code_place_of (codes path) ≡ code_place_of (codes' path) → code_length_of (codes path) ≡ code_length_of (codes' path)
          → with_place (record_of line target part (parents' k) (belows' k) path object (own_links links path) None) (code_place_of (codes path)) (code_length_of (codes path)) ≡ with_place (record_of line target part (parents' k) (belows' k) path object (own_links links path) None) (code_place_of (codes' path)) (code_length_of (codes' path))
      placed c d = ap (λ n. with_place (record_of line target part (parents' k) (belows' k) path object (own_links links path) None) n (code_length_of (codes path))) c ∙ ap (with_place (record_of line target part (parents' k) (belows' k) path object (own_links links path) None) (code_place_of (codes' path))) d

  records_alike : (k line target part : ℕ) (es : List (List Segment × ObjectTree)) → ((j : ℕ) → k ≤ j → j < k + length es → parents j ≡ parents' j)
      → ((j : ℕ) → k ≤ j → j < k + length es → belows j ≡ belows' j)
      → map without_table (records_from k line target part parents belows es links codes) ≡ map without_table (records_from k line target part parents' belows' es links codes')
  records_alike k line target part [] a b = refl
  records_alike k line target part (e ∷ es) a b =
      let first = record_alike k line target part e.0 e.1 (a k (omega arith) (omega arith)) (b k (omega arith) (omega arith)) in
      let later = records_alike (suc k) (line + length (line_text e.0 e.1 (own_links links e.0))) (target + length (own_links links e.0)) (part + part_count e.1) es
      (λ j low high. a j (omega arith) (omega arith)) (λ j low high. b j (omega arith) (omega arith)) in
      λ i. first i ∷ later i

contents_alike : (es : List (List Segment × ObjectTree)) → is_sorted path_cmp es ≡ true → (links : Lookup Links) (codes codes' : Lookup CodePlace) (c d : Contents)
    → ((p : List Segment) → AreSamePlace (codes p) (codes' p)) → AreContents es links codes c → AreContents es links codes' d → AreAlike c d
contents_alike es sorted links codes codes' c d alike h k = record {
  objects = ap (map without_table) k.objects_are
      ∙ sym (records_alike h.parents k.parents h.belows k.belows links codes codes' alike 0 0 0 0 es
      (one_parent es sorted links codes codes' c d h k) (one_below es sorted links codes codes' c d h k))
      ∙ sym (ap (map without_table) h.objects_are);
  targets = one_targets es sorted (all_links es links) d.targets c.targets k.targets_are h.targets_are;
  text = k.text_is ∙ sym h.text_is;
  parts = k.parts_are ∙ sym h.parts_are;
  bytes = k.bytes_are ∙ sym h.bytes_are;
}

-- ---- loads in two orders

-- where two loads have one namespace, they have the same lines
pub same_lines : (depth : ℕ) (tables others : List (List ℕ)) (c d : Contents) (h : IsContentsOf depth tables c) (k : IsContentsOf depth others d)
    → k.objects ≡ h.objects → k.links ≡ h.links → AreContents h.lines h.links k.codes d
same_lines depth tables others c d h k objects links =
    let lines : k.lines ≡ h.lines = same_entries path_cmp path_cmp_total path_cmp-IsAntisymmetric k.lines h.lines (subst T (sym k.ascending) tt) (subst T (sym h.ascending) tt)
    (λ p. k.objects_are p ∙ ap (λ (N : Namespace). N p) objects ∙ sym (h.objects_are p)) in
    subst (λ (l : Lookup Links). AreContents h.lines l k.codes d) links (subst (λ (es : List (List Segment × ObjectTree)). AreContents es k.links k.codes d) lines k.contents)

pub records_in_any_order : (depth : ℕ) (dsdt : List ℕ) (ssdts given : List (List ℕ)) (c d : Contents) → AreReordered depth dsdt ssdts given
    → IsContentsOf depth (dsdt ∷ ssdts) c → IsContentsOf depth (dsdt ∷ given) d → AreAlike c d
records_in_any_order depth dsdt ssdts given c d order h k =
    let m = declared_have_machine depth (dsdt ∷ ssdts) h.objects h.links h.loads in
    let n = declared_have_machine depth (dsdt ∷ given) k.objects k.links k.loads in
    let same : m.0 ≡ n.0 = one_in_any_order depth dsdt ssdts given m.0 n.0 order.some order.order order.independent m.1 n.1 in
    let objects : k.objects ≡ h.objects = sym n.2 ∙ ap (λ (x : Machine). x.objects) (sym same) ∙ m.2 in
    let links : k.links ≡ h.links = sym n.3 ∙ ap (λ (x : Machine). x.links) (sym same) ∙ m.3 in
    let contents = same_lines depth (dsdt ∷ ssdts) (dsdt ∷ given) c d h k objects links in
    contents_alike h.lines h.ascending h.links h.codes k.codes c d (λ p. codes_in_any_order depth dsdt ssdts given order h.codes k.codes h.are_codes k.are_codes p) h.contents contents

pub written_in_any_order : (depth : ℕ) (tables : List (List ℕ)) (old new : Contents) (outcome : Outcome) → IsWritten depth tables old new outcome → IsWrittenInAnyOrder depth tables old new
written_in_any_order depth tables old new outcome h dsdt ssdts given are order c is =
    (h.contents, h.fronts, records_in_any_order depth dsdt ssdts given c h.contents order is (subst (λ (ts : List (List ℕ)). IsContentsOf depth ts h.contents) are h.is_load))
