-- What is found at places of nodes is found at places of the list around them.
use Rattle.std.proofs.Common.{◌≡◌, ◌==◌, ◌+◌, ◌*◌, ◌^◌, ◌<◌, ◌≤◌, ℕ, Bool, true, false, cond, Option, Some, None, refl, ap, ◌∙◌, arith}
use Rattle.std.specs.Option.{option_or}
use Rattle.std.proofs.Math.Arith.{digits_div, digits_mod}
use Rattle.std.proofs.lemmas.Bool.{eqb-true, eq-eqb, ne_eqb}
use Rattle.acpi_outline.specs.Nodes.{FixedTree, FieldNodes, no_more_fields, fields_lost, field_node, NodeTree, holds, holds_fields, NodeTrees, no_more, lost, node}
use Rattle.acpi_outline.specs.Tiling.{TilesFields, TilesInside, Tiles}
use Rattle.acpi_survey.specs.Survey.{place_in}
use Rattle.acpi_ranges.specs.Sites.{table_at, byte_at}
use Rattle.acpi_ranges.specs.Ranges.{first_place, first_field_place}
use Rattle.acpi_ranges.specs.Lookup.{Found, node_found, element_found}
use Rattle.acpi_ranges.specs.steps.Search.{search_fields, search_node, search_nodes}

-- ---- what is found stands within the nodes

pub element_within : (p end : ℕ) (f : FixedTree) (start stop : ℕ) (es : FieldNodes) → TilesFields start stop es → (x : Found) → search_fields p end f es ≡ Some x → (start ≤ p) × (p < stop)
element_within p end f start stop no_more_fields t x e = let h : ⊥ = cc in absurd h
element_within p end f start stop (fields_lost q why) t x e = let h : ⊥ = cc in absurd h
element_within p end f start stop (field_node q offset u es) t x e =
    by (q == p) refl e (λ h. element_within p end f t.0 stop es t.4 x h)
  where
    by : (b : Bool) → (q == p) ≡ b → cond b (Some (element_found (first_field_place end es) f offset u)) (search_fields p end f es) ≡ Some x
        → (search_fields p end f es ≡ Some x → (t.0 ≤ p) × (p < stop)) → (start ≤ p) × (p < stop)
    by true is e later = let same : q ≡ p = eqb-true q p is in (omega (arith, same, t.1), omega (arith, same, t.1, t.2, t.3))
    by false is e later = let r = later e in (omega (arith, r.0, t.2), r.1)

mutual
  inside_within : (p end place stop : ℕ) (n : NodeTree) → TilesInside place stop n → (x : Found) → search_node p end n ≡ Some x → (place < p) × (p < stop)
  inside_within p end place stop (holds f ns) t x e = let r = part_within p end t.0 stop ns t.2 x e in (omega (arith, r.0, t.1), r.1)
  inside_within p end place stop (holds_fields f es) t x e = let r = element_within p end f t.0 stop es t.2 x e in (omega (arith, r.0, t.1), r.1)
  inside_within p end place stop n t x e = let h : ⊥ = cc in absurd h

  pub part_within : (p end start stop : ℕ) (ns : NodeTrees) → Tiles start stop ns → (x : Found) → search_nodes p end ns ≡ Some x → (start ≤ p) × (p < stop)
  part_within p end start stop no_more t x e = let h : ⊥ = cc in absurd h
  part_within p end start stop (lost q why) t x e = let h : ⊥ = cc in absurd h
  part_within p end start stop (node q n ns) t x e =
      by (q == p) refl (search_node p (first_place end ns) n) refl e (λ y h. inside_within p (first_place end ns) q t.0 n t.4 y h) (λ h. part_within p end t.0 stop ns t.5 x h)
    where
      by : (b : Bool) → (q == p) ≡ b → (o : Option Found) → search_node p (first_place end ns) n ≡ o → cond b (Some (node_found (first_place end ns) n)) (option_or o (search_nodes p end ns)) ≡ Some x
          → ((y : Found) → search_node p (first_place end ns) n ≡ Some y → (q < p) × (p < t.0)) → (search_nodes p end ns ≡ Some x → (t.0 ≤ p) × (p < stop)) → (start ≤ p) × (p < stop)
      by true is o at e inner later = let same : q ≡ p = eqb-true q p is in (omega (arith, same, t.1), omega (arith, same, t.1, t.2, t.3))
      by false is (Some y) at e inner later = let r = inner y at in (omega (arith, r.0, t.1), omega (arith, r.1, t.3))
      by false is None at e inner later = let r = later e in (omega (arith, r.0, t.2), r.1)

-- ---- from a list to what is around it

-- what is found in the nodes is what the search finds
abbrev pub FindsParts : (look : ℕ → Option Found) → (end : ℕ) → NodeTrees → Type 0
FindsParts look end ns = (p : ℕ) (x : Found) → search_nodes p end ns ≡ Some x → look p ≡ Some x

-- so is the node at its place, and what is found in it
pub record FindsNode (look : ℕ → Option Found) (place to : ℕ) (n : NodeTree) : Type 0 where
  pub itself : look place ≡ Some (node_found to n)
  pub inside : (p : ℕ) (x : Found) → search_node p to n ≡ Some x → look p ≡ Some x

module _ (look : ℕ → Option Found) (end start stop q : ℕ) (n : NodeTree) (ns : NodeTrees) (t : Tiles start stop (node q n ns)) (finds : FindsParts look end (node q n ns)) where
  abbrev to : ℕ
  to = first_place end ns

  abbrev at : Bool → Option Found → ℕ → Option Found
  at b o p = cond b (Some (node_found to n)) (option_or o (search_nodes p end ns))

  none_inside : (p : ℕ) → t.0 ≤ p → search_node p to n ≡ None
  none_inside p le = by (search_node p to n) refl
    where
      by : (o : Option Found) → search_node p to n ≡ o → search_node p to n ≡ None
      by None e = e
      by (Some x) e = let r = inside_within p to q t.0 n t.4 x e in absurd (omega (arith, r.1, le))

  pub finds_node : FindsNode look q to n
  finds_node = record {
    itself = finds q (node_found to n) (ap (λ b. at b (search_node q to n) q) (eq-eqb q q refl));
    inside = λ p x e.
        let r = inside_within p to q t.0 n t.4 x e in
        finds p x (ap (λ b. at b (search_node p to n) p) (ne_eqb q p (λ same. omega (arith, same, r.0))) ∙ ap (λ o. option_or o (search_nodes p end ns)) e);
  }

  pub finds_rest : FindsParts look end ns
  finds_rest p x e =
      let r = part_within p end t.0 stop ns t.5 x e in
      finds p x (ap (λ b. at b (search_node p to n) p) (ne_eqb q p (λ same. omega (arith, same, r.0, t.1, t.2)))
      ∙ ap (λ o. option_or o (search_nodes p end ns)) (none_inside p r.0)
      ∙ e)

-- ---- places of a table

module _ (number place : ℕ) (short : place < 2 ^ 64) where
  as_digits : place_in number 0 + place ≡ number * 2 ^ 64 + place
  as_digits = omega arith

  pub in_table : table_at (place_in number 0 + place) ≡ number
  in_table = ap table_at as_digits ∙ digits_div number short

  pub at_byte : byte_at (place_in number 0 + place) ≡ place
  at_byte = ap byte_at as_digits ∙ digits_mod number short
