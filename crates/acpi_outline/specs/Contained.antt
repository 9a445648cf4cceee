-- Damage in a package stays in it: what a package holds may become any other bytes, as many.
use Rattle.std.specs.Prelude.{◌≡◌, ℕ, List, ◌++◌, length, Option, Some, None}
use Rattle.acpi_code.specs.Spelling.{Packs}
use Rattle.acpi_outline.specs.declared.form.PackedForm.{PackedForm}
use Rattle.acpi_outline.specs.Nodes.{FixedTree, NodeTree, holds, holds_fields, closed, package_lost, NodeTrees, node, form_of, form_bytes}
use Rattle.acpi_outline.specs.Rules.{Rules, after}
use Rattle.acpi_outline.specs.Outline.{IsOutline}

-- Where a node stands in an outline: first in its list, behind another node, or in a package that is gone into and that
-- other nodes follow.
pub data Around : Type 0 where
  first : Around
  behind : (place : ℕ) → NodeTree → Around → Around
  inside : (place : ℕ) → FixedTree → Around → (followed_by : NodeTrees) → Around

-- the outline in which it stands there, and these follow it in its list
abbrev pub put_at : Around → ℕ → NodeTree → NodeTrees → NodeTrees
put_at first place n ns = node place n ns
put_at (behind p m c) place n ns = node p m (put_at c place n ns)
put_at (inside p f c ms) place n ns = node p (holds f (put_at c place n ns)) ms

-- what is known before it
abbrev pub known_at : {S : Type 0} → Rules S → S → Around → S
known_at r known first = known
known_at r known (behind p m c) = known_at r (after r p known m) c
known_at r known (inside p f c ms) = known_at r (r.enter known p f) c

-- the form of the package that a node is, if it is one
abbrev pub package_form : NodeTree → Option PackedForm
package_form (holds f ns) = Some (form_of f)
package_form (holds_fields f es) = Some (form_of f)
package_form (closed f content) = Some (form_of f)
package_form (package_lost form why) = Some form
package_form _ = None

-- A node is a package of that form, which stands at the node's place of the code and holds these bytes (20.2.4). With
-- any others, as many, in their place it is another node, and all that stand around it are the same, if what is known
-- behind it is.
pub record IsContained {S : Type 0} (r : Rules S) (known : S) (depth : ℕ) (code : List ℕ)
    (c : Around) (place : ℕ) (n : NodeTree) (ns : NodeTrees) (form : PackedForm) : Type 0 where
  pub before : List ℕ
  pub content : List ℕ
  pub packed : List ℕ
  pub after_it : List ℕ
  pub packs : Packs (form_bytes form) content packed
  pub at : length before ≡ place
  pub whole : code ≡ before ++ (packed ++ after_it)
  pub changed : (other : List ℕ) → length other ≡ length content → NodeTree
  pub stays : (other : List ℕ) (same : length other ≡ length content)
      → after r place (known_at r known c) (changed other same)
      ≡ after r place (known_at r known c) n
      → IsOutline r known depth (put_at c place (changed other same) ns)
      (before ++ ((form_bytes form ++ (packs.len ++ other)) ++ after_it))

abbrev pub PackagesContain : {S : Type 0} → Rules S → Type 0
PackagesContain {S} r =
    (known : S) (depth : ℕ) (code : List ℕ) (c : Around) (place : ℕ) (n : NodeTree) (ns : NodeTrees)
    (form : PackedForm) → IsOutline r known depth (put_at c place n ns) code
    → package_form n ≡ Some form → IsContained r known depth code c place n ns form
