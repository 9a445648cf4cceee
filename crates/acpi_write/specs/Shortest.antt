-- No spelling is shorter than the one that is written (ACPI 6.5, 20.2).
use Rattle.std.specs.Prelude.{◌≡◌, ◌<◌, ◌≤◌, ℕ, false, List, length, Option, Some, None, All}
use Rattle.acpi_name.specs.Names.{Segment}
use Rattle.acpi_tree.specs.Tree.{ItemTree, scope, method, ItemTrees, no_items, item}
use Rattle.acpi_tree.specs.Terms.{TermTrees}
use Rattle.acpi_terms.specs.Spelling.{SpellsItems}
use Rattle.acpi_body.specs.Arguments.{Locals, BodyGrammar}
use Rattle.acpi_body.specs.Statements.{ReadsBody}
use Rattle.acpi_write.specs.CanonicalItems.{items_bytes}
use Rattle.acpi_write.specs.CanonicalTerms.{terms_bytes}
use Rattle.acpi_write.specs.Laws.{AreItemsTyped}

-- there is a spelling, and it isn't longer than these bytes
abbrev pub HasWithin : Option (List ℕ) → List ℕ → Type 0
HasWithin None bytes = ⊥
HasWithin (Some b) bytes = length b ≤ length bytes

-- ---- items

-- the same items but for the code of methods, none of which has become longer
abbrev mutual
  pub IsShortened : ItemTree → ItemTree → Type 0
  IsShortened (method n flags code) j =
      (short : List ℕ) × (length short ≤ length code) × (j ≡ method n flags short)
  IsShortened (scope kind n is) j = (js : ItemTrees) × AreShortened is js × (j ≡ scope kind n js)
  IsShortened i j = j ≡ i

  pub AreShortened : ItemTrees → ItemTrees → Type 0
  AreShortened no_items js = js ≡ no_items
  AreShortened (item i is) js =
      (k : ItemTree) × (ks : ItemTrees) × IsShortened i k × AreShortened is ks × (js ≡ item k ks)

-- Items that some bytes spell have a spelling that is written, and it isn't longer; nor is that of the items with
-- shorter code in their methods.
abbrev pub NoItemsAreShorter : Type 0
NoItemsAreShorter = (is js : ItemTrees) (bytes : List ℕ) → All (λ b. b < 256) bytes
    → SpellsItems is bytes → AreShortened is js → HasWithin (items_bytes js) bytes

-- items that some bytes spell have values of the types that a value in memory has
abbrev pub SpelledItemsAreTyped : Type 0
SpelledItemsAreTyped = (is : ItemTrees) (bytes : List ℕ) → All (λ b. b < 256) bytes
    → SpellsItems is bytes → AreItemsTyped is

-- ---- terms

-- what is written of the terms that a body is, is read as the same terms and isn't longer than the body
pub record IsWritten (g : BodyGrammar) (s : List Segment) (depth : ℕ) (bytes : List ℕ)
    (ts : TermTrees) : Type 0 where
  pub written : List ℕ
  pub spelling : terms_bytes ts ≡ Some written
  pub reads : ReadsBody g s depth written ts
  pub within : length written ≤ length bytes

-- so of each body in which no loads may stand
abbrev pub ReadTermsAreWritten : Type 0
ReadTermsAreWritten =
    (g : BodyGrammar) (s : List Segment) (depth : ℕ) (bytes : List ℕ) (ts : TermTrees)
    → ((locals : Locals) → (g locals).loads ≡ false) → All (λ b. b < 256) bytes
    → ReadsBody g s depth bytes ts → IsWritten g s depth bytes ts
