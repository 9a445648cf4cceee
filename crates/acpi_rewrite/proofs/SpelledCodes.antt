-- The code of methods stands in the bytes that spell their items.
use Rattle.std.proofs.Common.{ℕ, ◌<◌, List, [], ◌∷◌, ◌++◌, subst, All}
use Rattle.std.specs.List.{AllByRecursion}
use Rattle.std.proofs.lemmas.List.Elements.{All-from_recursion, recursion_from_All}
use Rattle.acpi_code.proofs.Fitting.{AreBytes, parts}
use Rattle.acpi_tree.specs.Tree.{ItemTree, scope, method, ItemTrees, no_items, item}
use Rattle.acpi_terms.specs.Spelling.{SpellsItem, SpellsItems}
use Rattle.acpi_terms.proofs.Fitting.{filled}
use Rattle.acpi_rewrite.specs.Rewriting.{item_codes, codes}

abbrev AreOfBytes : List (List ℕ) → Type 0
AreOfBytes cs = AllByRecursion (All (λ b. b < 256)) cs

both : (cs ds : List (List ℕ)) → AreOfBytes cs → AreOfBytes ds → AreOfBytes (cs ++ ds)
both [] ds h k = k
both (c ∷ cs) ds h k = (h.0, both cs ds h.1 k)

mutual
  item_codes_small : (i : ItemTree) (bytes : List ℕ) → SpellsItem i bytes → AreBytes bytes → AreOfBytes (item_codes i)
  item_codes_small (method n flags code) bytes h small =
      (All-from_recursion (λ b. b < 256) code (subst AreBytes h.3 (filled _ h.0 h.1 bytes h.4 small)), tt)
  item_codes_small (scope kind n is) bytes h small = codes_small is h.1 h.3 (filled _ h.0 h.1 bytes h.4 small)
  item_codes_small i bytes h small = tt

  codes_small : (is : ItemTrees) (bytes : List ℕ) → SpellsItems is bytes → AreBytes bytes → AreOfBytes (codes is)
  codes_small no_items bytes h small = tt
  codes_small (item i is) bytes h small =
      let split = parts h.0 h.1 bytes h.4 small in
      both (item_codes i) (codes is) (item_codes_small i h.0 h.2 split.0) (codes_small is h.1 h.3 split.1)

pub codes_in_bytes : (is : ItemTrees) (bytes : List ℕ) → All (λ b. b < 256) bytes → SpellsItems is bytes → AllByRecursion (All (λ b. b < 256)) (codes is)
codes_in_bytes is bytes small h = codes_small is bytes h (recursion_from_All (λ b. b < 256) bytes small)
