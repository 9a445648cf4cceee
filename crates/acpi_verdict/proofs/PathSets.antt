-- Sets of paths that grow by lists.
use Rattle.std.proofs.Common.{◌≡◌, ◌≢◌, ◌↔◌, ◌∙◌, List, map, None, Some, sym}
use Rattle.std.specs.FinMap.{entries, get, get-entries}
use Rattle.acpi_name.specs.Names.{Segment}
use Rattle.acpi_space.specs.Laws.{Among}
use Rattle.acpi_space.specs.Spaces.{PathMap}
use Rattle.acpi_space.proofs.Keys.{keys_ascend}
use Rattle.acpi_body.specs.steps.Gathering.{Paths, Grows, with_misses}
use Rattle.acpi_body.proofs.Grown.{grows_as, misses_grow}
use Rattle.acpi_body.proofs.Listed.{pair_found}

none_some : (p : List Segment) → None ≢ Some p
none_some p e = cc

-- all paths of a list are added
pub list_grows : (m n : Paths) (ps : List (List Segment)) → n ≡ with_misses None m ps → Grows m n (Among ps)
list_grows m n ps e =
    rw e (grows_as m (with_misses None m ps) (λ p. Among ps p × (None ≢ Some p)) (Among ps) (λ p. (λ h. h.0, λ h. (h, none_some p))) (misses_grow None m ps))

-- the paths of some pairs
abbrev pub paths_in : {V : Type 0} → List (List Segment × V) → List (List Segment)
paths_in es = map (λ e. e.0) es

-- the pairs of a map are its values
pub pair_is : {V : Type 0} (m : PathMap V) (p : List Segment) (v : V) → Among (entries m) (p, v) ↔ (get m p ≡ Some v)
pair_is m p v = let r = pair_found (entries m) p v (keys_ascend m) in (λ i. get-entries m p ∙ r.0 i, λ e. r.1 (sym (get-entries m p) ∙ e))
