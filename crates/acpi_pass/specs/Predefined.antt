-- What the namespace holds before any table (ACPI 6.5, 5.3.1 and 5.7).
use Rattle.std.specs.Prelude.{List, [], ◌∷◌, codes}
use Rattle.acpi_name.specs.Names.{Segment}
use Rattle.acpi_space.specs.Lookups.{nothing, singleton, union}
use Rattle.acpi_tree.specs.Objects.{ObjectTree, root_object, scope_object, predefined_object, mutex_object, method_object}
use Rattle.acpi_pass.specs.Namespace.{Namespace}

-- the namespace with some objects more
abbrev pub with_objects : Namespace → List (List Segment × ObjectTree) → Namespace
with_objects objects [] = objects
with_objects objects (e ∷ es) = with_objects (union objects (singleton e.0 e.1)) es

-- the root; the scopes _GPE, _PR_, _SB_, _SI_ and _TZ_; the mutex _GL_; the method _OSI of one argument; _OS_ and _REV
abbrev pub predefined : Namespace
predefined = with_objects nothing (
    ([], root_object)
    ∷ (codes "_GPE" ∷ [], scope_object)
    ∷ (codes "_PR_" ∷ [], scope_object)
    ∷ (codes "_SB_" ∷ [], scope_object)
    ∷ (codes "_SI_" ∷ [], scope_object)
    ∷ (codes "_TZ_" ∷ [], scope_object)
    ∷ (codes "_GL_" ∷ [], mutex_object 0)
    ∷ (codes "_OSI" ∷ [], method_object 1)
    ∷ (codes "_OS_" ∷ [], predefined_object)
    ∷ (codes "_REV" ∷ [], predefined_object)
    ∷ [])
