-- What the load of a DSDT with one SSDT tried and missed (ACPI 6.5, 5.3).
use Rattle.std.specs.Prelude.{◌⊎◌, ℕ, List, [], ◌∷◌}
use Rattle.acpi_name.specs.Names.{Segment, NameParts}
use Rattle.acpi_space.specs.Lookups.{is_defined_in, union}
use Rattle.acpi_space.specs.Search.{missed}
use Rattle.acpi_space.specs.Laws.{Among}
use Rattle.acpi_declare.specs.Namespace.{Namespace}
use Rattle.acpi_declare.specs.Predefined.{predefined}
use Rattle.acpi_declare.specs.Listing.{Placement, objects_of}
use Rattle.acpi_declare.specs.Links.{PendingLink, all_pending}
use Rattle.acpi_declare.specs.Notes.{scope_misses}
use Rattle.acpi_body.specs.Bodies.{BodyTree}
use Rattle.acpi_body.specs.Misses.{IsFirmMiss, IsOpenMiss}
use Rattle.acpi_order.specs.Bodies.{Method, all_methods, IsBody}

-- a table by its placements
abbrev pub Listing : Type 0
Listing = List Placement

-- the objects of the DSDT alone, and with one SSDT
abbrev pub objects_of_first : Listing → Namespace
objects_of_first first = union predefined (objects_of first)

abbrev pub objects_of_both : Listing → Listing → Namespace
objects_of_both first second = union (objects_of_first first) (objects_of second)

-- a path that the search of one of the link's names missed
abbrev pub IsLinkMiss : Namespace → PendingLink → List Segment → Type 0
IsLinkMiss objects w p =
    (n : NameParts) × Among w.names n × Among (missed (is_defined_in objects) w.scope n) p

-- a path that the body of the method missed, and that it doesn't await
abbrev pub IsBodyMiss : ℕ → Namespace → Method → List Segment → Type 0
IsBodyMiss depth objects m p =
    (b : BodyTree) × IsBody depth objects m b × IsFirmMiss objects m.counts m.path b p

-- a path where the body awaits a method of so many arguments: its table's External gave a name's count, and the name
-- isn't found
abbrev pub IsAwaiting : ℕ → Namespace → Method → List Segment → ℕ → Type 0
IsAwaiting depth objects m p args =
    (b : BodyTree) × IsBody depth objects m b × IsOpenMiss objects m.counts m.path b p args

-- A path that the load tried and missed: for a Scope term of the SSDT, in the namespace of its moment, or over the
-- final objects for a link or a body of one of the two. The Scope terms of the DSDT are opened before any SSDT is
-- declared.
abbrev pub IsMiss : ℕ → Listing → Listing → List Segment → Type 0
IsMiss depth first second p =
    Among (scope_misses (objects_of_first first) second) p
    ⊎ ((w : PendingLink) × Among (all_pending (first ∷ second ∷ [])) w
    × IsLinkMiss (objects_of_both first second) w p)
    ⊎ ((m : Method) × Among (all_methods (first ∷ second ∷ [])) m
    × IsBodyMiss depth (objects_of_both first second) m p)

-- a path where a body of one of the two awaits a method of so many arguments
abbrev pub IsAwaited : ℕ → Listing → Listing → List Segment → ℕ → Type 0
IsAwaited depth first second p args = (m : Method) × Among (all_methods (first ∷ second ∷ [])) m
    × IsAwaiting depth (objects_of_both first second) m p args
