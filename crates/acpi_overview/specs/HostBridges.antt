-- PCI host bridges, by their _HID and _CID: PNP0A03, PNP0A08 of PCI Express, and ACPI0016 of CXL (ACPI 6.5, 6.1.2 and
-- 6.1.5).
use Rattle.std.specs.Prelude.{ℕ, Bool, false, ◌==◌, ◌||◌, nat_eq, List, codes, Option, Some, None}
use Rattle.std.specs.List.{list_any}
use Rattle.std.specs.Cmp.Lexicographic.{pointwise}
use Rattle.acpi_tree.specs.declared.term.Term.{Term}
use Rattle.acpi_tree.specs.declared.term.Term.TheVariants as terms
use Rattle.acpi_overview.specs.Numbers.{integer_value}
use Rattle.acpi_overview.specs.declared.containers.Container.{Container}
use Rattle.acpi_overview.specs.declared.value.Value.{Value}
use Rattle.acpi_overview.specs.declared.value.Value.TheVariants as values

-- as an EISA id (19.3.4)
abbrev pub is_bridge_number : Option ℕ → Bool
is_bridge_number (Some n) = n == 0x030AD041 || n == 0x080AD041
is_bridge_number None = false

-- as a text
abbrev pub is_bridge_text : List ℕ → Bool
is_bridge_text text =
    pointwise nat_eq text (codes "PNP0A03") || pointwise nat_eq text (codes "PNP0A08")
    || pointwise nat_eq text (codes "ACPI0016")

-- as an element of a package of ids
abbrev pub is_bridge_term : Term → Bool
is_bridge_term (terms.Int int) = is_bridge_number (integer_value int)
is_bridge_term (terms.Str text) = is_bridge_text text.items
is_bridge_term _ = false

-- as a value, or among several
abbrev pub is_bridge_id : Value → Bool
is_bridge_id (values.Number n) = is_bridge_number (Some n)
is_bridge_id (values.Text text) = is_bridge_text text.now
is_bridge_id (values.Package elements) = list_any is_bridge_term elements.now
is_bridge_id _ = false

-- whether a container is one
abbrev pub is_host_bridge : Container → Bool
is_host_bridge c = is_bridge_id c.values.hid || is_bridge_id c.values.cid
