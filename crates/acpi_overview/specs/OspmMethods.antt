-- Control methods that an operating system runs by itself (ACPI 6.5, 5.6.4, 5.8.1, 6.2.11, 6.3.7, 6.5.1, 6.5.4, 7.3.13
-- and 7.4).
use Rattle.std.specs.Prelude.{ℕ, Bool, false, ◌==◌, ◌&&◌, ◌||◌, nat_eq, nat_le, List, [], ◌∷◌, length, codes, Option, Some, None, if◌then◌else◌}
use Rattle.std.specs.Option.{option_or}
use Rattle.std.specs.Cmp.Lexicographic.{pointwise}
use Rattle.acpi_overview.specs.Paths.{last_name}
use Rattle.acpi_overview.specs.declared.ospm_methods.OspmKind.{OspmKind}
use Rattle.acpi_overview.specs.declared.ospm_methods.OspmKind.TheVariants as kinds
use Rattle.acpi_kinds.specs.declared.kind.ObjectKind.{ObjectKind}
use Rattle.acpi_kinds.specs.declared.kind.ObjectKind.TheVariants as objects

-- whether two names are the same
abbrev pub is_name : List ℕ → List ℕ → Bool
is_name = pointwise nat_eq

-- 0 to 9 and A to F
abbrev pub is_hex_digit : ℕ → Bool
is_hex_digit b = (nat_le 48 b && nat_le b 57) || (nat_le 65 b && nat_le b 70)

-- `_`, a letter and two hexadecimal digits
abbrev pub is_numbered : (letter : ℕ) (name : List ℕ) → Bool
is_numbered letter (a ∷ b ∷ c ∷ d ∷ []) =
    a == 95 && b == letter && is_hex_digit c && is_hex_digit d
is_numbered _ _ = false

-- names of methods at any place (6.5.1, 6.5.4, 6.2.11, 6.3.7 and 7.3.13)
abbrev pub named_kind : List ℕ → Option OspmKind
named_kind name =
    if is_name name (codes "_INI") then Some kinds.Init else
    if is_name name (codes "_REG") then Some kinds.Reg else
    if is_name name (codes "_OSC") then Some kinds.Osc else
    if is_name name (codes "_STA") then Some kinds.Sta else
    if is_name name (codes "_PRW") then Some kinds.Wake else None

-- names of methods at the root (5.8.1 and 7.4)
abbrev pub system_kind : List ℕ → Option OspmKind
system_kind name =
    if is_name name (codes "_PIC") || is_name name (codes "_PTS") ||
    is_name name (codes "_WAK") || is_name name (codes "_TTS") ||
    is_name name (codes "_GTS") || is_name name (codes "_BFS")
    then Some kinds.System else None

-- names of methods elsewhere that end with a number (5.6.4); 81 is Q, 76 L and 69 E
abbrev pub numbered_kind : List ℕ → Option OspmKind
numbered_kind name =
    if is_numbered 81 name then Some kinds.Query else
    if is_numbered 76 name || is_numbered 69 name then Some kinds.Event else None

-- the kind of a method, by its path
abbrev pub method_kind : (path : List (List ℕ)) → Option OspmKind
method_kind path = let name = last_name path in
    option_or (named_kind name)
    (if length path == 1 then system_kind name else numbered_kind name)

-- the kind of what a term declares; only methods have one
abbrev pub ospm_kind : ObjectKind → (path : List (List ℕ)) → Option OspmKind
ospm_kind (objects.Method flags) path = method_kind path
ospm_kind _ path = None
