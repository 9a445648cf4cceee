-- The entries of a survey by path, where the paths and the order are had in another form.
use Rattle.std.proofs.Common.{◌≡◌, ℕ, List, map, sym, subst}
use Rattle.std.specs.Borrow.{Bor}
use Rattle.acpi_conditions.specs.ByPath.{AreByPath, lent_pair}
use Rattle.acpi_conditions.specs.Entries.{Path, Entry}
use Rattle.acpi_survey.specs.declared.machine_survey.Survey.{Survey}
use Rattle.acpi_same.specs.Numbered.{entries_of}
use Rattle.acpi_same.proofs.Saying.{IsOrder}

pub order_of : (s : Survey) (paths : List Path) (order lent : List (Bor Path × ℕ)) → paths ≡ map (λ (e : Entry). e.path) (entries_of s)
    → AreByPath paths (map lent_pair order) → lent ≡ order → IsOrder s lent
order_of s paths order lent e by_path same =
    subst (λ ps. AreByPath ps (map lent_pair lent)) e (subst (λ xs. AreByPath paths (map lent_pair xs)) (sym same) by_path)
