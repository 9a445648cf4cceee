-- What a command tells of a second machine.
use Rattle.std.proofs.Common.{◌≡◌, ℕ, Bool, List, Option, Some, None, refl, subst}
use Rattle.acpi_survey.specs.declared.machine_survey.Survey.{Survey}
use Rattle.acpins_survey_words.specs.Words.{Command, listing, showing, using, mapping, telling_bodies, checking, differing, reporting, json, paging}
use Rattle.acpins_survey_run.specs.Prints.{IsPrintOf}
use Rattle.acpins_survey_run.specs.declared.printing.Print.{Print}
use Rattle.acpins_survey_run.specs.declared.printing.Print.TheVariants as prints
use Rattle.acpins_survey_texts.specs.Texts.{TellsDiffering}

-- a command over one machine tells nothing ..
pub of_one : (command : Command) (depth : ℕ) (s : Survey) (status : ℕ) → TellsDiffering command depth s None status
of_one (listing bodies) depth s status = tt
of_one (showing word) depth s status = tt
of_one (using word) depth s status = tt
of_one mapping depth s status = tt
of_one telling_bodies depth s status = tt
of_one (checking is_verbose ids) depth s status = tt
of_one (differing is_verbose) depth s status = tt
of_one (reporting is_verbose) depth s status = tt
of_one json depth s status = tt
of_one (paging out) depth s status = tt

-- .. nor does one that isn't `diff`
pub of_another : (command : Command) (print : Print) (depth : ℕ) (s : Survey) (second : Option (List (List ℕ))) (status : ℕ) → IsPrintOf command print
    → ((is_verbose : Bool) → print ≡ prints.Diff is_verbose → ⊥) → TellsDiffering command depth s second status
of_another (listing bodies) print depth s second status is other = tt
of_another (showing word) print depth s second status is other = tt
of_another (using word) print depth s second status is other = tt
of_another mapping print depth s second status is other = tt
of_another telling_bodies print depth s second status is other = tt
of_another (checking is_verbose ids) print depth s second status is other = tt
of_another (reporting is_verbose) print depth s second status is other = tt
of_another json print depth s second status is other = tt
of_another (paging out) print depth s second status is other = tt
of_another (differing is_verbose) (prints.Diff verbose) depth s second status is other = absurd (other verbose refl)
of_another (differing is_verbose) (prints.List bodies) depth s second status is other = absurd is
of_another (differing is_verbose) (prints.Show path) depth s second status is other = absurd is
of_another (differing is_verbose) (prints.Uses path) depth s second status is other = absurd is
of_another (differing is_verbose) prints.Map depth s second status is other = absurd is
of_another (differing is_verbose) prints.Bodies depth s second status is other = absurd is
of_another (differing is_verbose) (prints.Check verbose ids) depth s second status is other = absurd is
of_another (differing is_verbose) (prints.Report verbose width) depth s second status is other = absurd is
of_another (differing is_verbose) prints.Json depth s second status is other = absurd is
of_another (differing is_verbose) prints.Html depth s second status is other = absurd is

-- what is made by `diff` is that command's
pub by_diff : (P : Command → Type 0) (command : Command) (is_verbose : Bool) → IsPrintOf command (prints.Diff is_verbose) → P (differing is_verbose) → P command
by_diff P (differing verbose) is_verbose is made = subst (λ b. P (differing b)) is made
by_diff P (listing bodies) is_verbose is made = absurd is
by_diff P (showing word) is_verbose is made = absurd is
by_diff P (using None) is_verbose is made = absurd is
by_diff P (using (Some word)) is_verbose is made = absurd is
by_diff P mapping is_verbose is made = absurd is
by_diff P telling_bodies is_verbose is made = absurd is
by_diff P (checking verbose ids) is_verbose is made = absurd is
by_diff P (reporting verbose) is_verbose is made = absurd is
by_diff P json is_verbose is made = absurd is
by_diff P (paging out) is_verbose is made = absurd is
