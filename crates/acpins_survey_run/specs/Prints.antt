-- What a command makes of tables.
use Rattle.std.specs.Prelude.{◌≡◌, Some, None}
use Rattle.acpi_name.specs.Text.{SpellsPathText}
use Rattle.acpins_survey_words.specs.Words.{Command, listing, showing, using, mapping, telling_bodies, checking, differing, reporting, json, paging}
use Rattle.acpins_survey_run.specs.declared.printing.Print.{Print}
use Rattle.acpins_survey_run.specs.declared.printing.Print.TheVariants as prints

-- the command, with the path that its word spells, if it has one
abbrev pub IsPrintOf : Command → Print → Type 0
IsPrintOf (listing bodies) (prints.List has_bodies) = has_bodies ≡ bodies
IsPrintOf (showing word) (prints.Show path) = SpellsPathText path word
IsPrintOf (using None) (prints.Uses None) = Unit {0}
IsPrintOf (using (Some word)) (prints.Uses (Some path)) = SpellsPathText path word
IsPrintOf mapping prints.Map = Unit {0}
IsPrintOf telling_bodies prints.Bodies = Unit {0}
IsPrintOf (checking is_verbose ids) (prints.Check verbose ignored) =
    (verbose ≡ is_verbose) × (ignored.items ≡ ids)
IsPrintOf (differing is_verbose) (prints.Diff verbose) = verbose ≡ is_verbose
IsPrintOf (reporting is_verbose) (prints.Report verbose width) = verbose ≡ is_verbose
IsPrintOf json prints.Json = Unit {0}
IsPrintOf (paging out) prints.Html = Unit {0}
IsPrintOf _ _ = ⊥
