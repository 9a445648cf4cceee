use Rattle.std.proofs.Common.{◌≡◌, ℕ, List, [], ◌∷◌, Some, None, length, arith, ◌==◌, ◌∙◌, ap, true≢false, refl, sym, rules}
use Rattle.acpi_name.specs.Text.{SpellsPathText}
use Rattle.acpi_name.specs.declared.path.Path.{Path}
use Rattle.acpins_survey_words.specs.Words.{using}
use Rattle.acpins_survey_run.specs.declared.printing.Print.TheVariants as prints
use Rattle.acpins_survey_calls.specs.Asked.{IsPrintedBy}
use Rattle.acpins_survey_calls.proofs.asked.uses_of.Goals as goal

-- a path is none where it has no bytes ..
uses_of_all : (path : List ℕ) → length path ≡ 0 → IsPrintedBy 6 path (prints.Uses None)
uses_of_all [] e = (using None, refl, tt)
uses_of_all (c ∷ path) e = absurd (omega arith)

-- .. and else one
uses_at : (path : List ℕ) (p : Path) → (length path ≡ 0 → ⊥) → SpellsPathText p path → IsPrintedBy 6 path (prints.Uses (Some p))
uses_at [] p some spells = absurd (some refl)
uses_at (c ∷ path) p some spells = (using (Some (c ∷ path)), refl, spells)

pub returns-then-is_empty-clause-ok : goal.returns-then-is_empty-clause-ok
returns-then-is_empty-clause-ok c = uses_of_all c.args.path.now (search rules)

pub returns-clause-ok : goal.returns-clause-ok
returns-clause-ok c = uses_at c.args.path.now c.in_ok-path_in.field-0 (λ e. true≢false (ap (λ n. n == 0) (sym e) ∙ sym c.is_empty.ensures ∙ c.if-is_empty.false)) c.in_ok-path_in.ensures.found
