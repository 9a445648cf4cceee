use Rattle.std.proofs.Common.{◌≡◌, ◌∙◌, sym, Some}
use Rattle.std.proofs.lemmas.Result.{IfOk-weaker}
use Rattle.std.proofs.lemmas.Option.{same_Some}
use Rattle.acpi_name.specs.Text.{SpellsPathText}
use Rattle.acpi_name.specs.steps.TextReading.{path_of_text}
use Rattle.acpi_name.proofs.PathTexts.{text_took, text_again, no_text, is_no_text}
use Rattle.acpi_name.proofs.path.Path.from_text.Goals as goal

pub returns-clause-found : goal.returns-clause-found
returns-clause-found c =
    rw (← c.as_bytes.ensures.value) (IfOk-weaker c.typed_path.result (λ p. path_of_text c.as_bytes.result.now ≡ Some p) (λ p. SpellsPathText p c.as_bytes.result.now)
    (λ p e. text_took c.as_bytes.result.now p e) c.typed_path.ensures.ok)

pub returns-clause-only : goal.returns-clause-only
returns-clause-only c = rw (← c.as_bytes.ensures.value) (λ p h.
    IfOk-weaker c.typed_path.result (λ q. path_of_text c.as_bytes.result.now ≡ Some q) (λ q. q ≡ p)
    (λ q e. same_Some q p (sym e ∙ text_again c.as_bytes.result.now p h)) c.typed_path.ensures.ok)

pub returns-clause-bad : goal.returns-clause-bad
returns-clause-bad c =
    rw (← c.as_bytes.ensures.value) (λ e. no_text c.as_bytes.result.now (c.typed_path.ensures.bad.0 e), λ h. c.typed_path.ensures.bad.1 (is_no_text c.as_bytes.result.now h))
