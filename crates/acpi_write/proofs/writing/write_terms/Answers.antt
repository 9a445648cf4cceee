use Rattle.std.proofs.Common.{◌∙◌, sym, ap, Some}
use Rattle.acpi_tree.specs.TermView.{terms_tree}
use Rattle.acpi_write.specs.CanonicalTerms.{terms_bytes}
use Rattle.acpi_write.proofs.Fronts.{put_alone}
use Rattle.acpi_write.proofs.TermsWritten.{terms_written}
use Rattle.acpi_write.proofs.writing.write_terms.Goals as goal

pub returns-clause-ok : goal.returns-clause-ok
returns-clause-ok c = put_alone (terms_bytes (terms_tree c.args.terms.now)) c.new-writer.result c.terms.new.self c.new-writer.ensures c.in_ok-terms.ensures.put ∙ ap Some (sym c.into_bytes.ensures)

pub returns-clause-spells : goal.returns-clause-spells
returns-clause-spells c = λ args s depth may high.
    terms_written args s depth (terms_tree c.args.terms.now) c.into_bytes.result.items c.in_ok-terms.ensures.typed c.requires.fit may high
    (put_alone (terms_bytes (terms_tree c.args.terms.now)) c.new-writer.result c.terms.new.self c.new-writer.ensures c.in_ok-terms.ensures.put ∙ ap Some (sym c.into_bytes.ensures))
