use Rattle.std.proofs.Common.{◌≡◌, ◌∷◌, Some, rules}
use Rattle.std.specs.Fmt.{option_append}
use Rattle.acpi_name.specs.Spelling.{name_bytes}
use Rattle.acpi_tree.specs.DataTerms.{data_term}
use Rattle.acpi_tree.specs.View.{data_view}
use Rattle.acpi_write.specs.CanonicalTerms.{term_bytes}
use Rattle.acpi_write.proofs.Declared.{onto}
use Rattle.acpi_write.proofs.writer.Writer.named.Goals as goal

pub returns-clause-put : goal.returns-clause-put
returns-clause-put c =
    let front : option_append (Some (0x08 ∷ name_bytes c.args.name.now)) (Some c.data.new.self) ≡ Some c.byte.new.self = search rules in
    onto (Some (0x08 ∷ name_bytes c.args.name.now)) (term_bytes (data_term (data_view c.args.data.now))) c.args.self.now c.data.new.self c.byte.new.self c.in_ok-data.ensures.put front
