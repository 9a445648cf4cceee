use Rattle.std.proofs.Common.{◌≡◌, true, is_some, refl, rules}
use Rattle.std.specs.FinMap.{get}
use Rattle.std.proofs.lemmas.Result.{on_ok_weaker}
use Rattle.acpi_space.proofs.Elements.{some_is}
use Rattle.acpi_verdict.proofs.Noted.{other_noted, first_noted}
use Rattle.acpi_verdict.proofs.definers.Definers.add.Goals as goal

pub returns-then-is_some : goal.returns-then-is_some
returns-then-is_some c =
    let old = c.args.self.now in
    let there : is_some (get old.first c.args.path) ≡ true = search rules in
    let some = some_is (get old.first c.args.path) there in
    on_ok_weaker c.add_other.result (λ h. other_noted old (record { first = old.first; others = c.add_other.new.others }) c.args.path c.args.definer some.0 some.1 refl h) c.add_other.ensures

pub returns-in-Ok : goal.returns-in-Ok
returns-in-Ok c =
    let old = c.args.self.now in
    first_noted old (record { first = c.insert.new.self; others = old.others }) c.args.path c.args.definer c.in-Ok.ensures.free c.in-Ok.ensures.ok refl
