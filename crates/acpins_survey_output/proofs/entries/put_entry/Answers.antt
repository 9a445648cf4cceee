use Rattle.std.proofs.Common.{refl}
use Rattle.acpi_entries.specs.ConditionViews.{link_views, placed_views}
use Rattle.acpi_objects.specs.Views.{kind_view}
use Rattle.acpins_survey_output.proofs.Lines.{line_put}
use Rattle.acpins_survey_output.proofs.entries.put_entry.Goals as goal

pub returns : goal.returns
returns c =
    let object = kind_view c.args.kind.now in
    let links = link_views c.args.links.now in
    line_put c.args.path.now object object links links (placed_views c.args.condition.now) c.args.text.now c.put_declared.new.text c.put_condition.new.text c.put.new.self
    refl refl c.put_declared.ensures c.put_condition.ensures c.put.ensures
