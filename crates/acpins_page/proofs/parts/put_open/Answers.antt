use Rattle.std.proofs.Common.{arith}
use Rattle.std.proofs.lemmas.Grind.{common_steps}
use Rattle.std.proofs.lemmas.List.Folds.{flat_map-map}
use Rattle.acpins_page.specs.Page.{attribute_text}
use Rattle.acpins_page.specs.PartViews.{attribute_view}
use Rattle.acpins_page.proofs.parts.put_open.Goals as goal

pub returns : goal.returns
returns c = rw (flat_map-map attribute_text attribute_view c.args.attributes.now) (grind (arith, common_steps))
