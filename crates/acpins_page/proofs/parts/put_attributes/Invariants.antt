use Rattle.std.proofs.Common.{◌≡◌, ◌++◌, take}
use Rattle.std.specs.List.{flat_map}
use Rattle.acpins_page.specs.Page.{attribute_text}
use Rattle.acpins_page.specs.PartViews.{attribute_view}
use Rattle.acpins_page.proofs.parts.put_attributes.Given as goal

abbrev pub invariant-loop-attribute : goal.invariant-loop-attribute
invariant-loop-attribute l = l.html ≡ l.initial.html ++ flat_map (λ a. attribute_text (attribute_view a)) (take l.attribute-index l.attributes)
