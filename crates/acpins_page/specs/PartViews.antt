-- The parts of a page as the code has them.
use Rattle.std.specs.Prelude.{ℕ, List, map}
use Rattle.acpins_page.specs.declared.markup.AttributeName.{AttributeName}
use Rattle.acpins_page.specs.declared.parts.Attribute.{Attribute}
use Rattle.acpins_page.specs.declared.parts.Part.{Part as PartForm}
use Rattle.acpins_page.specs.declared.parts.Part.TheVariants as forms
use Rattle.acpins_page.specs.declared.parts.Value.{Value}
use Rattle.acpins_page.specs.declared.parts.Value.TheVariants as values
use Rattle.acpins_page.specs.Page.{Part, opening_tag, plain_text, closing_tag, line_end}

abbrev pub value_view : Value → List ℕ
value_view (values.Words words) = words.now
value_view (values.Text text) = text.now

abbrev pub attribute_view : Attribute → AttributeName × List ℕ
attribute_view a = (a.name, value_view a.value)

abbrev pub part_view : PartForm → Part
part_view (forms.Open element attributes) = opening_tag element (map attribute_view attributes.now)
part_view (forms.Text text) = plain_text text.now
part_view (forms.Close element) = closing_tag element
part_view forms.LineEnd = line_end
