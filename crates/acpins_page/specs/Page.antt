-- What the page is made of (HTML, 13.1.2): tags of some elements with some attributes, and text. What comes from
-- tables and from names of files stands in it as text or as the value of an attribute, and so only escaped.
use Rattle.std.specs.Prelude.{◌≡◌, ◌++◌, ◌∷◌, [], ℕ, List, codes}
use Rattle.std.specs.List.{flat_map}
use Rattle.html_text.specs.Escape.{escaped}
use Rattle.acpins_page.specs.declared.markup.Element.{Element}
use Rattle.acpins_page.specs.declared.markup.Element.TheVariants as elements
use Rattle.acpins_page.specs.declared.markup.AttributeName.{AttributeName}
use Rattle.acpins_page.specs.declared.markup.AttributeName.TheVariants as names

-- the name of an element; none of these runs or fetches something
abbrev pub element_name : Element → List ℕ
element_name elements.A = codes "a"
element_name elements.Body = codes "body"
element_name elements.Code = codes "code"
element_name elements.Dd = codes "dd"
element_name elements.Details = codes "details"
element_name elements.Div = codes "div"
element_name elements.Dl = codes "dl"
element_name elements.Dt = codes "dt"
element_name elements.Footer = codes "footer"
element_name elements.H1 = codes "h1"
element_name elements.H2 = codes "h2"
element_name elements.Header = codes "header"
element_name elements.Html = codes "html"
element_name elements.Li = codes "li"
element_name elements.Main = codes "main"
element_name elements.Nav = codes "nav"
element_name elements.Ol = codes "ol"
element_name elements.P = codes "p"
element_name elements.Pre = codes "pre"
element_name elements.Section = codes "section"
element_name elements.Small = codes "small"
element_name elements.Span = codes "span"
element_name elements.Summary = codes "summary"
element_name elements.Table = codes "table"
element_name elements.Td = codes "td"
element_name elements.Th = codes "th"
element_name elements.Title = codes "title"
element_name elements.Tr = codes "tr"
element_name elements.Ul = codes "ul"

-- what stands before an attribute's value: its name, `=` and a quote; a link leads to an element of the page, by the
-- `#`
abbrev pub attribute_start : AttributeName → List ℕ
attribute_start names.Class = codes " class=\""
attribute_start names.Href = codes " href=\"#"
attribute_start names.Id = codes " id=\""
attribute_start names.Open = codes " open=\""

-- an attribute with its value: what stands before the value, the value escaped, and a quote
abbrev pub attribute_text : AttributeName × List ℕ → List ℕ
attribute_text a = attribute_start a.0 ++ escaped a.1 ++ codes "\""

-- a part of a page
pub data Part : Type 0 where
  -- the tag that opens an element, with its attributes
  opening_tag : Element → List (AttributeName × List ℕ) → Part
  -- text
  plain_text : List ℕ → Part
  -- the tag that closes an element
  closing_tag : Element → Part
  -- the end of a line
  line_end : Part

abbrev pub part_text : Part → List ℕ
part_text (opening_tag element attributes) =
    codes "<" ++ element_name element ++ flat_map attribute_text attributes ++ codes ">"
part_text (plain_text bytes) = escaped bytes
part_text (closing_tag element) = codes "</" ++ element_name element ++ codes ">"
part_text line_end = codes "\n"

-- a head, and parts behind it
abbrev pub IsPage : List ℕ → List ℕ → Type 0
IsPage head bytes = ∥ ((parts : List Part) × (bytes ≡ head ++ flat_map part_text parts)) ∥₁
