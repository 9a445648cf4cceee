-- Values of JSON and their spelling (RFC 8259), without white space.
use Rattle.std.specs.Prelude.{ℕ, Bool, true, false, ◌||◌, nat_eq, if◌then◌else◌, List, [], ◌∷◌, ◌++◌, codes, decimal}
use Rattle.std.specs.List.{flat_map}

mutual
  -- null, true or false, a number, a text, an array, and an object
  pub data Value : Type 0 where
    null : Value
    boolean : Bool → Value
    number : ℕ → Value
    string : List ℕ → Value
    array : Values → Value
    object : Members → Value

  pub data Values : Type 0 where
    no_values : Values
    value : Value → Values → Values

  -- the members of an object; a name has no quote and no backslash
  pub data Members : Type 0 where
    no_members : Members
    member : (name : List ℕ) → Value → Members → Members

abbrev pub values_of : {X : Type 0} → (X → Value) → List X → Values
values_of f [] = no_values
values_of f (x ∷ xs) = value (f x) (values_of f xs)

abbrev pub elements : List Value → Values
elements vs = values_of (λ v. v) vs

-- ---- spelling

-- a character of a text that has no control characters; a quote and a backslash stand behind a backslash
abbrev pub character_text : ℕ → List ℕ
character_text c = if nat_eq c 34 || nat_eq c 92 then 92 ∷ c ∷ [] else c ∷ []

abbrev pub boolean_text : Bool → List ℕ
boolean_text true = codes "true"
boolean_text false = codes "false"

-- a name between quotes, and a colon
abbrev pub name_start : (name : List ℕ) → List ℕ
name_start name = codes "\"" ++ (name ++ codes "\":")

abbrev mutual
  pub value_text : Value → List ℕ
  value_text null = codes "null"
  value_text (boolean b) = boolean_text b
  value_text (number n) = decimal n
  value_text (string text) = codes "\"" ++ (flat_map character_text text ++ codes "\"")
  value_text (array vs) = codes "[" ++ values_text vs
  value_text (object ms) = codes "{" ++ members_text ms

  -- elements up to the closing bracket, and what follows the first
  pub values_text : Values → List ℕ
  values_text no_values = codes "]"
  values_text (value v vs) = value_text v ++ more_values_text vs

  pub more_values_text : Values → List ℕ
  more_values_text no_values = codes "]"
  more_values_text (value v vs) = codes "," ++ (value_text v ++ more_values_text vs)

  -- members up to the closing brace, and what follows the first
  pub members_text : Members → List ℕ
  members_text no_members = codes "}"
  members_text (member name v ms) = name_start name ++ (value_text v ++ more_members_text ms)

  pub more_members_text : Members → List ℕ
  more_members_text no_members = codes "}"
  more_members_text (member name v ms) =
      codes "," ++ (name_start name ++ (value_text v ++ more_members_text ms))

-- what stands before the next element of an array, and the elements from there on
abbrev pub element_start : (is_first : Bool) → List ℕ
element_start true = []
element_start false = codes ","

abbrev pub values_behind : (is_first : Bool) → Values → List ℕ
values_behind true vs = values_text vs
values_behind false vs = more_values_text vs

-- ---- over lines: white space between what a value is made of means nothing (RFC 8259, 2)

-- what stands before an element or a member that begins a line
abbrev pub line_start : (is_first : Bool) → List ℕ
line_start true = codes "\n"
line_start false = codes ",\n"

abbrev pub lines_end : (is_empty : Bool) → List ℕ
lines_end true = codes "]"
lines_end false = codes "\n]"

-- elements, each on a line, up to the closing bracket
abbrev pub lines_behind : (is_first : Bool) → Values → List ℕ
lines_behind is_first no_values = lines_end is_first
lines_behind is_first (value v vs) = line_start is_first ++ (value_text v ++ lines_behind false vs)

-- an array whose elements stand each on a line
abbrev pub array_lines : Values → List ℕ
array_lines vs = codes "[" ++ lines_behind true vs

-- .. and any other value
abbrev pub value_lines : Value → List ℕ
value_lines (array vs) = array_lines vs
value_lines v = value_text v

-- members, each of which begins a line
abbrev pub members_lines : (is_first : Bool) → Members → List ℕ
members_lines is_first no_members = []
members_lines is_first (member name v ms) =
    line_start is_first ++ (name_start name ++ (value_lines v ++ members_lines false ms))

-- an object whose members begin lines, and so do the elements of their arrays, without its end
abbrev pub object_front : Members → List ℕ
object_front ms = codes "{" ++ members_lines true ms
