-- Values and members of JSON that are put piece by piece.
use Rattle.std.proofs.Common.{◌≡◌, ◌∙◌, ℕ, Bool, true, false, ◌+◌, ◌<◌, ◌≤◌, List, [], ◌∷◌, ◌++◌, length, drop, get_or, map, codes, append_assoc, refl, sym, ap, subst}
use Rattle.std.proofs.lemmas.List.{drop_all, drop_more}
use Rattle.acpins_survey_json.specs.Json.{Value, string, array, value_text, Values, no_values, value, values_of, values_text, more_values_text, Members, more_members_text, name_start, element_start, values_behind, line_start, lines_end, lines_behind, array_lines}
use Rattle.acpins_survey_json.specs.JsonValues.{number_value}
use Rattle.acpins_survey_json.specs.steps.JsonPuts.{PutsMember}

-- ---- members

-- a value behind the name of a member
pub member_said : (start name : List ℕ) (v : Value) (old mid new : List ℕ) → mid ≡ old ++ (start ++ name_start name) → new ≡ mid ++ value_text v → PutsMember start name v old new
member_said start name v old mid new first last ms =
    let rest = value_text v ++ more_members_text ms in
    ap (λ t. t ++ more_members_text ms) last
    ∙ append_assoc mid (value_text v) (more_members_text ms)
    ∙ ap (λ t. t ++ rest) first
    ∙ append_assoc old (start ++ name_start name) rest
    ∙ ap (λ t. old ++ t) (append_assoc start (name_start name) rest)

-- a number in another form
pub number_said : (start name : List ℕ) (n m : ℕ) (old new : List ℕ) → n ≡ m → PutsMember start name (number_value n) old new → PutsMember start name (number_value m) old new
number_said start name n m old new e = subst (λ (k : ℕ). PutsMember start name (number_value k) old new) e

-- .. and a text
pub word_said : (start name : List ℕ) (v w : List ℕ) (old new : List ℕ) → v ≡ w → PutsMember start name (string v) old new → PutsMember start name (string w) old new
word_said start name v w old new e = subst (λ (t : List ℕ). PutsMember start name (string t) old new) e

-- an array of other elements
pub list_said : {X : Type 0} (name : List ℕ) (f : X → Value) (xs ys : List X) (old mid new : List ℕ) → xs ≡ ys → mid ≡ old ++ (codes "," ++ name_start name)
    → new ≡ mid ++ value_text (array (values_of f xs)) → PutsMember (codes ",") name (array (values_of f ys)) old new
list_said {X} name f xs ys old mid new e first last =
    subst (λ (zs : List X). PutsMember (codes ",") name (array (values_of f zs)) old new) e (member_said (codes ",") name (array (values_of f xs)) old mid new first last)

-- a closing brace behind members
pub closed_put : (old mid new end whole : List ℕ) → mid ++ end ≡ old ++ whole → new ≡ mid ++ end → new ≡ old ++ whole
closed_put old mid new end whole e last = last ∙ e

-- what follows from the last step
pub weaker : {A B : Type 0} → (A → B) → A → B
weaker f a = f a

-- ---- arrays

start_said : (is_first : Bool) (v : Value) (vs : Values) → element_start is_first ++ (value_text v ++ more_values_text vs) ≡ values_behind is_first (value v vs)
start_said true v vs = refl
start_said false v vs = refl

pub end_said : (is_first : Bool) → values_behind is_first no_values ≡ codes "]"
end_said true = refl
end_said false = refl

-- a text behind another, before a rest
behind_said : (mid start text new rest : List ℕ) (begun : List ℕ) → begun ≡ mid ++ start → new ≡ begun ++ text → new ++ rest ≡ mid ++ (start ++ (text ++ rest))
behind_said mid start text new rest begun first last =
    ap (λ t. t ++ rest) last
    ∙ append_assoc begun text rest
    ∙ ap (λ t. t ++ (text ++ rest)) first
    ∙ append_assoc mid start (text ++ rest)

pub value_put : (is_first : Bool) (v : Value) (vs : Values) (mid begun new : List ℕ) → begun ≡ mid ++ element_start is_first → new ≡ begun ++ value_text v
    → new ++ more_values_text vs ≡ mid ++ values_behind is_first (value v vs)
value_put is_first v vs mid begun new first last =
    behind_said mid (element_start is_first) (value_text v) new (more_values_text vs) begun first last ∙ ap (λ t. mid ++ t) (start_said is_first v vs)

pub element_put : {X : Type 0} (f : X → Value) (xs : List X) (i : ℕ) (x d : X) (is_first : Bool) (mid begun new whole : List ℕ) → i < length xs → x ≡ get_or xs i d
    → begun ≡ mid ++ element_start is_first → new ≡ begun ++ value_text (f x) → mid ++ values_behind is_first (values_of f (drop i xs)) ≡ whole
    → new ++ values_behind false (values_of f (drop (i + 1) xs)) ≡ whole
element_put f xs i x d is_first mid begun new whole within is first last before =
    let here : drop i xs ≡ x ∷ drop (i + 1) xs = drop_more xs i d within ∙ ap (λ y. y ∷ drop (i + 1) xs) (sym is) in
    value_put is_first (f x) (values_of f (drop (i + 1) xs)) mid begun new first last
    ∙ ap (λ ys. mid ++ values_behind is_first (values_of f ys)) (sym here)
    ∙ before

pub array_put : {X : Type 0} (f : X → Value) (xs : List X) (i : ℕ) (is_first : Bool) (old begun mid new : List ℕ) → length xs ≤ i
    → begun ≡ old ++ codes "[" → mid ++ values_behind is_first (values_of f (drop i xs)) ≡ begun ++ values_text (values_of f xs)
    → new ≡ mid ++ codes "]" → new ≡ old ++ value_text (array (values_of f xs))
array_put f xs i is_first old begun mid new past first before last =
    let all = values_text (values_of f xs) in
    let none = ap (λ ys. mid ++ values_behind is_first (values_of f ys)) (drop_all i xs past) ∙ ap (λ t. mid ++ t) (end_said is_first) in
    last ∙ sym none ∙ before ∙ ap (λ t. t ++ all) first ∙ append_assoc old (codes "[") all

pub values_mapped : {X Y : Type 0} (f : Y → Value) (g : X → Y) (xs : List X) → values_of f (map g xs) ≡ values_of (λ x. f (g x)) xs
values_mapped f g [] = refl
values_mapped f g (x ∷ xs) = ap (λ vs. value (f (g x)) vs) (values_mapped f g xs)

-- ---- arrays whose elements stand each on a line

pub line_put : (is_first : Bool) (v : Value) (vs : Values) (mid begun new : List ℕ) → begun ≡ mid ++ line_start is_first → new ≡ begun ++ value_text v
    → new ++ lines_behind false vs ≡ mid ++ lines_behind is_first (value v vs)
line_put is_first v vs mid begun new first last = behind_said mid (line_start is_first) (value_text v) new (lines_behind false vs) begun first last

pub line_more : {X : Type 0} (f : X → Value) (xs : List X) (i : ℕ) (x d : X) (is_first : Bool) (mid begun new whole : List ℕ) → i < length xs → x ≡ get_or xs i d
    → begun ≡ mid ++ line_start is_first → new ≡ begun ++ value_text (f x) → mid ++ lines_behind is_first (values_of f (drop i xs)) ≡ whole
    → new ++ lines_behind false (values_of f (drop (i + 1) xs)) ≡ whole
line_more f xs i x d is_first mid begun new whole within is first last before =
    let here : drop i xs ≡ x ∷ drop (i + 1) xs = drop_more xs i d within ∙ ap (λ y. y ∷ drop (i + 1) xs) (sym is) in
    line_put is_first (f x) (values_of f (drop (i + 1) xs)) mid begun new first last
    ∙ ap (λ ys. mid ++ lines_behind is_first (values_of f ys)) (sym here)
    ∙ before

pub lines_put : (vs none : Values) (is_first : Bool) (old begun mid new : List ℕ) → none ≡ no_values → begun ≡ old ++ codes "["
    → mid ++ lines_behind is_first none ≡ begun ++ lines_behind true vs → new ≡ mid ++ lines_end is_first → new ≡ old ++ array_lines vs
lines_put vs none is_first old begun mid new empty first before last =
    let all = lines_behind true vs in
    last ∙ sym (ap (λ us. mid ++ lines_behind is_first us) empty) ∙ before ∙ ap (λ t. t ++ all) first ∙ append_assoc old (codes "[") all

pub lines_all : {X : Type 0} (f : X → Value) (xs : List X) (i : ℕ) (is_first : Bool) (old begun mid new : List ℕ) → length xs ≤ i
    → begun ≡ old ++ codes "[" → mid ++ lines_behind is_first (values_of f (drop i xs)) ≡ begun ++ lines_behind true (values_of f xs)
    → new ≡ mid ++ lines_end is_first → new ≡ old ++ array_lines (values_of f xs)
lines_all f xs i is_first old begun mid new past first before =
    lines_put (values_of f xs) (values_of f (drop i xs)) is_first old begun mid new (ap (λ ys. values_of f ys) (drop_all i xs past)) first before
