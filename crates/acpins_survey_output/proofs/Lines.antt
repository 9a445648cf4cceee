-- The line of an entry, by what it is made of.
use Rattle.std.proofs.Common.{◌≡◌, ◌∙◌, ◌+◌, ◌<◌, ℕ, List, [], ◌∷◌, ◌++◌, length, map, take, get_or, codes, append_assoc, refl, ap, sym, subst}
use Rattle.std.specs.List.{flat_map}
use Rattle.std.proofs.lemmas.List.{flat_map_more, map-append, take_more}
use Rattle.acpi_name.specs.Text.{path_text}
use Rattle.acpi_conditions.specs.Entries.{Path}
use Rattle.acpi_entries.specs.Condition.{PlacedParts}
use Rattle.acpi_entries.specs.EntryLinks.{LinkParts}
use Rattle.acpins_survey_output.specs.Conditions.{condition_text}
use Rattle.acpins_survey_output.specs.Entries.{entry_line}
use Rattle.acpins_survey_output.specs.Links.{sourced_text}
use Rattle.acpins_survey_output.specs.Objects.{parts_text, source_of}
use Rattle.acpi_objects.specs.Objects.{ObjectParts}

pub entry_put : (old new : List ℕ) (p : Path) (o o' : ObjectParts) (ls ls' : List LinkParts) (cs cs' : List PlacedParts)
    → o ≡ o' → ls ≡ ls' → cs ≡ cs' → new ≡ old ++ entry_line p o ls cs → new ≡ old ++ entry_line p o' ls' cs'
entry_put old new p o o' ls ls' cs cs' same linked asked put =
    subst (λ c. new ≡ old ++ entry_line p o' ls' c) asked
    (subst (λ l. new ≡ old ++ entry_line p o' l cs) linked
    (subst (λ b. new ≡ old ++ entry_line p b ls cs) same put))

-- .. what stands before the condition, the condition, and the end of the line
pub line_put : (p : Path) (o o' : ObjectParts) (ls ls' : List LinkParts) (cs : List PlacedParts) (old declared asked new : List ℕ) → o ≡ o' → ls ≡ ls'
    → declared ≡ old ++ (path_text p ++ codes " " ++ parts_text o ++ sourced_text (source_of o) ls) → asked ≡ declared ++ condition_text cs → new ≡ asked ++ 10 ∷ []
    → new ≡ old ++ entry_line p o' ls' cs
line_put p o o' ls ls' cs old declared asked new same linked first second last =
    let said : List ℕ = path_text p ++ codes " " ++ parts_text o ++ sourced_text (source_of o) ls in
    let line : new ≡ old ++ entry_line p o ls cs =
    last ∙ ap (λ t. t ++ 10 ∷ []) (second ∙ ap (λ t. t ++ condition_text cs) first ∙ append_assoc old said (condition_text cs))
    ∙ append_assoc old (said ++ condition_text cs) (10 ∷ []) in
    entry_put old new p o o' ls ls' cs cs same linked refl line

-- one line more
pub lines_more : {X : Type 0} (line : X → List ℕ) (xs : List X) (i : ℕ) (x : X) (old mid new : List ℕ) → i < length xs → x ≡ get_or xs i x
    → mid ≡ old ++ flat_map line (take i xs) → new ≡ mid ++ line x → new ≡ old ++ flat_map line (take (i + 1) xs)
lines_more line xs i x old mid new within is before put =
    put ∙ ap (λ t. t ++ line x) before ∙ flat_map_more line old (take i xs) x
    ∙ ap (λ y. old ++ flat_map line (take i xs ++ y ∷ [])) is
    ∙ ap (λ ys. old ++ flat_map line ys) (sym (take_more xs i x within))

-- one value more
pub mapped_more : {X Y : Type 0} (f : X → Y) (xs : List X) (i : ℕ) (d : X) (y : Y) (old new : List Y) → i < length xs → y ≡ f (get_or xs i d)
    → old ≡ map f (take i xs) → new ≡ old ++ y ∷ [] → new ≡ map f (take (i + 1) xs)
mapped_more f xs i d y old new within is before put =
    put ∙ ap (λ t. t ++ y ∷ []) before ∙ ap (λ z. map f (take i xs) ++ z ∷ []) is
    ∙ sym (map-append f (take i xs) (get_or xs i d ∷ []))
    ∙ ap (map f) (sym (take_more xs i d within))
