-- The links of an entry, by its number.
use Rattle.std.proofs.Common.{◌≡◌, ◌==◌, ℕ, List, [], ◌∷◌, Option, Some, None, option_map, refl, sym, ap, ◌∙◌}
use Rattle.std.specs.Option.{option_and_then}
use Rattle.acpi_name.specs.Names.{NameParts}
use Rattle.acpi_conditions.specs.Entries.{Entry}
use Rattle.acpi_survey.specs.Reading.{AliasSource}
use Rattle.acpi_ranges.specs.Lookup.{Found}
use Rattle.acpi_ranges.proofs.DeclaringParts.{some_is}
use Rattle.acpi_entries.specs.EntryLinks.{LinkParts, alias_name, alias_links, searched, seen_links, links_by_name, links_of_part}

pub no_part : (es : List Entry) (sources : List AliasSource) (o : Option Entry) → links_of_part es sources o None ≡ []
no_part es sources None = refl
no_part es sources (Some e) = refl

pub alias_linked : (es : List Entry) (sources : List AliasSource) (o : Option Entry) (e : Entry) (s p : Option Found) (n : NameParts) → Some e ≡ o → Some s ≡ option_map Some p
    → Some n ≡ option_and_then alias_name s → alias_links sources e.term.place n ≡ links_of_part es sources o p
alias_linked es sources o e s None n is part name = absurd (cc part)
alias_linked es sources o e s (Some x) n is part name =
    let alias : Some n ≡ alias_name x = name ∙ ap (option_and_then alias_name) (some_is part) in
    ap (λ o. links_by_name es sources e o (searched x)) alias ∙ ap (λ o. links_of_part es sources o (Some x)) is

pub seen_linked : (es : List Entry) (sources : List AliasSource) (o : Option Entry) (e : Entry) (s p : Option Found) (names : List NameParts) → Some e ≡ o → Some s ≡ option_map Some p
    → None ≡ option_and_then alias_name s → option_map searched s ≡ option_map (λ _. names) s → seen_links es e names ≡ links_of_part es sources o p
seen_linked es sources o e s None names is part alias are = absurd (cc part)
seen_linked es sources o e s (Some x) names is part alias are =
    let same : s ≡ Some x = some_is part in
    let no_alias : None ≡ alias_name x = alias ∙ ap (option_and_then alias_name) same in
    let all : searched x ≡ names = some_is (ap (option_map searched) (sym same) ∙ are ∙ ap (option_map (λ _. names)) same) in
    ap (seen_links es e) (sym all) ∙ ap (λ o. links_by_name es sources e o (searched x)) no_alias ∙ ap (λ o. links_of_part es sources o (Some x)) is
