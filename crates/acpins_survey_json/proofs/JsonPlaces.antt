-- Where the terms of entries stand.
use Rattle.std.proofs.Common.{◌≡◌, ℕ, List, [], ◌++◌, Option, Some, None, is_some, option_map, unwrap_or, true≢false, ap, sym, subst}
use Rattle.acpi_ranges.specs.Lookup.{Found, found_to}
use Rattle.acpi_ranges.specs.SpanViews.{part_of}
use Rattle.acpi_ranges.specs.declared.spans.SpanContent.{SpanContent}
use Rattle.acpi_ranges.specs.declared.spans.SpanContent.TheVariants as whats
use Rattle.acpins_survey_json.specs.Json.{more_members_text}
use Rattle.acpins_survey_json.specs.JsonEntries.{end_of, term_members}

-- where a part ends
pub end_known : (to : ℕ) (w : SpanContent) (f : Found) → found_to to (part_of w) ≡ Some f → to ≡ end_of f
end_known to (whats.Node n) f h = ap (λ (o : Option Found). unwrap_or (option_map end_of o) to) h
end_known to (whats.Element fixed e offset) f h = ap (λ (o : Option Found). unwrap_or (option_map end_of o) to) h
end_known to (whats.Lost why) f h = ap (λ (o : Option Found). unwrap_or (option_map end_of o) to) h

-- ---- the members of a term's place

pub nowhere_put : (p : Option Found) (place : Option ℕ) (old new : List ℕ) → None ≡ option_map Some p
    → new ≡ old ++ more_members_text (term_members None place) → new ≡ old ++ more_members_text (term_members p place)
nowhere_put None place old new h put = put
nowhere_put (Some found) place old new h put = absurd (true≢false (sym (ap is_some h)))

pub no_place_put : (p : Option Found) (place : Option ℕ) (old new : List ℕ) → None ≡ place
    → new ≡ old ++ more_members_text (term_members None None) → new ≡ old ++ more_members_text (term_members p place)
no_place_put None None old new h put = put
no_place_put (Some found) None old new h put = put
no_place_put p (Some k) old new h put = absurd (true≢false (sym (ap is_some h)))

pub part_put : (p f : Option Found) (k : ℕ) (place : Option ℕ) (old new : List ℕ) → Some f ≡ option_map Some p → Some k ≡ place
    → ((found : Found) → f ≡ Some found → new ≡ old ++ more_members_text (term_members (Some found) (Some k)))
    → new ≡ old ++ more_members_text (term_members p place)
part_put None f k place old new h is put = absurd (true≢false (ap is_some h))
part_put (Some found) f k place old new h is put =
    subst (λ (x : Option ℕ). new ≡ old ++ more_members_text (term_members (Some found) x)) is (put found (ap (λ x. unwrap_or x None) h))
