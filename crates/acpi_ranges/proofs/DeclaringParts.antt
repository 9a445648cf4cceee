-- What the parts that declare entries give.
use Rattle.std.proofs.Common.{◌≡◌, Option, Some, None, option_map, unwrap_or, refl, sym, ap, ◌∙◌}
use Rattle.std.specs.Option.{option_and_then}
use Rattle.acpi_ranges.specs.Lookup.{Found, found_of}
use Rattle.acpi_ranges.specs.declared.spans.Span.{Span}

pub some_is : {X : Type 0} {x y : X} → Some x ≡ Some y → x ≡ y
some_is {x = x} e = ap (λ o. unwrap_or o x) e

pub found_both : {Y : Type 0} (f : Found → Option Y) (r : Option Span) (p : Option Found) → option_map found_of r ≡ option_map Some p
    → option_and_then (λ s. option_and_then f (found_of s)) r ≡ option_and_then f p
found_both f None None e = refl
found_both f None (Some x) e = absurd (cc e)
found_both f (Some s) None e = absurd (cc e)
found_both f (Some s) (Some x) e = ap (option_and_then f) (some_is e)

pub part_none : (r : Option Span) (p : Option Found) → option_map found_of r ≡ option_map Some p → r ≡ None → p ≡ None
part_none r None e none = refl
part_none r (Some x) e none = absurd (cc (sym (ap (option_map found_of) none) ∙ e))
