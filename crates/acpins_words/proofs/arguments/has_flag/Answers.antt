use Rattle.std.proofs.Common.{◌≡◌, ◌∙◌, false, Option, Some, None, refl, sym, ap}
use Rattle.std.specs.Prelude.{is_some, option_and_then}
use Rattle.std.specs.Option.{option_map_or}
use Rattle.clap.proofs.TakesLemmas.{present_row}
use Rattle.clap.specs.Facts.{explicit_source}
use Rattle.clap.specs.Matches.{found_of, matched_of}
use Rattle.clap.specs.declared.parser.matches.ValueSource.{ValueSource}
use Rattle.clap.specs.declared.parser.matches.ValueSource.TheVariants.{CommandLine, DefaultValue}
use Rattle.acpins_words.proofs.arguments.has_flag.Goals as goal

-- whether words give a value, by where it comes from
by_source : {A : Type 0} (m : Option A) (source : A → Option ValueSource) (s : ValueSource) → Some s ≡ option_and_then source m
    → explicit_source (Some s) ≡ option_map_or (λ a. explicit_source (source a)) m false
by_source None source s e = absurd (cc)
by_source (Some a) source s e = ap explicit_source e

by_none : {A : Type 0} (m : Option A) (source : A → Option ValueSource) → None ≡ option_and_then source m
    → is_some m ≡ option_map_or (λ a. explicit_source (source a)) m false
by_none None source e = refl
by_none (Some a) source e = ap explicit_source e

pub returns-in-Some-CommandLine : goal.returns-in-Some-CommandLine
returns-in-Some-CommandLine c =
    by_source (matched_of (found_of c.args.found.now) c.args.id.now) (λ a. a.source) CommandLine
    (ap Some (sym c.in-Some-CommandLine.field-0-is) ∙ sym c.in-Some-CommandLine.is ∙ c.value_source.ensures) ∙ present_row (found_of c.args.found.now) c.args.id.now

pub returns-in-Some-DefaultValue : goal.returns-in-Some-DefaultValue
returns-in-Some-DefaultValue c =
    by_source (matched_of (found_of c.args.found.now) c.args.id.now) (λ a. a.source) DefaultValue
    (ap Some (sym c.in-Some-DefaultValue.field-0-is) ∙ sym c.in-Some-DefaultValue.is ∙ c.value_source.ensures) ∙ present_row (found_of c.args.found.now) c.args.id.now

pub returns-in-None : goal.returns-in-None
returns-in-None c =
    c.contains_id.ensures ∙ by_none (matched_of (found_of c.args.found.now) c.args.id.now) (λ a. a.source) (sym c.in-None.is ∙ c.value_source.ensures)
    ∙ present_row (found_of c.args.found.now) c.args.id.now
