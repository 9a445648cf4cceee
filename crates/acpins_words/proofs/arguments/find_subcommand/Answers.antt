use Rattle.std.proofs.Common.{◌≡◌, ◌∙◌, ◌∷◌, [], false, List, Option, Some, None, ap, refl, sym, inl, inr, arith}
use Rattle.std.proofs.lemmas.Bool.{and_parts}
use Rattle.std.proofs.lemmas.Bool.Decides.{nat_tests}
use Rattle.std.specs.Prelude.{Box, option_map, if◌then◌else◌, unwrap_or}
use Rattle.std.specs.Box.{box_value}
use Rattle.clap.specs.Faults.{fault_of}
use Rattle.clap.specs.Kinds.{IsAmong, Kinds}
use Rattle.clap.specs.Simple.{App, app_of, subcommand_of, subcommand_rows}
use Rattle.clap.specs.Walk.{Row, Text, is_empty, texts}
use Rattle.clap.specs.declared.error.kind.ErrorKind.{ErrorKind}
use Rattle.clap.specs.declared.parser.matches.ArgMatches.TheViews.{out-ArgMatches, out-SubCommand}
use Rattle.clap.specs.declared.parser.matches.SubCommand.{SubCommand}
use Rattle.acpins_words.specs.Arguments.{found_in}
use Rattle.acpins_words.specs.declared.fault.WordsFault.TheVariants.{Memory, Wrong}
use Rattle.acpins_words.proofs.arguments.find_subcommand.Goals as goal

not_empty : {X : Type 0} (x : X) (xs : List X) → is_empty (x ∷ xs) ≡ false
not_empty x xs = grind (arith, nat_tests)

-- nothing is found in words with a fault
none_found : (app : App) (words : List Text) (k : ErrorKind) → IsAmong k (fault_of app words) → found_in app words ≡ None
unfolding found_in
none_found app words k among = go (fault_of app words) among
  where
    go : (ks : Kinds) → IsAmong k ks → (if is_empty ks then subcommand_of app words else None) ≡ None
    go [] h = absurd h
    go (x ∷ xs) h = rw (not_empty x xs) refl

-- and in the others the subcommand
is_found : (app : App) (words : List Text) → fault_of app words ≡ [] → found_in app words ≡ subcommand_of app words
unfolding found_in
is_found app words none = ap (λ (ks : Kinds). if is_empty ks then subcommand_of app words else None) none

-- the name and the rows of a subcommand are of one
module _ {Z : Type 0} where
  found_whole : (o : Option (Box SubCommand Z)) (name : Text) (rows : List Row) → Some name ≡ option_map (λ b. (out-SubCommand (box_value b)).name.now) o
      → Some rows ≡ option_map (λ p. p.1) (subcommand_rows o) → Some (name, rows) ≡ subcommand_rows o
  found_whole None name rows n r = absurd (cc)
  found_whole (Some b) name rows n r = λ i. Some (unwrap_or (n i) name, unwrap_or (r i) rows)

  no_subcommand : (o : Option (Box SubCommand Z)) → None ≡ option_map (λ p. p.1) (subcommand_rows o) → subcommand_rows o ≡ None
  no_subcommand None e = refl
  no_subcommand (Some b) e = absurd (cc)

pub returns-in-Err-clause-wrong : goal.returns-in-Err-clause-wrong
returns-in-Err-clause-wrong c e =
    elim (c.in-Err.ensures.kinds c.requires) [
      | inl memory ↦ let is : c.fault_of.result ≡ Memory = c.fault_of.ensures.memory memory in
          let other : c.fault_of.result ≡ Wrong = cc e in
          absurd (cc)
      | inr among ↦ none_found (app_of c.args.command) (texts c.args.words.now) _ among
    ]

pub returns-in-Some-clause-found : goal.returns-in-Some-clause-found
returns-in-Some-clause-found c =
    let app = app_of c.args.command in
    is_found app (texts c.args.words.now) (c.in-Ok.ensures.kinds c.requires) ∙ sym (c.in-Ok.ensures.matches (and_parts _ _ c.requires).0).1
    ∙ sym (found_whole (out-ArgMatches c.in-Ok.matches).subcommand _ _ c.in-Some.ensures.name c.in-Some.ensures.rows)

pub returns-clause-wrong : goal.returns-clause-wrong
returns-clause-wrong c e =
    let app = app_of c.args.command in
    is_found app (texts c.args.words.now) (c.in-Ok.ensures.kinds c.requires) ∙ sym (c.in-Ok.ensures.matches (and_parts _ _ c.requires).0).1
    ∙ no_subcommand (out-ArgMatches c.in-Ok.matches).subcommand c.in-None.ensures.rows
