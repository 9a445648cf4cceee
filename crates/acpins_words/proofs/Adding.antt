-- A command with one more argument or subcommand, by what it was before.
use Rattle.std.proofs.Common.{◌≡◌, ◌∙◌, ◌||◌, false, Result, Ok, Err, IfOk, IsOkAnd, ap, ap₂}
use Rattle.clap.specs.Built.{AddsArg, AddsSubcommand}
use Rattle.clap.specs.Simple.{App, Shape, app_of, with_rule, with_subcommand}
use Rattle.clap.specs.Walk.{Rule, rule_of}
use Rattle.clap.specs.declared.builder.arg.Arg.{Arg}
use Rattle.clap.specs.declared.builder.command.Command.{Command}
use Rattle.clap.specs.declared.builder.command.Command.TheViews.{out-Command}
use Rattle.acpins_words.specs.Arguments.{alone}

pub rule_added : (old new : Command) (a : Arg) (app : App) (rule : Rule) → AddsArg old a new → app_of old ≡ app → rule_of a ≡ rule → a.global ≡ false
    → app_of new ≡ with_rule app rule
rule_added old new a app rule adds is named local = adds.shape local ∙ ap₂ with_rule is named

pub still_local : (old new : Command) (a : Arg) → AddsArg old a new → (out-Command old).has_globals ≡ false → a.global ≡ false → (out-Command new).has_globals ≡ false
still_local old new a adds before local = adds.globals ∙ ap₂ ◌||◌ before local

-- .. where the subcommand could be made
pub subcommand_added : {E : Type 0} (made : Result Command E) (old new : Command) (app : App) (shape : Shape) → IsOkAnd made (λ added. AddsSubcommand old added new)
    → app_of old ≡ app → IfOk made (λ added. app_of added ≡ alone shape) → IfOk made (λ added. (out-Command added).has_globals ≡ false)
    → app_of new ≡ with_subcommand app shape
subcommand_added (Ok added) old new app shape adds is named local = adds.shape local ∙ ap₂ with_subcommand is (ap (λ (a : App). a.top) named)
subcommand_added (Err e) old new app shape adds is named local = absurd adds
