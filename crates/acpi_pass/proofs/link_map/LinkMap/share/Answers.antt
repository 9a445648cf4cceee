use Rattle.std.proofs.Common.{IsSome, ap, ◌∙◌, rules}
use Rattle.std.specs.FinMap.{get}
use Rattle.acpi_space.specs.Lookups.{singleton, union}
use Rattle.acpi_pass.specs.Links.{links_at}
use Rattle.acpi_pass.proofs.Unions.{seen_at, seen_insert, seen_kept}
use Rattle.acpi_pass.proofs.link_map.LinkMap.share.Goals as goal

pub returns-in-Ok-clause-ok : goal.returns-in-Ok-clause-ok
returns-in-Ok-clause-ok c =
    let old = c.args.self.now.answers in
    ap (seen_at (λ a. a.value.items)) c.in-Ok.ensures.ok
    ∙ seen_insert (λ a. a.value.items) old c.args.path c.in_ok-clone.field-0 c.in-Ok.ensures.free
    ∙ ap (λ v. union (links_at c.args.self.now) (singleton c.args.path v.items)) c.in_ok-clone.ensures.cases

pub returns-in-Err-Taken-clause-ok : goal.returns-in-Err-Taken-clause-ok
returns-in-Err-Taken-clause-ok c =
    let there : IsSome (get c.args.self.now.answers c.args.path) = search rules in
    ap (seen_at (λ a. a.value.items)) c.in-Err-Taken.ensures.err
    ∙ seen_kept (λ a. a.value.items) c.args.self.now.answers c.args.path c.args.answers.now.value.items there

pub returns-clause-err : goal.returns-clause-err
returns-clause-err c = ap (seen_at (λ a. a.value.items)) c.in-Err-Memory.ensures.err
