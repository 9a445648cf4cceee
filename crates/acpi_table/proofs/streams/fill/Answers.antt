use Rattle.std.proofs.Common.{ℕ, ◌∙◌, refl, subst, rules, arith}
use Rattle.acpi_table.specs.Sources.{CountsFailures}
use Rattle.acpi_table.proofs.StreamLaws.{TakesOnto-nothing, TakesOnto-both}
use Rattle.acpi_table.proofs.streams.fill.Goals as goal

pub loop-table-init : goal.loop-table-init
loop-table-init g c = record {
  within = c.requires;
  taken = TakesOnto-nothing _ _;
  kept = refl;
}

pub loop-table-preserved : goal.loop-table-preserved
loop-table-preserved g c = record {
  within = grind arith;
  taken = TakesOnto-both _ _ _ _ _ _ c.loop-table.invariant.taken c.in_ok-read_piece.ensures.taken;
  kept = c.in_ok-read_piece.ensures.failures ∙ c.loop-table.invariant.kept;
}

pub returns-in_err-read_piece-clause-failures : goal.returns-in_err-read_piece-clause-failures
returns-in_err-read_piece-clause-failures g c =
    let P : ℕ → Type 0 = λ n. CountsFailures c.from_residual.result n (g.S.Source.failures c.read_piece.new.source) in
    subst P c.loop-table.invariant.kept (search rules)

pub returns-then-branch-eq0-clause-taken : goal.returns-then-branch-eq0-clause-taken
returns-then-branch-eq0-clause-taken g c =
    TakesOnto-both _ _ _ _ _ _ c.loop-table.invariant.taken c.in_ok-read_piece.ensures.taken

pub returns-then-branch-eq0-clause-failures : goal.returns-then-branch-eq0-clause-failures
returns-then-branch-eq0-clause-failures g c = c.in_ok-read_piece.ensures.failures ∙ c.loop-table.invariant.kept
