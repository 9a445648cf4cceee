use Rattle.std.proofs.Common.{◌∙◌, arith}
use Rattle.acpi_overview.proofs.Naming.{last_tested, named_again, named_full, named_new}
use Rattle.acpi_overview.proofs.claims.Cover.name.Goals as goal
use Rattle.acpi_overview.proofs.claims.Cover.name.Goals.{else-is_new-via-then-is_new+else-len-lt-MOST, else-is_new-via-else-is_new}

pub returns-in_ok-push-clause-named : goal.returns-in_ok-push-clause-named
returns-in_ok-push-clause-named c chain one e is =
    c.in_ok-push.ensures.items ∙ (rw (← e) (named_new chain one c.args.self.now is (omega arith)
    (last_tested _ _ _ _ one.container _ c.deref.ensures.value c.last.ensures.value c.copied.ensures (rw e c.ne-is_new.ensures) ∙ c.if-is_new.true)))

pub returns-else-is_new-clause-named : goal.returns-else-is_new-clause-named
returns-else-is_new-clause-named c chain one e is =
    elim c.else-is_new.branch [
      | else-is_new-via-then-is_new+else-len-lt-MOST w ↦ named_full chain one c.args.self.now is (omega arith)
      | else-is_new-via-else-is_new w ↦ named_again chain one c.args.self.now is
          (last_tested _ _ _ _ one.container _ c.deref.ensures.value c.last.ensures.value c.copied.ensures (rw e c.ne-is_new.ensures) ∙ w.if-is_new.false)
    ]
