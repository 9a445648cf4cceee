use Rattle.std.proofs.Common.{◌≡◌, None, is_some, ap, subst, sym, ◌∙◌}
use Rattle.std.specs.FinMap.{get}
use Rattle.acpi_space.proofs.Maps.{none_of_not_some}
use Rattle.acpi_counts.specs.Counts.{AreSmall}
use Rattle.acpi_counts.proofs.Listed.{counts_of, put_in_list, put_in_tree}
use Rattle.acpi_counts.proofs.Small.{with_small}
use Rattle.acpi_counts.proofs.Counts.add.Goals as goal
use Rattle.acpi_counts.proofs.Counts.add.Goals.{in-Ok, in-Err}

pub returns-then-len-lt-MOST_LISTED-clause-ok : goal.returns-then-len-lt-MOST_LISTED-clause-ok
returns-then-len-lt-MOST_LISTED-clause-ok c =
    let free : get c.args.self.now c.args.path ≡ None = none_of_not_some _ (ap is_some (sym c.get.ensures.found) ∙ sym c.is_some.ensures ∙ c.if-is_some.false) in
    put_in_list c.self.inside.listed.items c.push.new.self.items c.self.inside.others c.args.self.now c.args.path c.args.count c.self.view_is free c.in_ok-push.ensures.items

pub invariant_of-self-then-len-lt-MOST_LISTED : goal.invariant_of-self-then-len-lt-MOST_LISTED
invariant_of-self-then-len-lt-MOST_LISTED c =
    let free : get c.args.self.now c.args.path ≡ None = none_of_not_some _ (ap is_some (sym c.get.ensures.found) ∙ sym c.is_some.ensures ∙ c.if-is_some.false) in
    subst AreSmall
    (sym (put_in_list c.self.inside.listed.items c.push.new.self.items c.self.inside.others c.args.self.now c.args.path c.args.count c.self.view_is free c.in_ok-push.ensures.items))
    (with_small c.args.self.now c.args.path c.args.count c.requires c.get.ensures.small)

pub invariant_of-self-2 : goal.invariant_of-self-2
invariant_of-self-2 c =
    let free : get c.args.self.now c.args.path ≡ None = none_of_not_some _ (ap is_some (sym c.get.ensures.found) ∙ sym c.is_some.ensures ∙ c.if-is_some.false) in
    elim c.match-insert.branch [
      | in-Ok w ↦ subst AreSmall
          (sym (put_in_tree c.self.inside.listed.items c.self.inside.others c.insert.new.self c.args.self.now c.args.path c.args.count c.self.view_is free w.in-Ok.ensures.ok))
          (with_small c.args.self.now c.args.path c.args.count c.requires c.get.ensures.small)
      | in-Err w ↦ subst AreSmall (sym (ap (counts_of c.self.inside.listed.items) w.in-Err.ensures.err)) c.self.invariant
    ]

pub returns-clause-ok : goal.returns-clause-ok
returns-clause-ok c =
    let free : get c.args.self.now c.args.path ≡ None = none_of_not_some _ (ap is_some (sym c.get.ensures.found) ∙ sym c.is_some.ensures ∙ c.if-is_some.false) in
    elim c.match-insert.branch [
      | in-Ok w ↦ rw w.result-is
          (put_in_tree c.self.inside.listed.items c.self.inside.others c.insert.new.self c.args.self.now c.args.path c.args.count c.self.view_is free w.in-Ok.ensures.ok)
      | in-Err w ↦ rw w.result-is tt
    ]
