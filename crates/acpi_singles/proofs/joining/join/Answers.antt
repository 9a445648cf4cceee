use Rattle.std.proofs.Common.{◌≡◌, ◌≢◌, ◌∙◌, ◌∷◌, [], ◌+◌, ◌<◌, inr, length, map, drop, refl, ap, sym, arith, rules}
use Rattle.std.proofs.lemmas.List.{drop_more}
use Rattle.acpi_declare.specs.Namespace.{namespace_of}
use Rattle.acpi_pass.proofs.ValuesByPath.{get_none}
use Rattle.acpi_pass.proofs.Unions.{namespace-empty}
use Rattle.acpi_body.specs.Bodies.{body_view}
use Rattle.acpi_machine.specs.MachineView.{machine_of}
use Rattle.acpi_singles.specs.SingleView.{machine_in}
use Rattle.acpi_singles.proofs.JoinedMachines.{no_machine, part_joined, part_clashes, parts_joined, some_join}
use Rattle.acpi_singles.proofs.joining.join.Goals as goal

pub loop-single-init : goal.loop-single-init
loop-single-init g c =
    no_machine (map (λ s. machine_of g.S.Space.contents (machine_in s)) c.args.singles.now)
    (machine_of g.S.Space.contents (record { objects = c.new.result; links = c.new-2.result; bodies = c.new-3.result })) (ap namespace_of c.new.ensures ∙ namespace-empty)
    c.new-2.ensures
    (get_none (map (λ e. (e.0, body_view e.1)) c.new-3.result.entries) (ap (map (λ e. (e.0, body_view e.1))) c.new-3.ensures.empty))

pub loop-single-preserved : goal.loop-single-preserved
loop-single-preserved g c =
    let l = c.loop-single in
    let xs = c.args.singles.now in
    let x = c.single-item.result in
    let below : l.single-index < length xs = grind arith in
    let here : drop l.single-index xs ≡ x ∷ drop (l.single-index + 1) xs = drop_more xs l.single-index x below ∙ ap (λ y. y ∷ drop (l.single-index + 1) xs) (sym c.single-item.is) in
    part_joined (λ s. machine_of g.S.Space.contents (machine_in s)) xs l.single-index x (machine_of g.S.Space.contents l.joined)
    (machine_of g.S.Space.contents c.add_machine.new.joined) here l.invariant c.in_ok-add_machine.field-0 c.if-not-branch.false c.in_ok-add_machine.ensures

pub returns-then-not-branch-clause-none : goal.returns-then-not-branch-clause-none
returns-then-not-branch-clause-none g c =
    let l = c.loop-single in
    let xs = c.args.singles.now in
    let x = c.single-item.result in
    let below : l.single-index < length xs = grind arith in
    let here : drop l.single-index xs ≡ x ∷ drop (l.single-index + 1) xs = drop_more xs l.single-index x below ∙ ap (λ y. y ∷ drop (l.single-index + 1) xs) (sym c.single-item.is) in (
      (λ e. inr
          (part_clashes (λ s. machine_of g.S.Space.contents (machine_in s)) xs l.single-index x (machine_of g.S.Space.contents l.joined)
          (machine_of g.S.Space.contents c.add_machine.new.joined) here l.invariant c.in_ok-add_machine.field-0 c.if-not-branch.true
          c.in_ok-add_machine.ensures)),
      (λ e. refl),
    )

pub returns-clause-join : goal.returns-clause-join
returns-clause-join g c =
    let l = c.loop-single in
    parts_joined (λ s. machine_of g.S.Space.contents (machine_in s)) c.args.singles.now l.single-index
    (machine_of g.S.Space.contents l.joined) l.invariant
    (omega (arith, c.loop-single-test.false))

pub returns-clause-none : goal.returns-clause-none
returns-clause-none g c =
    let l = c.loop-single in
    let some : c.args.singles.now ≢ [] = λ e. let none : length c.args.singles.now ≡ 0 = ap length e in search rules in
    some_join l.joined (map (λ s. machine_of g.S.Space.contents (machine_in s)) c.args.singles.now) (machine_of g.S.Space.contents l.joined)
    (c.args.singles.now ≡ []) some
    (parts_joined (λ s. machine_of g.S.Space.contents (machine_in s)) c.args.singles.now l.single-index
    (machine_of g.S.Space.contents l.joined) l.invariant
    (omega (arith, c.loop-single-test.false)))
