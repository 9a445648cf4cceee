use Rattle.std.proofs.Common.{◌≡◌, ◌+◌, ◌*◌, ◌++◌, drop}
use denote.Param.Weighed.{most}
use Rattle.acpi_tree.specs.declared.term.Term.{Term}
use Rattle.acpi_tree.specs.declared.term.Decl.TheShapes.{weighed-Term-If-2}
use Rattle.acpi_tree.proofs.term.Term.TheLaws.{the_size}
use Rattle.acpi_tree.specs.TermView.{terms_tree}
use Rattle.acpi_uses.specs.Exits.{exits_of, in_turn}
use Rattle.acpi_uses.specs.Guards.{guarded_of}
use Rattle.acpi_uses.specs.steps.GuardWalks.{found_by, shown_behind_all, shown_by}
use Rattle.acpi_uses.proofs.guards.GuardWalk.+guarded.Given as goal

abbrev pub decreases-add_inside : goal.decreases-add_inside
decreases-add_inside l = 4 * the_size l.term.now

abbrev pub decreases-add_all : goal.decreases-add_all
decreases-add_all l = 4 * most (λ t. the_size t) l.terms.now + 1

abbrev pub decreases-add_branch : goal.decreases-add_branch
decreases-add_branch l = 4 * most (λ t. the_size t) l.branch.now + 2

abbrev pub decreases-add_else : goal.decreases-add_else
decreases-add_else l = 4 * weighed-Term-If-2.weight Term (λ t. the_size t) l.branch.now + 3

abbrev pub invariant-add_all-each : goal.invariant-add_all-each
invariant-add_all-each l = record {
  statements : found_by l.self.steps.items ++ guarded_of (shown_by l.self.steps.items) (terms_tree (drop l.term-index l.terms))
      ≡ found_by l.initial.self.steps.items ++ guarded_of (shown_by l.initial.self.steps.items) (terms_tree l.terms);
  names : shown_by l.self.steps.items ++ shown_behind_all (terms_tree (drop l.term-index l.terms))
      ≡ shown_by l.initial.self.steps.items ++ shown_behind_all (terms_tree l.terms);
  exits : in_turn l.exits (exits_of (terms_tree (drop l.term-index l.terms))) ≡ exits_of (terms_tree l.terms);
}
