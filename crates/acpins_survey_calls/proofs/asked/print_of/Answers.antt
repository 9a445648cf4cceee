use Rattle.std.proofs.Common.{◌≡◌, ℕ, List, [], Some, false, true, refl, sym, subst}
use Rattle.acpins_survey_words.specs.Words.{Command, listing, showing, mapping, telling_bodies, checking, reporting, json, paging}
use Rattle.acpins_survey_run.specs.Prints.{IsPrintOf}
use Rattle.acpins_survey_run.specs.declared.printing.Print.{Print}
use Rattle.acpins_survey_calls.specs.Asked.{IsPrintedBy, command_of}
use Rattle.acpins_survey_calls.proofs.asked.print_of.Goals.{in-1, in-2, in-3, in-4, in-5+in_ok-path_in-in-5, in-6+in_ok-print-in-6, in-7, in-8, in-9, in-10, in-11}
use Rattle.acpins_survey_calls.proofs.asked.print_of.Goals as goal

-- what is made of a number for which this command stands
made_by : (number what : ℕ) (path : List ℕ) (print made : Print) (command : Command) → what ≡ number → print ≡ made → command_of number path ≡ Some command → IsPrintOf command made
    → IsPrintedBy what path print
made_by number what path print made command number_is is asks of =
    (command, subst (λ n. command_of n path ≡ Some command) (sym number_is) asks, subst (IsPrintOf command) (sym is) of)

pub returns-clause-ok : goal.returns-clause-ok
returns-clause-ok c =
    let path = c.args.path.now in
    elim c.match-what.branch [
      | in-1 w ↦ made_by 1 c.args.what path _ _ (listing false) w.in-1.is w.print-is refl refl
      | in-2 w ↦ made_by 2 c.args.what path _ _ (listing true) w.in-2.is w.print-is refl refl
      | in-3 w ↦ made_by 3 c.args.what path _ _ mapping w.in-3.is w.print-is refl tt
      | in-4 w ↦ made_by 4 c.args.what path _ _ telling_bodies w.in-4.is w.print-is refl tt
      | in-5+in_ok-path_in-in-5 w ↦ made_by 5 c.args.what path _ _ (showing path) w.in-5.is w.print-is refl w.in_ok-path_in-in-5.ensures.found
      | in-6+in_ok-print-in-6 w ↦ subst (λ n. IsPrintedBy n path c.match-what.print) (sym w.in-6.is) (subst (IsPrintedBy 6 path) (sym w.print-is) w.in_ok-print-in-6.ensures.ok)
      | in-7 w ↦ made_by 7 c.args.what path _ _ (checking false []) w.in-7.is w.print-is refl (refl, w.new.ensures.items)
      | in-8 w ↦ made_by 8 c.args.what path _ _ (reporting false) w.in-8.is w.print-is refl refl
      | in-9 w ↦ made_by 9 c.args.what path _ _ (reporting true) w.in-9.is w.print-is refl refl
      | in-10 w ↦ made_by 10 c.args.what path _ _ json w.in-10.is w.print-is refl tt
      | in-11 w ↦ made_by 11 c.args.what path _ _ (paging []) w.in-11.is w.print-is refl tt
    ]
