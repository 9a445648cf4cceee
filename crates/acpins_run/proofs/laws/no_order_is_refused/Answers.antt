use Rattle.acpins_run.proofs.AnyOrder.{each_order_commutes, no_check_is_refused, no_listing_is_refused, no_order_hides_path}
use Rattle.acpins_run.proofs.laws.no_order_is_refused.Goals as goal

pub returns-clause-listing : goal.returns-clause-listing
returns-clause-listing c = no_listing_is_refused

pub returns-clause-checking : goal.returns-clause-checking
returns-clause-checking c = no_check_is_refused

pub returns-clause-showing : goal.returns-clause-showing
returns-clause-showing c = no_order_hides_path

pub returns-clause-commute : goal.returns-clause-commute
returns-clause-commute c = each_order_commutes
