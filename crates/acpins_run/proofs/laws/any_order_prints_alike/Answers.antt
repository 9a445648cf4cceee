use Rattle.acpins_run.proofs.AnyOrder.{showings_are_alike}
use Rattle.acpins_run.proofs.Runs.{listing_is_of_join, listings_are_alike, showing_is_of_join}
use Rattle.acpins_run.proofs.laws.any_order_prints_alike.Goals as goal

pub returns-clause-listing : goal.returns-clause-listing
returns-clause-listing c = listing_is_of_join

pub returns-clause-alike : goal.returns-clause-alike
returns-clause-alike c = listings_are_alike

pub returns-clause-showing : goal.returns-clause-showing
returns-clause-showing c = showing_is_of_join

pub returns-clause-shown_alike : goal.returns-clause-shown_alike
returns-clause-shown_alike c = showings_are_alike
