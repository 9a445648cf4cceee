use Rattle.acpins_run.proofs.StoredFiles.{none_stored_is_refused, stored_are_listed_alike, stored_stay}
use Rattle.acpins_run.proofs.laws.rewritten_files_stay.Goals as goal

pub returns-clause-listing : goal.returns-clause-listing
returns-clause-listing c = stored_are_listed_alike

pub returns-clause-listed : goal.returns-clause-listed
returns-clause-listed c = none_stored_is_refused

pub returns-clause-rewriting : goal.returns-clause-rewriting
returns-clause-rewriting c = stored_stay
