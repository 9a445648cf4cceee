use Rattle.std.proofs.Common.{length}
use Rattle.acpins_browser.proofs.lent_folders.+names_in.Given as goal

abbrev pub decreases-names_in : goal.decreases-names_in
decreases-names_in l = length l.folders.now
