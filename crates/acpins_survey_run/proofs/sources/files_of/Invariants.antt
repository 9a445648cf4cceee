use Rattle.std.proofs.Common.{◌≡◌, map, take, string_bytes}
use Rattle.acpins_survey_run.specs.Input.{AreFilesOf}
use Rattle.acpins_survey_run.proofs.sources.files_of.Given as goal

abbrev pub invariant-loop-name : goal.invariant-loop-name
invariant-loop-name g l = record {
  are : AreFilesOf (g.D.Folders.names_in l.fn.folders) (map (λ w. w.now) (take l.name-index l.names)) (map string_bytes l.files.items);
  stays : g.D.Folders.names_in l.folders ≡ g.D.Folders.names_in l.fn.folders;
}
