use Rattle.std.proofs.Common.{◌≡◌, map, take, string_bytes}
use Rattle.acpins_survey_run.specs.Input.{AreTablesOfFiles}
use Rattle.acpins_survey_run.proofs.tables.read_tables.Given as goal

abbrev pub invariant-loop-name : goal.invariant-loop-name
invariant-loop-name g l = record {
  are : AreTablesOfFiles (g.F.Files.bytes_of l.fn.files) l.hex (map string_bytes (take l.name-index l.names)) l.found.tables.items;
  stays : g.F.Files.bytes_of l.files ≡ g.F.Files.bytes_of l.fn.files;
  others : g.F.Files.written_to l.files ≡ g.F.Files.written_to l.fn.files;
}
