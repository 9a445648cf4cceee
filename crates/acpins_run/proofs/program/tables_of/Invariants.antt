use Rattle.std.proofs.Common.{◌≡◌, take}
use Rattle.acpins_run.specs.Input.{AreTablesOf}
use Rattle.acpins_run.proofs.Cutting.{named}
use Rattle.acpins_run.proofs.program.tables_of.Given as goal

abbrev pub invariant-loop-name : goal.invariant-loop-name
invariant-loop-name g l = record {
  stays : g.F.Files.bytes_of l.files ≡ g.F.Files.bytes_of l.fn.files;
  before : AreTablesOf (g.F.Files.bytes_of l.fn.files) l.request.hex (named (take l.name-index l.request.files.items)) l.tables.items;
  others : g.F.Files.written_to l.files ≡ g.F.Files.written_to l.fn.files;
}
