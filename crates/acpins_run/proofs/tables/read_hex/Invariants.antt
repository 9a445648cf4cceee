use Rattle.std.proofs.Common.{◌≡◌, ℕ, List, length}
use Rattle.std.specs.Io.KnownBytes.{Consumes}
use Rattle.acpins_io.specs.steps.HexDecoding.{IsDecoded}
use Rattle.acpins_run.proofs.tables.read_hex.Given as goal

abbrev pub invariant-loop : goal.invariant-loop
invariant-loop g l = record {
  text : List ℕ;
  taken : Consumes (g.R.Read.remaining l.fn.file.reader) (g.R.Read.remaining l.file.reader) text;
  decoded : IsDecoded text l.decoder;
  room : length l.part ≡ 4096;
}
