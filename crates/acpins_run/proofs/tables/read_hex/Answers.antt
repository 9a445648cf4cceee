use Rattle.std.proofs.Common.{◌≡◌, ◌<◌, ◌++◌, [], ℕ, List, length, take, ap, arith, refl, Err}
use Rattle.std.proofs.KnownBytes.{Consumes-trans}
use Rattle.acpins_io.specs.Hexadecimal.{SpellsInHex}
use Rattle.acpins_run.proofs.HexFiles.{of_whole, at_end, none_spelled}
use Rattle.acpins_run.proofs.tables.read_hex.Goals as goal

pub returns-in-Some-clause-ok : goal.returns-in-Some-clause-ok
returns-in-Some-clause-ok g c =
    let nothing : take c.in-Ok.n c.read.new.bytes ≡ [] = ap (λ (n : ℕ). take n c.read.new.bytes) c.if-n-eq0.true in
    let room : 0 < length c.read.new.bytes = omega arith in
    let end = at_end _ _ _ c.in-Ok.ensures.bytes.0 nothing (c.in-Ok.ensures.bytes.1 c.if-n-eq0.true room) in
    of_whole (SpellsInHex c.in-Some.bytes.items) _ _ c.loop.invariant.text c.loop.invariant.taken end
    (c.in-Some.ensures.found c.loop.invariant.text c.loop.invariant.decoded)

pub returns-in-None-clause-err : goal.returns-in-None-clause-err
returns-in-None-clause-err g c =
    let nothing : take c.in-Ok.n c.read.new.bytes ≡ [] = ap (λ (n : ℕ). take n c.read.new.bytes) c.if-n-eq0.true in
    let room : 0 < length c.read.new.bytes = omega arith in
    let end = at_end _ _ _ c.in-Ok.ensures.bytes.0 nothing (c.in-Ok.ensures.bytes.1 c.if-n-eq0.true room) in (
      refl,
      of_whole (λ content. (bytes : List ℕ) → SpellsInHex bytes content → ⊥) _ _ c.loop.invariant.text c.loop.invariant.taken end
          (λ bytes. c.in-None.ensures.none c.loop.invariant.text bytes c.loop.invariant.decoded),
    )

pub returns-in-Err-BadHex-clause-err : goal.returns-in-Err-BadHex-clause-err
returns-in-Err-BadHex-clause-err g c =
    (refl, none_spelled _ _ _ c.loop.invariant.text _ c.loop.invariant.taken c.in-Ok.ensures.bytes.0 (c.in-Err-BadHex.ensures.bad (ap Err c.in-Err-BadHex.field-0-is)))

pub loop-preserved : goal.loop-preserved
loop-preserved g c = record {
  text = c.loop.invariant.text ++ take c.in-Ok.n c.read.new.bytes;
  taken = Consumes-trans _ _ _ c.loop.invariant.text _ c.loop.invariant.taken c.in-Ok.ensures.bytes.0;
  decoded = c.in-Ok-take_part.ensures.ok c.loop.invariant.text c.loop.invariant.decoded;
  room = omega arith;
}
