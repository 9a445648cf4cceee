use Rattle.std.proofs.Common.{◌≡◌, ◌∙◌, ◌++◌, ◌<◌, ℕ, Vec, Global, length, ap, subst, get_or, arith, rules}
use Rattle.acpi_pieces.specs.Pieces.{ArePieces}
use Rattle.acpins_survey_run.proofs.Gathering.{next_of}
use Rattle.acpins_survey_run.proofs.tables.pieces_of_each.Goals as goal

pub loop-source-preserved : goal.loop-source-preserved
loop-source-preserved c =
    let sources = c.args.sources.now in
    let below : c.loop-source.source-index < length sources = grind arith in
    let item : c.in_ok-bytes.bytes.items ≡ (get_or sources c.loop-source.source-index c.source-item.result).items =
    c.in_ok-bytes.ensures.items ∙ c.as_slice.ensures.value ∙ ap (λ (v : Vec ℕ Global). v.items) c.source-item.is in
    let pieces = subst (ArePieces c.in_ok-added.added.items) item c.in_ok-added.ensures in
    let more : c.append.new.self.items ≡ c.loop-source.tables.items ++ c.in_ok-added.added.items = search rules in
    next_of (λ bytes pieces. ArePieces pieces bytes) (λ (v : Vec ℕ Global). v.items) sources c.loop-source.source-index c.source-item.result
    c.loop-source.tables.items c.append.new.self.items below c.loop-source.invariant (c.in_ok-added.added.items, more, pieces)
