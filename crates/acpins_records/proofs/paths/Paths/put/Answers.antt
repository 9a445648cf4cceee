use Rattle.std.proofs.Common.{length, ap, ◌∙◌}
use Rattle.acpins_records.proofs.Spanned.{path_put}
use Rattle.acpins_records.proofs.paths.Paths.put.Goals as goal

pub returns : goal.returns
returns c =
    rw (c.in_ok-push.ensures.items, c.in_ok-extend_from_slice.ensures.items, ← c.self.view_is)
    (path_put c.self.inside.segs.items c.args.segs.now c.self.inside.spans.items _ _ c.self.invariant (c.len-begin.ensures ∙ c.self.inside.segs.ok.0) (c.len-end.ensures ∙ c.extend_from_slice.new.self.ok.0 ∙ ap length c.in_ok-extend_from_slice.ensures.items))
