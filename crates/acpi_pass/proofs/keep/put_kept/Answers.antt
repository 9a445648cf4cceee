use Rattle.std.proofs.Common.{◌≡◌, ◌≢◌, ◌++◌, ◌∷◌, [], List, map, ap, sym, ◌∙◌, append-nil, arith, rules}
use Rattle.std.proofs.lemmas.List.{map-append, nil_from_length}
use Rattle.acpi_pass.specs.declared.notes.TableNotes.{TableNotes}
use Rattle.acpi_pass.specs.Kept.{kept_of}
use Rattle.acpi_pass.specs.Notes.{Notes, notes_of}
use Rattle.acpi_pass.proofs.KeptNotes.{some_kept, none_kept}
use Rattle.acpi_pass.proofs.keep.put_kept.Goals as goal

pub returns-in_ok-push-in-MethodAt : goal.returns-in_ok-push-in-MethodAt
returns-in_ok-push-in-MethodAt c =
    let before = c.args.kept.now.items in
    let left : TableNotes = record { counts = c.args.notes.counts; methods = c.retain_at.new.methods; missed = c.args.notes.missed } in
    let some : c.retain_at.new.methods.items ≢ [] = search rules in
    let pushed : c.push-then-not-is_empty.new.self.items ≡ before ++ left ∷ [] = search rules in
    let kept = ap (λ keep. kept_of keep (notes_of c.args.notes)) c.in-MethodAt.is ∙ some_kept c.in-MethodAt.path.now c.args.notes c.retain_at.new.methods.items c.retain_at.ensures some in
    ap (map notes_of) pushed ∙ map-append notes_of before (left ∷ []) ∙ ap (λ (l : List Notes). map notes_of before ++ l) (sym kept)

pub returns-else-not-is_empty : goal.returns-else-not-is_empty
returns-else-not-is_empty c =
    let before = c.args.kept.now.items in
    let none : c.retain_at.new.methods.items ≡ [] = nil_from_length _ (grind arith) in
    let kept = ap (λ keep. kept_of keep (notes_of c.args.notes)) c.in-MethodAt.is ∙ none_kept c.in-MethodAt.path.now c.args.notes c.retain_at.new.methods.items c.retain_at.ensures none in
    sym (append-nil (map notes_of before)) ∙ ap (λ (l : List Notes). map notes_of before ++ l) (sym kept)
