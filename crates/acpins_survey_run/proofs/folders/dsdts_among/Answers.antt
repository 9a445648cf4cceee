use Rattle.std.proofs.Common.{◌∙◌, List, ℕ, Option, Some, Vec, Global, ap, get_or, map, option_map, string_bytes, sym}
use Rattle.std.specs.Borrow.{Bor}
use Rattle.std.specs.Str.{str_to_ascii_lowercase}
use Rattle.acpins_survey_run.specs.Folders.{dsdt_extension}
use Rattle.acpins_survey_run.proofs.Ssdts.{extended_name, found_more, lent_both, none_more}
use Rattle.acpins_survey_run.proofs.folders.dsdts_among.Goals.{in-Some+in_ok-push, in_default}
use Rattle.acpins_survey_run.proofs.folders.dsdts_among.Goals as goal

pub loop-name-preserved : goal.loop-name-preserved
loop-name-preserved c =
    let names = c.args.names.now in
    let i = c.loop-name.name-index in
    let d = c.name-item.result in
    let before = c.loop-name.dsdts.items in
    let h = c.loop-name.invariant in
    let own = string_bytes (get_or names i d) in
    let text = c.as_str.ensures.value ∙ ap string_bytes c.name-item.is in
    let extension = c.in_ok-found.ensures ∙ ap (λ (t : List ℕ). dsdt_extension (str_to_ascii_lowercase t)) text in
    let lent : Option (Bor (List ℕ)) → Option (List ℕ) = option_map (λ e. e.now) in
    let pair : Option (List ℕ) → Option (List ℕ × List ℕ) = option_map (λ e. (own, e)) in
    elim c.match-found.branch [
      | in-Some+in_ok-push w ↦
          let same = w.as_str-in-Some.ensures.value ∙ ap string_bytes c.name-item.is in
          found_more extended_name lent_both string_bytes names i d c.loop-name-test.true before c.match-found.dsdts.items
          (w.as_str-in-Some.result, w.in-Some.extension) h
          (ap (λ (v : Vec (Bor (List ℕ) × Bor (List ℕ)) Global). v.items) w.dsdts-is ∙ w.in_ok-push.ensures.items)
          (ap (λ (t : List ℕ). Some (t, w.in-Some.extension.now)) same ∙ ap pair (ap lent (sym w.in-Some.is) ∙ extension))
      | in_default w ↦
          let none = ap lent (sym w.in_default.is) ∙ extension in
          ap (λ (v : Vec (Bor (List ℕ) × Bor (List ℕ)) Global). map lent_both v.items) w.dsdts-is
          ∙ none_more extended_name lent_both string_bytes names i d c.loop-name-test.true before h (ap pair none)
    ]
