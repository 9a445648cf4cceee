use Rattle.std.proofs.Common.{◌≡◌, ◌∙◌, ℕ, List, Option, Some, Vec, Global, ap, arith, get_or, map, option_map, string_bytes, sym, take_all}
use Rattle.std.specs.Borrow.{Bor}
use Rattle.std.specs.Str.{str_to_ascii_lowercase}
use Rattle.acpins_survey_run.specs.Folders.{numbered_ssdts, ssdt_number}
use Rattle.acpins_survey_run.proofs.Ssdts.{all_among, found_more, given_more, lent_pair, name_of, none_more, numbered_name}
use Rattle.acpins_survey_run.proofs.folders.ssdts_among.Goals.{in-Some+in_ok-push, in_default}
use Rattle.acpins_survey_run.proofs.folders.ssdts_among.Goals as goal

pub loop-name-preserved : goal.loop-name-preserved
loop-name-preserved c =
    let names = c.args.names.now in
    let extension = c.args.extension.now in
    let i = c.loop-name.name-index in
    let d = c.name-item.result in
    let before = c.loop-name.numbered.items in
    let h = c.loop-name.invariant in
    let own = string_bytes (get_or names i d) in
    let text = c.as_str.ensures.value ∙ ap string_bytes c.name-item.is in
    let number = c.in_ok-found.ensures ∙ ap (λ (t : List ℕ). ssdt_number extension (str_to_ascii_lowercase t)) text in
    let pair : Option ℕ → Option (ℕ × List ℕ) = option_map (λ n. (n, own)) in
    elim c.match-found.branch [
      | in-Some+in_ok-push w ↦
          let same = w.as_str-in-Some.ensures.value ∙ ap string_bytes c.name-item.is in
          found_more (numbered_name extension) lent_pair string_bytes names i d c.loop-name-test.true before c.match-found.numbered.items
          (w.in-Some.number, w.as_str-in-Some.result) h (ap (λ (v : Vec (ℕ × Bor (List ℕ)) Global). v.items) w.numbered-is ∙ w.in_ok-push.ensures.items)
          (ap (λ (t : List ℕ). Some (w.in-Some.number, t)) same ∙ ap pair (sym w.in-Some.is ∙ number))
      | in_default w ↦
          let none = sym w.in_default.is ∙ number in
          ap (λ (v : Vec (ℕ × Bor (List ℕ)) Global). map lent_pair v.items) w.numbered-is
          ∙ none_more (numbered_name extension) lent_pair string_bytes names i d c.loop-name-test.true before h (ap pair none)
    ]

pub loop-pair-preserved : goal.loop-pair-preserved
loop-pair-preserved c =
    given_more c.deref-pair-items.result.now c.loop-pair.pair-index _ c.loop-pair.ssdts.items c.push-in-loop-pair.new.self.items c.loop-pair-test.true
    c.loop-pair.invariant c.in_ok-push-2.ensures.items

pub returns : goal.returns
returns c =
    let pairs = c.deref-pair-items.result.now in
    let order = c.loop-name.numbered.items in
    let names = c.args.names.now in
    let extension = c.args.extension.now in
    let whole : map lent_pair order ≡ numbered_ssdts extension (map string_bytes names) =
    c.loop-name.invariant ∙ ap (λ l. numbered_ssdts extension (map string_bytes l)) (take_all c.loop-name.name-index names (omega arith)) in
    let given = c.loop-pair.invariant ∙ ap (λ l. map name_of (map lent_pair l)) (take_all c.loop-pair.pair-index pairs (omega arith) ∙ c.deref-pair-items.ensures.value) in
    all_among extension (map string_bytes names) order c.sort.new.self.items (map (λ (s : Bor (List ℕ)). s.now) c.loop-pair.ssdts.items) whole
    c.in_ok-sort.ensures.permutation c.in_ok-sort.ensures.sorted given
