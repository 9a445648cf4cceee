-- A page is given what a run made.
use Rattle.std.proofs.Common.{◌≡◌, ◌∙◌, ℕ, List, [], Option, Some, None, true, false, true≢false, refl, Bool, unwrap_or, IfSome, if◌then◌else◌, option_map, sym, subst, ap}
use Rattle.std.specs.Str.{bytes_eq}
use Rattle.std.proofs.lemmas.Slice.Eq.{bytes_eq-Decides}
use Rattle.acpins_io.specs.Outputs.{FileBytes, IsHeldIn, printed_of}
use Rattle.acpins_words.specs.Words.{Text}
use Rattle.acpins_survey_words.specs.Words.{Invocation}
use Rattle.acpins_survey_run.specs.Folders.{FolderNames}
use Rattle.acpins_survey_run.specs.Runs.{IsOutput, StoresOutput, text_file}
use Rattle.acpins_survey_texts.specs.Texts.{IsMade}
use Rattle.acpins_browser.specs.Answers.{IsGiven, IsGivenOf, IsMadeHere}
use Rattle.acpins_browser.specs.LentFiles.{nothing_written, written_in}

some_is : {A : Type 0} {x y : A} → Some x ≡ Some y → x ≡ y
some_is {x = x} e = ap (λ o. unwrap_or o x) e

module _ {W : Type 0} (items : W → List ℕ) (files : FileBytes) (folders : FolderNames) (printed given name : List ℕ) where
  -- where nothing is written
  unwritten : (w : W) → (items w ≡ [] → given ≡ printed) → written_in (Some (items w)) name name ≡ Some [] → given ≡ printed
  unwritten w nothing held =
      nothing (some_is (sym (ap (λ b. if b then Some (items w) else Some []) ((bytes_eq-Decides name name).1 refl)) ∙ held))

  -- of an invocation that writes to that file or to none
  given_of : (asked : Invocation) (out : Option Text) (written : Option W) (status other : ℕ) (made stored : List ℕ) → IsMadeHere files folders asked status made
      → IsMadeHere files folders asked other stored → printed ≡ printed_of out made → IsHeldIn out stored nothing_written (written_in (option_map items written) name)
      → (written ≡ None → given ≡ printed) → (printed ≡ [] → IfSome written (λ w. given ≡ items w)) → IfSome written (λ w. items w ≡ [] → given ≡ printed)
      → IsGivenOf files folders out asked status given
  given_of asked None None status other made stored is at is_printed held none some nothing =
      subst (IsMadeHere files folders asked status) (sym (none refl ∙ is_printed)) is
  given_of asked None (Some w) status other made stored is at is_printed held none some nothing =
      subst (IsMadeHere files folders asked status) (sym (unwritten w nothing (ap (λ f. f name) held) ∙ is_printed)) is
  given_of asked (Some out) None status other made stored is at is_printed held none some nothing =
      ((made, is), (other, subst (IsMadeHere files folders asked other) (sym (none refl ∙ is_printed ∙ some_is held.0)) at))
  given_of asked (Some out) (Some w) status other made stored is at is_printed held none some nothing =
      ((made, is), (other, subst (IsMadeHere files folders asked other) (by (bytes_eq name out) refl) at))
    where
      by : (b : Bool) → bytes_eq name out ≡ b → stored ≡ given
      by true same = sym (some is_printed ∙ some_is (sym (ap (λ b. if b then Some (items w) else Some []) same) ∙ held.0))
      by false differs = sym (unwritten w nothing (held.1 name (λ e. true≢false (sym ((bytes_eq-Decides name out).1 e) ∙ differs))) ∙ is_printed
          ∙ some_is (sym (ap (λ b. if b then Some (items w) else Some []) differs) ∙ held.0))

  pub is_given : (arguments : List Text) (written : Option W) (status : ℕ) → IsOutput files folders IsMade arguments status printed
      → StoresOutput files folders IsMade arguments nothing_written (written_in (option_map items written) name)
      → (written ≡ None → given ≡ printed) → (printed ≡ [] → IfSome written (λ w. given ≡ items w)) → IfSome written (λ w. items w ≡ [] → given ≡ printed)
      → IsGiven files folders arguments status given
  is_given arguments written status (asked, made, asks, is, is_printed) (stored_of, other, stored, stores, at, held) none some nothing =
      let same : stored_of ≡ asked = some_is (sym stores ∙ asks) in
      let at_asked : IsMadeHere files folders asked other stored = subst (λ a. IsMadeHere files folders a other stored) same at in
      let held_asked : IsHeldIn (text_file asked) stored nothing_written (written_in (option_map items written) name) =
      subst (λ a. IsHeldIn (text_file a) stored nothing_written (written_in (option_map items written) name)) same held in
      record {
        asked = asked;
        asks = asks;
        is = given_of asked (text_file asked) written status other made stored is at_asked is_printed held_asked none some nothing;
      }
