-- Ids that are read so far, and those that the other texts spell.
use Rattle.std.proofs.Common.{◌≡◌, ◌∙◌, ◌+◌, ◌<◌, ◌≤◌, ◌++◌, ◌∷◌, [], ℕ, suc, List, Option, Some, None, ap, refl, sym, arith, drop, drop-cons, drop_of_length-le, get_or, length, append_assoc, append-nil}
use Rattle.std.specs.Borrow.{Bor}
use Rattle.std.specs.Prelude.{option_and_then, option_map}
use Rattle.clap.specs.Walk.{Text, texts}
use Rattle.acpi_check_ids.specs.Ids.{id_of}
use Rattle.acpi_check_ids.specs.declared.ids.CheckId.{CheckId}
use Rattle.acpins_survey_words.specs.Words.{ids_of}

abbrev pub ids_behind : List CheckId → List Text → Option (List CheckId)
ids_behind ids texts = option_map (λ more. ids ++ more) (ids_of texts)

pub none_read : (texts : List Text) → ids_behind [] texts ≡ ids_of texts
none_read texts = go (ids_of texts)
  where
    go : (o : Option (List CheckId)) → option_map (λ more. [] ++ more) o ≡ o
    go None = refl
    go (Some more) = refl

-- one more text, that spells an id or not
module _ (ids : List CheckId) (text : Text) (texts : List Text) where
  behind_id : Option CheckId → Option (List CheckId)
  behind_id o = option_map (λ more. ids ++ more) (option_and_then (λ id. option_map (λ more. id ∷ more) (ids_of texts)) o)

  pub id_read : (id : CheckId) → Some id ≡ id_of text → ids_behind ids (text ∷ texts) ≡ ids_behind (ids ++ id ∷ []) texts
  unfolding ids_of behind_id
  id_read id is = ap behind_id (sym is) ∙ go (ids_of texts)
    where
      go : (o : Option (List CheckId)) → option_map (λ more. ids ++ more) (option_map (λ more. id ∷ more) o) ≡ option_map (λ more. (ids ++ id ∷ []) ++ more) o
      go None = refl
      go (Some more) = ap Some (sym (append_assoc ids (id ∷ []) more))

  pub not_read : None ≡ id_of text → ids_behind ids (text ∷ texts) ≡ None
  unfolding ids_of behind_id
  not_read none = ap behind_id (sym none)

pub all_read : (ids : List CheckId) → ids_behind ids [] ≡ Some ids
unfolding ids_of
all_read ids = ap Some (append-nil ids)

-- the texts from one on
pub texts_from : (words : List (Bor Text)) (i : ℕ) (d : Bor Text) → i < length words → texts (drop i words) ≡ (get_or words i d).now ∷ texts (drop (i + 1) words)
texts_from words i d below =
    ap texts (drop-cons words i d below) ∙ ap (λ n. (get_or words i d).now ∷ texts (drop n words)) one_more
  where
    one_more : suc i ≡ i + 1
    one_more = omega arith

-- no text is behind the last
pub texts_behind : (words : List (Bor Text)) (i : ℕ) → length words ≤ i → texts (drop i words) ≡ []
texts_behind words i past = ap texts (drop_of_length-le words past)
