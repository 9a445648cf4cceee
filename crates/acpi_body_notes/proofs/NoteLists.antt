-- The notes of numbered entries, one after another.
use Rattle.std.proofs.Common.{◌≡◌, ℕ, ◌+◌, ◌<◌, List, [], ◌∷◌, ◌++◌, length, drop, get_or, Option, option_map, slice_get, append_assoc, sym, ap, ◌∙◌}
use Rattle.std.specs.List.{filter_map}
use Rattle.std.proofs.lemmas.List.{drop_more}
use Rattle.std.proofs.lemmas.List.Elements.{filter_map-append}
use Rattle.acpi_conditions.specs.Entries.{Entry}
use Rattle.acpi_findings.specs.declared.notes.Note.{Note}
use Rattle.acpi_body_notes.specs.LoadNotes.{load_note, load_notes}

pub note_of_entry : (es : List Entry) (n : ℕ) (o : Option Entry) → slice_get es n ≡ o → load_notes es (n ∷ []) ≡ filter_map (λ (k : ℕ). option_map load_note o) (n ∷ [])
note_of_entry es n o is = ap (λ (o : Option Entry). filter_map (λ (k : ℕ). option_map load_note o) (n ∷ [])) is

module _ (es : List Entry) (numbers : List ℕ) (i : ℕ) (within : i < length numbers) where
  notes_first : load_notes es (drop i numbers) ≡ load_notes es (get_or numbers i 0 ∷ []) ++ load_notes es (drop (i + 1) numbers)
  notes_first =
      ap (load_notes es) (drop_more numbers i 0 within) ∙ filter_map-append (λ n. option_map load_note (slice_get es n)) (get_or numbers i 0 ∷ []) (drop (i + 1) numbers)

  pub notes_next : (found new whole : List Note) → new ≡ found ++ load_notes es (get_or numbers i 0 ∷ []) → found ++ load_notes es (drop i numbers) ≡ whole → new ++ load_notes es (drop (i + 1) numbers) ≡ whole
  notes_next found new whole put so =
      ap (λ x. x ++ load_notes es (drop (i + 1) numbers)) put
      ∙ append_assoc found (load_notes es (get_or numbers i 0 ∷ [])) (load_notes es (drop (i + 1) numbers))
      ∙ ap (λ x. found ++ x) (sym notes_first)
      ∙ so
