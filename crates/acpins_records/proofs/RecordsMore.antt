-- Records of one object more.
use Rattle.std.proofs.Common.{ℕ, suc, add-zero, zero-add, ◌+◌, ◌≡◌, List, [], ◌∷◌, ◌++◌, length, ◌∙◌, ap, sym, refl, arith, length-append, append_assoc, add_assoc}
use Rattle.std.proofs.lemmas.Grind.{flat_map-append}
use Rattle.std.proofs.lemmas.List.{append-nil}
use Rattle.acpi_name.specs.Names.{Segment}
use Rattle.acpi_space.specs.Lookups.{Lookup}
use Rattle.acpi_tree.specs.Tree.{DataTree}
use Rattle.acpi_tree.specs.Objects.{ObjectTree, name_object}
use Rattle.acpi_text.specs.Lines.{line_text, listing_text}
use Rattle.acpi_declare.specs.Links.{Links}
use Rattle.acpi_places.specs.declared.place.CodePlace.{CodePlace}
use Rattle.acpins_records.specs.declared.records.ObjectRecord.{ObjectRecord}
use Rattle.acpins_records.specs.Parts.{data_parts, data_bytes, parts_in}
use Rattle.acpins_records.specs.Records.{record_of, own_links, records_from, data_of, parts_from, bytes_of_data, part_count}
use Rattle.acpins_records.specs.Contents.{all_links, all_data}
use Rattle.acpins_records.proofs.PartLists.{length-data_parts}

-- ---- data

abbrev pub counts : List DataTree → ℕ
counts [] = 0
counts (d ∷ ds) = parts_in d + counts ds

pub counts-append : (ds es : List DataTree) → counts (ds ++ es) ≡ counts ds + counts es
counts-append [] es = sym (zero-add (counts es))
counts-append (d ∷ ds) es = ap (λ n. parts_in d + n) (counts-append ds es) ∙ sym (add_assoc (parts_in d) (counts ds) (counts es))

pub parts_from-append : (part byte : ℕ) (ds es : List DataTree)
    → parts_from part byte (ds ++ es) ≡ parts_from part byte ds ++ parts_from (part + counts ds) (byte + length (bytes_of_data ds)) es
parts_from-append part byte [] es =
    ap (λ n. parts_from n byte es) (sym (add-zero part)) ∙ ap (λ n. parts_from (part + 0) n es) (sym (add-zero byte))
parts_from-append part byte (d ∷ ds) es =
    let place : (part + parts_in d) + counts ds ≡ part + (parts_in d + counts ds) = add_assoc part (parts_in d) (counts ds) in
    let at : (byte + length (data_bytes d)) + length (bytes_of_data ds) ≡ byte + length (data_bytes d ++ bytes_of_data ds) =
    omega (arith, length-append (data_bytes d) (bytes_of_data ds)) in
    ap (λ l. data_parts part byte d ++ l)
    (parts_from-append (part + parts_in d) (byte + length (data_bytes d)) ds es
    ∙ ap (λ n. parts_from (part + parts_in d) (byte + length (data_bytes d)) ds ++ parts_from n ((byte + length (data_bytes d)) + length (bytes_of_data ds)) es) place
    ∙ ap (λ n. parts_from (part + parts_in d) (byte + length (data_bytes d)) ds ++ parts_from (part + (parts_in d + counts ds)) n es) at)
    ∙ sym (append_assoc (data_parts part byte d) _ _)

pub length-parts_from : (part byte : ℕ) (ds : List DataTree) → length (parts_from part byte ds) ≡ counts ds
length-parts_from part byte [] = refl
length-parts_from part byte (d ∷ ds) =
    omega (
      arith,
      length-append (data_parts part byte d) (parts_from (part + parts_in d) (byte + length (data_bytes d)) ds),
      length-data_parts part byte d,
      length-parts_from (part + parts_in d) (byte + length (data_bytes d)) ds,
    )

counts-data_of : (o : ObjectTree) → counts (data_of o) ≡ part_count o
counts-data_of (name_object d) = add-zero (parts_in d)
counts-data_of _ = refl

pub data_more : (es : List (List Segment × ObjectTree)) (path : List Segment) (object : ObjectTree) → all_data (es ++ (path, object) ∷ []) ≡ all_data es ++ data_of object
data_more es path object =
    flat_map-append (λ (e : List Segment × ObjectTree). data_of e.1) es ((path, object) ∷ []) ∙ ap (λ l. all_data es ++ l) (append-nil (data_of object))

pub bytes_more : (ds es : List DataTree) → bytes_of_data (ds ++ es) ≡ bytes_of_data ds ++ bytes_of_data es
bytes_more ds es = flat_map-append data_bytes ds es

-- ---- links and lines

pub links_more : (es : List (List Segment × ObjectTree)) (path : List Segment) (object : ObjectTree) (links : Lookup Links)
    → all_links (es ++ (path, object) ∷ []) links ≡ all_links es links ++ own_links links path
links_more es path object links =
    flat_map-append (λ (e : List Segment × ObjectTree). own_links links e.0) es ((path, object) ∷ []) ∙ ap (λ l. all_links es links ++ l) (append-nil (own_links links path))

pub listing_more : (es : List (List Segment × ObjectTree)) (path : List Segment) (object : ObjectTree) (links : Lookup Links)
    → listing_text (es ++ (path, object) ∷ []) links ≡ listing_text es links ++ line_text path object (own_links links path)
listing_more es path object links =
    flat_map-append (λ (e : List Segment × ObjectTree). line_text e.0 e.1 (own_links links e.0)) es ((path, object) ∷ []) ∙ ap (λ l. listing_text es links ++ l) (append-nil (line_text path object (own_links links path)))

-- ---- records

module _ (parents belows : ℕ → ℕ) (links : Lookup Links) (codes : Lookup CodePlace) where
  abbrev next_record : (k line target part : ℕ) → List Segment → ObjectTree → ObjectRecord
  next_record k line target part path object = record_of line target part (parents k) (belows k) path object (own_links links path) (codes path)

  abbrev from : (k line target part : ℕ) → List (List Segment × ObjectTree) → List ObjectRecord
  from k line target part es = records_from k line target part parents belows es links codes

  pub alike : (path : List Segment) (object : ObjectTree) (k k' line line' target target' part part' : ℕ) → k ≡ k' → line ≡ line' → target ≡ target' → part ≡ part'
      → next_record k line target part path object ≡ next_record k' line' target' part' path object
  alike path object k k' line line' target target' part part' a b c d =
      ap (λ n. next_record n line target part path object) a ∙ ap (λ n. next_record k' n target part path object) b ∙ ap (λ n. next_record k' line' n part path object) c
      ∙ ap (λ n. next_record k' line' target' n path object) d

  pub records_more : (k line target part : ℕ) (es : List (List Segment × ObjectTree)) (path : List Segment) (object : ObjectTree)
      → from k line target part (es ++ (path, object) ∷ [])
      ≡ from k line target part es
      ++ next_record (k + length es) (line + length (listing_text es links)) (target + length (all_links es links)) (part + counts (all_data es)) path object ∷ []
  records_more k line target part [] path object =
      ap (λ r. r ∷ []) (alike path object k (k + 0) line (line + 0) target (target + 0) part (part + 0) (sym (add-zero k)) (sym (add-zero line)) (sym (add-zero target)) (sym (add-zero part)))
  records_more k line target part (e ∷ es) path object =
      let text = line_text e.0 e.1 (own_links links e.0) in
      let own = own_links links e.0 in
      let ks : suc k + length es ≡ k + suc (length es) = omega arith in
      let lines : (line + length text) + length (listing_text es links) ≡ line + length (text ++ listing_text es links) = omega (arith, length-append text (listing_text es links)) in
      let targets : (target + length own) + length (all_links es links) ≡ target + length (own ++ all_links es links) = omega (arith, length-append own (all_links es links)) in
      let parts : (part + part_count e.1) + counts (all_data es) ≡ part + counts (data_of e.1 ++ all_data es) = omega (arith, counts-append (data_of e.1) (all_data es), counts-data_of e.1) in
      ap (λ l. next_record k line target part e.0 e.1 ∷ l)
      (records_more (suc k) (line + length text) (target + length own) (part + part_count e.1) es path object
      ∙ ap (λ r. from (suc k) (line + length text) (target + length own) (part + part_count e.1) es ++ r ∷ [])
      (alike path object _ _ _ _ _ _ _ _ ks lines targets parts))
