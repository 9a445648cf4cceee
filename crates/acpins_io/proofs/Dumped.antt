-- The text of `acpidump`, row by row and block by block.
use Rattle.std.proofs.Common.{◌≡◌, ◌+◌, ◌<◌, ◌≤◌, ℕ, zero, suc, Bool, true, false, cond, List, [], ◌∷◌, ◌++◌, map, drop, get_or, length, Bor, Option, Some, None, refl, sym, ap, ◌∙◌, arith, append_assoc, append-nil, drop_of_length-le}
use Rattle.std.proofs.lemmas.Bool.Decides.{nat_tests}
use Rattle.std.specs.Prelude.{nat_eq, ◌&&◌, ◌==◌}
use Rattle.std.specs.List.{starts_with}
use Rattle.std.specs.Option.{option_map_or}
use Rattle.std.proofs.lemmas.List.{drop_more}
use Rattle.acpins_io.specs.Dump.{behind_offset, blocks_of, byte_at, bytes_at, bytes_under, is_header, row_bytes}

-- ---- a row

by_colon : (b : Bool) (c : ℕ) (line : List ℕ) → (c == 58) ≡ b → behind_offset (c ∷ line) ≡ cond b line (behind_offset line)
by_colon b c line e = ap (λ t. cond t line (behind_offset line)) e

pub offset_here : (line : List ℕ) (i : ℕ) → i < length line → get_or line i 0 ≡ 58 → behind_offset (drop i line) ≡ drop (i + 1) line
offset_here line i below e =
    ap behind_offset (drop_more line i 0 below) ∙ by_colon true (get_or line i 0) (drop (i + 1) line) (grind (arith, nat_tests))

pub offset_later : (line : List ℕ) (i : ℕ) → i < length line → (get_or line i 0 ≡ 58 → ⊥) → behind_offset (drop i line) ≡ behind_offset (drop (i + 1) line)
offset_later line i below e =
    ap behind_offset (drop_more line i 0 below) ∙ by_colon false (get_or line i 0) (drop (i + 1) line) (grind (arith, nat_tests))

pub no_offset : (line : List ℕ) (i : ℕ) → length line ≤ i → behind_offset (drop i line) ≡ []
no_offset line i over = ap behind_offset (drop_of_length-le line over)

pub none_there : (n : ℕ) (t : List ℕ) → byte_at t ≡ None → bytes_at n t ≡ []
unfolding bytes_at
none_there zero t e = refl
none_there (suc n) t e = ap (λ (o : Option ℕ). option_map_or (λ b. b ∷ bytes_at n (drop 3 t)) o []) e

pub some_there : (n m : ℕ) (t : List ℕ) (b : ℕ) → n ≡ suc m → byte_at t ≡ Some b → bytes_at n t ≡ b ∷ bytes_at m (drop 3 t)
unfolding bytes_at
some_there n m t b is e = ap (λ k. bytes_at k t) is ∙ ap (λ (o : Option ℕ). option_map_or (λ c. c ∷ bytes_at m (drop 3 t)) o []) e

pub no_more : (n : ℕ) (t : List ℕ) → n ≡ 0 → bytes_at n t ≡ []
unfolding bytes_at
no_more n t is = ap (λ k. bytes_at k t) is

-- one more byte of a row
pub row_more : (items new : List ℕ) (b m n : ℕ) (rest later whole : List ℕ) → new ≡ items ++ b ∷ [] → later ≡ drop 3 rest → n ≡ suc m → byte_at rest ≡ Some b
    → items ++ bytes_at n rest ≡ whole → new ++ bytes_at m later ≡ whole
row_more items new b m n rest later whole pushed behind is here all =
    ap (λ l. l ++ bytes_at m later) pushed
    ∙ append_assoc items (b ∷ []) (bytes_at m later)
    ∙ ap (λ t. items ++ (b ∷ bytes_at m t)) behind
    ∙ ap (λ l. items ++ l) (sym (some_there n m rest b is here))
    ∙ all

-- none is left
pub row_ends : (items : List ℕ) (n : ℕ) (rest whole : List ℕ) → bytes_at n rest ≡ [] → items ++ bytes_at n rest ≡ whole → items ≡ whole
row_ends items n rest whole none all = sym (append-nil items) ∙ ap (λ l. items ++ l) (sym none) ∙ all

-- ---- a block

abbrev pub texts : List (Bor (List ℕ)) → List (List ℕ)
texts lines = map (λ line. line.now) lines

pub under_row : (lines : List (Bor (List ℕ))) (i : ℕ) (d : Bor (List ℕ)) → i < length lines → is_header (get_or lines i d).now ≡ false
    → bytes_under (texts (drop i lines)) ≡ row_bytes (get_or lines i d).now ++ bytes_under (texts (drop (i + 1) lines))
under_row lines i d below e =
    let line = (get_or lines i d).now in
    ap (λ ls. bytes_under (texts ls)) (drop_more lines i d below)
    ∙ ap (λ b. cond b [] (row_bytes line ++ bytes_under (texts (drop (i + 1) lines)))) e

pub under_header : (lines : List (Bor (List ℕ))) (i : ℕ) (d : Bor (List ℕ)) → i < length lines → is_header (get_or lines i d).now ≡ true
    → bytes_under (texts (drop i lines)) ≡ []
under_header lines i d below e =
    let line = (get_or lines i d).now in
    ap (λ ls. bytes_under (texts ls)) (drop_more lines i d below)
    ∙ ap (λ b. cond b [] (row_bytes line ++ bytes_under (texts (drop (i + 1) lines)))) e

module _ (signature : List ℕ) (lines : List (Bor (List ℕ))) (i : ℕ) (d : Bor (List ℕ)) (below : i < length lines) where
  abbrev here : Bool
  here = is_header (get_or lines i d).now && starts_with nat_eq (get_or lines i d).now signature

  by_test : (b : Bool) → here ≡ b → blocks_of signature (texts (drop i lines))
      ≡ cond b (bytes_under (texts (drop (i + 1) lines)) ∷ blocks_of signature (texts (drop (i + 1) lines))) (blocks_of signature (texts (drop (i + 1) lines)))
  by_test b e =
      ap (λ ls. blocks_of signature (texts ls)) (drop_more lines i d below)
      ∙ ap (λ t. cond t (bytes_under (texts (drop (i + 1) lines)) ∷ blocks_of signature (texts (drop (i + 1) lines))) (blocks_of signature (texts (drop (i + 1) lines)))) e

  pub block_there : here ≡ true → blocks_of signature (texts (drop i lines)) ≡ bytes_under (texts (drop (i + 1) lines)) ∷ blocks_of signature (texts (drop (i + 1) lines))
  block_there e = by_test true e

  pub none_begins : here ≡ false → blocks_of signature (texts (drop i lines)) ≡ blocks_of signature (texts (drop (i + 1) lines))
  none_begins e = by_test false e

pub no_block : (signature : List ℕ) (lines : List (Bor (List ℕ))) (i : ℕ) → length lines ≤ i → blocks_of signature (texts (drop i lines)) ≡ []
no_block signature lines i over = ap (λ ls. blocks_of signature (texts ls)) (drop_of_length-le lines over)

pub under_none : (lines : List (Bor (List ℕ))) (i : ℕ) → length lines ≤ i → bytes_under (texts (drop i lines)) ≡ []
under_none lines i over = ap (λ ls. bytes_under (texts ls)) (drop_of_length-le lines over)
