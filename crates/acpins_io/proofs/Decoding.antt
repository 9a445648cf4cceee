-- Hexadecimal digits decoded one after another.
use Rattle.std.proofs.Common.{◌≡◌, ℕ, ◌+◌, ◌*◌, ◌<◌, Bool, true, false, List, [], ◌∷◌, ◌++◌, length, get_or, cond, take, drop, Option, Some, None, Result, Ok, Err, refl, sym, ap, ◌∙◌, arith, append_assoc, append-nil}
use Rattle.std.specs.Prelude.{not, is_some}
use Rattle.std.specs.Result.{result_unwrap_or}
use Rattle.std.proofs.lemmas.List.{length-append, take-append-drop, drop_more}
use Rattle.std.proofs.lemmas.List.Elements.{filter-append}
use Rattle.std.proofs.Math.Seq.{get_or-append_seam}
use Rattle.hex.specs.Hex.{decode_of, decode_pairs, digit_or_error, pair_value, value_at, hex_digit_value, is_hex_digit, ◌>>=◌}
use Rattle.hex.specs.declared.error.FromHexError.{FromHexError}
use Rattle.hex.proofs.Pairs.{cons_byte, decode_pairs-ok_pair}
use Rattle.hex.proofs.HexLemmas.{decode_of-ok, decode_of-even}
use Rattle.acpins_io.specs.Hexadecimal.{is_blank, digits_of}
use Rattle.acpins_io.specs.steps.HexDecoding.{IsPending, IsDecoded, SpellsNothing}
use Rattle.acpins_io.specs.declared.hexadecimal.HexDecoder.{HexDecoder}

-- ---- two digits more

bytes_in : Result (List ℕ) FromHexError → List ℕ
bytes_in r = result_unwrap_or r []

bind_ok : {A B : Type 0} (r : Result A FromHexError) (f : A → Result B FromHexError) (y : B) → (r >>= f) ≡ Ok y → (x : A) × (r ≡ Ok x) × (f x ≡ Ok y)
bind_ok (Ok x) f y h = (x, refl, h)
bind_ok (Err e) f y h = cc h

pair_of : (a b i h l : ℕ) → hex_digit_value a ≡ Some h → hex_digit_value b ≡ Some l → pair_value a b i ≡ Ok (h * 16 + l)
pair_of a b i h l ea eb =
    let va : value_at a i ≡ Ok h = ap (digit_or_error a i) ea in
    let vb : value_at b (i + 1) ≡ Ok l = ap (digit_or_error b (i + 1)) eb in
    rw (va, vb) refl

pairs_more : (i a b v : ℕ) (xs ys : List ℕ) → ((k : ℕ) → pair_value a b k ≡ Ok v) → decode_pairs i xs ≡ Ok ys → decode_pairs i (xs ++ a ∷ b ∷ []) ≡ Ok (ys ++ v ∷ [])
unfolding decode_pairs
pairs_more i a b v [] ys pair h =
    let e : [] ≡ ys = ap (λ (r : Result (List ℕ) FromHexError). result_unwrap_or r []) h in
    rw (← e) (decode_pairs-ok_pair i a b v [] (pair i))
pairs_more i a b v (x ∷ []) ys pair h = cc h
pairs_more i a b v (x ∷ y ∷ rest) ys pair h =
    let first = bind_ok (pair_value x y i) _ ys h in
    let others = bind_ok (decode_pairs (i + 2) rest) _ ys first.2 in
    let e : first.0 ∷ others.0 ≡ ys = ap (λ (r : Result (List ℕ) FromHexError). result_unwrap_or r []) others.2 in
    rw (← e) (decode_pairs-ok_pair i x y first.0 (rest ++ a ∷ b ∷ []) first.1 ∙ ap (cons_byte first.0) (pairs_more (i + 2) a b v rest others.0 pair others.1))

pub decode_of-more : (a b h l : ℕ) (xs ys : List ℕ) → hex_digit_value a ≡ Some h → hex_digit_value b ≡ Some l → decode_of xs ≡ Ok ys
    → decode_of (xs ++ a ∷ b ∷ []) ≡ Ok (ys ++ (h * 16 + l) ∷ [])
decode_of-more a b h l xs ys ea eb is =
    let even = (decode_of-ok xs ys is).0 in
    let longer = length-append xs (a ∷ b ∷ []) in
    decode_of-even (xs ++ a ∷ b ∷ []) (omega (arith, even, longer))
    ∙ pairs_more 0 a b (h * 16 + l) xs ys (λ k. pair_of a b k h l ea eb) (sym (decode_of-even xs even) ∙ is)

-- ---- texts that spell nothing

-- one digit more than those of bytes
pub one_digit_more : (a : ℕ) (xs ys bytes : List ℕ) → decode_of xs ≡ Ok ys → decode_of (xs ++ a ∷ []) ≡ Ok bytes → ⊥
one_digit_more a xs ys bytes is h =
    let even = (decode_of-ok xs ys is).0 in
    let odd = (decode_of-ok (xs ++ a ∷ []) bytes h).0 in
    let longer = length-append xs (a ∷ []) in
    absurd (omega (arith, even, odd, longer))

digits_more : (text : List ℕ) (c : ℕ) → is_blank c ≡ false → digits_of (text ++ c ∷ []) ≡ digits_of text ++ c ∷ []
digits_more text c dark = filter-append (λ b. not (is_blank b)) text (c ∷ []) ∙ ap (λ (b : Bool). digits_of text ++ cond (not b) (c ∷ []) []) dark

digits_same : (text : List ℕ) (c : ℕ) → is_blank c ≡ true → digits_of (text ++ c ∷ []) ≡ digits_of text
digits_same text c light =
    filter-append (λ b. not (is_blank b)) text (c ∷ []) ∙ ap (λ (b : Bool). digits_of text ++ cond (not b) (c ∷ []) []) light ∙ append-nil (digits_of text)

-- a character that is neither a digit nor a blank
pub spells_nothing : (c : ℕ) → is_blank c ≡ false → hex_digit_value c ≡ None → SpellsNothing (c ∷ [])
spells_nothing c dark none before after bytes h =
    let front = digits_of before in
    let rest = digits_of after in
    let split : digits_of (before ++ c ∷ [] ++ after) ≡ front ++ c ∷ rest =
    filter-append (λ b. not (is_blank b)) (before ++ c ∷ []) after ∙ ap (λ l. l ++ rest) (digits_more before c dark) ∙ append_assoc front (c ∷ []) rest in
    let all = (decode_of-ok (front ++ c ∷ rest) bytes (rw split at h)).1 in
    let longer = length-append front (c ∷ rest) in
    let is : is_hex_digit c ≡ true = rw get_or-append_seam at (all (length front) c (omega (arith, longer))) in
    cc (sym is ∙ ap (λ (o : Option ℕ). is_some o) none)

-- .. in a part
pub part_spells_nothing : (part : List ℕ) (i : ℕ) → i < length part → SpellsNothing (get_or part i 0 ∷ []) → SpellsNothing part
part_spells_nothing part i below none before after bytes h =
    let c = get_or part i 0 in
    let rest = drop (i + 1) part in
    let one : part ≡ take i part ++ c ∷ rest = sym (take-append-drop i part) ∙ ap (λ l. take i part ++ l) (drop_more part i 0 below) in
    let whole : before ++ take i part ++ c ∷ [] ++ (rest ++ after) ≡ before ++ (take i part ++ c ∷ rest) ++ after = simp append_assoc in
    none (before ++ take i part) (rest ++ after) bytes (rw whole (rw one at h))

-- ---- the decoder

pub nothing_decoded : (d : HexDecoder) → d.bytes.items ≡ [] → d.high ≡ None → IsDecoded [] d
unfolding decode_pairs
nothing_decoded d bytes high = record {
  pairs = [];
  pending = [];
  split = refl;
  bytes_are = ap Ok (sym bytes);
  pending_is = rw high refl;
}

pub blank_taken : (text : List ℕ) (c : ℕ) (d : HexDecoder) → is_blank c ≡ true → IsDecoded text d → IsDecoded (text ++ c ∷ []) d
blank_taken text c d light is = record {
  pairs = is.pairs;
  pending = is.pending;
  split = digits_same text c light ∙ is.split;
  bytes_are = is.bytes_are;
  pending_is = is.pending_is;
}

pub digit_taken : (text : List ℕ) (c v : ℕ) (d e : HexDecoder) → is_blank c ≡ false → hex_digit_value c ≡ Some v → d.high ≡ None → e.bytes.items ≡ d.bytes.items
    → e.high ≡ Some v → IsDecoded text d → IsDecoded (text ++ c ∷ []) e
digit_taken text c v d e dark digit none same high is =
    let whole : is.pending ≡ [] = rw none at is.pending_is in
    record {
      pairs = is.pairs;
      pending = c ∷ [];
      split = digits_more text c dark ∙ ap (λ l. l ++ c ∷ []) (is.split ∙ ap (λ l. is.pairs ++ l) whole ∙ append-nil is.pairs);
      bytes_are = is.bytes_are ∙ ap Ok (sym same);
      pending_is = rw high (c, refl, digit);
    }

pub byte_taken : (text : List ℕ) (c h v : ℕ) (d e : HexDecoder) → is_blank c ≡ false → hex_digit_value c ≡ Some v → d.high ≡ Some h
    → e.bytes.items ≡ d.bytes.items ++ (h * 16 + v) ∷ [] → e.high ≡ None → IsDecoded text d → IsDecoded (text ++ c ∷ []) e
byte_taken text c h v d e dark digit some grown none is =
    let first : IsPending (Some h) is.pending = rw some at is.pending_is in
    record {
      pairs = is.pairs ++ first.0 ∷ c ∷ [];
      pending = [];
      split = digits_more text c dark ∙ ap (λ l. l ++ c ∷ []) (is.split ∙ ap (λ l. is.pairs ++ l) first.1) ∙ append_assoc is.pairs (first.0 ∷ []) (c ∷ [])
          ∙ sym (append-nil (is.pairs ++ first.0 ∷ c ∷ []));
      bytes_are = decode_of-more first.0 c h v is.pairs d.bytes.items first.2 digit is.bytes_are ∙ ap Ok (sym grown);
      pending_is = rw none refl;
    }
