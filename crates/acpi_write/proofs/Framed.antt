-- Tables by the parts of their headers.
use Rattle.std.proofs.Common.{◌≡◌, ℕ, ◌+◌, ◌<◌, ◌≤◌, ◌%◌, ◌∷◌, ◌++◌, [], List, length, take, drop, sum, refl, sym, ap, subst, ◌∙◌, append_assoc, arith}
use Rattle.std.specs.Prelude.{slice_index, slice_set}
use Rattle.std.proofs.lemmas.List.{length-append, drop_at, get_or-drop}
use Rattle.std.proofs.Math.Seq.{set-append_seam, take-append_seam}
use Rattle.std.proofs.lemmas.List.Sums.{sum_by-append, sum_by-cons}
use Rattle.byteorder.specs.Endian.{little_number, little_bytes}
use Rattle.byteorder.specs.Numbers.{little_number-reads_back, length-bytes_low_first}
use Rattle.acpi_table.specs.declared.tables.Header.{Header}
use Rattle.acpi_table.specs.Tables.{IsTable, header_of, length_field}
use Rattle.acpi_write.specs.Tables.{header_for}
use Rattle.acpi_write.specs.steps.Writing.{header_bytes, HasWidths}

-- a field behind other bytes
module _ (bytes before part rest : List ℕ) (at n : ℕ) (whole : bytes ≡ before ++ (part ++ rest)) (place : length before ≡ at) (width : length part ≡ n) where
  dropped : drop at bytes ≡ part ++ rest
  dropped = ap (drop at) whole ∙ drop_at before (part ++ rest) at place

  taken : take n (drop at bytes) ≡ part
  taken = ap (take n) dropped ∙ ap (λ k. take k (part ++ rest)) (sym width) ∙ take-append_seam part rest

numbered : (bytes before rest : List ℕ) (at n : ℕ) → bytes ≡ before ++ (little_bytes 4 n ++ rest) → length before ≡ at → n < 4294967296 → little_number 4 (drop at bytes) ≡ n
numbered bytes before rest at n whole place few = ap (little_number 4) (ap (drop at) whole ∙ drop_at before (little_bytes 4 n ++ rest) at place) ∙ little_number-reads_back 4 n rest few

byte_there : (bytes before rest : List ℕ) (at b : ℕ) → bytes ≡ before ++ (b ∷ rest) → length before ≡ at → slice_index bytes at ≡ b
byte_there bytes before rest at b whole place = ap (λ k. slice_index bytes k) (let none : at ≡ at + 0 = omega arith in none)
    ∙ sym (get_or-drop at bytes 0 0) ∙ ap (λ l. slice_index l 0) (ap (drop at) whole ∙ drop_at before (b ∷ rest) at place)

module _ (h : Header) (w : HasWidths h) (len c : ℕ) (few : len < 4294967296) (code : List ℕ) where
  abbrev whole : List ℕ
  whole = header_bytes h len c ++ code

  abbrev p8 : List ℕ
  p8 = h.signature ++ little_bytes 4 len

  abbrev p10 : List ℕ
  p10 = p8 ++ (h.revision ∷ c ∷ [])

  abbrev p16 : List ℕ
  p16 = p10 ++ h.oem_id

  abbrev p24 : List ℕ
  p24 = p16 ++ h.oem_table_id

  abbrev p28 : List ℕ
  p28 = p24 ++ little_bytes 4 h.oem_revision

  abbrev p32 : List ℕ
  p32 = p28 ++ h.creator_id

  abbrev p36 : List ℕ
  p36 = p32 ++ little_bytes 4 h.creator_revision

  n8 : length p8 ≡ 8
  n8 = omega (arith, length-append h.signature (little_bytes 4 len), w.signature, length-bytes_low_first 0 4 len)

  n10 : length p10 ≡ 10
  n10 = omega (arith, length-append p8 (h.revision ∷ c ∷ []), n8)

  n16 : length p16 ≡ 16
  n16 = omega (arith, length-append p10 h.oem_id, n10, w.oem_id)

  n24 : length p24 ≡ 24
  n24 = omega (arith, length-append p16 h.oem_table_id, n16, w.oem_table_id)

  n28 : length p28 ≡ 28
  n28 = omega (arith, length-append p24 (little_bytes 4 h.oem_revision), n24, length-bytes_low_first 0 4 h.oem_revision)

  n32 : length p32 ≡ 32
  n32 = omega (arith, length-append p28 h.creator_id, n28, w.creator_id)

  n36 : length p36 ≡ 36
  n36 = omega (arith, length-append p32 (little_bytes 4 h.creator_revision), n32, length-bytes_low_first 0 4 h.creator_revision)

  e36 : whole ≡ p36 ++ code
  e36 = simp append_assoc

  e32 : whole ≡ p32 ++ (little_bytes 4 h.creator_revision ++ code)
  e32 = e36 ∙ append_assoc p32 (little_bytes 4 h.creator_revision) code

  abbrev t32 : List ℕ
  t32 = little_bytes 4 h.creator_revision ++ code

  e28 : whole ≡ p28 ++ (h.creator_id ++ t32)
  e28 = e32 ∙ append_assoc p28 h.creator_id t32

  abbrev t28 : List ℕ
  t28 = h.creator_id ++ t32

  e24 : whole ≡ p24 ++ (little_bytes 4 h.oem_revision ++ t28)
  e24 = e28 ∙ append_assoc p24 (little_bytes 4 h.oem_revision) t28

  abbrev t24 : List ℕ
  t24 = little_bytes 4 h.oem_revision ++ t28

  e16 : whole ≡ p16 ++ (h.oem_table_id ++ t24)
  e16 = e24 ∙ append_assoc p16 h.oem_table_id t24

  abbrev t16 : List ℕ
  t16 = h.oem_table_id ++ t24

  e10 : whole ≡ p10 ++ (h.oem_id ++ t16)
  e10 = e16 ∙ append_assoc p10 h.oem_id t16

  abbrev t10 : List ℕ
  t10 = h.oem_id ++ t16

  e8 : whole ≡ p8 ++ (h.revision ∷ c ∷ t10)
  e8 = e10 ∙ append_assoc p8 (h.revision ∷ c ∷ []) t10

  e9 : whole ≡ (p8 ++ h.revision ∷ []) ++ (c ∷ t10)
  e9 = e8 ∙ sym (append_assoc p8 (h.revision ∷ []) (c ∷ t10))

  n9 : length (p8 ++ h.revision ∷ []) ≡ 9
  n9 = omega (arith, length-append p8 (h.revision ∷ []), n8)

  e4 : whole ≡ h.signature ++ (little_bytes 4 len ++ (h.revision ∷ c ∷ t10))
  e4 = e8 ∙ append_assoc h.signature (little_bytes 4 len) (h.revision ∷ c ∷ t10)

  length_told : length_field whole ≡ len
  length_told = numbered whole h.signature (h.revision ∷ c ∷ t10) 4 len e4 w.signature few

  code_behind : drop 36 whole ≡ code
  code_behind = ap (drop 36) e36 ∙ drop_at p36 code 36 n36

  length_whole : length whole ≡ 36 + length code
  length_whole = omega (arith, ap length e36, length-append p36 code, n36)

  header_told : header_of whole ≡ record {
    signature = h.signature;
    length = len;
    revision = h.revision;
    checksum = c;
    oem_id = h.oem_id;
    oem_table_id = h.oem_table_id;
    oem_revision = h.oem_revision;
    creator_id = h.creator_id;
    creator_revision = h.creator_revision;
  }
  header_told = λ i. record {
    signature = taken whole [] h.signature (little_bytes 4 len ++ (h.revision ∷ c ∷ t10)) 0 4 e4 refl w.signature i;
    length = length_told i;
    revision = byte_there whole p8 (c ∷ t10) 8 h.revision e8 n8 i;
    checksum = byte_there whole (p8 ++ h.revision ∷ []) t10 9 c e9 n9 i;
    oem_id = taken whole p10 h.oem_id t16 10 6 e10 n10 w.oem_id i;
    oem_table_id = taken whole p16 h.oem_table_id t24 16 8 e16 n16 w.oem_table_id i;
    oem_revision = numbered whole p24 t28 24 h.oem_revision e24 n24 w.oem_revision i;
    creator_id = taken whole p28 h.creator_id t32 28 4 e28 n28 w.creator_id i;
    creator_revision = numbered whole p32 code 32 h.creator_revision e32 n32 w.creator_revision i;
  }

  checksum_told : slice_index whole 9 ≡ c
  checksum_told = byte_there whole (p8 ++ h.revision ∷ []) t10 9 c e9 n9

-- the checksum put into its place
module _ (h : Header) (w : HasWidths h) (len c : ℕ) (few : len < 4294967296) (code : List ℕ) where
  checksum_put : slice_set (header_bytes h len 0 ++ code) 9 c ≡ header_bytes h len c ++ code
  checksum_put =
      let front = p8 h w len 0 few code ++ h.revision ∷ [] in
      let back = t10 h w len 0 few code in
      ap (λ l. slice_set l 9 c) (e9 h w len 0 few code) ∙ ap (λ k. slice_set (front ++ (0 ∷ back)) k c) (sym (n9 h w len 0 few code))
      ∙ set-append_seam front 0 back c ∙ sym (e9 h w len c few code)

  sum_told : (sum (header_bytes h len 0 ++ code) + c) % 256 ≡ 0 → sum (header_bytes h len c ++ code) % 256 ≡ 0
  sum_told zero =
      let front = p8 h w len 0 few code ++ h.revision ∷ [] in
      let back = t10 h w len 0 few code in
      let none : sum (header_bytes h len 0 ++ code) ≡ sum front + (0 + sum back) = ap sum (e9 h w len 0 few code)
      ∙ sum_by-append (λ x. x) front (0 ∷ back) ∙ ap (λ n. sum front + n) (sum_by-cons (λ x. x) 0 back) in
      let some : sum (header_bytes h len c ++ code) ≡ sum front + (c + sum back) = ap sum (e9 h w len c few code)
      ∙ sum_by-append (λ x. x) front (c ∷ back) ∙ ap (λ n. sum front + n) (sum_by-cons (λ x. x) c back) in
      let same : sum (header_bytes h len c ++ code) ≡ sum (header_bytes h len 0 ++ code) + c = omega (arith, none, some) in
      ap (λ n. n % 256) same ∙ zero

  is_table : len ≡ 36 + length code → len ≤ 16777216 → (sum (header_bytes h len 0 ++ code) + c) % 256 ≡ 0 → IsTable (header_bytes h len c ++ code)
  is_table is within zero =
      let size : length (header_bytes h len c ++ code) ≡ 36 + length code = length_whole h w len c few code in
      record {
        has_header = omega (arith, size);
        within_limit = omega (arith, size, is, within);
        has_length = length_told h w len c few code ∙ is ∙ sym size;
        sums_to_zero = sum_told zero;
      }

  header_kept : len ≡ 36 + length code → header_of (header_bytes h len c ++ code) ≡ header_for h (header_bytes h len c ++ code)
  header_kept is =
      let size = is ∙ sym (length_whole h w len c few code) in
      let sum = sym (checksum_told h w len c few code) in
      header_told h w len c few code ∙ (λ i. record {
        signature = h.signature;
        length = size i;
        revision = h.revision;
        checksum = sum i;
        oem_id = h.oem_id;
        oem_table_id = h.oem_table_id;
        oem_revision = h.oem_revision;
        creator_id = h.creator_id;
        creator_revision = h.creator_revision;
      })

-- bytes are a table of this code, with all else of the header as it was
pub record IsTableOf (h : Header) (code bytes : List ℕ) : Type 0 where
  pub table : IsTable bytes
  pub header : header_of bytes ≡ header_for h bytes
  pub behind : drop 36 bytes ≡ code

-- the checksum of what is seen put into a header that stands before code
pub tabled : (h : Header) (w : HasWidths h) (len c : ℕ) (code bytes seen : List ℕ) → len ≡ 36 + length code → len ≤ 16777216
    → bytes ≡ header_bytes h len 0 ++ code → seen ≡ bytes → (sum seen + c) % 256 ≡ 0 → IsTableOf h code (slice_set bytes 9 c)
tabled h w len c code bytes seen is within whole same zero =
    let few : len < 4294967296 = omega arith in
    subst (IsTableOf h code) (sym (ap (λ l. slice_set l 9 c) whole ∙ checksum_put h w len c few code)) (record {
      table = is_table h w len c few code is within (subst (λ (l : List ℕ). (sum l + c) % 256 ≡ 0) (same ∙ whole) zero);
      header = header_kept h w len c few code is;
      behind = code_behind h w len c few code;
    })
