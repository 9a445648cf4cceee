-- Tables are rewritten in one way.
use Rattle.std.proofs.Common.{◌≡◌, ℕ, zero, suc, ◌+◌, ◌*◌, ◌<◌, ◌≤◌, List, [], ◌∷◌, ◌++◌, length, take, drop, sum, get_or, refl, sym, ap, subst, ◌∙◌, arith}
use Rattle.std.specs.List.{AllZip}
use Rattle.std.proofs.lemmas.List.{length-drop, drop-drop}
use Rattle.std.proofs.lemmas.List.Elements.{recursion_from_All}
use Rattle.std.proofs.lemmas.List.Sums.{sum_by-append, sum_by-cons}
use Rattle.byteorder.specs.Endian.{little_number}
use Rattle.acpi_table.specs.declared.tables.Header.{Header}
use Rattle.acpi_space.proofs.Elements.{one_some}
use Rattle.acpi_tree.specs.Tree.{ItemTrees}
use Rattle.acpi_terms.proofs.OneTree.{one_item_tree}
use Rattle.acpi_code.proofs.Fitting.{AreBytes, back_bytes}
use Rattle.acpi_declare.specs.Listing.{Placement}
use Rattle.acpi_declare.specs.Loads.{objects_after}
use Rattle.acpi_declare.specs.Namespace.{Namespace}
use Rattle.acpi_declare.specs.Predefined.{predefined}
use Rattle.acpi_declare.specs.Tables.{code_of}
use Rattle.acpi_declare.proofs.Refusals.{same_listings}
use Rattle.acpi_order.specs.Bodies.{Method, methods_of}
use Rattle.acpi_order.proofs.ReadBodies.{one_body_there}
use Rattle.acpi_rewrite.specs.Rewriting.{codes, without_code, body_bytes, IsNewCode, IsShortest, IsRewritten, AreEachRewritten, AreRewritten}
use Rattle.acpi_rewrite.specs.Rewriting.{AreTablesOfBytes}
use Rattle.acpi_rewrite.proofs.Shortened.{same_items}

-- ---- the bytes of a header

parted : (n : ℕ) (xs : List ℕ) → xs ≡ take n xs ++ drop n xs
parted zero xs = refl
parted (suc n) [] = refl
parted (suc n) (x ∷ xs) = ap (λ (ys : List ℕ). x ∷ ys) (parted n xs)

at_front : (n : ℕ) (xs : List ℕ) → n < length xs → drop n xs ≡ get_or xs n 0 ∷ drop (suc n) xs
at_front n [] below = absurd (omega (arith, below))
at_front zero (x ∷ xs) below = refl
at_front (suc n) (x ∷ xs) below = at_front n xs (omega (arith, below))

small_behind : (n : ℕ) (xs : List ℕ) → AreBytes xs → AreBytes (drop n xs)
small_behind n xs h = back_bytes (take n xs) (drop n xs) (subst AreBytes (parted n xs) h)

record Four (xs : List ℕ) : Type 0 where
  b0 : ℕ
  b1 : ℕ
  b2 : ℕ
  b3 : ℕ
  rest : List ℕ
  whole : xs ≡ b0 ∷ b1 ∷ b2 ∷ b3 ∷ rest

four : (xs : List ℕ) → 4 ≤ length xs → Four xs
four [] le = absurd (omega (arith, le))
four (a ∷ []) le = absurd (omega (arith, le))
four (a ∷ b ∷ []) le = absurd (omega (arith, le))
four (a ∷ b ∷ c ∷ []) le = absurd (omega (arith, le))
four (a ∷ b ∷ c ∷ d ∷ xs) le = record { b0 = a; b1 = b; b2 = c; b3 = d; rest = xs; whole = refl }

abbrev number_of : ℕ → ℕ → ℕ → ℕ → ℕ
number_of a b c d = a + 256 * (b + 256 * (c + 256 * (d + 256 * 0)))

digits : (a b c d e f g h : ℕ) → a < 256 → b < 256 → c < 256 → d < 256 → e < 256 → f < 256 → g < 256 → h < 256 → number_of a b c d ≡ number_of e f g h
    → (a ≡ e) × (b ≡ f) × (c ≡ g) × (d ≡ h)
digits a b c d e f g h la lb lc ld le lf lg lh same =
    (omega (arith, la, le, same), omega (arith, la, lb, le, lf, same), omega (arith, la, lb, lc, le, lf, lg, same), omega (arith, la, lb, lc, ld, le, lf, lg, lh, same))

-- equal numbers of four bytes are equal bytes
number_bytes : (xs ys : List ℕ) → 4 ≤ length xs → 4 ≤ length ys → AreBytes xs → AreBytes ys → little_number 4 xs ≡ little_number 4 ys → take 4 xs ≡ take 4 ys
number_bytes xs ys p q h k same =
    let x = four xs p in
    let y = four ys q in
    let i = subst AreBytes x.whole h in
    let j = subst AreBytes y.whole k in
    let e : number_of x.b0 x.b1 x.b2 x.b3 ≡ number_of y.b0 y.b1 y.b2 y.b3 = sym (ap (little_number 4) x.whole) ∙ same ∙ ap (little_number 4) y.whole in
    let d = digits x.b0 x.b1 x.b2 x.b3 y.b0 y.b1 y.b2 y.b3 i.0 i.1.0 i.1.1.0 i.1.1.1.0 j.0 j.1.0 j.1.1.0 j.1.1.1.0 e in
    ap (take 4) x.whole ∙ (λ n. d.0 n ∷ d.1 n ∷ d.2 n ∷ d.3 n ∷ []) ∙ sym (ap (take 4) y.whole)

module _ (a b : List ℕ) where
  -- a field, and what stands behind it
  field_before : (n k m : ℕ) → n + k ≡ m → take k (drop n a) ≡ take k (drop n b) → drop m a ≡ drop m b → drop n a ≡ drop n b
  field_before n k m at same later =
      let here : (xs : List ℕ) → drop k (drop n xs) ≡ drop m xs = λ xs. drop-drop k n xs ∙ ap (λ i. drop i xs) at in
      parted k (drop n a) ∙ ap (λ (l : List ℕ). take k (drop n a) ++ l) (here a ∙ later ∙ sym (here b)) ∙ ap (λ (l : List ℕ). l ++ drop k (drop n b)) same ∙ sym (parted k (drop n b))

-- signature and Length, revision, Checksum, and what follows
fronted : (a : List ℕ) → 36 ≤ length a → a ≡ take 4 a ++ (take 4 (drop 4 a) ++ (get_or a 8 0 ∷ get_or a 9 0 ∷ drop 10 a))
fronted a le =
    let behind : drop 4 (drop 4 a) ≡ get_or a 8 0 ∷ get_or a 9 0 ∷ drop 10 a =
    drop-drop 4 4 a ∙ at_front 8 a (omega (arith, le)) ∙ ap (λ (l : List ℕ). get_or a 8 0 ∷ l) (at_front 9 a (omega (arith, le))) in
    parted 4 a ∙ ap (λ (l : List ℕ). take 4 a ++ l) (parted 4 (drop 4 a) ∙ ap (λ (l : List ℕ). take 4 (drop 4 a) ++ l) behind)

summed : (p q r : List ℕ) (x y : ℕ) → sum (p ++ (q ++ (x ∷ y ∷ r))) ≡ sum p + (sum q + (x + (y + sum r)))
summed p q r x y =
    sum_by-append (λ n. n) p (q ++ (x ∷ y ∷ r))
    ∙ ap (λ n. sum p + n) (sum_by-append (λ n. n) q (x ∷ y ∷ r) ∙ ap (λ n. sum q + n) (sum_by-cons (λ n. n) x (y ∷ r) ∙ ap (λ n. x + n) (sum_by-cons (λ n. n) y r)))

byte_there : (xs : List ℕ) (n : ℕ) → AreBytes xs → n < length xs → get_or xs n 0 < 256
byte_there xs n h below = (subst AreBytes (at_front n xs below) (small_behind n xs h)).0

-- ---- one table

module _ (old a b : List ℕ) (is : ItemTrees) (r : IsShortest old is a) (q : IsShortest old is b) (small : AreBytes a) (few : AreBytes b) where
  la : 36 ≤ length a
  la = r.table.has_header

  lb : 36 ≤ length b
  lb = q.table.has_header

  at36 : drop 36 a ≡ drop 36 b
  at36 = one_some (drop 36 a) (drop 36 b) (sym r.spelling ∙ q.spelling)

  same_length : length a ≡ length b
  same_length = omega (arith, la, lb, length-drop 36 a, length-drop 36 b, ap length at36)

  number_at : (n : ℕ) → n + 4 ≤ 36 → little_number 4 (drop n a) ≡ little_number 4 (drop n b) → take 4 (drop n a) ≡ take 4 (drop n b)
  number_at n le e =
      number_bytes (drop n a) (drop n b) (omega (arith, le, la, length-drop n a)) (omega (arith, le, lb, length-drop n b)) (small_behind n a small) (small_behind n b few) e

  at32 : drop 32 a ≡ drop 32 b
  at32 = field_before a b 32 4 36 refl (number_at 32 (omega arith) (ap (λ (h : Header). h.creator_revision) r.header ∙ sym (ap (λ (h : Header). h.creator_revision) q.header))) at36

  at28 : drop 28 a ≡ drop 28 b
  at28 = field_before a b 28 4 32 refl (ap (λ (h : Header). h.creator_id) r.header ∙ sym (ap (λ (h : Header). h.creator_id) q.header)) at32

  at24 : drop 24 a ≡ drop 24 b
  at24 = field_before a b 24 4 28 refl (number_at 24 (omega arith) (ap (λ (h : Header). h.oem_revision) r.header ∙ sym (ap (λ (h : Header). h.oem_revision) q.header))) at28

  at16 : drop 16 a ≡ drop 16 b
  at16 = field_before a b 16 8 24 refl (ap (λ (h : Header). h.oem_table_id) r.header ∙ sym (ap (λ (h : Header). h.oem_table_id) q.header)) at24

  at10 : drop 10 a ≡ drop 10 b
  at10 = field_before a b 10 6 16 refl (ap (λ (h : Header). h.oem_id) r.header ∙ sym (ap (λ (h : Header). h.oem_id) q.header)) at16

  signature : take 4 a ≡ take 4 b
  signature = ap (λ (h : Header). h.signature) r.header ∙ sym (ap (λ (h : Header). h.signature) q.header)

  its_length : take 4 (drop 4 a) ≡ take 4 (drop 4 b)
  its_length = number_at 4 (omega arith) (r.table.has_length ∙ same_length ∙ sym q.table.has_length)

  revision : get_or a 8 0 ≡ get_or b 8 0
  revision = ap (λ (h : Header). h.revision) r.header ∙ sym (ap (λ (h : Header). h.revision) q.header)

  a_is : a ≡ take 4 b ++ (take 4 (drop 4 b) ++ (get_or b 8 0 ∷ get_or a 9 0 ∷ drop 10 b))
  a_is = fronted a la ∙ (λ i. signature i ++ (its_length i ++ (revision i ∷ get_or a 9 0 ∷ at10 i)))

  checksum : get_or a 9 0 ≡ get_or b 9 0
  checksum =
      let sa : sum a ≡ sum (take 4 b) + (sum (take 4 (drop 4 b)) + (get_or b 8 0 + (get_or a 9 0 + sum (drop 10 b)))) = ap sum a_is
      ∙ summed (take 4 b) (take 4 (drop 4 b)) (drop 10 b) (get_or b 8 0) (get_or a 9 0) in
      let sb : sum b ≡ sum (take 4 b) + (sum (take 4 (drop 4 b)) + (get_or b 8 0 + (get_or b 9 0 + sum (drop 10 b)))) = ap sum (fronted b lb)
      ∙ summed (take 4 b) (take 4 (drop 4 b)) (drop 10 b) (get_or b 8 0) (get_or b 9 0) in
      omega (arith, sa, sb, r.table.sums_to_zero, q.table.sums_to_zero, byte_there a 9 small (omega (arith, la)), byte_there b 9 few (omega (arith, lb)))

  pub one_table : a ≡ b
  one_table = a_is ∙ ap (λ (x : ℕ). take 4 b ++ (take 4 (drop 4 b) ++ (get_or b 8 0 ∷ x ∷ drop 10 b))) checksum ∙ sym (fronted b lb)

-- ---- the code of methods

module _ (depth : ℕ) (objects : Namespace) where
  one_code : (m : Method) (c d : List ℕ) → IsNewCode depth objects m c → IsNewCode depth objects m d → c ≡ d
  one_code m c d h k = one_some c d (sym h.2 ∙ ap body_bytes (one_body_there depth objects m h.0 k.0 h.1 k.1) ∙ k.2)

  one_list : (ms : List Method) (cs ds : List (List ℕ)) → AllZip (IsNewCode depth objects) ms cs → AllZip (IsNewCode depth objects) ms ds → cs ≡ ds
  one_list [] [] [] h k = refl
  one_list [] [] (d ∷ ds) h k = absurd k
  one_list [] (c ∷ cs) ds h k = absurd h
  one_list (m ∷ ms) [] ds h k = absurd h
  one_list (m ∷ ms) (c ∷ cs) [] h k = absurd k
  one_list (m ∷ ms) (c ∷ cs) (d ∷ ds) h k =
      let first = one_code m c d h.0 k.0 in
      let later = one_list ms cs ds h.1 k.1 in
      λ i. first i ∷ later i

  one_rewritten : (t : List Placement) (old a b : List ℕ) → IsRewritten depth objects t old a → IsRewritten depth objects t old b → AreBytes a → AreBytes b → a ≡ b
  one_rewritten t old a b r q small few =
      let items : r.items ≡ q.items = one_item_tree (code_of old) r.items q.items r.spelled q.spelled in
      let fresh : codes r.rewritten ≡ codes q.rewritten = one_list (methods_of t) (codes r.rewritten) (codes q.rewritten) r.bodies q.bodies in
      let same : r.rewritten ≡ q.rewritten = same_items q.rewritten r.rewritten (r.alike ∙ ap without_code items ∙ sym q.alike) fresh in
      one_table old a b q.rewritten (subst (λ (is : ItemTrees). IsShortest old is a) same r.written) q.written small few

  one_each : (ts : List (List Placement)) (bs ms ns : List (List ℕ)) → AreEachRewritten depth objects ts bs ms
      → AreEachRewritten depth objects ts bs ns → AreTablesOfBytes ms → AreTablesOfBytes ns → ms ≡ ns
  one_each [] [] [] [] h k small few = refl
  one_each [] [] [] (n ∷ ns) h k small few = absurd k
  one_each [] [] (m ∷ ms) ns h k small few = absurd h
  one_each [] (b ∷ bs) [] ns h k small few = absurd h
  one_each [] (b ∷ bs) (m ∷ ms) ns h k small few = absurd h
  one_each (t ∷ ts) [] [] ns h k small few = absurd h
  one_each (t ∷ ts) [] (m ∷ ms) ns h k small few = absurd h
  one_each (t ∷ ts) (b ∷ bs) [] ns h k small few = absurd h
  one_each (t ∷ ts) (b ∷ bs) (m ∷ ms) [] h k small few = absurd k
  one_each (t ∷ ts) (b ∷ bs) (m ∷ ms) (n ∷ ns) h k small few =
      let first : m ≡ n = one_rewritten t b m n h.0 k.0 (recursion_from_All (λ x. x < 256) m small.0) (recursion_from_All (λ x. x < 256) n few.0) in
      let later = one_each ts bs ms ns h.1 k.1 small.1 few.1 in
      λ i. first i ∷ later i

pub one_rewriting : (depth : ℕ) (tables ms ns : List (List ℕ)) → AreTablesOfBytes ms → AreTablesOfBytes ns → AreRewritten depth tables ms → AreRewritten depth tables ns → ms ≡ ns
one_rewriting depth tables ms ns small few h k =
    let same = same_listings depth 0 predefined tables h.placements k.placements h.listings k.listings in
    one_each depth (objects_after predefined k.placements) k.placements tables ms ns
    (subst (λ (ts : List (List Placement)). AreEachRewritten depth (objects_after predefined ts) ts tables ms) same h.each) k.each small few
