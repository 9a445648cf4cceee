-- Which entries are seen past ranges that are hidden.
use Rattle.std.proofs.Common.{◌≡◌, ℕ, suc, ◌+◌, ◌<◌, ◌≤◌, ◌||◌, ◌&&◌, Bool, true, false, cond, nat_le, nat_lt, List, [], ◌∷◌, ◌++◌, length, take, drop, refl, sym, ap, ap₂, subst, ◌∙◌, arith, append-nil}
use Rattle.std.proofs.lemmas.Bool.Decides.{nat_tests}
use Rattle.std.proofs.lemmas.List.{take-append-drop, length-take-le, length-drop}
use Rattle.acpi_conditions.specs.Entries.{Entry}
use Rattle.acpi_conditions.specs.KnownLists.{is_hidden, seen_beyond}
use Rattle.acpi_conditions.specs.declared.facts.HiddenRange.{HiddenRange}
use Rattle.acpi_conditions.specs.steps.Walks.{AreBefore}

-- ---- numbers

not_in : (from to n : ℕ) → to ≤ n → (nat_le from n && nat_lt n to) ≡ false
not_in from to n h = by (nat_le from n) (nat_lt n to) (grind (arith, nat_tests))
  where
    by : (a b : Bool) → b ≡ false → (a && b) ≡ false
    by true b e = e
    by false b e = refl

not_yet : (from to n : ℕ) → n < from → (nat_le from n && nat_lt n to) ≡ false
not_yet from to n h = by (nat_le from n) (nat_lt n to) (grind (arith, nat_tests))
  where
    by : (a b : Bool) → a ≡ false → (a && b) ≡ false
    by true b e = cc
    by false b e = refl

within : (from to n : ℕ) → from ≤ n → n < to → (nat_le from n && nat_lt n to) ≡ true
within from to n h k = by (nat_le from n) (nat_lt n to) (grind (arith, nat_tests)) (grind (arith, nat_tests))
  where
    by : (a b : Bool) → a ≡ true → b ≡ true → (a && b) ≡ true
    by true b e f = f
    by false b e f = cc

pub before_more : (m n : ℕ) (rs : List HiddenRange) → m ≤ n → AreBefore m rs → AreBefore n rs
before_more m n [] h all = tt
before_more m n (r ∷ rs) h all = let l : r.to ≤ m = all.0 in (omega arith, before_more m n rs h all.1)

hidden_past : (m n : ℕ) (rs : List HiddenRange) → m ≤ n → AreBefore m rs → is_hidden rs n ≡ false
hidden_past m n [] h all = refl
hidden_past m n (r ∷ rs) h all = let l : r.to ≤ m = all.0 in let k : r.to ≤ n = omega arith in ap₂ (λ a b. a || b) (not_in r.from r.to n k) (hidden_past m n rs h all.1)

hidden_one : (rs : List HiddenRange) (r : HiddenRange) (n : ℕ) → is_hidden (rs ++ r ∷ []) n ≡ is_hidden rs n || (nat_le r.from n && nat_lt n r.to)
hidden_one [] r n = or_false (nat_le r.from n && nat_lt n r.to)
  where
    or_false : (b : Bool) → (b || false) ≡ b
    or_false true = refl
    or_false false = refl
hidden_one (q ∷ rs) r n = ap (λ b. (nat_le q.from n && nat_lt n q.to) || b) (hidden_one rs r n) ∙ assoc (nat_le q.from n && nat_lt n q.to) (is_hidden rs n) (nat_le r.from n && nat_lt n r.to)
  where
    assoc : (a b d : Bool) → (a || (b || d)) ≡ ((a || b) || d)
    assoc true b d = refl
    assoc false b d = refl

-- ---- entries behind all ranges

pub seen_past : (m n : ℕ) (rs : List HiddenRange) (es : List Entry) → m ≤ n → AreBefore m rs → seen_beyond rs n es ≡ es
seen_past m n rs [] h all = refl
seen_past m n rs (e ∷ es) h all =
    ap (λ b. cond b (seen_beyond rs (suc n) es) (e ∷ seen_beyond rs (suc n) es)) (hidden_past m n rs h all) ∙ ap (λ l. e ∷ l) (seen_past m (suc n) rs es (omega arith) all)

cond_append : (b : Bool) (e : Entry) (xs ys zs : List Entry) → xs ≡ ys ++ zs → cond b xs (e ∷ xs) ≡ cond b ys (e ∷ ys) ++ zs
cond_append true e xs ys zs h = h
cond_append false e xs ys zs h = ap (λ l. e ∷ l) h

plus_zero : (n : ℕ) → n ≡ n + 0
plus_zero n = omega arith

plus_suc : (n m : ℕ) → suc n + m ≡ n + suc m
plus_suc n m = omega arith

pub seen_append : (rs : List HiddenRange) (n : ℕ) (xs ys : List Entry) → seen_beyond rs n (xs ++ ys) ≡ seen_beyond rs n xs ++ seen_beyond rs (n + length xs) ys
seen_append rs n [] ys = ap (λ m. seen_beyond rs m ys) (plus_zero n)
seen_append rs n (x ∷ xs) ys =
    cond_append (is_hidden rs n) x (seen_beyond rs (suc n) (xs ++ ys)) (seen_beyond rs (suc n) xs) (seen_beyond rs (n + suc (length xs)) ys)
    (seen_append rs (suc n) xs ys ∙ ap (λ m. seen_beyond rs (suc n) xs ++ seen_beyond rs m ys) (plus_suc n (length xs)))

pub seen_more : (rs : List HiddenRange) (xs ys : List Entry) → AreBefore (length xs) rs → seen_beyond rs 0 (xs ++ ys) ≡ seen_beyond rs 0 xs ++ ys
seen_more rs xs ys h = seen_append rs 0 xs ys ∙ ap (λ l. seen_beyond rs 0 xs ++ l) (seen_past (length xs) (0 + length xs) rs ys (omega arith) h)

-- those up to a moment, and all behind it
pub seen_since : (rs : List HiddenRange) (n : ℕ) (es : List Entry) → n ≤ length es → AreBefore n rs → seen_beyond rs 0 es ≡ seen_beyond rs 0 (take n es) ++ drop n es
seen_since rs n es h all =
    ap (seen_beyond rs 0) (sym (take-append-drop n es))
    ∙ seen_more rs (take n es) (drop n es) (subst (λ (m : ℕ). AreBefore m rs) (sym (length-take-le n es h)) all)

-- ---- one range more

cond_same : (b c : Bool) (e : Entry) (xs ys : List Entry) → b ≡ c → xs ≡ ys → cond b xs (e ∷ xs) ≡ cond c ys (e ∷ ys)
cond_same b c e xs ys h k = ap₂ (λ d l. cond d l (e ∷ l)) h k

seen_before : (rs : List HiddenRange) (from to n : ℕ) (es : List Entry) → n + length es ≤ from → seen_beyond (rs ++ record { from = from; to = to } ∷ []) n es ≡ seen_beyond rs n es
seen_before rs from to n [] h = refl
seen_before rs from to n (e ∷ es) h =
    cond_same (is_hidden (rs ++ record { from = from; to = to } ∷ []) n) (is_hidden rs n) e (seen_beyond (rs ++ record { from = from; to = to } ∷ []) (suc n) es) (seen_beyond rs (suc n) es)
    (hidden_one rs (record { from = from; to = to }) n ∙ ap (λ b. is_hidden rs n || b) (not_yet from to n (omega arith)) ∙ or_false (is_hidden rs n))
    (seen_before rs from to (suc n) es (omega arith))
  where
    or_false : (b : Bool) → (b || false) ≡ b
    or_false true = refl
    or_false false = refl

seen_none : (rs : List HiddenRange) (from to n : ℕ) (es : List Entry) → from ≤ n → n + length es ≤ to → seen_beyond (rs ++ record { from = from; to = to } ∷ []) n es ≡ []
seen_none rs from to n [] h k = refl
seen_none rs from to n (e ∷ es) h k =
    ap (λ b. cond b (seen_beyond (rs ++ record { from = from; to = to } ∷ []) (suc n) es) (e ∷ seen_beyond (rs ++ record { from = from; to = to } ∷ []) (suc n) es))
    (hidden_one rs (record { from = from; to = to }) n ∙ ap (λ b. is_hidden rs n || b) (within from to n h (omega arith)) ∙ or_true (is_hidden rs n))
    ∙ seen_none rs from to (suc n) es (omega arith) (omega arith)
  where
    or_true : (b : Bool) → (b || true) ≡ true
    or_true true = refl
    or_true false = refl

-- where all from a moment on are hidden, those up to it are seen
pub seen_hidden : (rs : List HiddenRange) (n : ℕ) (es : List Entry) → n ≤ length es → seen_beyond (rs ++ record { from = n; to = length es } ∷ []) 0 es ≡ seen_beyond rs 0 (take n es)
seen_hidden rs n es h =
    ap (seen_beyond (rs ++ record { from = n; to = length es } ∷ []) 0) (sym (take-append-drop n es)) ∙ seen_append (rs ++ record { from = n; to = length es } ∷ []) 0 (take n es) (drop n es)
    ∙ ap₂ (λ l m. l ++ m) (seen_before rs n (length es) 0 (take n es) (omega (arith, length-take-le n es h))) (seen_none rs n (length es) (0 + length (take n es)) (drop n es) (omega (arith, length-take-le n es h)) (omega (arith, length-take-le n es h, length-drop n es)))
    ∙ append-nil (seen_beyond rs 0 (take n es))
