-- Parts of a line that are told one after another.
use Rattle.std.proofs.Common.{◌≡◌, Bool, true, false, ℕ, ◌+◌, List, [], ◌++◌, take, drop, take-append-drop, take_all, length, length-drop, ◌-◌, ◌≤◌, le_of_eq, arith, refl, sym, ap, ◌∙◌, append_assoc, append-nil, Option, Some, None}
use Rattle.std.proofs.Math.Seq.{take-add}
use Rattle.std.specs.Io.KnownBytes.{Appends, Keeps}
use Rattle.std.proofs.KnownBytes.{Appends-trans, Appends-nil}
use Rattle.acpins_io.specs.PartsWritten.{AppendsBeginning, WritesUntilFailure}

appends_behind : (a b c : Option (List ℕ)) (x : List ℕ) → Appends a b x → Appends b c [] → Appends a c x
appends_behind None b c x h k = tt
appends_behind (Some p) None c x h k = absurd h
appends_behind (Some p) (Some q) None x h k = absurd k
appends_behind (Some p) (Some q) (Some r) x h k = k ∙ append-nil q ∙ h

begins_more : (fb : Bool) (fa fc : Bool) (a b c : Option (List ℕ)) (x y : List ℕ) → WritesUntilFailure x fa a fb b → WritesUntilFailure y fb b fc c → AppendsBeginning (x ++ y) a c
begins_more false fa fc a b c x y s t =
    let whole = s.whole refl in
    let begun = t.begins in
    (x ++ begun.0, begun.1, ap (λ l. x ++ l) begun.2 ∙ sym (append_assoc x begun.0 begun.1), Appends-trans a b c x begun.0 whole.1 begun.3)
begins_more true fa fc a b c x y s t =
    let begun = s.begins in
    (begun.0, begun.1 ++ y, ap (λ l. l ++ y) begun.2 ∙ append_assoc begun.0 begun.1 y, appends_behind a b c begun.0 begun.3 (t.silent refl).1)

-- a part and the next one
pub tells_more : (x y : List ℕ) (fa : Bool) (a : Option (List ℕ)) (fb : Bool) (b : Option (List ℕ)) (fc : Bool) (c : Option (List ℕ))
    → WritesUntilFailure x fa a fb b → WritesUntilFailure y fb b fc c → WritesUntilFailure (x ++ y) fa a fc c
tells_more x y fa a fb b fc c s t = record {
  whole = λ e. let second = t.whole e in let first = s.whole second.0 in (first.0, Appends-trans a b c x y first.1 second.1);
  begins = begins_more fb fa fc a b c x y s t;
  silent = λ e. let first = s.silent e in let second = t.silent first.0 in (second.0, Appends-trans a b c [] [] first.1 second.1);
}

-- no part
pub tells_nothing : (f : Bool) (a : Option (List ℕ)) → WritesUntilFailure [] f a f a
tells_nothing f a = record {
  whole = λ e. (e, Appends-nil a);
  begins = ([], [], refl, Appends-nil a);
  silent = λ e. (e, Appends-nil a);
}

-- ---- a part that is written piece by piece

pub begun : (a b : Option (List ℕ)) (part : List ℕ) (n : ℕ) → Appends a b (take n part) → AppendsBeginning part a b
begun a b part n h = (take n part, drop n part, sym (take-append-drop n part), h)

pub kept : (a b c : Option (List ℕ)) (x : List ℕ) → Appends a b x → Keeps b c → Appends a c x
kept None b c x h k = tt
kept (Some p) None c x h k = absurd h
kept (Some p) (Some q) None x h k = absurd k
kept (Some p) (Some q) (Some r) x h k = k ∙ h

-- what is left of a part from a place on, as a slice
pub rest_is : {A : Type 0} (part : List A) (n : ℕ) → take (length part - n) (drop n part) ≡ drop n part
rest_is part n = take_all (length part - n) (drop n part) (le_of_eq (length-drop n part))

pub piece_fits : (part : List ℕ) (n m : ℕ) → n ≤ length part → m ≤ length (take (length part - n) (drop n part)) → n + m ≤ length part
piece_fits part n m h k = let e = ap length (rest_is part n) ∙ length-drop n part in omega (arith, e, h, k)

pub piece_more : (a b c : Option (List ℕ)) (part : List ℕ) (n m : ℕ) → Appends a b (take n part) → Appends b c (take m (take (length part - n) (drop n part)))
    → Appends a c (take (n + m) part)
piece_more a b c part n m h k = rw (take-add n m part) (Appends-trans a b c (take n part) (take m (drop n part)) h (rw (rest_is part n) at k))
