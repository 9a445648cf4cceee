-- When each fault of a name comes.
use Rattle.std.proofs.Common.{◌≡◌, ℕ, zero, suc, ◌-◌, ◌+◌, ◌≤◌, ◌<◌, Bool, true, false, cond, ltb, eqb, ◌⊎◌, List, [], ◌∷◌, ◌++◌, length, drop, replicate, Result, Ok, Err, refl, sym, ap, subst, ◌∙◌, append_assoc, arith, inl, inr}
use Rattle.std.proofs.lemmas.Bool.{ltb-false, ltb-true, lt-ltb, eqb-true, eqb-false}
use Rattle.std.proofs.lemmas.List.{length-append, append-nil, length-replicate, replicate-append-replicate}
use Rattle.std.proofs.lemmas.List.Folds.{length-prefix_len}
use Rattle.std.specs.List.{prefix_len}
use Rattle.acpi_name.specs.Names.{Segment, NameParts, AreSegments, is_segment}
use Rattle.acpi_name.specs.Spelling.{segment_bytes, prefix_of, SpellsPath, IsCutName, HasZeroCount, HasTooManyUps}
use Rattle.acpi_name.specs.declared.reading.NameFault.{NameFault}
use Rattle.acpi_name.specs.declared.reading.NameFault.TheVariants.{Cut, BadChar, ZeroCount, TooManyUps}
use Rattle.acpi_name.specs.Names.{is_segment_front}
use Rattle.acpi_name.specs.Reading.{◌>>=◌, segment_at, segments_at, counted_at, path_at, ups, relative_at, name_at}
use Rattle.acpi_name.proofs.NameAgain.{segment_again, name_again, relative_path, relative_of}
use Rattle.acpi_name.proofs.NameTook.{chosen, done, ok_is, segment_took, ups_are, name_took}

abbrev pub failed : {A : Type 0} → NameFault → Result A NameFault
failed f = Err f

pub fault_is : {A : Type 0} (f g : NameFault) → failed {A = A} f ≡ failed g → f ≡ g
fault_is f g e = cc

pub ok_no_err : {A : Type 0} (x : A) (f : NameFault) → done x ≡ failed f → ⊥
ok_no_err x f e = absurd cc

bind_err : {A B : Type 0} (r : Result A NameFault) (f : A → Result B NameFault) (g : NameFault) → (r >>= f) ≡ Err g → (r ≡ Err g) ⊎ ((x : A) × (r ≡ Ok x) × (f x ≡ Err g))
bind_err (Ok x) f g e = inr (x, refl, e)
bind_err (Err d) f g e = let is : d ≡ g = cc in inl (ap Err is)

-- only the first step can fail
bind_done : {A B : Type 0} (r : Result A NameFault) (f : A → B) (g : NameFault) → (r >>= λ x. Ok (f x)) ≡ Err g → r ≡ Err g
bind_done (Ok x) f g e = absurd cc
bind_done (Err d) f g e = let is : d ≡ g = cc in ap Err is

all_ups : (bytes : List ℕ) → bytes ≡ replicate (ups bytes) 94 ++ drop (ups bytes) bytes
all_ups bytes = let n : ups bytes ≡ prefix_len (λ x. eqb x 94) bytes = length-prefix_len (λ x. eqb x 94) bytes in rw n (ups_are bytes)

-- ---- a name that is cut can be completed

abbrev blank : Segment
blank = 95 ∷ 95 ∷ 95 ∷ 95 ∷ []

abbrev Completes : List ℕ → Type 0
Completes bytes = (more : List ℕ) × (0 < length more) × (is_segment (bytes ++ more) ≡ true)

front_completed : (bytes : List ℕ) → is_segment_front bytes ≡ true → length bytes < 4 → Completes bytes
front_completed [] h lt = (blank, omega arith, refl)
front_completed (a ∷ []) h lt = (95 ∷ 95 ∷ 95 ∷ [], omega arith, rw h refl)
front_completed (a ∷ b ∷ []) h lt = (95 ∷ 95 ∷ [], omega arith, rw h refl)
front_completed (a ∷ b ∷ c ∷ []) h lt = (95 ∷ [], omega arith, rw h refl)
front_completed (a ∷ b ∷ c ∷ d ∷ rest) h lt = absurd (omega arith)

segment_cut : (bytes : List ℕ) → segment_at bytes ≡ Err Cut → Completes bytes
unfolding segment_at
segment_cut bytes e =
    elim (chosen (is_segment_front bytes) _ _ (failed Cut) e) [
      | inl t ↦ elim (chosen (ltb (length bytes) 4) _ _ (failed Cut) t.1) [
        | inl u ↦ front_completed bytes t.0 (ltb-true _ _ u.0)
        | inr u ↦ absurd cc
      ]
      | inr f ↦ absurd cc
    ]

record CutSegments (n : ℕ) (bytes : List ℕ) : Type 0 where
  segments : List Segment
  count : length segments ≡ n
  are_segments : AreSegments segments
  more : List ℕ
  missing : 0 < length more
  whole : bytes ++ more ≡ segment_bytes segments

blanks_are : (n : ℕ) → AreSegments (replicate n blank)
blanks_are zero = refl
blanks_are (suc n) = blanks_are n

segments_cut : (n : ℕ) (bytes : List ℕ) → segments_at n bytes ≡ Err Cut → CutSegments n bytes
unfolding segments_at
segments_cut zero bytes e = absurd cc
segments_cut (suc n) bytes e =
    elim (bind_err (segment_at bytes) (λ s. segments_at n s.1 >>= λ ss. Ok (s.0 ∷ ss.0, ss.1)) Cut e) [
      | inl f ↦
          let s = segment_cut bytes f in
          record {
            segments = (bytes ++ s.0) ∷ replicate n blank;
            count = ap suc (length-replicate n blank);
            are_segments = rw s.2 (blanks_are n);
            more = s.0 ++ segment_bytes (replicate n blank);
            missing = omega (arith, s.1, length-append s.0 (segment_bytes (replicate n blank)));
            whole = sym (append_assoc bytes s.0 (segment_bytes (replicate n blank)));
          }
      | inr t ↦
          let more = segments_cut n t.0.1 (bind_done (segments_at n t.0.1) (λ ss. (t.0.0 ∷ ss.0, ss.1)) Cut t.2) in
          let s = segment_took bytes t.0 t.1 in
          record {
            segments = t.0.0 ∷ more.segments;
            count = ap suc more.count;
            are_segments = rw s.0 more.are_segments;
            more = more.more;
            missing = more.missing;
            whole = ap (λ (b : List ℕ). b ++ more.more) s.1 ∙ append_assoc t.0.0 t.0.1 more.more ∙ ap (λ (r : List ℕ). t.0.0 ++ r) more.whole;
          }
    ]

record CutPath (bytes : List ℕ) : Type 0 where
  segments : List Segment
  are_segments : AreSegments segments
  few : length segments < 256
  more : List ℕ
  missing : 0 < length more
  spells : SpellsPath segments (bytes ++ more)

counted_cut : (bytes : List ℕ) → counted_at bytes ≡ Err Cut → CutPath (47 ∷ bytes)
unfolding counted_at
counted_cut [] e = record { segments = blank ∷ []; are_segments = refl; few = omega arith; more = 1 ∷ blank; missing = omega arith; spells = inr (inr (inr (omega arith, refl))) }
counted_cut (n ∷ bytes) e =
    elim (chosen (eqb n 0) _ _ (failed Cut) e) [
      | inl t ↦ absurd cc
      | inr f ↦
          elim (chosen (ltb 255 n) _ _ (failed Cut) f.1) [
            | inl t ↦ absurd cc
            | inr g ↦
                let s = segments_cut n bytes g.1 in
                let some : n ≡ 0 → ⊥ = eqb-false n 0 f.0 in
                let fits : n ≤ 255 = ltb-false 255 n g.0 in
                record {
                  segments = s.segments;
                  are_segments = s.are_segments;
                  few = omega (arith, s.count);
                  more = s.more;
                  missing = s.missing;
                  spells = inr (inr (inr (omega (arith, some, s.count), rw s.count (ap (λ (r : List ℕ). 47 ∷ n ∷ r) s.whole))));
                }
          ]
    ]

path_cut : (bytes : List ℕ) → path_at bytes ≡ Err Cut → CutPath bytes
unfolding path_at
path_cut [] e = record { segments = []; are_segments = refl; few = omega arith; more = 0 ∷ []; missing = omega arith; spells = inl (refl, refl) }
path_cut (b ∷ bytes) e =
    elim (chosen (eqb b 0) _ _ (failed Cut) e) [
      | inl t ↦ absurd cc
      | inr f ↦
          elim (chosen (eqb b 46) _ _ (failed Cut) f.1) [
            | inl t ↦
                let s = segments_cut 2 bytes t.1 in
                record {
                  segments = s.segments;
                  are_segments = s.are_segments;
                  few = omega (arith, s.count);
                  more = s.more;
                  missing = s.missing;
                  spells = inr (inr (inl (s.count, rw (eqb-true b 46 t.0) (ap (λ (r : List ℕ). 46 ∷ r) s.whole))));
                }
            | inr g ↦
                elim (chosen (eqb b 47) _ _ (failed Cut) g.1) [
                  | inl t ↦ subst (λ k. CutPath (k ∷ bytes)) (sym (eqb-true b 47 t.0)) (counted_cut bytes t.1)
                  | inr h ↦
                      let s = segments_cut 1 (b ∷ bytes) h.1 in
                      record { segments = s.segments; are_segments = s.are_segments; few = omega (arith, s.count); more = s.more; missing = s.missing; spells = inr (inl (s.count, s.whole)) }
                ]
          ]
    ]

relative_cut : (bytes : List ℕ) → relative_at bytes ≡ Err Cut → IsCutName bytes
unfolding relative_at
relative_cut bytes e =
    elim (chosen (ltb 255 (ups bytes)) _ _ (failed Cut) e) [
      | inl t ↦ absurd cc
      | inr f ↦
          let p = path_cut (drop (ups bytes) bytes) (bind_done (path_at (drop (ups bytes) bytes)) (λ p. (record { rooted = false; parents = ups bytes; segments = p.0 }, p.1)) Cut f.1) in
          let few : ups bytes ≤ 255 = ltb-false _ _ f.0 in
          let all = all_ups bytes in
          let never : false ≡ true → ups bytes ≡ 0 = λ h. absurd cc in
          record {
            more = p.more;
            missing = p.missing;
            name = record { rooted = false; parents = ups bytes; segments = p.segments };
            spells = record {
              is_name = record { are_segments = p.are_segments; few_segments = p.few; few_parents = omega arith; no_parents = never };
              path = drop (ups bytes) bytes ++ p.more;
              spells_path = p.spells;
              whole = ap (λ (b : List ℕ). b ++ p.more) all ∙ append_assoc (replicate (ups bytes) 94) (drop (ups bytes) bytes) p.more;
            };
          }
    ]

pub name_cut : (bytes : List ℕ) → name_at bytes ≡ Err Cut → IsCutName bytes
unfolding name_at
name_cut [] e = record {
  more = 0 ∷ [];
  missing = omega arith;
  name = record { rooted = false; parents = 0; segments = [] };
  spells = record {
    is_name = record { are_segments = refl; few_segments = omega arith; few_parents = omega arith; no_parents = λ h. refl };
    path = 0 ∷ [];
    spells_path = inl (refl, refl);
    whole = refl;
  };
}
name_cut (b ∷ bytes) e =
    elim (chosen (eqb b 92) _ _ (failed Cut) e) [
      | inl t ↦
          let p = path_cut bytes (bind_done (path_at bytes) (λ p. (record { rooted = true; parents = 0; segments = p.0 }, p.1)) Cut t.1) in
          record {
            more = p.more;
            missing = p.missing;
            name = record { rooted = true; parents = 0; segments = p.segments };
            spells = record {
              is_name = record { are_segments = p.are_segments; few_segments = p.few; few_parents = omega arith; no_parents = λ h. refl };
              path = bytes ++ p.more;
              spells_path = p.spells;
              whole = rw (eqb-true b 92 t.0) refl;
            };
          }
      | inr f ↦ relative_cut (b ∷ bytes) f.1
    ]

-- ---- 2F 00

segment_no_zero : (bytes : List ℕ) → segment_at bytes ≡ Err ZeroCount → ⊥
unfolding segment_at
segment_no_zero bytes e =
    elim (chosen (is_segment_front bytes) _ _ (failed ZeroCount) e) [
      | inl t ↦ elim (chosen (ltb (length bytes) 4) _ _ (failed ZeroCount) t.1) [ inl u ↦ absurd cc | inr u ↦ absurd cc ]
      | inr f ↦ absurd cc
    ]

segments_no_zero : (n : ℕ) (bytes : List ℕ) → segments_at n bytes ≡ Err ZeroCount → ⊥
unfolding segments_at
segments_no_zero zero bytes e = absurd cc
segments_no_zero (suc n) bytes e =
    elim (bind_err (segment_at bytes) (λ s. segments_at n s.1 >>= λ ss. Ok (s.0 ∷ ss.0, ss.1)) ZeroCount e) [
      | inl f ↦ segment_no_zero bytes f
      | inr t ↦ segments_no_zero n t.0.1 (bind_done (segments_at n t.0.1) (λ ss. (t.0.0 ∷ ss.0, ss.1)) ZeroCount t.2)
    ]

counted_zero : (bytes : List ℕ) → counted_at bytes ≡ Err ZeroCount → (rest : List ℕ) × (bytes ≡ 0 ∷ rest)
unfolding counted_at
counted_zero [] e = absurd cc
counted_zero (n ∷ bytes) e =
    elim (chosen (eqb n 0) _ _ (failed ZeroCount) e) [
      | inl t ↦ (bytes, ap (λ k. k ∷ bytes) (eqb-true n 0 t.0))
      | inr f ↦ elim (chosen (ltb 255 n) _ _ (failed ZeroCount) f.1) [ inl t ↦ absurd cc | inr g ↦ absurd (segments_no_zero n bytes g.1) ]
    ]

path_zero : (bytes : List ℕ) → path_at bytes ≡ Err ZeroCount → (rest : List ℕ) × (bytes ≡ 47 ∷ 0 ∷ rest)
unfolding path_at
path_zero [] e = absurd cc
path_zero (b ∷ bytes) e =
    elim (chosen (eqb b 0) _ _ (failed ZeroCount) e) [
      | inl t ↦ absurd cc
      | inr f ↦
          elim (chosen (eqb b 46) _ _ (failed ZeroCount) f.1) [
            | inl t ↦ absurd (segments_no_zero 2 bytes t.1)
            | inr g ↦
                elim (chosen (eqb b 47) _ _ (failed ZeroCount) g.1) [
                  | inl t ↦ let z = counted_zero bytes t.1 in (z.0, rw (eqb-true b 47 t.0) (ap (λ (r : List ℕ). 47 ∷ r) z.1))
                  | inr h ↦ absurd (segments_no_zero 1 (b ∷ bytes) h.1)
                ]
          ]
    ]

relative_zero : (bytes : List ℕ) → relative_at bytes ≡ Err ZeroCount → HasZeroCount bytes
unfolding relative_at
relative_zero bytes e =
    elim (chosen (ltb 255 (ups bytes)) _ _ (failed ZeroCount) e) [
      | inl t ↦ absurd cc
      | inr f ↦
          let p = path_zero (drop (ups bytes) bytes) (bind_done (path_at (drop (ups bytes) bytes)) (λ p. (record { rooted = false; parents = ups bytes; segments = p.0 }, p.1)) ZeroCount f.1) in
          let few : ups bytes ≤ 255 = ltb-false _ _ f.0 in
          record { rooted = false; parents = ups bytes; few_parents = omega arith; rest = p.0; whole = all_ups bytes ∙ ap (λ (r : List ℕ). replicate (ups bytes) 94 ++ r) p.1 }
    ]

pub name_zero : (bytes : List ℕ) → name_at bytes ≡ Err ZeroCount → HasZeroCount bytes
unfolding name_at
name_zero [] e = absurd cc
name_zero (b ∷ bytes) e =
    elim (chosen (eqb b 92) _ _ (failed ZeroCount) e) [
      | inl t ↦
          let p = path_zero bytes (bind_done (path_at bytes) (λ p. (record { rooted = true; parents = 0; segments = p.0 }, p.1)) ZeroCount t.1) in
          record { rooted = true; parents = 0; few_parents = omega arith; rest = p.0; whole = rw (eqb-true b 92 t.0) (ap (λ (r : List ℕ). 92 ∷ r) p.1) }
      | inr f ↦ relative_zero (b ∷ bytes) f.1
    ]

zero_of : (rooted : Bool) (parents : ℕ) (rest : List ℕ) → parents < 256 → name_at (prefix_of rooted parents ++ (47 ∷ 0 ∷ rest)) ≡ Err ZeroCount
unfolding name_at path_at counted_at
zero_of true parents rest few = refl
zero_of false parents rest few = relative_of parents 47 (0 ∷ rest) few refl refl

pub zero_name : (bytes : List ℕ) → HasZeroCount bytes → name_at bytes ≡ Err ZeroCount
zero_name bytes h = rw h.whole (zero_of h.rooted h.parents h.rest h.few_parents)

-- ---- 256 bytes 5E

segment_no_ups : (bytes : List ℕ) → segment_at bytes ≡ Err TooManyUps → ⊥
unfolding segment_at
segment_no_ups bytes e =
    elim (chosen (is_segment_front bytes) _ _ (failed TooManyUps) e) [
      | inl t ↦ elim (chosen (ltb (length bytes) 4) _ _ (failed TooManyUps) t.1) [ inl u ↦ absurd cc | inr u ↦ absurd cc ]
      | inr f ↦ absurd cc
    ]

segments_no_ups : (n : ℕ) (bytes : List ℕ) → segments_at n bytes ≡ Err TooManyUps → ⊥
unfolding segments_at
segments_no_ups zero bytes e = absurd cc
segments_no_ups (suc n) bytes e =
    elim (bind_err (segment_at bytes) (λ s. segments_at n s.1 >>= λ ss. Ok (s.0 ∷ ss.0, ss.1)) TooManyUps e) [
      | inl f ↦ segment_no_ups bytes f
      | inr t ↦ segments_no_ups n t.0.1 (bind_done (segments_at n t.0.1) (λ ss. (t.0.0 ∷ ss.0, ss.1)) TooManyUps t.2)
    ]

path_no_ups : (bytes : List ℕ) → path_at bytes ≡ Err TooManyUps → ⊥
unfolding path_at counted_at
path_no_ups [] e = absurd cc
path_no_ups (b ∷ bytes) e =
    elim (chosen (eqb b 0) _ _ (failed TooManyUps) e) [
      | inl t ↦ absurd cc
      | inr f ↦
          elim (chosen (eqb b 46) _ _ (failed TooManyUps) f.1) [
            | inl t ↦ segments_no_ups 2 bytes t.1
            | inr g ↦ elim (chosen (eqb b 47) _ _ (failed TooManyUps) g.1) [ inl t ↦ counted_no_ups bytes t.1 | inr h ↦ segments_no_ups 1 (b ∷ bytes) h.1 ]
          ]
    ]
  where
    counted_no_ups : (bytes : List ℕ) → counted_at bytes ≡ Err TooManyUps → ⊥
    counted_no_ups [] e = absurd cc
    counted_no_ups (n ∷ bytes) e =
        elim (chosen (eqb n 0) _ _ (failed TooManyUps) e) [
          | inl t ↦ absurd cc
          | inr f ↦ elim (chosen (ltb 255 n) _ _ (failed TooManyUps) f.1) [ inl t ↦ absurd cc | inr g ↦ segments_no_ups n bytes g.1 ]
        ]

relative_many : (bytes : List ℕ) → relative_at bytes ≡ Err TooManyUps → HasTooManyUps bytes
unfolding relative_at
relative_many bytes e =
    elim (chosen (ltb 255 (ups bytes)) _ _ (failed TooManyUps) e) [
      | inl t ↦
          let many : 255 < ups bytes = ltb-true _ _ t.0 in
          let is : ups bytes ≡ 256 + (ups bytes - 256) = omega arith in
          let split : replicate (ups bytes) 94 ≡ replicate 256 94 ++ replicate (ups bytes - 256) 94 = ap (λ k. replicate k 94) is ∙ sym (replicate-append-replicate 256 (ups bytes - 256) 94) in
          record {
            rest = replicate (ups bytes - 256) 94 ++ drop (ups bytes) bytes;
            whole = all_ups bytes ∙ ap (λ (r : List ℕ). r ++ drop (ups bytes) bytes) split ∙ append_assoc (replicate 256 94) (replicate (ups bytes - 256) 94) (drop (ups bytes) bytes);
          }
      | inr f ↦ absurd (path_no_ups (drop (ups bytes) bytes) (bind_done (path_at (drop (ups bytes) bytes))
          (λ p. (record { rooted = false; parents = ups bytes; segments = p.0 }, p.1)) TooManyUps f.1))
    ]

pub name_many : (bytes : List ℕ) → name_at bytes ≡ Err TooManyUps → HasTooManyUps bytes
unfolding name_at
name_many [] e = absurd cc
name_many (b ∷ bytes) e =
    elim (chosen (eqb b 92) _ _ (failed TooManyUps) e) [
      | inl t ↦ absurd (path_no_ups bytes (bind_done (path_at bytes) (λ p. (record { rooted = true; parents = 0; segments = p.0 }, p.1)) TooManyUps t.1))
      | inr f ↦ relative_many (b ∷ bytes) f.1
    ]

ups_least : (n : ℕ) (rest : List ℕ) → n ≤ prefix_len (λ x. eqb x 94) (replicate n 94 ++ rest)
ups_least zero rest = omega arith
ups_least (suc n) rest = let more = ups_least n rest in omega arith

many_of : (n : ℕ) (rest : List ℕ) → 255 < n → name_at (replicate n 94 ++ rest) ≡ Err TooManyUps
unfolding name_at relative_at
many_of zero rest lt = absurd (omega arith)
many_of (suc n) rest lt =
    let count : ups (replicate (suc n) 94 ++ rest) ≡ prefix_len (λ x. eqb x 94) (replicate (suc n) 94 ++ rest) = length-prefix_len (λ x. eqb x 94) (replicate (suc n) 94 ++ rest) in
    let least : suc n ≤ ups (replicate (suc n) 94 ++ rest) = rw count (ups_least (suc n) rest) in
    let many : ltb 255 (ups (replicate (suc n) 94 ++ rest)) ≡ true = lt-ltb _ _ (omega arith) in
    rw many refl

pub many_name : (bytes : List ℕ) → HasTooManyUps bytes → name_at bytes ≡ Err TooManyUps
many_name bytes h = rw h.whole (many_of 256 h.rest (omega arith))

-- ---- a fault that is no cut stays, whatever follows

-- a front that no segment begins with stays one, whatever follows
pub front_stays : (bytes more : List ℕ) → is_segment_front bytes ≡ false → is_segment_front (bytes ++ more) ≡ false
front_stays [] more h = absurd cc
front_stays (a ∷ []) [] h = h
front_stays (a ∷ []) (x ∷ []) h = rw h refl
front_stays (a ∷ []) (x ∷ y ∷ []) h = rw h refl
front_stays (a ∷ []) (x ∷ y ∷ z ∷ more) h = rw h refl
front_stays (a ∷ b ∷ []) [] h = h
front_stays (a ∷ b ∷ []) (x ∷ []) h = rw h refl
front_stays (a ∷ b ∷ []) (x ∷ y ∷ more) h = rw h refl
front_stays (a ∷ b ∷ c ∷ []) [] h = h
front_stays (a ∷ b ∷ c ∷ []) (x ∷ more) h = rw h refl
front_stays (a ∷ b ∷ c ∷ d ∷ rest) more h = h

segment_stays : (bytes more : List ℕ) (f : NameFault) → segment_at bytes ≡ Err f → (f ≡ Cut → ⊥) → segment_at (bytes ++ more) ≡ Err f
unfolding segment_at
segment_stays bytes more f e other =
    elim (chosen (is_segment_front bytes) _ _ (failed f) e) [
      | inl t ↦ elim (chosen (ltb (length bytes) 4) _ _ (failed f) t.1) [ inl u ↦ absurd (other (sym (fault_is {A = Segment × List ℕ} Cut f u.1))) | inr u ↦ absurd cc ]
      | inr u ↦ rw (front_stays bytes more u.0) u.1
    ]

segment_more : (bytes more : List ℕ) (x : Segment × List ℕ) → segment_at bytes ≡ Ok x → segment_at (bytes ++ more) ≡ Ok (x.0, x.1 ++ more)
segment_more bytes more x e =
    let s = segment_took bytes x e in
    rw (s.1, append_assoc x.0 x.1 more) (segment_again x.0 (x.1 ++ more) s.0)

segments_stay : (n : ℕ) (bytes more : List ℕ) (f : NameFault) → segments_at n bytes ≡ Err f → (f ≡ Cut → ⊥) → segments_at n (bytes ++ more) ≡ Err f
unfolding segments_at
segments_stay zero bytes more f e other = absurd cc
segments_stay (suc n) bytes more f e other =
    elim (bind_err (segment_at bytes) (λ s. segments_at n s.1 >>= λ ss. Ok (s.0 ∷ ss.0, ss.1)) f e) [
      | inl t ↦ rw (segment_stays bytes more f t other) refl
      | inr t ↦
          let rest = segments_stay n t.0.1 more f (bind_done (segments_at n t.0.1) (λ ss. (t.0.0 ∷ ss.0, ss.1)) f t.2) other in
          rw (segment_more bytes more t.0 t.1, rest) refl
    ]

counted_stays : (bytes more : List ℕ) (f : NameFault) → counted_at bytes ≡ Err f → (f ≡ Cut → ⊥) → counted_at (bytes ++ more) ≡ Err f
unfolding counted_at
counted_stays [] more f e other = absurd (other (sym (fault_is {A = List Segment × List ℕ} Cut f e)))
counted_stays (n ∷ bytes) more f e other =
    elim (chosen (eqb n 0) _ _ (failed f) e) [
      | inl t ↦ rw t.0 t.1
      | inr t ↦ elim (chosen (ltb 255 n) _ _ (failed f) t.1) [ inl u ↦ rw (t.0, u.0) u.1 | inr u ↦ rw (t.0, u.0) (segments_stay n bytes more f u.1 other) ]
    ]

path_stays : (bytes more : List ℕ) (f : NameFault) → path_at bytes ≡ Err f → (f ≡ Cut → ⊥) → path_at (bytes ++ more) ≡ Err f
unfolding path_at
path_stays [] more f e other = absurd (other (sym (fault_is {A = List Segment × List ℕ} Cut f e)))
path_stays (b ∷ bytes) more f e other =
    elim (chosen (eqb b 0) _ _ (failed f) e) [
      | inl t ↦ absurd cc
      | inr t ↦
          elim (chosen (eqb b 46) _ _ (failed f) t.1) [
            | inl u ↦ rw (t.0, u.0) (segments_stay 2 bytes more f u.1 other)
            | inr u ↦
                elim (chosen (eqb b 47) _ _ (failed f) u.1) [
                  | inl v ↦ rw (t.0, u.0, v.0) (counted_stays bytes more f v.1 other)
                  | inr v ↦ rw (t.0, u.0, v.0) (segments_stay 1 (b ∷ bytes) more f v.1 other)
                ]
          ]
    ]

-- what stands behind the bytes 5E begins with another byte
ups_end : (bytes : List ℕ) (b : ℕ) (rest : List ℕ) → drop (prefix_len (λ x. eqb x 94) bytes) bytes ≡ b ∷ rest → eqb b 94 ≡ false
ups_end [] b rest e = absurd cc
ups_end (a ∷ bytes) b rest e = by_test (ups_end bytes b rest) (eqb a 94) refl e
  where
    by_test : (drop (prefix_len (λ x. eqb x 94) bytes) bytes ≡ b ∷ rest → eqb b 94 ≡ false) → (t : Bool) → eqb a 94 ≡ t
        → drop (cond t (1 + prefix_len (λ x. eqb x 94) bytes) 0) (a ∷ bytes) ≡ b ∷ rest → eqb b 94 ≡ false
    by_test more true e f = let one : 1 + prefix_len (λ x. eqb x 94) bytes ≡ suc (prefix_len (λ x. eqb x 94) bytes) = omega arith in more (sym (ap (λ k. drop k (a ∷ bytes)) one) ∙ f)
    by_test more false e f = let is : a ≡ b = cc in rw (← is) e

ups_of-more : (bytes more : List ℕ) → prefix_len (λ x. eqb x 94) bytes ≤ prefix_len (λ x. eqb x 94) (bytes ++ more)
ups_of-more [] more = omega arith
ups_of-more (b ∷ bytes) more = by_test (ups_of-more bytes more) (eqb b 94)
  where
    by_test : (prefix_len (λ x. eqb x 94) bytes ≤ prefix_len (λ x. eqb x 94) (bytes ++ more)) → (t : Bool)
        → cond t (1 + prefix_len (λ x. eqb x 94) bytes) 0 ≤ cond t (1 + prefix_len (λ x. eqb x 94) (bytes ++ more)) 0
    by_test le true = omega arith
    by_test le false = omega arith

relative_stays : (bytes more : List ℕ) (f : NameFault) → relative_at bytes ≡ Err f → (f ≡ Cut → ⊥) → relative_at (bytes ++ more) ≡ Err f
unfolding relative_at path_at
relative_stays bytes more f e other =
    elim (chosen (ltb 255 (ups bytes)) _ _ (failed f) e) [
      | inl t ↦
          let n : ups bytes ≡ prefix_len (λ x. eqb x 94) bytes = length-prefix_len (λ x. eqb x 94) bytes in
          let m : ups (bytes ++ more) ≡ prefix_len (λ x. eqb x 94) (bytes ++ more) = length-prefix_len (λ x. eqb x 94) (bytes ++ more) in
          let lt : 255 < ups bytes = ltb-true _ _ t.0 in
          let le = ups_of-more bytes more in
          let many : ltb 255 (ups (bytes ++ more)) ≡ true = lt-ltb _ _ (omega arith) in
          rw many t.1
      | inr t ↦ by_rest (drop (ups bytes) bytes) refl (ltb-false _ _ t.0)
          (bind_done (path_at (drop (ups bytes) bytes)) (λ p. (record { rooted = false; parents = ups bytes; segments = p.0 }, p.1)) f t.1)
    ]
  where
    by_rest : (rest : List ℕ) → drop (ups bytes) bytes ≡ rest → ups bytes ≤ 255 → path_at (drop (ups bytes) bytes) ≡ Err f → relative_at (bytes ++ more) ≡ Err f
    by_rest [] is few p = let none : path_at [] ≡ Err f = sym (ap path_at is) ∙ p in absurd (other (sym (fault_is {A = List Segment × List ℕ} Cut f none)))
    by_rest (b ∷ rest) is few p =
        let n : ups bytes ≡ prefix_len (λ x. eqb x 94) bytes = length-prefix_len (λ x. eqb x 94) bytes in
        let not_up : eqb b 94 ≡ false = ups_end bytes b rest (ap (λ k. drop k bytes) (sym n) ∙ is) in
        let whole : bytes ++ more ≡ replicate (ups bytes) 94 ++ b ∷ (rest ++ more) =
        ap (λ (l : List ℕ). l ++ more) (all_ups bytes ∙ ap (λ (l : List ℕ). replicate (ups bytes) 94 ++ l) is) ∙ append_assoc (replicate (ups bytes) 94) (b ∷ rest) more in
        let told : path_at (b ∷ (rest ++ more)) ≡ Err f = path_stays (b ∷ rest) more f (sym (ap path_at is) ∙ p) other in
        rw whole (relative_path (ups bytes) b (rest ++ more) (omega arith) not_up ∙ rw told refl)

pub name_stays : (bytes more : List ℕ) (f : NameFault) → name_at bytes ≡ Err f → (f ≡ Cut → ⊥) → name_at (bytes ++ more) ≡ Err f
unfolding name_at
name_stays [] more f e other = absurd (other (sym (fault_is {A = NameParts × List ℕ} Cut f e)))
name_stays (b ∷ bytes) more f e other =
    elim (chosen (eqb b 92) _ _ (failed f) e) [
      | inl t ↦ rw (t.0, path_stays bytes more f (bind_done (path_at bytes) (λ p. (record { rooted = true; parents = 0; segments = p.0 }, p.1)) f t.1) other) refl
      | inr t ↦ rw t.0 (relative_stays (b ∷ bytes) more f t.1 other)
    ]

-- the front of a name's spelling, cut before its end, is no name
pub cut_name : (bytes : List ℕ) → IsCutName bytes → name_at bytes ≡ Err Cut
cut_name bytes h = by_reading (name_at bytes) refl
  where
    whole : name_at (bytes ++ h.more) ≡ Ok (h.name, [])
    whole = ap name_at (sym (append-nil (bytes ++ h.more))) ∙ name_again h.name (bytes ++ h.more) [] h.spells

    never : (f : NameFault) → (f ≡ Cut → ⊥) → name_at bytes ≡ Err f → ⊥
    never f other e = ok_no_err (h.name, []) f (sym whole ∙ name_stays bytes h.more f e other)

    by_reading : (r : Result (NameParts × List ℕ) NameFault) → name_at bytes ≡ r → r ≡ Err Cut
    by_reading (Err Cut) e = refl
    by_reading (Err BadChar) e = absurd (never BadChar (λ d. cc) e)
    by_reading (Err ZeroCount) e = absurd (never ZeroCount (λ d. cc) e)
    by_reading (Err TooManyUps) e = absurd (never TooManyUps (λ d. cc) e)
    by_reading (Ok x) e =
        let t = name_took bytes x e in
        let longer : bytes ++ h.more ≡ t.front ++ (x.1 ++ h.more) = ap (λ (l : List ℕ). l ++ h.more) t.whole ∙ append_assoc t.front x.1 h.more in
        let again : name_at (bytes ++ h.more) ≡ Ok (x.0, x.1 ++ h.more) = ap name_at longer ∙ name_again x.0 t.front (x.1 ++ h.more) t.spells in
        let same = ok_is (x.0, x.1 ++ h.more) (h.name, []) (sym again ∙ whole) in
        let none : x.1 ++ h.more ≡ [] = ap (λ (p : NameParts × List ℕ). p.1) same in
        let length_is : length (x.1 ++ h.more) ≡ 0 = ap length none in
        absurd (omega (arith, length_is, length-append x.1 h.more, h.missing))
