-- Both ends of a reading at once: what was read, or what is said of its fault.
use Rattle.std.proofs.Common.{◌≡◌, ℕ, Bool, true, false, cond, List, ◌++◌, Result, Ok, Err, refl, subst}
use Rattle.acpi_code.specs.steps.Reading.{◌>>=◌, with_fault}

abbrev pub Judge : {A F : Type 0} → (A → Type 0) → (F → Type 0) → Result A F → Type 0
Judge Good Bad (Ok x) = Good x
Judge Good Bad (Err f) = Bad f

pub judge_bind : {A B F : Type 0} (Good : A → Type 0) (Then : B → Type 0) (Bad : F → Type 0) (r : Result A F) (f : A → Result B F) → Judge Good Bad r
    → ((x : A) → Good x → Judge Then Bad (f x)) → Judge Then Bad (r >>= f)
judge_bind Good Then Bad (Ok x) f h k = k x h
judge_bind Good Then Bad (Err d) f h k = h

-- what is said of one holds of the other
pub judge_into : {A F : Type 0} (Good Good2 : A → Type 0) (Bad Bad2 : F → Type 0) (r : Result A F) → ((x : A) → Good x → Good2 x) → ((f : F) → Bad f → Bad2 f) → Judge Good Bad r → Judge Good2 Bad2 r
judge_into Good Good2 Bad Bad2 (Ok x) g b h = g x h
judge_into Good Good2 Bad Bad2 (Err f) g b h = b f h

pub judge_if : {A F : Type 0} (Good : A → Type 0) (Bad : F → Type 0) (b : Bool) (x y : Result A F) → (b ≡ true → Judge Good Bad x) → (b ≡ false → Judge Good Bad y) → Judge Good Bad (cond b x y)
judge_if Good Bad true x y h k = h refl
judge_if Good Bad false x y h k = k refl

-- what is judged of a reading is judged of it with its fault told as one of another kind
pub judge_told : {A F G : Type 0} (Good : A → Type 0) (Bad : F → Type 0) (Bad2 : G → Type 0) (told : F → G) (r : Result A F)
    → ((f : F) → Bad f → Bad2 (told f)) → Judge Good Bad r → Judge Good Bad2 (with_fault told r)
judge_told Good Bad Bad2 told (Ok x) b h = h
judge_told Good Bad Bad2 told (Err f) b h = b f h

-- the same of an equal reading
pub judge_same : {A F : Type 0} (Good : A → Type 0) (Bad : F → Type 0) (r s : Result A F) → r ≡ s → Judge Good Bad r → Judge Good Bad s
judge_same Good Bad r s e h = subst (Judge Good Bad) e h

-- x was read from the front of the bytes
pub record Front {A : Type 0} (Spells : A → List ℕ → Type 0) (bytes : List ℕ) (x : A × List ℕ) : Type 0 where
  pub front : List ℕ
  pub spells : Spells x.0 front
  pub whole : bytes ≡ front ++ x.1
