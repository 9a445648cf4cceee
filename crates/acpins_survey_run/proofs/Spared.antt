-- Whether a name is among those of files.
use Rattle.std.proofs.Common.{◌≡◌, ◌≢◌, ◌+◌, ◌<◌, ◌≤◌, ◌∙◌, ℕ, List, map, take, take_all, get_or, length, arith, subst}
use Rattle.std.specs.List.{All, Contains}
use Rattle.std.proofs.lemmas.List.{get_or-map, length-map}
use Rattle.std.proofs.lemmas.List.Elements.{All-map, All-more, Contains-get_or}

module _ {S : Type 0} (text : S → List ℕ) (files : List S) (name : List ℕ) (i : ℕ) where
  pub among : (d : S) → i < length files → text (get_or files i d) ≡ name → Contains (map text files) name
  among d below is =
      let within : i < length (map text files) = omega (arith, below, length-map files text) in
      subst (Contains (map text files)) (get_or-map text files i d (text d) below ∙ is) (Contains-get_or (map text files) i (text d) within)

  pub apart_more : (d : S) → i < length files → All (λ s. text s ≢ name) (take i files) → text (get_or files i d) ≢ name → All (λ s. text s ≢ name) (take (i + 1) files)
  apart_more d below h k = All-more (λ s. text s ≢ name) files i d below h k

  pub apart : length files ≤ i → All (λ s. text s ≢ name) (take i files) → All (λ file. file ≢ name) (map text files)
  apart past h = All-map (λ file. file ≢ name) text files (subst (All (λ s. text s ≢ name)) (take_all i files past) h)
