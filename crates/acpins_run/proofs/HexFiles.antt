-- Files of hexadecimal text, read part by part.
use Rattle.std.proofs.Common.{◌≡◌, ℕ, List, [], ◌++◌, Option, Some, None, sym, subst, ap, ◌∙◌, append_assoc, append-nil}
use Rattle.std.specs.Prelude.{IfSome}
use Rattle.std.specs.Io.KnownBytes.{Consumes, IsAtEnd}
use Rattle.acpins_io.specs.Hexadecimal.{SpellsInHex}
use Rattle.acpins_io.specs.steps.HexDecoding.{SpellsNothing}

-- what holds of the text that was taken holds of all that is known
pub of_whole : (P : List ℕ → Type 0) (a b : Option (List ℕ)) (text : List ℕ) → Consumes a b text → IsAtEnd b → P text → IfSome a P
of_whole P None b text taken end h = tt
of_whole P (Some all) None text taken end h = absurd taken
of_whole P (Some all) (Some rest) text taken end h = subst P (sym (taken ∙ ap (λ l. text ++ l) end ∙ append-nil text)) h

-- nothing is left where a read gives nothing
pub at_end : (b c : Option (List ℕ)) (part : List ℕ) → Consumes b c part → part ≡ [] → IsAtEnd c → IsAtEnd b
at_end None c part taken none end = tt
at_end (Some rest) None part taken none end = absurd taken
at_end (Some rest) (Some behind) part taken none end = taken ∙ ap (λ l. l ++ behind) none ∙ end

-- a part in which a character can stand in no text
none_in : (text part rest all : List ℕ) → all ≡ text ++ (part ++ rest) → SpellsNothing part → (bytes : List ℕ) → SpellsInHex bytes all → ⊥
none_in text part rest all is none bytes h = none text rest bytes (rw (is ∙ sym (append_assoc text part rest)) at h)

pub none_spelled : (a b c : Option (List ℕ)) (text part : List ℕ) → Consumes a b text → Consumes b c part → SpellsNothing part
    → IfSome a (λ content. (bytes : List ℕ) → SpellsInHex bytes content → ⊥)
none_spelled None b c text part taken more none = tt
none_spelled (Some all) None c text part taken more none = absurd taken
none_spelled (Some all) (Some rest) None text part taken more none = absurd more
none_spelled (Some all) (Some rest) (Some behind) text part taken more none = none_in text part behind all (taken ∙ ap (λ l. text ++ l) more) none
