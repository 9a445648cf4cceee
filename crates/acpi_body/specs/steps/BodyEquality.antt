-- Whether two bodies are equal, as a test, which decides equality and so is an equivalence.
use Rattle.std.proofs.Common.{◌≡◌, true, ap, Bool, false}
use Rattle.acpi_tree.specs.Terms.{TermTrees, pkg}
use Rattle.acpi_tree.specs.steps.Equality.{bytes_eq, Tells, bytes_tell, never}
use Rattle.acpi_tree.specs.steps.TermEquality.{terms_eq, term_tells}
use Rattle.acpi_body.specs.Bodies.{BodyTree, read, unread}

abbrev pub body_eq : BodyTree → BodyTree → Bool
body_eq (read ts) (read us) = terms_eq ts us
body_eq (unread a) (unread b) = bytes_eq a b
body_eq _ _ = false

packed_is : (ts us : TermTrees) → pkg 0 ts ≡ pkg 0 us → ts ≡ us
packed_is ts us e = cc

body_is : (a b : BodyTree) → body_eq a b ≡ true → a ≡ b
body_is (read ts) (read us) h = ap read (packed_is ts us (term_tells.is (pkg 0 ts) (pkg 0 us) h))
body_is (unread a) (unread b) h = ap unread (bytes_tell.is a b h)
body_is a b h = never h

body_same : (a : BodyTree) → body_eq a a ≡ true
body_same (read ts) = term_tells.same (pkg 0 ts)
body_same (unread a) = bytes_tell.same a

pub body_tells : Tells body_eq
body_tells = record { is = body_is; same = body_same }
