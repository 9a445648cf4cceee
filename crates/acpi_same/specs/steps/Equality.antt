-- Whether two entries are the same, as tests, which decide equality.
use Rattle.std.proofs.Common.{◌≡◌, Bool, true, false, ◌&&◌, Option, Some, None, refl, ap, nat_eq}
use Rattle.std.proofs.lemmas.Bool.{eqb-true}
use Rattle.std.specs.Bool.{beq, Decides}
use Rattle.std.specs.Cmp.Lexicographic.{pointwise}
use Rattle.std.specs.Ordering.{eq_by_cmp}
use Rattle.acpi_name.specs.NameEqual.{name_eq}
use Rattle.acpi_name.specs.Paths.{path_cmp}
use Rattle.acpi_name.proofs.EqualPaths.{path_eq_Decides}
use Rattle.acpi_name.proofs.NameAgain.{and_true}
use Rattle.acpi_tree.specs.Terms.{TermTree, TermTrees, pkg}
use Rattle.acpi_tree.specs.steps.Equality.{Tells, both, never, bytes_eq, bytes_tell, lists_tell, names_tell, numbers_tell, object_eq, object_tells, width_eq, widths_tell}
use Rattle.acpi_tree.specs.steps.TermEquality.{term_eq, terms_eq, term_tells}
use Rattle.acpi_kinds.specs.Objects.{ObjectParts, constant, named, region, table_region, alias, bank_unit, create, create_bits}
use Rattle.acpi_conditions.specs.Entries.{Path}
use Rattle.acpi_entries.specs.Condition.{LiteralParts, if_taken, if_missed, while_taken, stop_missed, has, free, needs}
use Rattle.acpi_entries.specs.EntryLinks.{LinkParts}
use Rattle.acpi_same.specs.Same.{BodyParts, statements, unread, EntryParts}

-- ---- tests

abbrev pub option_eq : {X : Type 0} → (X → X → Bool) → Option X → Option X → Bool
option_eq E None None = true
option_eq E (Some x) (Some y) = E x y
option_eq E _ _ = false

abbrev pub path_eq : Path → Path → Bool
path_eq = eq_by_cmp path_cmp

abbrev pub parts_eq : ObjectParts → ObjectParts → Bool
parts_eq (constant o) (constant p) = object_eq o p
parts_eq (named v) (named w) = option_eq term_eq v w
parts_eq (region s o l) (region t p m) = nat_eq s t && (term_eq o p && term_eq l m)
parts_eq (table_region s o u) (table_region t p v) = term_eq s t && (term_eq o p && term_eq u v)
parts_eq alias alias = true
parts_eq (bank_unit v f o b) (bank_unit w g p c) =
    term_eq v w && ((nat_eq f g && nat_eq o p) && nat_eq b c)
parts_eq (create w s i) (create x t j) = width_eq w x && (option_eq term_eq s t && term_eq i j)
parts_eq (create_bits s i b) (create_bits t j c) =
    option_eq term_eq s t && (term_eq i j && term_eq b c)
parts_eq _ _ = false

abbrev pub literal_eq : LiteralParts → LiteralParts → Bool
literal_eq (if_taken t) (if_taken u) = option_eq term_eq t u
literal_eq (if_missed t) (if_missed u) = option_eq term_eq t u
literal_eq (while_taken t) (while_taken u) = option_eq term_eq t u
literal_eq stop_missed stop_missed = true
literal_eq (has p) (has q) = path_eq p q
literal_eq (free p) (free q) = path_eq p q
literal_eq (needs m) (needs n) = name_eq m n
literal_eq _ _ = false

abbrev pub link_eq : LinkParts → LinkParts → Bool
link_eq l m = name_eq l.name m.name
    && (pointwise path_eq l.paths m.paths && beq l.is_certain m.is_certain)

abbrev pub body_eq : BodyParts → BodyParts → Bool
body_eq (statements ts) (statements us) = terms_eq ts us
body_eq (unread s) (unread t) = bytes_eq s t
body_eq _ _ = false

abbrev pub entry_eq : EntryParts → EntryParts → Bool
entry_eq d e = path_eq d.path e.path && (parts_eq d.object e.object
    && (pointwise link_eq d.links e.links
    && (pointwise literal_eq d.condition e.condition && option_eq body_eq d.body e.body)))

-- ---- they decide equality

from_decides : {X : Type 0} {E : X → X → Bool} → ((x y : X) → Decides (E x y) (x ≡ y)) → Tells E
from_decides d = record { is = λ x y h. (d x y).0 h; same = λ x. (d x x).1 refl }

pub options_tell : {X : Type 0} {E : X → X → Bool} → Tells E → Tells (option_eq E)
options_tell {X = X} {E = E} t = record { is = is; same = same }
  where
    is : (o p : Option X) → option_eq E o p ≡ true → o ≡ p
    is None None h = refl
    is (Some x) (Some y) h = ap Some (t.is x y h)
    is o p h = never h

    same : (o : Option X) → option_eq E o o ≡ true
    same None = refl
    same (Some x) = t.same x

pub paths_tell : Tells path_eq
paths_tell = from_decides path_eq_Decides

bools_is : (a b : Bool) → beq a b ≡ true → a ≡ b
bools_is true true h = refl
bools_is false false h = refl
bools_is a b h = never h

bools_same : (a : Bool) → beq a a ≡ true
bools_same true = refl
bools_same false = refl

terms_is : (ts us : TermTrees) → terms_eq ts us ≡ true → ts ≡ us
terms_is ts us h = ap elements (term_tells.is (pkg 0 ts) (pkg 0 us) h)
  where
    elements : TermTree → TermTrees
    elements (pkg n vs) = vs
    elements _ = ts

terms_tell : Tells terms_eq
terms_tell = record { is = terms_is; same = λ ts. term_tells.same (pkg 0 ts) }

tests_tell : Tells (option_eq term_eq)
tests_tell = options_tell term_tells

parts_is : (o p : ObjectParts) → parts_eq o p ≡ true → o ≡ p
parts_is (constant o) (constant p) h = ap constant (object_tells.is o p h)
parts_is (named v) (named w) h = ap named (tests_tell.is v w h)
parts_is (region s o l) (region t p m) h =
    let a = and_true (nat_eq s t) (term_eq o p && term_eq l m) h in
    let b = and_true (term_eq o p) (term_eq l m) a.1 in
    let e = eqb-true s t a.0 in
    let f = term_tells.is o p b.0 in
    let g = term_tells.is l m b.1 in
    λ x. region (e x) (f x) (g x)
parts_is (table_region s o u) (table_region t p v) h =
    let a = and_true (term_eq s t) (term_eq o p && term_eq u v) h in
    let b = and_true (term_eq o p) (term_eq u v) a.1 in
    let e = term_tells.is s t a.0 in
    let f = term_tells.is o p b.0 in
    let g = term_tells.is u v b.1 in
    λ x. table_region (e x) (f x) (g x)
parts_is alias alias h = refl
parts_is (bank_unit v f o b) (bank_unit w g p c) h =
    let i = and_true (term_eq v w) ((nat_eq f g && nat_eq o p) && nat_eq b c) h in
    let j = and_true (nat_eq f g && nat_eq o p) (nat_eq b c) i.1 in
    let k = and_true (nat_eq f g) (nat_eq o p) j.0 in
    let r = term_tells.is v w i.0 in
    let s = eqb-true f g k.0 in
    let t = eqb-true o p k.1 in
    let u = eqb-true b c j.1 in
    λ x. bank_unit (r x) (s x) (t x) (u x)
parts_is (create w s i) (create x t j) h =
    let a = and_true (width_eq w x) (option_eq term_eq s t && term_eq i j) h in
    let b = and_true (option_eq term_eq s t) (term_eq i j) a.1 in
    let e = widths_tell.is w x a.0 in
    let f = tests_tell.is s t b.0 in
    let g = term_tells.is i j b.1 in
    λ y. create (e y) (f y) (g y)
parts_is (create_bits s i b) (create_bits t j c) h =
    let a = and_true (option_eq term_eq s t) (term_eq i j && term_eq b c) h in
    let d = and_true (term_eq i j) (term_eq b c) a.1 in
    let e = tests_tell.is s t a.0 in
    let f = term_tells.is i j d.0 in
    let g = term_tells.is b c d.1 in
    λ x. create_bits (e x) (f x) (g x)
parts_is o p h = never h

parts_same : (o : ObjectParts) → parts_eq o o ≡ true
parts_same (constant o) = object_tells.same o
parts_same (named v) = tests_tell.same v
parts_same (region s o l) =
    both (numbers_tell.same s) (both (term_tells.same o) (term_tells.same l))
parts_same (table_region s o u) =
    both (term_tells.same s) (both (term_tells.same o) (term_tells.same u))
parts_same alias = refl
parts_same (bank_unit v f o b) = both (term_tells.same v)
    (both (both (numbers_tell.same f) (numbers_tell.same o)) (numbers_tell.same b))
parts_same (create w s i) =
    both (widths_tell.same w) (both (tests_tell.same s) (term_tells.same i))
parts_same (create_bits s i b) =
    both (tests_tell.same s) (both (term_tells.same i) (term_tells.same b))

literal_is : (l m : LiteralParts) → literal_eq l m ≡ true → l ≡ m
literal_is (if_taken t) (if_taken u) h = ap if_taken (tests_tell.is t u h)
literal_is (if_missed t) (if_missed u) h = ap if_missed (tests_tell.is t u h)
literal_is (while_taken t) (while_taken u) h = ap while_taken (tests_tell.is t u h)
literal_is stop_missed stop_missed h = refl
literal_is (has p) (has q) h = ap has (paths_tell.is p q h)
literal_is (free p) (free q) h = ap free (paths_tell.is p q h)
literal_is (needs m) (needs n) h = ap needs (names_tell.is m n h)
literal_is l m h = never h

literal_same : (l : LiteralParts) → literal_eq l l ≡ true
literal_same (if_taken t) = tests_tell.same t
literal_same (if_missed t) = tests_tell.same t
literal_same (while_taken t) = tests_tell.same t
literal_same stop_missed = refl
literal_same (has p) = paths_tell.same p
literal_same (free p) = paths_tell.same p
literal_same (needs n) = names_tell.same n

literals_tell : Tells (pointwise literal_eq)
literals_tell = lists_tell (record { is = literal_is; same = literal_same })

link_is : (l m : LinkParts) → link_eq l m ≡ true → l ≡ m
link_is l m h =
    let a = and_true (name_eq l.name m.name) (pointwise path_eq l.paths m.paths && beq l.is_certain m.is_certain) h in
    let b = and_true (pointwise path_eq l.paths m.paths) (beq l.is_certain m.is_certain) a.1 in
    let e = names_tell.is l.name m.name a.0 in
    let f = (lists_tell paths_tell).is l.paths m.paths b.0 in
    let g = bools_is l.is_certain m.is_certain b.1 in
    λ x. record { name = e x; paths = f x; is_certain = g x }

link_same : (l : LinkParts) → link_eq l l ≡ true
link_same l = both (names_tell.same l.name)
    (both ((lists_tell paths_tell).same l.paths) (bools_same l.is_certain))

links_tell : Tells (pointwise link_eq)
links_tell = lists_tell (record { is = link_is; same = link_same })

body_is : (b c : BodyParts) → body_eq b c ≡ true → b ≡ c
body_is (statements ts) (statements us) h = ap statements (terms_is ts us h)
body_is (unread s) (unread t) h = ap unread (bytes_tell.is s t h)
body_is b c h = never h

body_same : (b : BodyParts) → body_eq b b ≡ true
body_same (statements ts) = terms_tell.same ts
body_same (unread s) = bytes_tell.same s

bodies_tell : Tells (option_eq body_eq)
bodies_tell = options_tell (record { is = body_is; same = body_same })

entry_is : (d e : EntryParts) → entry_eq d e ≡ true → d ≡ e
entry_is d e h =
    let a = and_true (path_eq d.path e.path) (parts_eq d.object e.object
    && (pointwise link_eq d.links e.links && (pointwise literal_eq d.condition e.condition && option_eq body_eq d.body e.body))) h in
    let b = and_true (parts_eq d.object e.object)
    (pointwise link_eq d.links e.links && (pointwise literal_eq d.condition e.condition && option_eq body_eq d.body e.body)) a.1 in
    let c = and_true (pointwise link_eq d.links e.links)
    (pointwise literal_eq d.condition e.condition && option_eq body_eq d.body e.body) b.1 in
    let f = and_true (pointwise literal_eq d.condition e.condition) (option_eq body_eq d.body e.body) c.1 in
    let p = paths_tell.is d.path e.path a.0 in
    let q = parts_is d.object e.object b.0 in
    let r = links_tell.is d.links e.links c.0 in
    let s = literals_tell.is d.condition e.condition f.0 in
    let t = bodies_tell.is d.body e.body f.1 in
    λ x. record { path = p x; object = q x; links = r x; condition = s x; body = t x }

entry_same : (e : EntryParts) → entry_eq e e ≡ true
entry_same e = both (paths_tell.same e.path) (both (parts_same e.object)
    (both (links_tell.same e.links) (both (literals_tell.same e.condition) (bodies_tell.same e.body))))

pub entry_tells : Tells entry_eq
entry_tells = record { is = entry_is; same = entry_same }

pub entries_tell : Tells (pointwise entry_eq)
entries_tell = lists_tell entry_tells
