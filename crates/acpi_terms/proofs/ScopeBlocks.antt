-- Items that hold items: what was read of one is its reading, by that of the items inside.
use Rattle.std.proofs.Common.{◌≡◌, ℕ, ◌-◌, ◌<◌, List, [], ◌∷◌, ◌++◌, length, true, Option, None, Some, Result, Ok, Err, refl, ◌∙◌, subst}
use Rattle.acpi_name.specs.Names.{NameParts}
use Rattle.acpi_tree.specs.declared.tree.ScopeKind.{ScopeKind}
use Rattle.acpi_tree.specs.declared.tree.ScopeKind.TheVariants as kinds
use Rattle.acpi_tree.specs.Tree.{ItemTree, ItemTrees, scope}
use Rattle.acpi_code.specs.declared.opcode.Opcode.{Opcode}
use Rattle.acpi_code.specs.declared.opcode.Opcode.TheVariants as opcodes
use Rattle.acpi_code.specs.steps.Reading.{◌>>=◌, Reading, name_in, package_at, opcode_at, each_at}
use Rattle.acpi_terms.specs.declared.scope_block.ScopeBlock.{ScopeBlock}
use Rattle.acpi_terms.specs.declared.fault.ItemFault.{ItemFault}
use Rattle.acpi_code.specs.Forms.{byte_arg, word_arg, dword_arg}
use Rattle.acpi_terms.specs.steps.Cursor.{Fails}
use Rattle.acpi_terms.specs.steps.ScopeBlocks.{opens_items, scope_with, scope_block_item, BeginsWith, ReadsNext}
use Rattle.acpi_terms.specs.steps.Reading.{Fault, part, arguments_at, item_by, items_with, item_at}
use Rattle.acpi_code.specs.steps.Remaining.{Remaining}
use Rattle.acpi_code.proofs.Lists.{Turns, turned, reads_on}
use Rattle.acpi_terms.proofs.Opened.{item_opened, fails_behind}
use Rattle.acpi_terms.proofs.Parts.{fails_on, stopped_there}

on_each : {A B : Type 0} (r : Result A Fault) (f g : A → Result B Fault) → ((x : A) → f x ≡ g x) → (r >>= f) ≡ (r >>= g)
on_each (Ok x) f g same = same x
on_each (Err e) f g same = refl

-- the name and the other arguments, as one list
abbrev listed : {Vs : Type 0} → NameParts → Vs × List ℕ → Reading Fault (NameParts × Vs)
listed name xs = Ok ((name, xs.0), xs.1)

abbrev with_kind : {Vs : Type 0} → (Vs → ScopeKind) → Vs × List ℕ → Reading Fault ScopeKind
with_kind kind xs = Ok (kind xs.0, xs.1)

abbrev named : NameParts → ScopeKind × List ℕ → Reading Fault (ItemTrees → ItemTree)
named name f = Ok (scope f.0 name, f.1)

-- with items inside, and with those bytes behind
abbrev filled : (List ℕ → Result ItemTrees Fault) → List ℕ → (ItemTrees → ItemTree) × List ℕ → Reading Fault ItemTree
filled inner rest f = inner f.1 >>= λ is. Ok (f.0 is, rest)

abbrev filled_by : {Vs : Type 0} → (Vs → ScopeKind) → (List ℕ → Result ItemTrees Fault) → List ℕ → (NameParts × Vs) × List ℕ → Reading Fault ItemTree
filled_by kind inner rest v = inner v.1 >>= λ is. Ok (scope (kind v.0.1) v.0.0 is, rest)

behind_name : {Vs : Type 0} (name : NameParts) (m : Reading Fault Vs) (kind : Vs → ScopeKind) (inner : List ℕ → Result ItemTrees Fault) (rest : List ℕ)
    → ((m >>= listed name) >>= filled_by kind inner rest) ≡ (((m >>= with_kind kind) >>= named name) >>= filled inner rest)
behind_name name (Ok v) kind inner rest = refl
behind_name name (Err e) kind inner rest = refl

in_front : {Vs : Type 0} (n : Reading Fault NameParts) (m : List ℕ → Reading Fault Vs) (kind : Vs → ScopeKind) (inner : List ℕ → Result ItemTrees Fault) (rest : List ℕ)
    → ((n >>= λ x. m x.1 >>= listed x.0) >>= filled_by kind inner rest) ≡ ((n >>= λ x. (m x.1 >>= with_kind kind) >>= named x.0) >>= filled inner rest)
in_front (Ok x) m kind inner rest = behind_name x.0 (m x.1) kind inner rest
in_front (Err e) m kind inner rest = refl

pub as_scope : (inner : ℕ → List ℕ → Result ItemTrees Fault) (level end : ℕ) (whole : List ℕ) (opcode : Opcode) (rest : List ℕ) → opens_items opcode ≡ true
    → item_by inner level end whole opcode rest ≡ scope_block_item inner opcode end rest
as_scope inner level end whole opcodes.Scope rest h = on_each (part (package_at end rest)) _ _
    (λ p. in_front (part (name_in p.end p.content)) (arguments_at 0 [] p.end) (λ _. kinds.Scope) (inner p.end) p.rest)
as_scope inner level end whole opcodes.Device rest h = on_each (part (package_at end rest)) _ _
    (λ p. in_front (part (name_in p.end p.content)) (arguments_at 0 [] p.end) (λ _. kinds.Device) (inner p.end) p.rest)
as_scope inner level end whole opcodes.Processor rest h = on_each (part (package_at end rest)) _ _
    (λ p. in_front (part (name_in p.end p.content)) (arguments_at 0 (byte_arg ∷ dword_arg ∷ byte_arg ∷ []) p.end) (λ v. kinds.Processor v.0 v.1.0 v.1.1.0) (inner p.end) p.rest)
as_scope inner level end whole opcodes.Power rest h = on_each (part (package_at end rest)) _ _
    (λ p. in_front (part (name_in p.end p.content)) (arguments_at 0 (byte_arg ∷ word_arg ∷ []) p.end) (λ v. kinds.Power v.0 v.1.0) (inner p.end) p.rest)
as_scope inner level end whole opcodes.Thermal rest h = on_each (part (package_at end rest)) _ _
    (λ p. in_front (part (name_in p.end p.content)) (arguments_at 0 [] p.end) (λ _. kinds.Thermal) (inner p.end) p.rest)
as_scope inner level end whole _ rest h = absurd cc

-- the reading of an item that holds items is that of its kind, where its opcode was read
pub scope_opened : (level end : ℕ) (bytes : List ℕ) (front : Opcode) (rest : List ℕ) → 0 < level → opcode_at end bytes ≡ Ok (front, rest) → opens_items front ≡ true
    → item_at level end bytes ≡ scope_block_item (items_with (item_at (level - 1))) front end rest
scope_opened level end bytes front rest some opens holds =
    item_opened level end bytes front rest some opens ∙ as_scope (items_with (item_at (level - 1))) (level - 1) end bytes front rest holds

-- ---- one item after another

begun_as : (level : ℕ) (whole : Reading Fault ItemTree) (rest : List ℕ) (h block : ScopeBlock) → h ≡ block
    → BeginsWith (items_with (item_at level) h.inner.end h.inner.bytes) whole h rest → BeginsWith (items_with (item_at level) block.inner.end block.inner.bytes) whole block rest
begun_as level whole rest h block same = subst (λ (x : ScopeBlock). BeginsWith (items_with (item_at level) x.inner.end x.inner.bytes) whole x rest) same

-- an item without items is one more of the list
pub turned_leaf : (level : ℕ) (first now after : Remaining) (before later : List ItemTree) (next : Option ScopeBlock) → next ≡ None → 0 < length now.bytes
    → ReadsNext level now after before later (Ok next) → Turns (item_at level) first now before → Turns (item_at level) first after later
turned_leaf level first now after before later None is some h so = rw h.0.2 (turned (item_at level) first now after before h.0.0 some h.0.1 h.1 so)
turned_leaf level first now after before later (Some block) is some h so = absurd cc

-- so is one with these items
pub turned_scope : (level : ℕ) (first now after : Remaining) (before mid later : List ItemTree) (next : Option ScopeBlock) (block : ScopeBlock) (is : ItemTrees) → next ≡ Some block
    → 0 < length now.bytes → ReadsNext level now after before mid (Ok next) → items_with (item_at (level - 1)) block.inner.end block.inner.bytes ≡ Ok is
    → later ≡ mid ++ scope_with block.front is ∷ [] → Turns (item_at level) first now before → Turns (item_at level) first after later
turned_scope level first now after before mid later (Some h) block is same some begun inside longer so =
    let held : h ≡ block = cc in
    let read : item_at level now.end now.bytes ≡ Ok (scope_with block.front is, after.bytes)
    = begun_as (level - 1) (item_at level now.end now.bytes) after.bytes h block held begun.0.0 ∙ reads_on (items_with (item_at (level - 1)) block.inner.end block.inner.bytes) is (λ is. Ok (scope_with block.front is, after.bytes)) inside in
    rw (longer, begun.0.1) (turned (item_at level) first now after before (scope_with block.front is) some read begun.1 so)
turned_scope level first now after before mid later None block is same some begun inside longer so = absurd cc

-- a fault inside is one of the list
pub stopped_inside : (level : ℕ) (first now after : Remaining) (before mid : List ItemTree) (next : Option ScopeBlock) (block : ScopeBlock) (e : ItemFault) → next ≡ Some block
    → 0 < length now.bytes → ReadsNext level now after before mid (Ok next) → Fails e (items_with (item_at (level - 1)) block.inner.end block.inner.bytes)
    → Turns (item_at level) first now before → Fails e (each_at (item_at level first.end) first.bytes)
stopped_inside level first now after before mid (Some h) block e same some begun fails so =
    let held : h ≡ block = cc in
    let fault : Fails e (item_at level now.end now.bytes)
    = fails_behind e _ _ (begun_as (level - 1) (item_at level now.end now.bytes) after.bytes h block held begun.0.0) (fails_on e (items_with (item_at (level - 1)) block.inner.end block.inner.bytes) (λ is. Ok (scope_with block.front is, after.bytes)) fails) in
    stopped_there (item_at level) first now before e some fault so
stopped_inside level first now after before mid None block e same some begun fails so = absurd cc
