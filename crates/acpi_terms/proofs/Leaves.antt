-- What is read behind an opcode that opens no items is an item that holds none.
use Rattle.std.proofs.Common.{◌≡◌, ℕ, false, List, Result, Ok, Err, refl, subst}
use Rattle.acpi_code.specs.declared.opcode.Opcode.{Opcode}
use Rattle.acpi_code.specs.declared.opcode.Opcode.TheVariants as opcodes
use Rattle.acpi_code.specs.steps.Reading.{◌>>=◌, Reading, name_in, package_at}
use Rattle.acpi_tree.specs.Fits.{holds_items}
use Rattle.acpi_tree.specs.Tree.{DataTree, ExternalParts, ItemTree, name, method, external, external_block, create, create_field, mutex, event, region, field, index_field, bank_field, ItemTrees}
use Rattle.acpi_code.specs.Forms.{FixedArgument, Values, fixed_arguments}
use Rattle.acpi_terms.specs.declared.fault.ItemReason.TheVariants.{ModuleIf}
use Rattle.acpi_terms.specs.steps.ScopeBlocks.{opens_items}
use Rattle.acpi_terms.specs.steps.Reading.{Fault, part, fault_at, data_at, arguments_at, plain_at, packed_at, bytes_in, fields_in, parts_at, in_block, block_content, item_by}

abbrev IsLeaf : Reading Fault ItemTree → Type 0
IsLeaf r = (t : ItemTree × List ℕ) → r ≡ Ok t → holds_items t.0 ≡ false

behind : {A : Type 0} (m : Result A Fault) (f : A → Reading Fault ItemTree) → ((x : A) → IsLeaf (f x)) → IsLeaf (m >>= f)
behind (Ok x) f k = k x
behind (Err e) f k = λ t e. absurd cc

made : (i : ItemTree) (rest : List ℕ) → holds_items i ≡ false → IsLeaf (Ok (i, rest))
made i rest h t e =
    let same : (i, rest) ≡ t = cc in
    subst (λ (x : ItemTree × List ℕ). holds_items x.0 ≡ false) same h

plain : (ks : List FixedArgument) (make : Values ks → ItemTree) (level end : ℕ) (bytes : List ℕ) → ((v : Values ks) → holds_items (make v) ≡ false) → IsLeaf (plain_at ks make level end bytes)
plain ks make level end bytes good = behind (arguments_at level ks end bytes) (λ v. Ok (make v.0, v.1)) (λ v. made (make v.0) v.1 (good v.0))

packed : {X : Type 0} (ks : List FixedArgument) (make : Values ks → X → ItemTree) (level : ℕ) (inner : ℕ → List ℕ → Result X Fault) (end : ℕ) (bytes : List ℕ)
    → ((v : Values ks) (x : X) → holds_items (make v x) ≡ false) → IsLeaf (packed_at ks make level inner end bytes)
packed ks make level inner end bytes good =
    behind (part (package_at end bytes)) (λ p. arguments_at level ks p.end p.content >>= λ v. inner p.end v.1 >>= λ x. Ok (make v.0 x, p.rest))
    (λ p. behind (arguments_at level ks p.end p.content) (λ v. inner p.end v.1 >>= λ x. Ok (make v.0 x, p.rest))
    (λ v. behind (inner p.end v.1) (λ x. Ok (make v.0 x, p.rest)) (λ x. made (make v.0 x) p.rest (good v.0 x))))

pub leaf_read : (inner : ℕ → List ℕ → Result ItemTrees Fault) (level end : ℕ) (whole : List ℕ) (opcode : Opcode) (rest : List ℕ) → opens_items opcode ≡ false
    → IsLeaf (item_by inner level end whole opcode rest)
leaf_read inner level end whole opcodes.DeclareName rest h =
    behind (part (name_in end rest)) (λ n. data_at level end n.1 >>= λ d. Ok (name n.0 d.0, d.1))
    (λ n. behind (data_at level end n.1) (λ d. Ok (name n.0 d.0, d.1)) (λ d. made (name n.0 d.0) d.1 refl))
leaf_read inner level end whole opcodes.Method rest h = packed (fixed_arguments opcodes.Method) (λ v code. method v.0 v.1.0 code) level bytes_in end rest (λ v x. refl)
leaf_read inner level end whole opcodes.External rest h = behind (parts_at end rest) (λ x. Ok (external x.0, x.1)) (λ x. made (external x.0) x.1 refl)
leaf_read inner level end whole opcodes.If rest h =
    behind (part (package_at end rest)) (λ p. in_block (fault_at end whole ModuleIf) (block_content level p.end p.content) >>= λ xs. Ok (external_block xs, p.rest))
    (λ p. behind (in_block (fault_at end whole ModuleIf) (block_content level p.end p.content)) (λ xs. Ok (external_block xs, p.rest)) (λ xs. made (external_block xs) p.rest refl))
leaf_read inner level end whole (opcodes.Create w) rest h = plain (fixed_arguments (opcodes.Create w)) (λ v. create w v.0 v.1.0 v.1.1.0) level end rest (λ v. refl)
leaf_read inner level end whole opcodes.CreateField rest h = plain (fixed_arguments opcodes.CreateField) (λ v. create_field v.0 v.1.0 v.1.1.0 v.1.1.1.0) level end rest (λ v. refl)
leaf_read inner level end whole opcodes.Mutex rest h = plain (fixed_arguments opcodes.Mutex) (λ v. mutex v.0 v.1.0) level end rest (λ v. refl)
leaf_read inner level end whole opcodes.Event rest h = plain (fixed_arguments opcodes.Event) (λ v. event v.0) level end rest (λ v. refl)
leaf_read inner level end whole opcodes.Region rest h = plain (fixed_arguments opcodes.Region) (λ v. region v.0 v.1.0 v.1.1.0 v.1.1.1.0) level end rest (λ v. refl)
leaf_read inner level end whole opcodes.Field rest h = packed (fixed_arguments opcodes.Field) (λ v es. field v.0 v.1.0 es) level fields_in end rest (λ v x. refl)
leaf_read inner level end whole opcodes.IndexField rest h = packed (fixed_arguments opcodes.IndexField) (λ v es. index_field v.0 v.1.0 v.1.1.0 es) level fields_in end rest (λ v x. refl)
leaf_read inner level end whole opcodes.BankField rest h =
    packed (fixed_arguments opcodes.BankField) (λ v es. bank_field v.0 v.1.0 v.1.1.0 v.1.1.1.0 es) level fields_in end rest (λ v x. refl)
leaf_read inner level end whole opcodes.Scope rest h = absurd cc
leaf_read inner level end whole opcodes.Device rest h = absurd cc
leaf_read inner level end whole opcodes.Processor rest h = absurd cc
leaf_read inner level end whole opcodes.Power rest h = absurd cc
leaf_read inner level end whole opcodes.Thermal rest h = absurd cc
leaf_read inner level end whole opcode rest h = λ t e. absurd cc
