-- What may stand at a place, by what it begins with.
use Rattle.std.proofs.Common.{◌≡◌, ℕ, Bool, true, false, not, cond, List, Some, None, refl}
use Rattle.acpi_tree.specs.declared.op.Op.{Op}
use Rattle.acpi_tree.specs.declared.op.Op.TheVariants as ops
use Rattle.acpi_tree.specs.declared.place.Place.{Place}
use Rattle.acpi_tree.specs.declared.place.Place.TheVariants.{Value, SuperName, SimpleName, Element, Data, Statement, Source}
use Rattle.acpi_tree.specs.Terms.{TermTree, int, str, buffer, pkg, var_pkg, local, arg, debug, no_target, raw, ref, call, apply, if_do, while_do, declare, declare_units}
use Rattle.acpi_tree.specs.Operators.{is_expression, is_reference, is_load}
use Rattle.acpi_tree.specs.Places.{may_stand}
use Rattle.acpi_code.specs.declared.opcode.Opcode.{Opcode}
use Rattle.acpi_code.specs.declared.opcode.Opcode.TheVariants as opcodes
use Rattle.acpi_code.proofs.Constants.{form_of}
use Rattle.acpi_values.specs.Grammars.{Grammar, is_allowed}
use Rattle.acpi_values.specs.declared.fault.BodyReason.{BodyReason}
use Rattle.acpi_values.specs.declared.fault.BodyReason.TheVariants.{NotValue, NotTarget, LeftOut}
use Rattle.acpi_values.specs.Refusals.{refusal_at, load_refusal}
use Rattle.acpi_values.specs.Spelling.{Stands, Spells}
use Rattle.acpi_values.specs.steps.Reading.{calls}

-- what a term begins with that is no block and no declaration
abbrev pub lead_of : TermTree → Opcode
lead_of (int i) = opcodes.Constant (form_of i)
lead_of (str text) = opcodes.Str
lead_of (buffer size content) = opcodes.Buffer
lead_of (pkg count es) = opcodes.Package
lead_of (var_pkg count es) = opcodes.VarPackage
lead_of (local n) = opcodes.Local n
lead_of (arg n) = opcodes.Arg n
lead_of debug = opcodes.Debug
lead_of (ref n) = opcodes.Name
lead_of (call n vs) = opcodes.Name
lead_of (apply op vs) = opcodes.Operator op
lead_of _ = opcodes.Nothing

-- a name is a call where values and statements stand, and a reference elsewhere
abbrev pub Suits : Place → TermTree → Type 0
Suits p (call n vs) = calls p ≡ true
Suits p (ref n) = calls p ≡ false
Suits p (raw k n) = ⊥
Suits p no_target = ⊥
Suits p _ = Unit {0}

-- what the term begins with may stand at the place, and means the term there
pub record Allowed (loads : Bool) (p : Place) (t : TermTree) : Type 0 where
  pub allowed : refusal_at loads p (lead_of t) ≡ None
  pub suits : Suits p t

row_allowed : (b : Bool) (why : BodyReason) → b ≡ true → cond b None (Some why) ≡ None
row_allowed true why h = refl
row_allowed false why h = absurd cc

row_stands : (b : Bool) (why : BodyReason) → cond b None (Some why) ≡ None → b ≡ true
row_stands true why h = refl
row_stands false why h = absurd cc

-- an operator that has a value
value_allowed : (b loads : Bool) (op : Op) → b ≡ true → is_allowed loads op ≡ true → cond b (load_refusal loads op) (Some NotValue) ≡ None
value_allowed true loads op h k = row_allowed (is_allowed loads op) LeftOut k
value_allowed false loads op h k = absurd cc

value_stands : (b loads : Bool) (op : Op) → cond b (load_refusal loads op) (Some NotValue) ≡ None → (b ≡ true) × (is_allowed loads op ≡ true)
value_stands true loads op h = (refl, row_stands (is_allowed loads op) LeftOut h)
value_stands false loads op h = absurd cc

-- ---- what may stand there is allowed

pub allowed_at : (grammar : Grammar) (p : Place) (t : TermTree) (b : List ℕ) → Stands p t → Spells grammar t b → Allowed grammar.loads p t
allowed_at grammar Value (int i) b h k = record { allowed = refl; suits = tt }
allowed_at grammar Value (call n vs) b h k = record { allowed = refl; suits = refl }
allowed_at grammar Value (apply op vs) b h k = record { allowed = value_allowed (is_expression op) grammar.loads op h k.1; suits = tt }
allowed_at grammar Value (str text) b h k = record { allowed = refl; suits = tt }
allowed_at grammar Value (buffer size content) b h k = record { allowed = refl; suits = tt }
allowed_at grammar Value (pkg count es) b h k = record { allowed = refl; suits = tt }
allowed_at grammar Value (var_pkg count es) b h k = record { allowed = refl; suits = tt }
allowed_at grammar Value (local n) b h k = record { allowed = refl; suits = tt }
allowed_at grammar Value (arg n) b h k = record { allowed = refl; suits = tt }
allowed_at grammar Value _ b h k = absurd cc
allowed_at grammar SuperName debug b h k = record { allowed = refl; suits = tt }
allowed_at grammar SuperName (apply op vs) b h k = record { allowed = row_allowed (is_reference op) NotTarget h; suits = tt }
allowed_at grammar SuperName (ref n) b h k = record { allowed = refl; suits = refl }
allowed_at grammar SuperName (local n) b h k = record { allowed = refl; suits = tt }
allowed_at grammar SuperName (arg n) b h k = record { allowed = refl; suits = tt }
allowed_at grammar SuperName _ b h k = absurd cc
allowed_at grammar SimpleName (ref n) b h k = record { allowed = refl; suits = refl }
allowed_at grammar SimpleName (local n) b h k = record { allowed = refl; suits = tt }
allowed_at grammar SimpleName (arg n) b h k = record { allowed = refl; suits = tt }
allowed_at grammar SimpleName _ b h k = absurd cc
allowed_at grammar Element (ref n) b h k = record { allowed = refl; suits = refl }
allowed_at grammar Element (int i) b h k = record { allowed = refl; suits = tt }
allowed_at grammar Element (str text) b h k = record { allowed = refl; suits = tt }
allowed_at grammar Element (buffer size content) b h k = record { allowed = refl; suits = tt }
allowed_at grammar Element (pkg count es) b h k = record { allowed = refl; suits = tt }
allowed_at grammar Element (var_pkg count es) b h k = record { allowed = refl; suits = tt }
allowed_at grammar Element _ b h k = absurd cc
allowed_at grammar Data (int i) b h k = record { allowed = refl; suits = tt }
allowed_at grammar Data (str text) b h k = record { allowed = refl; suits = tt }
allowed_at grammar Data (buffer size content) b h k = record { allowed = refl; suits = tt }
allowed_at grammar Data (pkg count es) b h k = record { allowed = refl; suits = tt }
allowed_at grammar Data (var_pkg count es) b h k = record { allowed = refl; suits = tt }
allowed_at grammar Data _ b h k = absurd cc
allowed_at grammar Statement (apply op vs) b h k = record { allowed = row_allowed (is_allowed grammar.loads op) LeftOut k.1; suits = tt }
allowed_at grammar Statement (buffer size content) b h k = record { allowed = refl; suits = tt }
allowed_at grammar Statement (pkg count es) b h k = record { allowed = refl; suits = tt }
allowed_at grammar Statement (var_pkg count es) b h k = record { allowed = refl; suits = tt }
allowed_at grammar Statement (call n vs) b h k = record { allowed = refl; suits = refl }
allowed_at grammar Statement (if_do v ts e) b h k = absurd k
allowed_at grammar Statement (while_do v ts) b h k = absurd k
allowed_at grammar Statement (declare form before n behind) b h k = absurd k
allowed_at grammar Statement (declare_units form ns vs es) b h k = absurd k
allowed_at grammar Statement _ b h k = absurd cc
allowed_at grammar Source (ref n) b h k = record { allowed = refl; suits = refl }
allowed_at grammar Source (int i) b h k = record { allowed = refl; suits = tt }
allowed_at grammar Source (apply op vs) b h k = record { allowed = value_allowed (is_expression op) grammar.loads op h k.1; suits = tt }
allowed_at grammar Source (str text) b h k = record { allowed = refl; suits = tt }
allowed_at grammar Source (buffer size content) b h k = record { allowed = refl; suits = tt }
allowed_at grammar Source (pkg count es) b h k = record { allowed = refl; suits = tt }
allowed_at grammar Source (var_pkg count es) b h k = record { allowed = refl; suits = tt }
allowed_at grammar Source (local n) b h k = record { allowed = refl; suits = tt }
allowed_at grammar Source (arg n) b h k = record { allowed = refl; suits = tt }
allowed_at grammar Source _ b h k = absurd cc

-- ---- what is allowed may stand there

stands_by : (loads : Bool) (p : Place) (t : TermTree) → refusal_at loads p (lead_of t) ≡ None → Suits p t → may_stand p t ≡ true
stands_by loads Value (apply op vs) a s = (value_stands (is_expression op) loads op a).0
stands_by loads Value (int i) a s = refl
stands_by loads Value (str text) a s = refl
stands_by loads Value (buffer size content) a s = refl
stands_by loads Value (pkg count es) a s = refl
stands_by loads Value (var_pkg count es) a s = refl
stands_by loads Value (local n) a s = refl
stands_by loads Value (arg n) a s = refl
stands_by loads Value (call n vs) a s = refl
stands_by loads Value _ a s = absurd cc
stands_by loads SuperName (apply op vs) a s = row_stands (is_reference op) NotTarget a
stands_by loads SuperName debug a s = refl
stands_by loads SuperName (ref n) a s = refl
stands_by loads SuperName (local n) a s = refl
stands_by loads SuperName (arg n) a s = refl
stands_by loads SuperName _ a s = absurd cc
stands_by loads SimpleName (ref n) a s = refl
stands_by loads SimpleName (local n) a s = refl
stands_by loads SimpleName (arg n) a s = refl
stands_by loads SimpleName _ a s = absurd cc
stands_by loads Element (int i) a s = refl
stands_by loads Element (ref n) a s = refl
stands_by loads Element (str text) a s = refl
stands_by loads Element (buffer size content) a s = refl
stands_by loads Element (pkg count es) a s = refl
stands_by loads Element (var_pkg count es) a s = refl
stands_by loads Element _ a s = absurd cc
stands_by loads Data (int i) a s = refl
stands_by loads Data (str text) a s = refl
stands_by loads Data (buffer size content) a s = refl
stands_by loads Data (pkg count es) a s = refl
stands_by loads Data (var_pkg count es) a s = refl
stands_by loads Data _ a s = absurd cc
stands_by loads Statement (apply op vs) a s = refl
stands_by loads Statement (buffer size content) a s = refl
stands_by loads Statement (pkg count es) a s = refl
stands_by loads Statement (var_pkg count es) a s = refl
stands_by loads Statement (call n vs) a s = refl
stands_by loads Statement _ a s = absurd cc
stands_by loads Source (apply op vs) a s = (value_stands (is_expression op) loads op a).0
stands_by loads Source (int i) a s = refl
stands_by loads Source (str text) a s = refl
stands_by loads Source (buffer size content) a s = refl
stands_by loads Source (pkg count es) a s = refl
stands_by loads Source (var_pkg count es) a s = refl
stands_by loads Source (local n) a s = refl
stands_by loads Source (arg n) a s = refl
stands_by loads Source (ref n) a s = refl
stands_by loads Source _ a s = absurd cc

pub stands : (loads : Bool) (p : Place) (t : TermTree) → Allowed loads p t → Stands p t
stands loads p t a = stands_by loads p t a.allowed a.suits

-- ---- an operator is read only where it may stand

-- no load is a reference
reference_allowed : (loads : Bool) (op : Op) → is_reference op ≡ true → is_allowed loads op ≡ true
reference_allowed true op h = refl
reference_allowed false op h = by_operator op h
  where
    by_operator : (op : Op) → is_reference op ≡ true → not (is_load op) ≡ true
    by_operator ops.RefOf h = refl
    by_operator ops.DerefOf h = refl
    by_operator ops.Index h = refl
    by_operator _ h = absurd cc

pub operator_allowed : (loads : Bool) (p : Place) (op : Op) → refusal_at loads p (opcodes.Operator op) ≡ None → is_allowed loads op ≡ true
operator_allowed loads Value op h = (value_stands (is_expression op) loads op h).1
operator_allowed loads SuperName op h = reference_allowed loads op (row_stands (is_reference op) NotTarget h)
operator_allowed loads SimpleName op h = absurd cc
operator_allowed loads Element op h = absurd cc
operator_allowed loads Data op h = absurd cc
operator_allowed loads Statement op h = row_stands (is_allowed loads op) LeftOut h
operator_allowed loads Source op h = (value_stands (is_expression op) loads op h).1
