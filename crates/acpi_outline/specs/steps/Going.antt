-- How the nodes of a list are read, one after another.
use Rattle.std.specs.Prelude.{◌≡◌, ◌-◌, ◌<◌, ◌≤◌, ℕ, List, [], ◌∷◌, ◌++◌, length, Result, Ok, Err}
use Rattle.acpi_code.specs.steps.Remaining.{Remaining, Advances}
use Rattle.acpi_outline.specs.declared.form.PackedForm.{PackedForm}
use Rattle.acpi_outline.specs.declared.fault.LostError.{LostError}
use Rattle.acpi_outline.specs.declared.reader.Begun.{Begun}
use Rattle.acpi_outline.specs.declared.reader.Begun.TheVariants as begun
use Rattle.acpi_outline.specs.declared.reader.Going.{Going}
use Rattle.acpi_outline.specs.declared.reader.Going.TheVariants as goings
use Rattle.acpi_outline.specs.declared.reader.Next.{Next}
use Rattle.acpi_outline.specs.declared.reader.Next.TheVariants as nexts
use Rattle.acpi_outline.specs.Nodes.{NodeTree, holds, no_more}
use Rattle.acpi_outline.specs.View.{fixed_view, node_view, Placed, put_before}
use Rattle.acpi_outline.specs.Rules.{Rules, after, after_all}
use Rattle.acpi_outline.specs.steps.Cursor.{Fails}
use Rattle.acpi_outline.specs.steps.Leaves.{leaf_view}
use Rattle.acpi_outline.specs.steps.Reading.{packed_by, fixed_in, nodes_with, nodes_at, node_at}

-- what a package is read as, `level` levels being left inside it
abbrev pub packed : {S : Type 0} → Rules S → ℕ → S → ℕ → PackedForm → Remaining → NodeTree
packed r level known place form inner = packed_by r (nodes_at r level) place known form inner.end
    (fixed_in r level known form inner.end inner.bytes)

-- the next node was read, or its package was opened
abbrev pub BeginsNode : {S : Type 0} → Rules S → ℕ → S → Remaining → Remaining → Result Begun LostError → Type 0
BeginsNode r level known old new (Ok (begun.Leaf n)) =
    (node_at r level known old.end old.bytes ≡ Ok (leaf_view n, new.bytes)) × Advances old new
BeginsNode r level known old new (Ok (begun.Package form inner)) =
    (node_at r level known old.end old.bytes
    ≡ Ok (packed r (level - 1) known (old.end - length old.bytes) form inner, new.bytes))
    × (0 < level) × Advances old new
BeginsNode r level known old new (Err e) = Fails e (node_at r level known old.end old.bytes)

-- a package was read, or its front was gone into
abbrev pub Opens : {S : Type 0} → Rules S → ℕ → S → ℕ → PackedForm → Remaining → S → Next → Type 0
Opens r level known place form inner then (nexts.Read n) =
    (packed r level known place form inner ≡ node_view n)
    × (then ≡ after r place known (node_view n))
Opens r level known place form inner then (nexts.Entered f behind) =
    (packed r level known place form inner
    ≡ holds (fixed_view f)
    (nodes_at r level (r.enter known place (fixed_view f)) behind.end behind.bytes))
    × (then ≡ r.enter known place (fixed_view f))
Opens r level known place form inner then (nexts.Lost why) = ⊥

-- the next node was read, or its front was gone into, or none is read
abbrev pub Goes : {S : Type 0} → Rules S → ℕ → S → Remaining → S → Remaining → Next → Type 0
Goes r level known old then new (nexts.Read n) =
    (node_at r level known old.end old.bytes ≡ Ok (node_view n, new.bytes))
    × (then ≡ after r (old.end - length old.bytes) known (node_view n)) × Advances old new
Goes r level known old then new (nexts.Entered f behind) =
    (node_at r level known old.end old.bytes
    ≡ Ok (
      holds (fixed_view f)
          (nodes_at r (level - 1)
          (r.enter known (old.end - length old.bytes) (fixed_view f)) behind.end behind.bytes),
      new.bytes,
    ))
    × (then ≡ r.enter known (old.end - length old.bytes) (fixed_view f)) × (0 < level)
    × Advances old new
Goes r level known old then new (nexts.Lost why) =
    (node_at r level known old.end old.bytes ≡ Err why) × (then ≡ known)

-- .. and what was read is put behind what was read before
abbrev pub Continues : {S : Type 0} → Rules S → ℕ → S → Remaining → S → Remaining → List Placed → List Placed
    → Going → Type 0
Continues r level known old then new before now goings.On =
    (n : NodeTree) × (node_at r level known old.end old.bytes ≡ Ok (n, new.bytes))
    × (then ≡ after r (old.end - length old.bytes) known n)
    × (now ≡ before ++ (old.end - length old.bytes, n) ∷ []) × Advances old new
Continues r level known old then new before now (goings.In f behind) =
    Goes r level known old then new (nexts.Entered f behind) × (now ≡ before)
Continues r level known old then new before now (goings.Lost why) =
    Goes r level known old then new (nexts.Lost why) × (now ≡ before)

-- these nodes were read of what was left at first, and what is left now follows them
pub record Follows {S : Type 0} (r : Rules S) (level : ℕ) (known : S) (first : Remaining) (then : S)
    (now : Remaining) (front : List Placed) : Type 0 where
  pub same_end : now.end ≡ first.end
  pub turns : ℕ
  pub enough : length now.bytes ≤ turns
  pub whole : put_before front (nodes_with r (node_at r level) turns then now.end now.bytes)
      ≡ nodes_at r level known first.end first.bytes
  pub state : after_all r known (put_before front no_more) ≡ then
