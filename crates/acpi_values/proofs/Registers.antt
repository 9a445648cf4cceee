-- Operands that are a Local or an Arg.
use Rattle.std.proofs.Common.{◌≡◌, ℕ, ◌-◌, ◌+◌, ◌<◌, Bool, true, false, cond, ltb, List, [], ◌∷◌, ◌&&◌, length, drop, Ok, refl, subst, ◌∙◌, arith}
use Rattle.std.proofs.lemmas.Bool.{lt-ltb, ltb-true, ltb-false}
use Rattle.acpi_name.proofs.NameAgain.{and_true}
use Rattle.acpi_tree.specs.declared.place.Place.{Place}
use Rattle.acpi_tree.specs.declared.place.Place.TheVariants.{Value, SuperName, SimpleName, Element, Data, Statement, Source}
use Rattle.acpi_tree.specs.declared.place.OperandKind.{OperandKind}
use Rattle.acpi_tree.specs.declared.place.OperandKind.TheVariants.{At, Target, Byte, Word, DWord}
use Rattle.acpi_tree.specs.Terms.{local, arg}
use Rattle.acpi_code.specs.declared.opcode.Opcode.TheVariants as opcodes
use Rattle.acpi_code.specs.steps.Reading.{opcode_at}
use Rattle.acpi_code.proofs.Opcodes.{opens}
use Rattle.acpi_values.specs.Grammars.{Grammar}
use Rattle.acpi_values.specs.steps.Reading.{operand_at, form_by, placed_by, term_at}
use Rattle.acpi_values.specs.steps.Registers.{register_at, holds_register, takes_register, is_register, begins_register, front_register}
use Rattle.acpi_values.proofs.Opened.{term_opened}
use Rattle.acpi_values.proofs.TermComplete.{super_is_target}

local_placed : (grammar : Grammar) (level : ℕ) (place : Place) (end : ℕ) (whole : List ℕ) (n : ℕ) (rest : List ℕ) → holds_register place ≡ true
    → placed_by grammar (term_at grammar level) place end whole (opcodes.Local n) rest ≡ Ok (local n, rest)
unfolding placed_by form_by
local_placed grammar level Value end whole n rest h = refl
local_placed grammar level SuperName end whole n rest h = refl
local_placed grammar level SimpleName end whole n rest h = refl
local_placed grammar level Element end whole n rest h = absurd cc
local_placed grammar level Data end whole n rest h = absurd cc
local_placed grammar level Statement end whole n rest h = absurd cc
local_placed grammar level Source end whole n rest h = refl

arg_placed : (grammar : Grammar) (level : ℕ) (place : Place) (end : ℕ) (whole : List ℕ) (n : ℕ) (rest : List ℕ) → holds_register place ≡ true
    → placed_by grammar (term_at grammar level) place end whole (opcodes.Arg n) rest ≡ Ok (arg n, rest)
unfolding placed_by form_by
arg_placed grammar level Value end whole n rest h = refl
arg_placed grammar level SuperName end whole n rest h = refl
arg_placed grammar level SimpleName end whole n rest h = refl
arg_placed grammar level Element end whole n rest h = absurd cc
arg_placed grammar level Data end whole n rest h = absurd cc
arg_placed grammar level Statement end whole n rest h = absurd cc
arg_placed grammar level Source end whole n rest h = refl

term_register : (grammar : Grammar) (level : ℕ) (place : Place) (end b : ℕ) (rest : List ℕ) → 0 < level → holds_register place ≡ true → 0x5F < b
    → b < 0x6F → term_at grammar level place end (b ∷ rest) ≡ Ok (register_at b, rest)
term_register grammar level place end b rest some h low high = by_test (ltb b 0x68) refl
  where
    by_test : (t : Bool) → ltb b 0x68 ≡ t → term_at grammar level place end (b ∷ rest) ≡ Ok (cond t (local (b - 0x60)) (arg (b - 0x68)), rest)
    by_test true e =
        let less : b < 0x68 = ltb-true _ _ e in
        let is : (b - 0x60) + 0x60 ≡ b = omega (arith, low) in
        let few : b - 0x60 < 8 = omega (arith, less) in
        let o : opcode_at end (b ∷ rest) ≡ Ok (opcodes.Local (b - 0x60), rest) =
        subst (λ c. opcode_at end (c ∷ rest) ≡ Ok (opcodes.Local (b - 0x60), rest)) is
        (opens end (opcodes.Local (b - 0x60)) rest (lt-ltb _ _ few)) in
        term_opened grammar level place end (b ∷ rest) (opcodes.Local (b - 0x60)) rest some o ∙ local_placed grammar (level - 1) place end (b ∷ rest) (b - 0x60) rest h
    by_test false e =
        let more : 0x67 < b = omega (arith, ltb-false _ _ e) in
        let is : (b - 0x68) + 0x68 ≡ b = omega (arith, more) in
        let few : b - 0x68 < 7 = omega (arith, high) in
        let o : opcode_at end (b ∷ rest) ≡ Ok (opcodes.Arg (b - 0x68), rest) =
        subst (λ c. opcode_at end (c ∷ rest) ≡ Ok (opcodes.Arg (b - 0x68), rest)) is
        (opens end (opcodes.Arg (b - 0x68)) rest (lt-ltb _ _ few)) in
        term_opened grammar level place end (b ∷ rest) (opcodes.Arg (b - 0x68)) rest some o ∙ arg_placed grammar (level - 1) place end (b ∷ rest) (b - 0x68) rest h

pub register_read : (grammar : Grammar) (level : ℕ) (kind : OperandKind) (end b : ℕ) (rest : List ℕ) → 0 < level → takes_register kind ≡ true
    → 0x5F < b → b < 0x6F → operand_at (term_at grammar level) kind end (b ∷ rest) ≡ Ok (register_at b, rest)
unfolding operand_at
register_read grammar level (At place) end b rest some h low high = term_register grammar level place end b rest some h low high
register_read grammar level Target end b rest some h low high = super_is_target grammar level end (b ∷ rest) (register_at b, rest) (term_register grammar level SuperName end b rest some refl low high)
register_read grammar level Byte end b rest some h low high = absurd cc
register_read grammar level Word end b rest some h low high = absurd cc
register_read grammar level DWord end b rest some h low high = absurd cc

pub register_front : (grammar : Grammar) (level : ℕ) (kind : OperandKind) (end : ℕ) (bytes : List ℕ) → begins_register level kind bytes ≡ true
    → operand_at (term_at grammar level) kind end bytes ≡ Ok (front_register bytes, drop 1 bytes)
register_front grammar level kind end [] h = absurd cc
register_front grammar level kind end (b ∷ rest) h =
    let both = and_true (ltb 0 level && takes_register kind) (is_register b) h in
    let first = and_true (ltb 0 level) (takes_register kind) both.0 in
    let ends = and_true (ltb 0x5F b) (ltb b 0x6F) both.1 in
    register_read grammar level kind end b rest (ltb-true _ _ first.0) first.1 (ltb-true _ _ ends.0) (ltb-true _ _ ends.1)

pub some_register : (level : ℕ) (kind : OperandKind) (bytes : List ℕ) → begins_register level kind bytes ≡ true → 0 < length bytes
some_register level kind [] h = absurd cc
some_register level kind (b ∷ rest) h = omega arith
