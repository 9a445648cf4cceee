-- Externals in a block: what is spelled is read, and where it fails the reading stops.
use Rattle.std.proofs.Common.{◌≡◌, ◌⊎◌, ℕ, zero, suc, ◌≤◌, ◌<◌, false, List, [], ◌∷◌, ◌++◌, length, drop, slice_index, Result, Ok, Err, refl, sym, ap, ◌∙◌, arith, eqb, inl, inr}
use Rattle.std.proofs.lemmas.Bool.{eqb-true, eqb-false}
use Rattle.acpi_code.specs.declared.opcode.Opcode.{Opcode}
use Rattle.acpi_code.specs.declared.opcode.Opcode.TheVariants as opcodes
use Rattle.acpi_code.specs.declared.fault.CodeReason.{CodeReason}
use Rattle.acpi_code.specs.declared.fault.CodeReason.TheVariants as reasons
use Rattle.acpi_code.specs.declared.fault.CodeFault.{CodeFault}
use Rattle.acpi_tree.specs.Tree.{ExternalParts}
use Rattle.acpi_code.specs.Spelling.{SpellsEach}
use Rattle.acpi_code.specs.Faults.{FailsNumber, FailsName, FailsOpcode}
use Rattle.acpi_code.specs.Faults as codes
use Rattle.acpi_code.specs.steps.Reading.{byte_at, opcode_at, each_with, each_at}
use Rattle.acpi_code.proofs.Readings.{Judge, judge_bind, judge_into, judge_if, judge_told, Front}
use Rattle.acpi_code.proofs.Lists.{AreAll, none_left, each_complete, all_at, each_sound}
use Rattle.acpi_code.proofs.Opcodes.{opens, Opened, opcode_opened}
use Rattle.acpi_code.specs.Forms.{fixed_arguments, external_parts}
use Rattle.acpi_terms.specs.declared.fault.ItemReason.{ItemReason}
use Rattle.acpi_terms.specs.declared.fault.ItemReason.TheVariants.{ReservedBits, TooDeep}
use Rattle.acpi_terms.specs.Faults.{reason_of, FailsPart, FailsCount, FailsArguments, FailsForm, IsDeepBlock, FailsBlock}
use Rattle.acpi_terms.specs.Spelling.{SpellsArguments, SpellsExternal, block_height}
use Rattle.acpi_terms.specs.steps.Reading.{Fault, fault_at, part, part_fault, parts_at, external_by, external_at, block_content, block_fault, in_block}
use Rattle.acpi_terms.proofs.Arguments.{plain_complete, plain_judged, plain_stops}
use Rattle.acpi_terms.proofs.DataTrees.{opens_with}

-- ==== what is spelled is read

pub parts_complete : (end : ℕ) (x : ExternalParts) (a rest : List ℕ) → SpellsArguments (fixed_arguments opcodes.External) (x.name, (x.kind, (x.args, tt))) a → parts_at end (a ++ rest) ≡ Ok (x, rest)
unfolding parts_at
parts_complete end x a rest h = plain_complete (fixed_arguments opcodes.External) external_parts 0 end (x.name, (x.kind, (x.args, tt))) a rest (omega arith) h

external_complete : (level end : ℕ) (x : ExternalParts) (a rest : List ℕ) → SpellsExternal x a → external_at (suc level) end (a ++ rest) ≡ Ok (x, rest)
unfolding external_at
external_complete level end x a rest h = rw (h.2, opens end opcodes.External (h.0 ++ rest) refl, parts_complete end x h.0 rest h.1) refl

pub external_long : (x : ExternalParts) (a : List ℕ) → SpellsExternal x a → 0 < length a
external_long x a h = rw h.2 (omega arith)

pub externals_complete : (level end : ℕ) (xs : List ExternalParts) (b : List ℕ) → SpellsEach SpellsExternal xs b → block_height xs ≤ suc level → AreAll (external_at level end) b xs
externals_complete level end [] b h le = none_left (external_at level end) b h
externals_complete zero end (x ∷ xs) b h le = absurd (omega arith)
externals_complete (suc level) end (x ∷ xs) b h le =
    each_complete SpellsExternal (external_at (suc level) end) external_long (λ y a rest s. external_complete level end y a rest s) (x ∷ xs) b h

pub content_complete : (level end : ℕ) (xs : List ExternalParts) (b : List ℕ) → SpellsEach SpellsExternal xs b → block_height xs ≤ suc level → block_content level end (0 ∷ b) ≡ Ok xs
unfolding block_content byte_at
content_complete level end xs b h le = all_at (external_at level end) b xs (externals_complete level end xs b h le)

-- ==== what was read is spelled

-- a fault that is no want of a level
abbrev NotDeep : Fault → Type 0
NotDeep f = f.reason ≡ TooDeep → ⊥

code_not_deep : (end : ℕ) (bytes : List ℕ) (why : CodeReason) (f : Fault) → (reason_of why ≡ TooDeep → ⊥) → f ≡ part_fault (codes.fault_at end bytes why) → NotDeep f
code_not_deep end bytes why f other is e = other (sym (ap (λ (g : Fault). g.reason) is) ∙ e)

cut_not_deep : reason_of reasons.Cut ≡ TooDeep → ⊥
cut_not_deep e = cc

bad_not_deep : reason_of reasons.BadName ≡ TooDeep → ⊥
bad_not_deep e = cc

reserved_not_deep : ReservedBits ≡ TooDeep → ⊥
reserved_not_deep e = cc

name_not_deep : (end : ℕ) (bytes : List ℕ) (f : Fault) → FailsPart FailsName end bytes f → NotDeep f
name_not_deep end bytes f (g, inl h, is) = code_not_deep end [] reasons.Cut f cut_not_deep (is ∙ ap part_fault h.1)
name_not_deep end bytes f (g, inr h, is) = code_not_deep end bytes reasons.BadName f bad_not_deep (is ∙ ap part_fault h.1)

number_not_deep : (k end : ℕ) (bytes : List ℕ) (f : Fault) → FailsPart (FailsNumber k) end bytes f → NotDeep f
number_not_deep k end bytes f (g, h, is) = code_not_deep end [] reasons.Cut f cut_not_deep (is ∙ ap part_fault h.1)

count_not_deep : (end : ℕ) (bytes : List ℕ) (f : Fault) → FailsCount end bytes f → NotDeep f
count_not_deep end bytes f (inl h) = number_not_deep 1 end bytes f h
count_not_deep end bytes f (inr h) = λ e. reserved_not_deep (sym (ap (λ (g : Fault). g.reason) h.1) ∙ e)

form_not_deep : (end : ℕ) (bytes : List ℕ) (f : Fault) → FailsArguments 0 (fixed_arguments opcodes.External) end bytes f → NotDeep f
form_not_deep end bytes f (inl h) = name_not_deep end bytes f h
form_not_deep end bytes f (inr (n, a, b, s, w, inl h)) = number_not_deep 1 end b f h
form_not_deep end bytes f (inr (n, a, b, s, w, inr (k, c, d, t, v, inl h))) = count_not_deep end d f h
form_not_deep end bytes f (inr (n, a, b, s, w, inr (k, c, d, t, v, inr (j, x, y, u, z, h)))) = absurd h

-- an External, and a level that was left for it
abbrev pub ExternalWithin : ℕ → ExternalParts → List ℕ → Type 0
ExternalWithin level x bytes = SpellsExternal x bytes × (0 < level)

within_each : (level : ℕ) (xs : List ExternalParts) (bytes : List ℕ) → SpellsEach (ExternalWithin level) xs bytes → SpellsEach SpellsExternal xs bytes × (block_height xs ≤ suc level)
within_each level [] bytes h = (h, omega arith)
within_each level (x ∷ xs) bytes h = let more = within_each level xs h.1 h.3 in ((h.0, h.1, h.2.0, more.0, h.4), omega (arith, h.2.1))

pub parts_judged : (end : ℕ) (bytes rest : List ℕ) → bytes ≡ 21 ∷ rest → Judge (Front SpellsExternal bytes) (FailsForm 0 opcodes.External end bytes) (parts_at end rest)
unfolding parts_at
parts_judged end bytes rest is = plain_judged 0 end opcodes.External external_parts SpellsExternal bytes rest is (λ v front k le. k)

pub parts_stop : (end : ℕ) (bytes rest : List ℕ) (f : Fault) → opcode_at end bytes ≡ Ok (opcodes.External, rest) → FailsForm 0 opcodes.External end bytes f → parts_at end rest ≡ Err f
unfolding parts_at
parts_stop end bytes rest f read h = plain_stops 0 end opcodes.External external_parts bytes rest f refl read h

external_by_judged : (level end : ℕ) (o : Opcode) (bytes rest : List ℕ) → Opened bytes (o, rest) → Judge (Front (ExternalWithin (suc level)) bytes) NotDeep (external_by end bytes o rest)
external_by_judged level end opcodes.External bytes rest o =
    judge_into (Front SpellsExternal bytes) (Front (ExternalWithin (suc level)) bytes) (FailsForm 0 opcodes.External end bytes) NotDeep (parts_at end rest)
    (λ x t. record { front = t.front; spells = (t.spells, omega arith); whole = t.whole }) (λ f h. form_not_deep end h.0 f h.2)
    (parts_judged end bytes rest (opens_with bytes opcodes.External rest (21 ∷ []) o o.told.1))
external_by_judged level end term bytes rest o = λ e. cc

opcode_not_deep : (end : ℕ) (bytes : List ℕ) (f : CodeFault) → FailsOpcode end bytes f → NotDeep (part_fault f)
opcode_not_deep end bytes f h = code_not_deep end [] reasons.Cut (part_fault f) cut_not_deep (ap part_fault h.1)

external_judged : (level end : ℕ) (bytes : List ℕ) → Judge (Front (ExternalWithin (suc level)) bytes) NotDeep (external_at (suc level) end bytes)
unfolding external_at
external_judged level end bytes =
    judge_bind (Opened bytes) (Front (ExternalWithin (suc level)) bytes) NotDeep (part (opcode_at end bytes)) _
    (judge_told (Opened bytes) (FailsOpcode end bytes) NotDeep part_fault (opcode_at end bytes) (opcode_not_deep end bytes) (opcode_opened end bytes))
    (λ x o. external_by_judged level end x.0 bytes x.1 o)

-- ---- a block

abbrev pub InBlock : ℕ → List ℕ → List ExternalParts → Type 0
InBlock level content xs = (b : List ℕ) × (content ≡ 0 ∷ b) × SpellsEach SpellsExternal xs b × (block_height xs ≤ suc level)

-- Externals stand too deep, and so it is told; or neither
abbrev DeepOrNot : ℕ → ℕ → List ℕ → Fault → Type 0
DeepOrNot level end content f = ((b : List ℕ) × IsDeepBlock level content b × (f ≡ fault_at end b TooDeep))
    ⊎ (((b : List ℕ) → IsDeepBlock level content b → ⊥) × NotDeep f)

first_byte : (b c : ℕ) (rest more : List ℕ) → b ∷ rest ≡ c ∷ more → b ≡ c
first_byte b c rest more e = ap (λ (l : List ℕ). slice_index l 0) e

none_deep : (level : ℕ) (b : List ℕ) → IsDeepBlock level [] b → ⊥
none_deep level b h = let e : [] ≡ 0 ∷ b = h.1 in absurd cc

other_deep : (level c : ℕ) (rest : List ℕ) → eqb c 0 ≡ false → (b : List ℕ) → IsDeepBlock level (c ∷ rest) b → ⊥
other_deep level c rest other b h = eqb-false c 0 other (first_byte c 0 rest b h.1)

alone_deep : (c : ℕ) (b : List ℕ) → IsDeepBlock 0 (c ∷ []) b → ⊥
alone_deep c b h = h.2 (sym (ap (drop 1) h.1))

high_deep : (level : ℕ) (content b : List ℕ) → IsDeepBlock (suc level) content b → ⊥
high_deep level content b h = absurd (omega (arith, h.0))

two_left : (b : ℕ) (rest : List ℕ) → b ∷ rest ≡ [] → ⊥
two_left b rest e = cc

content_judged : (level end : ℕ) (content : List ℕ) → Judge (InBlock level content) (DeepOrNot level end content) (block_content level end content)
unfolding block_content byte_at external_at each_with
content_judged level end [] = inr (none_deep level, λ e. cc)
content_judged zero end (c ∷ []) =
    judge_if (InBlock 0 (c ∷ [])) (DeepOrNot 0 end (c ∷ [])) (eqb c 0) _ _ (λ is. ([], ap (λ k. k ∷ []) (eqb-true c 0 is), refl, omega arith)) (λ other. inr (alone_deep c, λ e. cc))
content_judged zero end (c ∷ d ∷ rest) =
    judge_if (InBlock 0 (c ∷ d ∷ rest)) (DeepOrNot 0 end (c ∷ d ∷ rest)) (eqb c 0) _ _ (λ is. inl (d ∷ rest, (refl, ap (λ k. k ∷ d ∷ rest) (eqb-true c 0 is), two_left d rest), refl))
    (λ other. inr (other_deep 0 c (d ∷ rest) other, λ e. cc))
content_judged (suc level) end (c ∷ rest) =
    let Good = InBlock (suc level) (c ∷ rest) in
    let Bad = DeepOrNot (suc level) end (c ∷ rest) in
    judge_if Good Bad (eqb c 0) _ _
    (λ is.
    judge_into (λ xs. SpellsEach (ExternalWithin (suc level)) xs rest) Good NotDeep Bad (each_at (external_at (suc level) end) rest)
    (λ xs k. let w = within_each (suc level) xs rest k in (rest, ap (λ k. k ∷ rest) (eqb-true c 0 is), w.0, w.1)) (λ f k. inr (high_deep level (c ∷ rest), k))
    (each_sound (λ bytes. Unit {0}) (ExternalWithin (suc level)) NotDeep (external_at (suc level) end) (λ x a k. external_long x a k.0)
    (λ bytes u. judge_into (Front (ExternalWithin (suc level)) bytes) (λ x. Front (ExternalWithin (suc level)) bytes x × Unit {0}) NotDeep NotDeep (external_at (suc level) end bytes) (λ x t. (t, tt)) (λ f k. k)
    (external_judged level end bytes)) (length rest) rest (omega arith) tt))
    (λ other. inr (high_deep level (c ∷ rest), λ e. cc))

-- Externals that are spelled are read, or stand too deep
block_reads : (level end : ℕ) (xs : List ExternalParts) (b : List ℕ) → SpellsEach SpellsExternal xs b
    → (block_content level end (0 ∷ b) ≡ Ok xs) ⊎ ((f : Fault) × (block_content level end (0 ∷ b) ≡ Err f) × (f.reason ≡ TooDeep))
unfolding block_content byte_at external_at each_with
block_reads (suc level) end [] b h = inl (content_complete (suc level) end [] b h (omega arith))
block_reads (suc level) end (x ∷ xs) b h = inl (content_complete (suc level) end (x ∷ xs) b h (omega arith))
block_reads zero end [] b h = inl (content_complete zero end [] b h (omega arith))
block_reads zero end (x ∷ xs) b h = by_front h.0 (external_long x h.0 h.2) h.4
  where
    by_front : (a : List ℕ) → 0 < length a → b ≡ a ++ h.1 → (block_content zero end (0 ∷ b) ≡ Ok (x ∷ xs)) ⊎ ((f : Fault) × (block_content zero end (0 ∷ b) ≡ Err f) × (f.reason ≡ TooDeep))
    by_front [] some e = absurd (omega arith)
    by_front (c ∷ a) some e = inr (fault_at end (c ∷ (a ++ h.1)) TooDeep, rw e refl, refl)

abbrev pub failed : Fault → Result (List ExternalParts) Fault
failed f = Err f

fault_is : (f g : Fault) → failed f ≡ failed g → f ≡ g
fault_is f g e = cc

never_ok : (xs : List ExternalParts) (f : Fault) → Ok xs ≡ failed f → ⊥
never_ok xs f e = cc

pub no_block : (level end : ℕ) (content : List ℕ) (f : Fault) → block_content level end content ≡ failed f → (f.reason ≡ TooDeep → ⊥)
    → (xs : List ExternalParts) (b : List ℕ) → content ≡ 0 ∷ b → SpellsEach SpellsExternal xs b → ⊥
no_block level end content f e other xs b is h =
    elim (block_reads level end xs b h) [
      | inl reads ↦ never_ok xs f (sym reads ∙ ap (block_content level end) (sym is) ∙ e)
      | inr deep ↦ other (ap (λ (g : Fault). g.reason) (fault_is f deep.0 (sym e ∙ ap (block_content level end) is ∙ deep.1)) ∙ deep.2)
    ]

-- ---- a block that fails

is_told : (refused : Fault) (why : ItemReason) (f : Fault) → (why ≡ TooDeep → ⊥) → block_fault refused why f ≡ refused
is_told refused TooDeep f other = absurd (other refl)
is_told refused why f other = refl

pub block_judged : (level : ℕ) (refused : Fault) (end : ℕ) (content : List ℕ) → Judge (InBlock level content) (FailsBlock level refused end content) (in_block refused (block_content level end content))
block_judged level refused end content = by_content (block_content level end content) refl (content_judged level end content)
  where
    by_content : (r : Result (List ExternalParts) Fault) → block_content level end content ≡ r → Judge (InBlock level content) (DeepOrNot level end content) r
        → Judge (InBlock level content) (FailsBlock level refused end content) (in_block refused r)
    by_content (Ok xs) e j = j
    by_content (Err f) e (inl (b, deep, is)) = inl (b, deep, ap (λ (g : Fault). block_fault refused g.reason g) is)
    by_content (Err f) e (inr (shallow, other)) = inr (shallow, λ k. no_block level end content f e other k.0 k.1 k.2 k.3, is_told refused f.reason f other)

deep_read : (end : ℕ) (b : List ℕ) → (b ≡ [] → ⊥) → block_content 0 end (0 ∷ b) ≡ failed (fault_at end b TooDeep)
unfolding block_content byte_at external_at each_with
deep_read end [] some = absurd (some refl)
deep_read end (c ∷ rest) some = refl

pub block_stops : (level : ℕ) (refused : Fault) (end : ℕ) (content : List ℕ) (f : Fault) → FailsBlock level refused end content f → in_block refused (block_content level end content) ≡ failed f
block_stops level refused end content f (inl (b, (flat, whole, some), is)) =
    let read : block_content level end content ≡ failed (fault_at end b TooDeep) = rw (flat, whole) (deep_read end b some) in
    ap (in_block refused) read ∙ ap Err (sym is)
block_stops level refused end content f (inr (shallow, none, is)) = by_content (block_content level end content) (content_judged level end content)
  where
    by_content : (r : Result (List ExternalParts) Fault) → Judge (InBlock level content) (DeepOrNot level end content) r → in_block refused r ≡ failed f
    by_content (Ok xs) j = absurd (none (xs, j.0, j.1, j.2))
    by_content (Err g) (inl (b, deep, e)) = absurd (shallow b deep)
    by_content (Err g) (inr (_, other)) = ap Err (is_told refused g.reason g other ∙ sym is)
