-- Items: what is spelled is read, and where it fails the reading stops.
use Rattle.std.proofs.Common.{◌≡◌, ℕ, zero, suc, ◌-◌, ◌+◌, ◌≤◌, ◌<◌, true, List, [], ◌∷◌, ◌++◌, length, Result, Ok, Err, refl, sym, ap, subst, ◌∙◌, append_assoc, arith}
use Rattle.acpi_name.specs.Names.{NameParts}
use Rattle.acpi_name.specs.Spelling.{SpellsName}
use Rattle.acpi_table.specs.PkgLength.{SpellsPkgLength}
use Rattle.acpi_code.specs.declared.opcode.Opcode.{Opcode}
use Rattle.acpi_code.specs.declared.opcode.Opcode.TheVariants as opcodes
use Rattle.acpi_tree.specs.declared.tree.Width.{Width}
use Rattle.acpi_tree.specs.declared.tree.Width.TheVariants as widths
use Rattle.acpi_tree.specs.declared.tree.ScopeKind.{ScopeKind}
use Rattle.acpi_tree.specs.declared.tree.ScopeKind.TheVariants as kinds
use Rattle.acpi_tree.specs.Tree.{DataTree, FieldTree, ExternalParts, ItemTree, name, scope, method, external, external_block, create, create_field, mutex, event, region, field, index_field, bank_field, ItemTrees, no_items, item, items_of}
use Rattle.acpi_code.specs.Opcodes.{width_bytes, opcode_bytes}
use Rattle.acpi_code.specs.Spelling.{SpellsEach, Packs}
use Rattle.acpi_code.specs.Fields.{SpellsFields}
use Rattle.acpi_code.specs.Forms.{fixed_arguments, ArgumentsOf, kind_opcode, kind_arguments}
use Rattle.acpi_code.specs.Faults.{Failure, FailsAs, FailsInTurn, FailsName, FailsPackage, FailsUnless, FailsFields}
use Rattle.acpi_code.specs.steps.Opcodes.{is_spelled}
use Rattle.acpi_code.specs.steps.Reading.{opcode_at, name_in, each_at}
use Rattle.acpi_code.proofs.Readings.{Judge, judge_bind, Front}
use Rattle.acpi_code.proofs.Lists.{AreAll, none_left, one_more, all_at, fails_on}
use Rattle.acpi_code.proofs.Names.{name_in_complete}
use Rattle.acpi_code.proofs.Opcodes.{opens, Opened}
use Rattle.acpi_code.proofs.Packages.{package_complete}
use Rattle.acpi_code.proofs.Exact.{Exact, exact_as, made_judged, behind_judged, turn_judged, turn_stops, exact_each, package_judged, package_stops, by_opcode_judged, by_opcode_stops, fails_behind}
use Rattle.acpi_code.proofs.ExactParts.{exact_name}
use Rattle.acpi_terms.specs.declared.fault.ItemReason.TheVariants.{ModuleIf}
use Rattle.acpi_terms.specs.Faults.{reason_at, refusal, FailsPart, FailsNever, FailsForm, FailsFilled, FailsData, FailsBlock, FailsIf, FailsItemBy, FailsItem, FailsItems}
use Rattle.acpi_terms.specs.Spelling.{data_grammar, SpellsArguments, SpellsExternal, SpellsItem, SpellsItems, block_height, item_height, items_height, SpellsFilled, SpellsForm, ItemWithin}
use Rattle.acpi_terms.specs.steps.Data.{data_height}
use Rattle.acpi_terms.specs.steps.Reading.{Fault, fault_at, part, part_fault, constant_fault, fields_in, bytes_in, plain_at, packed_at, parts_at, block_content, in_block, data_at, name_item, block_item, item_by, items_with, item_at, items_at}
use Rattle.acpi_terms.proofs.Arguments.{arguments_height, plain_complete, packed_complete, plain_judged, plain_stops, filled_judged, filled_stops}
use Rattle.acpi_terms.proofs.DataSpelling.{data_spelled, spelled_data, data_levels}
use Rattle.acpi_terms.proofs.DataTrees.{data_complete, DataWithin, data_judged, data_stops, opens_with}
use Rattle.acpi_terms.proofs.Fields.{fields_complete, exact_fields}
use Rattle.acpi_terms.proofs.ScopeKinds.{kind_form}
use Rattle.acpi_terms.proofs.Blocks.{parts_complete, content_complete, InBlock, block_judged, block_stops, parts_judged, parts_stop}

-- ==== what is spelled is read

-- ---- one item, whose parts are read

abbrev inner_items : ℕ → ℕ → List ℕ → Result ItemTrees Fault
inner_items level = items_with (item_at level)

opened : (level end : ℕ) (opcode : Opcode) (more : List ℕ) → is_spelled opcode ≡ true
    → item_at (suc level) end (opcode_bytes opcode ++ more) ≡ item_by (inner_items level) level end (opcode_bytes opcode ++ more) opcode more
unfolding item_at
opened level end opcode more h = rw (opens end opcode more h) refl

-- a form is read as what stands behind its opcode is
plain_item : (opcode : Opcode) (made : ArgumentsOf opcode → ItemTree) (level end : ℕ) (v : ArgumentsOf opcode) (bytes rest : List ℕ)
    → is_spelled opcode ≡ true → arguments_height (fixed_arguments opcode) ≤ level
    → ((whole more : List ℕ) → item_by (inner_items level) level end whole opcode more ≡ plain_at (fixed_arguments opcode) made level end more)
    → SpellsForm opcode v bytes → item_at (suc level) end (bytes ++ rest) ≡ Ok (made v, rest)
plain_item opcode made level end v bytes rest some le form h =
    rw (h.2, append_assoc (opcode_bytes opcode) h.0 rest)
    (opened level end opcode (h.0 ++ rest) some ∙ form (opcode_bytes opcode ++ (h.0 ++ rest)) (h.0 ++ rest) ∙ plain_complete (fixed_arguments opcode) made level end v h.0 rest le h.1)

packed_item : {X : Type 0} (opcode : Opcode) (made : ArgumentsOf opcode → X → ItemTree) (inner : ℕ → List ℕ → Result X Fault)
    (Fills : List ℕ → Type 0) (level end : ℕ) (v : ArgumentsOf opcode) (x : X) (bytes rest : List ℕ)
    → is_spelled opcode ≡ true → arguments_height (fixed_arguments opcode) ≤ level
    → ((whole more : List ℕ) → item_by (inner_items level) level end whole opcode more ≡ packed_at (fixed_arguments opcode) made level inner end more)
    → ((b : List ℕ) → Fills b → inner (end - length rest) b ≡ Ok x) → SpellsFilled opcode v Fills bytes → item_at (suc level) end (bytes ++ rest) ≡ Ok (made v x, rest)
packed_item opcode made inner Fills level end v x bytes rest some le form fills h =
    let p = h.4 in
    let more = (p.len ++ (h.0 ++ h.1)) ++ rest in
    rw (p.whole, append_assoc (opcode_bytes opcode) (p.len ++ (h.0 ++ h.1)) rest)
    (opened level end opcode more some ∙ form (opcode_bytes opcode ++ more) more ∙ packed_complete (fixed_arguments opcode) made level inner end v x p.len h.0 h.1 rest le h.2 (fills h.1 h.3) p.spells_len)

name_item_complete : (level end : ℕ) (n : NameParts) (d : DataTree) (a rest : List ℕ) → SpellsItem (name n d) a → data_height d ≤ level → item_at (suc level) end (a ++ rest) ≡ Ok (name n d, rest)
name_item_complete level end n d a rest h le =
    rw (h.4, append_assoc h.0 h.1 rest)
    (opened level end opcodes.DeclareName (h.0 ++ (h.1 ++ rest)) refl ∙ rw (name_in_complete end n h.0 (h.1 ++ rest) h.2, data_complete d level end h.1 rest (spelled_data data_grammar d h.1 h.3) le) refl)

block_complete : (level end : ℕ) (xs : List ExternalParts) (a rest : List ℕ) → SpellsItem (external_block xs) a → block_height xs ≤ suc level
    → item_at (suc level) end (a ++ rest) ≡ Ok (external_block xs, rest)
block_complete level end xs a rest h le =
    let p = h.2 in
    rw (p.whole, append_assoc p.len (0 ∷ h.0) rest)
    (opened level end opcodes.If (p.len ++ ((0 ∷ h.0) ++ rest)) refl ∙ rw (package_complete end p.len (0 ∷ h.0) rest p.spells_len, content_complete level (end - length rest) xs h.0 h.1 le) refl)

width_long : (w : Width) (a : List ℕ) → 0 < length (width_bytes w ++ a)
width_long widths.DWord a = omega arith
width_long widths.Word a = omega arith
width_long widths.Byte a = omega arith
width_long widths.Bit a = omega arith
width_long widths.QWord a = omega arith

pub item_long : (i : ItemTree) (a : List ℕ) → SpellsItem i a → 0 < length a
item_long (name n d) a h = rw h.4 (omega arith)
item_long (scope kind n is) a h = rw h.4.whole ((kind_form kind).long (h.4.len ++ (h.0 ++ h.1)))
item_long (method n flags code) a h = rw h.4.whole (omega arith)
item_long (external x) a h = rw h.2 (omega arith)
item_long (external_block xs) a h = rw h.2.whole (omega arith)
item_long (create w source index n) a h = rw h.2 (width_long w h.0)
item_long (create_field source index bits n) a h = rw h.2 (omega arith)
item_long (mutex n flags) a h = rw h.2 (omega arith)
item_long (event n) a h = rw h.2 (omega arith)
item_long (region n space offset len) a h = rw h.2 (omega arith)
item_long (field r flags es) a h = rw h.4.whole (omega arith)
item_long (index_field i d flags es) a h = rw h.4.whole (omega arith)
item_long (bank_field r bank value flags es) a h = rw h.4.whole (omega arith)

-- ---- trees

abbrev pub listed : ItemTrees → List ItemTree
listed no_items = []
listed (item i is) = i ∷ listed is

pub items_of-listed : (is : ItemTrees) → items_of (listed is) ≡ is
items_of-listed no_items = refl
items_of-listed (item i is) = ap (item i) (items_of-listed is)

are_items : (level end : ℕ) (is : ItemTrees) (b : List ℕ) → AreAll (item_at level end) b (listed is) → items_with (item_at level) end b ≡ Ok is
are_items level end is b all = rw (all_at (item_at level end) b (listed is) all, items_of-listed is) refl

external_item_complete : (level end : ℕ) (x : ExternalParts) (a rest : List ℕ) → SpellsExternal x a → item_at (suc level) end (a ++ rest) ≡ Ok (external x, rest)
external_item_complete level end x a rest h =
    rw h.2 (opened level end opcodes.External (h.0 ++ rest) refl ∙ rw (parts_complete end x h.0 rest h.1) refl)

item_high : (i : ItemTree) → 0 < item_height i
item_high (name n d) = omega arith
item_high (scope kind n is) = omega arith
item_high (method n flags code) = omega arith
item_high (external x) = omega arith
item_high (external_block []) = omega arith
item_high (external_block (x ∷ xs)) = omega arith
item_high (create w source index n) = omega arith
item_high (create_field source index bits n) = omega arith
item_high (mutex n flags) = omega arith
item_high (event n) = omega arith
item_high (region n space offset len) = omega arith
item_high (field r flags es) = omega arith
item_high (index_field i d flags es) = omega arith
item_high (bank_field r bank value flags es) = omega arith

-- what opens a scope is read where its items are
scope_complete : (kind : ScopeKind) (level end : ℕ) (n : NameParts) (is : ItemTrees) (a rest : List ℕ)
    → ((b : List ℕ) → SpellsItems is b → inner_items level (end - length rest) b ≡ Ok is) → SpellsItem (scope kind n is) a → item_at (suc level) end (a ++ rest) ≡ Ok (scope kind n is, rest)
scope_complete kind level end n is a rest inside h =
    let f = kind_form kind in
    subst (λ (i : ItemTree). item_at (suc level) end (a ++ rest) ≡ Ok (i, rest)) (f.is n is)
    (packed_item (kind_opcode kind) f.made (inner_items level) (λ b. SpellsItems is b) level end (kind_arguments kind n) is a rest f.spelled (omega (arith, f.flat))
    (f.read (inner_items level) level end) inside h)

mutual
  one_complete : (i : ItemTree) (level end : ℕ) (a rest : List ℕ) → SpellsItem i a → item_height i ≤ suc level → item_at (suc level) end (a ++ rest) ≡ Ok (i, rest)
  one_complete (name n d) level end a rest h le = name_item_complete level end n d a rest h (omega (arith, data_levels d))
  one_complete (scope kind n is) level end a rest h le =
      scope_complete kind level end n is a rest (λ b s. are_items level (end - length rest) is b (items_complete is level (end - length rest) b s (omega arith))) h
  one_complete (method n flags code) level end a rest h le =
      packed_item opcodes.Method (λ v code. method v.0 v.1.0 code) bytes_in (λ b. b ≡ code) level end (n, (flags, tt)) code a rest refl (omega arith) (λ whole more. refl) (λ b s. ap Ok s) h
  one_complete (external x) level end a rest h le = external_item_complete level end x a rest h
  one_complete (external_block xs) level end a rest h le = block_complete level end xs a rest h le
  one_complete (create w source index n) level end a rest h le = plain_item (opcodes.Create w) (λ v. create w v.0 v.1.0 v.1.1.0) level end
      (source, (index, (n, tt))) a rest refl (omega arith) (λ whole more. refl) h
  one_complete (create_field source index bits n) level end a rest h le =
      plain_item opcodes.CreateField (λ v. create_field v.0 v.1.0 v.1.1.0 v.1.1.1.0) level end (source, (index, (bits, (n, tt)))) a rest refl (omega arith) (λ whole more. refl) h
  one_complete (mutex n flags) level end a rest h le =
      plain_item opcodes.Mutex (λ v. mutex v.0 v.1.0) level end (n, (flags, tt)) a rest refl (omega arith) (λ whole more. refl) h
  one_complete (event n) level end a rest h le =
      plain_item opcodes.Event (λ v. event v.0) level end (n, tt) a rest refl (omega arith) (λ whole more. refl) h
  one_complete (region n space offset len) level end a rest h le =
      plain_item opcodes.Region (λ v. region v.0 v.1.0 v.1.1.0 v.1.1.1.0) level end (n, (space, (offset, (len, tt)))) a rest refl (omega arith) (λ whole more. refl) h
  one_complete (field r flags es) level end a rest h le =
      packed_item opcodes.Field (λ v es. field v.0 v.1.0 es) fields_in (λ b. SpellsFields es b) level end (r, (flags, tt)) es a rest refl
      (omega arith) (λ whole more. refl) (λ b s. fields_complete es (end - length rest) b s) h
  one_complete (index_field i d flags es) level end a rest h le =
      packed_item opcodes.IndexField (λ v es. index_field v.0 v.1.0 v.1.1.0 es) fields_in (λ b. SpellsFields es b) level end (i, (d, (flags, tt))) es
      a rest refl (omega arith) (λ whole more. refl) (λ b s. fields_complete es (end - length rest) b s) h
  one_complete (bank_field r bank value flags es) level end a rest h le =
      packed_item opcodes.BankField (λ v es. bank_field v.0 v.1.0 v.1.1.0 v.1.1.1.0 es) fields_in (λ b. SpellsFields es b) level end
      (r, (bank, (value, (flags, tt)))) es a rest refl (omega arith) (λ whole more. refl) (λ b s. fields_complete es (end - length rest) b s) h

  pub items_complete : (is : ItemTrees) (level end : ℕ) (b : List ℕ) → SpellsItems is b → items_height is ≤ level → AreAll (item_at level end) b (listed is)
  items_complete no_items level end b h le = none_left (item_at level end) b h
  items_complete (item i is) zero end b h le = let high = item_high i in absurd (omega arith)
  items_complete (item i is) (suc level) end b h le =
      rw h.4 (one_more (item_at (suc level) end) h.0 h.1 i (listed is) (item_long i h.0 h.2) (one_complete i level end h.0 h.1 h.2 (omega arith))
      (items_complete is (suc level) end h.1 h.3 (omega arith)))

pub item_complete : (i : ItemTree) (level end : ℕ) (a rest : List ℕ) → SpellsItem i a → item_height i ≤ level → item_at level end (a ++ rest) ≡ Ok (i, rest)
item_complete i zero end a rest h le = let high = item_high i in absurd (omega arith)
item_complete i (suc level) end a rest h le = one_complete i level end a rest h le

-- what is spelled is read
pub code_complete : (is : ItemTrees) (depth : ℕ) (code : List ℕ) → SpellsItems is code → items_height is ≤ depth → items_at depth code ≡ Ok is
code_complete is depth code h le = are_items depth (length code) is code (items_complete is depth (length code) code h le)

-- ==== what was read is spelled, or it fails so; and where it fails the reading stops

abbrev pub ItemsWithin : ℕ → ItemTrees → List ℕ → Type 0
ItemsWithin level is bytes = SpellsItems is bytes × (items_height is ≤ level)

items_within : (level : ℕ) (is : List ItemTree) (bytes : List ℕ) → SpellsEach (ItemWithin level) is bytes → ItemsWithin level (items_of is) bytes
items_within level [] bytes h = (h, omega arith)
items_within level (i ∷ is) bytes h =
    let more = items_within level is h.1 h.3 in
    ((h.0, h.1, h.2.0, more.0, h.4), omega (arith, h.2.1, more.1))

within_long : (level : ℕ) (i : ItemTree) (a : List ℕ) → ItemWithin level i a → 0 < length a
within_long level i a h = item_long i a h.0

abbrev ExactItem : ℕ → Type 0
ExactItem level = Exact (ItemWithin level) (FailsItem level) (item_at level)

inner_judged : (level : ℕ) → ExactItem level → (end : ℕ) (bytes : List ℕ) → Judge (λ is. ItemsWithin level is bytes) (FailsItems level end bytes) (items_with (item_at level) end bytes)
inner_judged level one end bytes =
    judge_bind (λ is. SpellsEach (ItemWithin level) is bytes) (λ is. ItemsWithin level is bytes) (FailsItems level end bytes) (each_at (item_at level end) bytes) _
    ((exact_each (ItemWithin level) (FailsItem level) (item_at level) one (within_long level)).judged end bytes) (λ is k. items_within level is bytes k)

inner_stops : (level : ℕ) → ExactItem level → (f : Fault) (end : ℕ) (bytes : List ℕ) → FailsItems level end bytes f → items_with (item_at level) end bytes ≡ Err f
inner_stops level one f end bytes h =
    fails_on f (each_at (item_at level end) bytes) (λ is. Ok (items_of is)) ((exact_each (ItemWithin level) (FailsItem level) (item_at level) one (within_long level)).stops end bytes f h)

-- ---- a name, a block

name_item_judged : (level end : ℕ) (bytes rest : List ℕ) → bytes ≡ 8 ∷ rest
    → Judge (Front (ItemWithin (suc level)) bytes) (FailsItemBy (FailsItems level) level opcodes.DeclareName end bytes) (name_item level end rest)
name_item_judged level end bytes rest is =
    let Behind : ItemTree → List ℕ → Type 0 = λ i a. ItemWithin (suc level) i (8 ∷ a) in
    let G : ItemTree × List ℕ → Type 0 = Front Behind rest in
    behind_judged Behind (ItemWithin (suc level)) (FailsInTurn (FailsPart FailsName) SpellsName (λ n. FailsData level)) (8 ∷ []) end bytes rest (name_item level end rest) is (λ i a k. k)
    (turn_judged SpellsName (FailsPart FailsName) (λ n. FailsData level) (λ end bytes. part (name_in end bytes)) G end rest _ (exact_as SpellsName FailsName name_in part_fault exact_name) (λ n t.
    judge_bind (Front (DataWithin level) n.1) G (FailsData level end n.1) (data_at level end n.1) _ (data_judged level end n.1) (λ d u.
    record {
      front = t.front ++ u.front;
      spells = ((t.front, u.front, t.spells, data_spelled data_grammar d.0 u.front u.spells.0, refl), omega (arith, u.spells.1, data_levels d.0));
      whole = t.whole ∙ ap (λ (l : List ℕ). t.front ++ l) u.whole ∙ sym (append_assoc t.front u.front d.1);
    })))

name_item_stops : (level end : ℕ) (rest : List ℕ) (f : Fault) → FailsInTurn (FailsPart FailsName) SpellsName (λ n. FailsData level) end rest f → name_item level end rest ≡ Err f
name_item_stops level end rest f h =
    turn_stops SpellsName (FailsPart FailsName) (λ n. FailsData level) (λ end bytes. part (name_in end bytes)) end rest _ f (exact_as SpellsName FailsName name_in part_fault exact_name)
    (λ n b k. fails_on f (data_at level end b) (λ d. Ok (name n d.0, d.1)) (data_stops level end b f k)) h

block_item_judged : (level end : ℕ) (bytes rest : List ℕ) → bytes ≡ 160 ∷ rest → Judge (Front (ItemWithin (suc level)) bytes) (FailsIf level end bytes) (block_item level end bytes rest)
block_item_judged level end bytes rest is =
    let told = fault_at end bytes ModuleIf in
    let Behind : ItemTree → List ℕ → Type 0 = λ i a. ItemWithin (suc level) i (160 ∷ a) in
    let G : ItemTree × List ℕ → Type 0 = Front Behind rest in
    behind_judged Behind (ItemWithin (suc level)) (FailsPackage part_fault (FailsBlock level told)) (160 ∷ []) end bytes rest (block_item level end bytes rest) is (λ i a k. k)
    (package_judged part_fault (FailsBlock level told) G end rest _ (λ p g.
    judge_bind (InBlock level p.content) G (FailsBlock level told p.end p.content) (in_block told (block_content level p.end p.content)) _ (block_judged level told p.end p.content) (λ xs j.
    let packs : Packs (160 ∷ []) (0 ∷ j.0) (160 ∷ (g.len ++ (0 ∷ j.0))) =
    record {
      len = g.len;
      spells_len = subst (λ (y : List ℕ). SpellsPkgLength (length g.len + length y) g.len) j.1 g.spells_len;
      whole = refl;
    } in
    record {
      front = g.len ++ (0 ∷ j.0);
      spells = ((j.0, j.2, packs), j.3);
      whole = g.whole ∙ ap (λ (y : List ℕ). g.len ++ (y ++ p.rest)) j.1 ∙ sym (append_assoc g.len (0 ∷ j.0) p.rest);
    })))

block_item_stops : (level end : ℕ) (bytes rest : List ℕ) (f : Fault) → FailsPackage part_fault (FailsBlock level (fault_at end bytes ModuleIf)) end rest f → block_item level end bytes rest ≡ Err f
block_item_stops level end bytes rest f h =
    let told = fault_at end bytes ModuleIf in
    package_stops part_fault (FailsBlock level told) end rest _ f
    (λ p k. fails_on f (in_block told (block_content level p.end p.content)) (λ xs. Ok (external_block xs, p.rest)) (block_stops level told p.end p.content f k)) h

-- ---- forms

-- what an item fails by that begins with the opcode
abbrev FailsBy : ℕ → Opcode → Failure Fault
FailsBy level o = FailsUnless reason_at (refusal o) (FailsItemBy (FailsItems level) level o)

plain_form : (level end : ℕ) (o : Opcode) (made : ArgumentsOf o → ItemTree) (bytes rest : List ℕ) (op : Opened bytes (o, rest)) → op.front ≡ opcode_bytes o
    → ((v : ArgumentsOf o) (front : List ℕ) → SpellsForm o v front → arguments_height (fixed_arguments o) ≤ level → ItemWithin (suc level) (made v) front)
    → Judge (Front (ItemWithin (suc level)) bytes) (FailsForm level o end bytes) (plain_at (fixed_arguments o) made level end rest)
plain_form level end o made bytes rest op is spells = plain_judged level end o made (ItemWithin (suc level)) bytes rest (opens_with bytes o rest (opcode_bytes o) op is) spells

filled_form : {X : Type 0} (level end : ℕ) (o : Opcode) (made : ArgumentsOf o → X → ItemTree) (inner : ℕ → List ℕ → Result X Fault) (Fills : X → List ℕ → Type 0) (Inside : Failure Fault)
    (bytes rest : List ℕ) (op : Opened bytes (o, rest)) → op.front ≡ opcode_bytes o
    → ((v : ArgumentsOf o) (x : X) (front a b : List ℕ) → SpellsArguments (fixed_arguments o) v a → arguments_height (fixed_arguments o) ≤ level
    → Fills x b → Packs (opcode_bytes o) (a ++ b) front → ItemWithin (suc level) (made v x) front)
    → ((end : ℕ) (b : List ℕ) → Judge (λ x. Fills x b) (Inside end b) (inner end b))
    → Judge (Front (ItemWithin (suc level)) bytes) (FailsFilled level o Inside end bytes) (packed_at (fixed_arguments o) made level inner end rest)
filled_form level end o made inner Fills Inside bytes rest op is spells fills =
    filled_judged level end o made inner Fills Inside (ItemWithin (suc level)) bytes rest (opens_with bytes o rest (opcode_bytes o) op is) spells fills

-- with items in it
scope_form : (level : ℕ) → ExactItem level → (end : ℕ) (o : Opcode) (made : ArgumentsOf o → ItemTrees → ItemTree) (bytes rest : List ℕ) (op : Opened bytes (o, rest)) → op.front ≡ opcode_bytes o
    → ((v : ArgumentsOf o) (x : ItemTrees) (front a b : List ℕ) → SpellsArguments (fixed_arguments o) v a → SpellsItems x b → Packs (opcode_bytes o) (a ++ b) front → SpellsItem (made v x) front)
    → ((v : ArgumentsOf o) (x : ItemTrees) → item_height (made v x) ≡ suc (items_height x))
    → Judge (Front (ItemWithin (suc level)) bytes) (FailsFilled level o (FailsItems level) end bytes) (packed_at (fixed_arguments o) made level (items_with (item_at level)) end rest)
scope_form level one end o made bytes rest op is spells high =
    filled_form level end o made (items_with (item_at level)) (ItemsWithin level) (FailsItems level) bytes rest op is
    (λ v x front a b k le fills p. (spells v x front a b k fills.0 p, omega (arith, fills.1, high v x))) (inner_judged level one)

-- with a field list in it
units_form : (level end : ℕ) (o : Opcode) (made : ArgumentsOf o → List FieldTree → ItemTree) (bytes rest : List ℕ) (op : Opened bytes (o, rest)) → op.front ≡ opcode_bytes o
    → ((v : ArgumentsOf o) (x : List FieldTree) (front a b : List ℕ) → SpellsArguments (fixed_arguments o) v a → arguments_height (fixed_arguments o) ≤ level
    → SpellsFields x b → Packs (opcode_bytes o) (a ++ b) front → ItemWithin (suc level) (made v x) front)
    → Judge (Front (ItemWithin (suc level)) bytes) (FailsFilled level o (FailsAs constant_fault FailsFields) end bytes) (packed_at (fixed_arguments o) made level fields_in end rest)
units_form level end o made bytes rest op is spells =
    filled_form level end o made fields_in (λ es b. SpellsFields es b) (FailsAs constant_fault FailsFields) bytes rest op is spells exact_fields.judged

item_by_judged : (level : ℕ) → ExactItem level → (end : ℕ) (o : Opcode) (bytes rest : List ℕ) → Opened bytes (o, rest)
    → Judge (Front (ItemWithin (suc level)) bytes) (FailsBy level o end bytes) (item_by (items_with (item_at level)) level end bytes o rest)
item_by_judged level one end opcodes.DeclareName bytes rest o = name_item_judged level end bytes rest (opens_with bytes opcodes.DeclareName rest (8 ∷ []) o o.told.1)
item_by_judged level one end opcodes.Scope bytes rest o =
    scope_form level one end opcodes.Scope (λ v is. scope kinds.Scope v.0 is) bytes rest o o.told.1 (λ v x front a b k s p. (a, b, k, s, p)) (λ v x. refl)
item_by_judged level one end opcodes.Method bytes rest o =
    filled_form level end opcodes.Method (λ v code. method v.0 v.1.0 code) bytes_in (λ code b. b ≡ code) FailsNever bytes rest o o.told.1
    (λ v x front a b k le fills p. ((a, b, k, fills, p), omega arith)) (λ end b. refl)
item_by_judged level one end opcodes.External bytes rest o =
    made_judged SpellsExternal (ItemWithin (suc level)) (FailsForm 0 opcodes.External end bytes) (λ x. external x) bytes (parts_at end rest) (λ x a k. (k, omega arith))
    (parts_judged end bytes rest (opens_with bytes opcodes.External rest (21 ∷ []) o o.told.1))
item_by_judged level one end opcodes.If bytes rest o = block_item_judged level end bytes rest (opens_with bytes opcodes.If rest (160 ∷ []) o o.told.1)
item_by_judged level one end (opcodes.Create w) bytes rest o =
    plain_form level end (opcodes.Create w) (λ v. create w v.0 v.1.0 v.1.1.0) bytes rest o o.told.1 (λ v front k le. (k, omega (arith, le)))
item_by_judged level one end opcodes.CreateField bytes rest o =
    plain_form level end opcodes.CreateField (λ v. create_field v.0 v.1.0 v.1.1.0 v.1.1.1.0) bytes rest o o.told.1 (λ v front k le. (k, omega (arith, le)))
item_by_judged level one end opcodes.Mutex bytes rest o = plain_form level end opcodes.Mutex (λ v. mutex v.0 v.1.0) bytes rest o o.told.1 (λ v front k le. (k, omega arith))
item_by_judged level one end opcodes.Event bytes rest o = plain_form level end opcodes.Event (λ v. event v.0) bytes rest o o.told.1 (λ v front k le. (k, omega arith))
item_by_judged level one end opcodes.Region bytes rest o =
    plain_form level end opcodes.Region (λ v. region v.0 v.1.0 v.1.1.0 v.1.1.1.0) bytes rest o o.told.1 (λ v front k le. (k, omega (arith, le)))
item_by_judged level one end opcodes.Field bytes rest o =
    units_form level end opcodes.Field (λ v es. field v.0 v.1.0 es) bytes rest o o.told.1 (λ v x front a b k le fills p. ((a, b, k, fills, p), omega arith))
item_by_judged level one end opcodes.IndexField bytes rest o =
    units_form level end opcodes.IndexField (λ v es. index_field v.0 v.1.0 v.1.1.0 es) bytes rest o o.told.1 (λ v x front a b k le fills p. ((a, b, k, fills, p), omega arith))
item_by_judged level one end opcodes.BankField bytes rest o =
    units_form level end opcodes.BankField (λ v es. bank_field v.0 v.1.0 v.1.1.0 v.1.1.1.0 es) bytes rest o o.told.1 (λ v x front a b k le fills p. ((a, b, k, fills, p), omega (arith, le)))
item_by_judged level one end opcodes.Device bytes rest o =
    scope_form level one end opcodes.Device (λ v is. scope kinds.Device v.0 is) bytes rest o o.told.1 (λ v x front a b k s p. (a, b, k, s, p)) (λ v x. refl)
item_by_judged level one end opcodes.Processor bytes rest o =
    scope_form level one end opcodes.Processor (λ v is. scope (kinds.Processor v.1.0 v.1.1.0 v.1.1.1.0) v.0 is) bytes rest o o.told.1 (λ v x front a b k s p. (a, b, k, s, p)) (λ v x. refl)
item_by_judged level one end opcodes.Power bytes rest o =
    scope_form level one end opcodes.Power (λ v is. scope (kinds.Power v.1.0 v.1.1.0) v.0 is) bytes rest o o.told.1 (λ v x front a b k s p. (a, b, k, s, p)) (λ v x. refl)
item_by_judged level one end opcodes.Thermal bytes rest o =
    scope_form level one end opcodes.Thermal (λ v is. scope kinds.Thermal v.0 is) bytes rest o o.told.1 (λ v x front a b k s p. (a, b, k, s, p)) (λ v x. refl)
item_by_judged level one end term bytes rest o = refl

item_by_stops : (level : ℕ) → ExactItem level → (end : ℕ) (o : Opcode) (bytes rest : List ℕ) (f : Fault) → opcode_at end bytes ≡ Ok (o, rest)
    → FailsBy level o end bytes f → item_by (items_with (item_at level)) level end bytes o rest ≡ Err f
item_by_stops level one end opcodes.DeclareName bytes rest f read h =
    name_item_stops level end rest f (fails_behind (FailsInTurn (FailsPart FailsName) SpellsName (λ n. FailsData level)) opcodes.DeclareName end bytes rest f refl read h)
item_by_stops level one end opcodes.Scope bytes rest f read h =
    filled_stops level end opcodes.Scope (λ v is. scope kinds.Scope v.0 is) (items_with (item_at level)) (FailsItems level) bytes rest f refl read (inner_stops level one f) h
item_by_stops level one end opcodes.Method bytes rest f read h =
    filled_stops level end opcodes.Method (λ v code. method v.0 v.1.0 code) bytes_in FailsNever bytes rest f refl read (λ end b k. absurd k) h
item_by_stops level one end opcodes.External bytes rest f read h = fails_on f (parts_at end rest) (λ x. Ok (external x.0, x.1)) (parts_stop end bytes rest f read h)
item_by_stops level one end opcodes.If bytes rest f read h =
    block_item_stops level end bytes rest f (fails_behind (FailsPackage part_fault (FailsBlock level (fault_at end bytes ModuleIf))) opcodes.If end bytes rest f refl read h)
item_by_stops level one end (opcodes.Create w) bytes rest f read h = plain_stops level end (opcodes.Create w) (λ v. create w v.0 v.1.0 v.1.1.0) bytes rest f refl read h
item_by_stops level one end opcodes.CreateField bytes rest f read h = plain_stops level end opcodes.CreateField (λ v. create_field v.0 v.1.0 v.1.1.0 v.1.1.1.0) bytes rest f refl read h
item_by_stops level one end opcodes.Mutex bytes rest f read h = plain_stops level end opcodes.Mutex (λ v. mutex v.0 v.1.0) bytes rest f refl read h
item_by_stops level one end opcodes.Event bytes rest f read h = plain_stops level end opcodes.Event (λ v. event v.0) bytes rest f refl read h
item_by_stops level one end opcodes.Region bytes rest f read h = plain_stops level end opcodes.Region (λ v. region v.0 v.1.0 v.1.1.0 v.1.1.1.0) bytes rest f refl read h
item_by_stops level one end opcodes.Field bytes rest f read h =
    filled_stops level end opcodes.Field (λ v es. field v.0 v.1.0 es) fields_in (FailsAs constant_fault FailsFields) bytes rest f refl read (λ end b k. exact_fields.stops end b f k) h
item_by_stops level one end opcodes.IndexField bytes rest f read h =
    filled_stops level end opcodes.IndexField (λ v es. index_field v.0 v.1.0 v.1.1.0 es) fields_in (FailsAs constant_fault FailsFields) bytes rest f refl read (λ end b k. exact_fields.stops end b f k) h
item_by_stops level one end opcodes.BankField bytes rest f read h =
    filled_stops level end opcodes.BankField (λ v es. bank_field v.0 v.1.0 v.1.1.0 v.1.1.1.0 es) fields_in (FailsAs constant_fault FailsFields) bytes rest f refl read (λ end b k. exact_fields.stops end b f k) h
item_by_stops level one end opcodes.Device bytes rest f read h =
    filled_stops level end opcodes.Device (λ v is. scope kinds.Device v.0 is) (items_with (item_at level)) (FailsItems level) bytes rest f refl read (inner_stops level one f) h
item_by_stops level one end opcodes.Processor bytes rest f read h =
    filled_stops level end opcodes.Processor (λ v is. scope (kinds.Processor v.1.0 v.1.1.0 v.1.1.1.0) v.0 is) (items_with (item_at level)) (FailsItems level) bytes rest f refl read (inner_stops level one f) h
item_by_stops level one end opcodes.Power bytes rest f read h =
    filled_stops level end opcodes.Power (λ v is. scope (kinds.Power v.1.0 v.1.1.0) v.0 is) (items_with (item_at level)) (FailsItems level) bytes rest f refl read (inner_stops level one f) h
item_by_stops level one end opcodes.Thermal bytes rest f read h =
    filled_stops level end opcodes.Thermal (λ v is. scope kinds.Thermal v.0 is) (items_with (item_at level)) (FailsItems level) bytes rest f refl read (inner_stops level one f) h
item_by_stops level one end term bytes rest f read h = ap Err (sym h)

-- ---- with their opcodes

item_found : (level end : ℕ) (i : ItemTree) (a rest : List ℕ) → ItemWithin level i a → item_at level end (a ++ rest) ≡ Ok (i, rest)
item_found level end i a rest h = item_complete i level end a rest h.0 h.1

item_judged_by : (level : ℕ) → ExactItem level → (end : ℕ) (bytes : List ℕ) → Judge (Front (ItemWithin (suc level)) bytes) (FailsItem (suc level) end bytes) (item_at (suc level) end bytes)
unfolding item_at
item_judged_by level one end bytes = by_opcode_judged part_fault (FailsBy level) (Front (ItemWithin (suc level)) bytes) end bytes _ (λ x o. item_by_judged level one end x.0 bytes x.1 o)

item_stops_by : (level : ℕ) → ExactItem level → (end : ℕ) (bytes : List ℕ) (f : Fault) → FailsItem (suc level) end bytes f → item_at (suc level) end bytes ≡ Err f
unfolding item_at
item_stops_by level one end bytes f h = by_opcode_stops part_fault (FailsBy level) end bytes _ f (λ o rest read k. item_by_stops level one end o bytes rest f read k) h

no_item_judged : (end : ℕ) (bytes : List ℕ) → Judge (Front (ItemWithin 0) bytes) (FailsItem 0 end bytes) (item_at 0 end bytes)
unfolding item_at
no_item_judged end bytes = refl

no_item_stops : (end : ℕ) (bytes : List ℕ) (f : Fault) → FailsItem 0 end bytes f → item_at 0 end bytes ≡ Err f
unfolding item_at
no_item_stops end bytes f h = ap Err (sym h)

pub exact_item : (level : ℕ) → ExactItem level
exact_item zero = record { found = item_found 0; judged = no_item_judged; stops = no_item_stops }
exact_item (suc level) = record { found = item_found (suc level); judged = item_judged_by level (exact_item level); stops = item_stops_by level (exact_item level) }

-- what is read is spelled so, and a fault is that by which the code fails
pub code_judged : (depth : ℕ) (code : List ℕ) → Judge (λ is. ItemsWithin depth is code) (FailsItems depth (length code) code) (items_at depth code)
code_judged depth code = inner_judged depth (exact_item depth) (length code) code

-- where the code fails its reading stops
pub code_stops : (depth : ℕ) (code : List ℕ) (f : Fault) → FailsItems depth (length code) code f → items_at depth code ≡ Err f
code_stops depth code f h = inner_stops depth (exact_item depth) f (length code) code h
