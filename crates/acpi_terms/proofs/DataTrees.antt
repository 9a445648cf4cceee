-- Data: what is spelled is read, and where it fails the reading stops.
use Rattle.std.proofs.Common.{◌≡◌, ℕ, zero, suc, ◌-◌, ◌≤◌, ◌<◌, false, List, [], ◌∷◌, ◌++◌, length, Result, Ok, Err, refl, sym, ap, append_assoc, arith, ◌∙◌}
use Rattle.acpi_name.specs.Names.{NameParts}
use Rattle.acpi_name.proofs.NameAgain.{name_long}
use Rattle.acpi_code.specs.declared.opcode.Opcode.{Opcode}
use Rattle.acpi_tree.specs.declared.tree.Int.{Int}
use Rattle.acpi_code.specs.Opcodes.{is_name_opcode}
use Rattle.acpi_code.specs.Spelling.{SpellsInt, SpellsTermName, SpellsEach, SpellsText}
use Rattle.acpi_code.specs.Faults.{Failure, FailsBehind, FailsEach, FailsName, FailsText}
use Rattle.acpi_code.specs.steps.Reading.{opcode_at, name_in, string_at, constant_at, each_at}
use Rattle.acpi_code.specs.declared.opcode.Opcode.TheVariants as opcodes
use Rattle.acpi_code.proofs.Readings.{Judge, judge_bind, Front}
use Rattle.acpi_code.proofs.Lists.{AreAll, none_left, one_more, all_at, fails_on}
use Rattle.acpi_code.proofs.Names.{name_in_complete}
use Rattle.acpi_code.proofs.Opcodes.{opens, opens_name, Opened}
use Rattle.acpi_code.proofs.Constants.{form_of, int_long, int_opens}
use Rattle.acpi_code.proofs.Strings.{string_complete}
use Rattle.acpi_code.proofs.Exact.{Exact, as_judged, as_stops, made_judged, behind_judged, exact_each, by_opcode_judged, by_opcode_stops, fails_behind}
use Rattle.acpi_code.proofs.ExactParts.{exact_name, term_name_judged, exact_text, whole_judged, whole_stops}
use Rattle.acpi_code.specs.Forms.{byte_arg, int_arg}
use Rattle.acpi_tree.specs.Tree.{DataTree, int, str, buffer, pkg, var_pkg, ElemTree, of_data, of_name, ElemTrees, no_elems, elem, elems_of}
use Rattle.acpi_terms.specs.Faults.{FailsPart, FailsNever, FailsDataBy, FailsElemBy, FailsElem, FailsData}
use Rattle.acpi_terms.specs.Spelling.{data_grammar, ElemWithin}
use Rattle.acpi_terms.specs.steps.Data.{SpellsData, SpellsElem, SpellsElems, data_height, elem_height, elems_height}
use Rattle.acpi_terms.specs.steps.Reading.{Fault, bytes_in, data_by, elems_with, elem_at, data_at, string_data, elem_by, part, part_fault}
use Rattle.acpi_terms.proofs.Arguments.{packed_complete, filled_judged, filled_stops}
use Rattle.acpi_terms.proofs.DataSpelling.{elem_spelled, spelled_elem, elem_levels}

-- ==== what is spelled is read

-- ---- what begins so

abbrev pub data_opcode : DataTree → Opcode
data_opcode (int i) = opcodes.Constant (form_of i)
data_opcode (str text) = opcodes.Str
data_opcode (buffer size content) = opcodes.Buffer
data_opcode (pkg count es) = opcodes.Package
data_opcode (var_pkg count es) = opcodes.VarPackage

pub data_no_name : (d : DataTree) → is_name_opcode (data_opcode d) ≡ false
data_no_name (int i) = refl
data_no_name (str text) = refl
data_no_name (buffer size content) = refl
data_no_name (pkg count es) = refl
data_no_name (var_pkg count es) = refl

data_long : (d : DataTree) (bytes : List ℕ) → SpellsData d bytes → 0 < length bytes
data_long (int i) bytes h = int_long i bytes h
data_long (str text) bytes h = rw h.2 (omega arith)
data_long (buffer size content) bytes h = rw h.4.whole (omega arith)
data_long (pkg count es) bytes h = rw h.4.whole (omega arith)
data_long (var_pkg count es) bytes h = rw h.4.whole (omega arith)

pub elem_long : (e : ElemTree) (bytes : List ℕ) → SpellsElem e bytes → 0 < length bytes
elem_long (of_data d) bytes h = data_long d bytes h
elem_long (of_name n) bytes h = name_long n bytes h.0

-- ---- a form, with any reader for what stands in it

abbrev Inner : Type 0
Inner = ℕ → List ℕ → Result ElemTrees Fault

-- what begins there and what is read of it
abbrev Forms : Inner → ℕ → ℕ → DataTree → List ℕ → List ℕ → Type 0
Forms inner level end d bytes rest = (more : List ℕ) × (opcode_at end (bytes ++ rest) ≡ Ok (data_opcode d, more)) × (data_by inner level end (bytes ++ rest) (data_opcode d) more ≡ Ok (d, rest))

int_form : (inner : Inner) (level end : ℕ) (i : Int) (bytes rest : List ℕ) → SpellsInt i bytes → Forms inner level end (int i) bytes rest
int_form inner level end i bytes rest h = let o = int_opens i end bytes rest h in (o.0, o.1, rw o.2 refl)

string_form : (inner : Inner) (level end : ℕ) (text bytes rest : List ℕ) → SpellsData (str text) bytes → Forms inner level end (str text) bytes rest
string_form inner level end text bytes rest h =
    (text ++ 0 ∷ rest, rw (h.2, h.1.1, append_assoc text (0 ∷ []) rest) (opens end opcodes.Str (text ++ 0 ∷ rest) refl), rw (string_complete end text rest h.1.0) refl)

buffer_form : (inner : Inner) (level end : ℕ) (size : Int) (content bytes rest : List ℕ) → 0 < level → SpellsData (buffer size content) bytes → Forms inner level end (buffer size content) bytes rest
buffer_form inner level end size content bytes rest le h =
    let p = h.4 in (
      (p.len ++ (h.0 ++ h.1)) ++ rest,
      rw p.whole (opens end opcodes.Buffer ((p.len ++ (h.0 ++ h.1)) ++ rest) refl),
      packed_complete (int_arg ∷ []) (λ v content. buffer v.0 content) level bytes_in end (size, tt) content p.len h.0 h.1 rest (omega arith) h.2 (ap Ok h.3) p.spells_len,
    )

package_form : (inner : Inner) (level end count : ℕ) (es : ElemTrees) (bytes rest : List ℕ) → (h : SpellsData (pkg count es) bytes) → inner (end - length rest) h.1 ≡ Ok es
    → Forms inner level end (pkg count es) bytes rest
package_form inner level end count es bytes rest h read =
    let p = h.4 in (
      (p.len ++ (h.0 ++ h.1)) ++ rest,
      rw p.whole (opens end opcodes.Package ((p.len ++ (h.0 ++ h.1)) ++ rest) refl),
      packed_complete (byte_arg ∷ []) (λ v es. pkg v.0 es) level inner end (count, tt) es p.len h.0 h.1 rest (omega arith) h.2 read p.spells_len,
    )

var_package_form : (inner : Inner) (level end : ℕ) (count : Int) (es : ElemTrees) (bytes rest : List ℕ) → 0 < level → (h : SpellsData (var_pkg count es) bytes) → inner (end - length rest) h.1 ≡ Ok es
    → Forms inner level end (var_pkg count es) bytes rest
var_package_form inner level end count es bytes rest le h read =
    let p = h.4 in (
      (p.len ++ (h.0 ++ h.1)) ++ rest,
      rw p.whole (opens end opcodes.VarPackage ((p.len ++ (h.0 ++ h.1)) ++ rest) refl),
      packed_complete (int_arg ∷ []) (λ v es. var_pkg v.0 es) level inner end (count, tt) es p.len h.0 h.1 rest (omega arith) h.2 read p.spells_len,
    )

-- ---- trees

abbrev listed : ElemTrees → List ElemTree
listed no_elems = []
listed (elem e es) = e ∷ listed es

elems_of-listed : (es : ElemTrees) → elems_of (listed es) ≡ es
elems_of-listed no_elems = refl
elems_of-listed (elem e es) = ap (elem e) (elems_of-listed es)

abbrev inner_elems : ℕ → Inner
inner_elems level = elems_with (elem_at level)

are_elems : (level end : ℕ) (es : ElemTrees) (b : List ℕ) → AreAll (elem_at level end) b (listed es) → inner_elems level end b ≡ Ok es
are_elems level end es b all = rw (all_at (elem_at level end) b (listed es) all, elems_of-listed es) refl

data_here : (level end : ℕ) (d : DataTree) (bytes rest : List ℕ) → Forms (inner_elems level) level end d bytes rest → data_at (suc level) end (bytes ++ rest) ≡ Ok (d, rest)
unfolding data_at
data_here level end d bytes rest f = rw (f.1, f.2) refl

elem_here : (level end : ℕ) (d : DataTree) (bytes rest : List ℕ) → Forms (inner_elems level) level end d bytes rest → elem_at (suc level) end (bytes ++ rest) ≡ Ok (of_data d, rest)
unfolding elem_at
elem_here level end d bytes rest f = rw (f.1, data_no_name d, f.2) refl

name_here : (level end : ℕ) (n : NameParts) (bytes rest : List ℕ) → SpellsTermName n bytes → elem_at (suc level) end (bytes ++ rest) ≡ Ok (of_name n, rest)
unfolding elem_at
name_here level end n [] rest h = let some = name_long n [] h.0 in absurd (omega arith)
name_here level end n (b ∷ bytes) rest h = rw (opens_name end b (bytes ++ rest) h.1, name_in_complete end n (b ∷ bytes) rest h.0) refl

data_high : (d : DataTree) → 0 < data_height d
data_high (int i) = omega arith
data_high (str text) = omega arith
data_high (buffer size content) = omega arith
data_high (pkg count es) = omega arith
data_high (var_pkg count es) = omega arith

mutual
  forms_complete : (d : DataTree) (level end : ℕ) (bytes rest : List ℕ) → SpellsData d bytes → data_height d ≤ suc level → Forms (inner_elems level) level end d bytes rest
  forms_complete (int i) level end bytes rest h le = int_form (inner_elems level) level end i bytes rest h
  forms_complete (str text) level end bytes rest h le = string_form (inner_elems level) level end text bytes rest h
  forms_complete (buffer size content) level end bytes rest h le = buffer_form (inner_elems level) level end size content bytes rest (omega arith) h
  forms_complete (pkg count es) level end bytes rest h le =
      package_form (inner_elems level) level end count es bytes rest h (are_elems level (end - length rest) es h.1 (elems_complete es level (end - length rest) h.1 h.3 (omega arith)))
  forms_complete (var_pkg count es) level end bytes rest h le =
      var_package_form (inner_elems level) level end count es bytes rest (omega arith) h
      (are_elems level (end - length rest) es h.1 (elems_complete es level (end - length rest) h.1 h.3 (omega arith)))

  elem_complete : (e : ElemTree) (level end : ℕ) (a rest : List ℕ) → SpellsElem e a → elem_height e ≤ level → elem_at level end (a ++ rest) ≡ Ok (e, rest)
  elem_complete (of_data d) zero end a rest h le = let high = data_high d in absurd (omega arith)
  elem_complete (of_data d) (suc level) end a rest h le = elem_here level end d a rest (forms_complete d level end a rest h le)
  elem_complete (of_name n) zero end a rest h le = absurd (omega arith)
  elem_complete (of_name n) (suc level) end a rest h le = name_here level end n a rest h

  elems_complete : (es : ElemTrees) (level end : ℕ) (b : List ℕ) → SpellsElems es b → elems_height es ≤ level → AreAll (elem_at level end) b (listed es)
  elems_complete no_elems level end b h le = none_left (elem_at level end) b h
  elems_complete (elem e es) level end b h le =
      rw h.4 (one_more (elem_at level end) h.0 h.1 e (listed es) (elem_long e h.0 h.2) (elem_complete e level end h.0 h.1 h.2 (omega arith)) (elems_complete es level end h.1 h.3 (omega arith)))

-- data that is spelled is read
pub data_complete : (d : DataTree) (level end : ℕ) (bytes rest : List ℕ) → SpellsData d bytes → data_height d ≤ level → data_at level end (bytes ++ rest) ≡ Ok (d, rest)
data_complete d zero end bytes rest h le = let high = data_high d in absurd (omega arith)
data_complete d (suc level) end bytes rest h le = data_here level end d bytes rest (forms_complete d level end bytes rest h le)

-- ==== what was read is spelled, or it fails so; and where it fails the reading stops

-- ---- trees

-- what is spelled so, no higher than the level
abbrev pub DataWithin : ℕ → DataTree → List ℕ → Type 0
DataWithin level d bytes = SpellsData d bytes × (data_height d ≤ level)

-- the same of an element, without terms
abbrev PlainElem : ℕ → ElemTree → List ℕ → Type 0
PlainElem level e bytes = SpellsElem e bytes × (elem_height e ≤ level)

abbrev ElemsWithin : ℕ → ElemTrees → List ℕ → Type 0
ElemsWithin level es bytes = SpellsElems es bytes × (elems_height es ≤ level)

plain_elem : (level : ℕ) (e : ElemTree) (a : List ℕ) → ElemWithin level e a → PlainElem level e a
plain_elem level e a h = (spelled_elem data_grammar e a h.0, omega (arith, h.1, elem_levels e))

elem_term_of : (level : ℕ) (e : ElemTree) (a : List ℕ) → PlainElem level e a → ElemWithin level e a
elem_term_of level e a h = (elem_spelled data_grammar e a h.0, omega (arith, h.1, elem_levels e))

within_long : (level : ℕ) (e : ElemTree) (a : List ℕ) → ElemWithin level e a → 0 < length a
within_long level e a h = elem_long e a (plain_elem level e a h).0

elems_within : (level : ℕ) (es : List ElemTree) (bytes : List ℕ) → SpellsEach (ElemWithin level) es bytes → ElemsWithin level (elems_of es) bytes
elems_within level [] bytes h = (h, omega arith)
elems_within level (e ∷ es) bytes h =
    let more = elems_within level es h.1 h.3 in
    let one = plain_elem level e h.0 h.2 in
    ((h.0, h.1, one.0, more.0, h.4), omega (arith, one.1, more.1))

-- how the elements of a package fail
abbrev FailsElems : ℕ → Failure Fault
FailsElems level = FailsEach (ElemWithin level) (FailsElem level)

abbrev ExactElem : ℕ → Type 0
ExactElem level = Exact (ElemWithin level) (FailsElem level) (elem_at level)

elems_judged : (level : ℕ) → ExactElem level → (end : ℕ) (bytes : List ℕ) → Judge (λ es. ElemsWithin level es bytes) (FailsElems level end bytes) (elems_with (elem_at level) end bytes)
elems_judged level one end bytes =
    judge_bind (λ es. SpellsEach (ElemWithin level) es bytes) (λ es. ElemsWithin level es bytes) (FailsElems level end bytes) (each_at (elem_at level end) bytes) _
    ((exact_each (ElemWithin level) (FailsElem level) (elem_at level) one (within_long level)).judged end bytes) (λ es k. elems_within level es bytes k)

elems_stop : (level : ℕ) → ExactElem level → (f : Fault) (end : ℕ) (bytes : List ℕ) → FailsElems level end bytes f → elems_with (elem_at level) end bytes ≡ Err f
elems_stop level one f end bytes h =
    fails_on f (each_at (elem_at level end) bytes) (λ es. Ok (elems_of es)) ((exact_each (ElemWithin level) (FailsElem level) (elem_at level) one (within_long level)).stops end bytes f h)

-- ---- by what begins there

-- the bytes begin with the opcode's
pub opens_with : (bytes : List ℕ) (first : Opcode) (rest op : List ℕ) (o : Opened bytes (first, rest)) → o.front ≡ op → bytes ≡ op ++ rest
opens_with bytes first rest op o is = o.whole ∙ ap (λ (t : List ℕ). t ++ rest) is

text_judged : (level end : ℕ) (bytes rest : List ℕ) → bytes ≡ 13 ∷ rest → Judge (Front (DataWithin (suc level)) bytes) (FailsBehind (13 ∷ []) (FailsPart FailsText) end bytes) (string_data end rest)
text_judged level end bytes rest is =
    behind_judged (λ d a. DataWithin (suc level) d (13 ∷ a)) (DataWithin (suc level)) (FailsPart FailsText) (13 ∷ []) end bytes rest (string_data end rest) is (λ d a k. k)
    (made_judged SpellsText (λ d a. DataWithin (suc level) d (13 ∷ a)) (FailsPart FailsText end rest) (λ text. str text) rest (part (string_at end rest)) (λ text a k. ((a, k, refl), omega arith))
    (as_judged (Front SpellsText rest) FailsText part_fault end rest (string_at end rest) (exact_text.judged end rest)))

data_by_judged : (level : ℕ) → ExactElem level → (end : ℕ) (o : Opcode) (bytes rest : List ℕ) → Opened bytes (o, rest)
    → Judge (Front (DataWithin (suc level)) bytes) (FailsDataBy (FailsElems level) level o end bytes) (data_by (elems_with (elem_at level)) level end bytes o rest)
data_by_judged level one end (opcodes.Constant form) bytes rest o =
    made_judged SpellsInt (DataWithin (suc level)) (FailsDataBy (FailsElems level) level (opcodes.Constant form) end bytes) (λ i. int i) bytes (part (constant_at form end rest)) (λ i a k. (k, omega arith))
    (whole_judged part_fault form end bytes rest o)
data_by_judged level one end opcodes.Str bytes rest o = text_judged level end bytes rest (opens_with bytes opcodes.Str rest (13 ∷ []) o o.told.1)
data_by_judged level one end opcodes.Buffer bytes rest o =
    filled_judged level end opcodes.Buffer (λ v content. buffer v.0 content) bytes_in (λ content b. b ≡ content) FailsNever (DataWithin (suc level)) bytes rest
    (opens_with bytes opcodes.Buffer rest (17 ∷ []) o o.told.1) (λ v x front a b k le fills p. ((a, b, k, fills, p), omega (arith, le))) (λ end b. refl)
data_by_judged level one end opcodes.Package bytes rest o =
    filled_judged level end opcodes.Package (λ v es. pkg v.0 es) (elems_with (elem_at level)) (ElemsWithin level) (FailsElems level) (DataWithin (suc level)) bytes rest
    (opens_with bytes opcodes.Package rest (18 ∷ []) o o.told.1) (λ v x front a b k le fills p. ((a, b, k, fills.0, p), omega (arith, fills.1))) (elems_judged level one)
data_by_judged level one end opcodes.VarPackage bytes rest o =
    filled_judged level end opcodes.VarPackage (λ v es. var_pkg v.0 es) (elems_with (elem_at level)) (ElemsWithin level) (FailsElems level) (DataWithin (suc level)) bytes rest
    (opens_with bytes opcodes.VarPackage rest (19 ∷ []) o o.told.1) (λ v x front a b k le fills p. ((a, b, k, fills.0, p), omega (arith, le, fills.1))) (elems_judged level one)
data_by_judged level one end term bytes rest o = refl

data_by_stops : (level : ℕ) → ExactElem level → (end : ℕ) (o : Opcode) (bytes rest : List ℕ) (f : Fault) → opcode_at end bytes ≡ Ok (o, rest)
    → FailsDataBy (FailsElems level) level o end bytes f → data_by (elems_with (elem_at level)) level end bytes o rest ≡ Err f
data_by_stops level one end (opcodes.Constant form) bytes rest f read h = fails_on f (part (constant_at form end rest)) (λ x. Ok (int x.0, x.1)) (whole_stops part_fault form end bytes rest f read h)
data_by_stops level one end opcodes.Str bytes rest f read h =
    fails_on f (part (string_at end rest)) (λ x. Ok (str x.0, x.1))
    (as_stops FailsText part_fault end rest (string_at end rest) f (exact_text.stops end rest) (fails_behind (FailsPart FailsText) opcodes.Str end bytes rest f refl read h))
data_by_stops level one end opcodes.Buffer bytes rest f read h =
    filled_stops level end opcodes.Buffer (λ v content. buffer v.0 content) bytes_in FailsNever bytes rest f refl read (λ end b k. absurd k) h
data_by_stops level one end opcodes.Package bytes rest f read h =
    filled_stops level end opcodes.Package (λ v es. pkg v.0 es) (elems_with (elem_at level)) (FailsElems level) bytes rest f refl read (elems_stop level one f) h
data_by_stops level one end opcodes.VarPackage bytes rest f read h =
    filled_stops level end opcodes.VarPackage (λ v es. var_pkg v.0 es) (elems_with (elem_at level)) (FailsElems level) bytes rest f refl read (elems_stop level one f) h
data_by_stops level one end term bytes rest f read h = ap Err (sym h)

elem_by_judged : (level : ℕ) → ExactElem level → (end : ℕ) (o : Opcode) (bytes rest : List ℕ) → Opened bytes (o, rest)
    → Judge (Front (ElemWithin (suc level)) bytes) (FailsElemBy (FailsElems level) level o end bytes) (elem_by (elems_with (elem_at level)) level end bytes o rest)
elem_by_judged level one end opcodes.Name bytes rest o =
    made_judged SpellsTermName (ElemWithin (suc level)) (FailsPart FailsName end bytes) (λ n. of_name n) bytes (part (name_in end bytes)) (λ n a k. (k, omega arith))
    (as_judged (Front SpellsTermName bytes) FailsName part_fault end bytes (name_in end bytes) (term_name_judged end bytes rest o))
elem_by_judged level one end term bytes rest o =
    made_judged (DataWithin (suc level)) (ElemWithin (suc level)) (FailsDataBy (FailsElems level) level term end bytes) (λ d. of_data d) bytes
    (data_by (elems_with (elem_at level)) level end bytes term rest) (λ d a k. elem_term_of (suc level) (of_data d) a k) (data_by_judged level one end term bytes rest o)

elem_by_stops : (level : ℕ) → ExactElem level → (end : ℕ) (o : Opcode) (bytes rest : List ℕ) (f : Fault) → opcode_at end bytes ≡ Ok (o, rest)
    → FailsElemBy (FailsElems level) level o end bytes f → elem_by (elems_with (elem_at level)) level end bytes o rest ≡ Err f
elem_by_stops level one end opcodes.Name bytes rest f read h =
    fails_on f (part (name_in end bytes)) (λ n. Ok (of_name n.0, n.1)) (as_stops FailsName part_fault end bytes (name_in end bytes) f (exact_name.stops end bytes) h)
elem_by_stops level one end term bytes rest f read h =
    fails_on f (data_by (elems_with (elem_at level)) level end bytes term rest) (λ d. Ok (of_data d.0, d.1)) (data_by_stops level one end term bytes rest f read h)

-- ---- with their opcodes

elem_found : (level end : ℕ) (e : ElemTree) (a rest : List ℕ) → ElemWithin level e a → elem_at level end (a ++ rest) ≡ Ok (e, rest)
elem_found level end e a rest h = let k = plain_elem level e a h in elem_complete e level end a rest k.0 k.1

elem_judged_by : (level : ℕ) → ExactElem level → (end : ℕ) (bytes : List ℕ) → Judge (Front (ElemWithin (suc level)) bytes) (FailsElem (suc level) end bytes) (elem_at (suc level) end bytes)
unfolding elem_at
elem_judged_by level one end bytes =
    by_opcode_judged part_fault (FailsElemBy (FailsElems level) level) (Front (ElemWithin (suc level)) bytes) end bytes _ (λ x o. elem_by_judged level one end x.0 bytes x.1 o)

elem_stops_by : (level : ℕ) → ExactElem level → (end : ℕ) (bytes : List ℕ) (f : Fault) → FailsElem (suc level) end bytes f → elem_at (suc level) end bytes ≡ Err f
unfolding elem_at
elem_stops_by level one end bytes f h =
    by_opcode_stops part_fault (FailsElemBy (FailsElems level) level) end bytes _ f (λ o rest read k. elem_by_stops level one end o bytes rest f read k) h

no_elem_judged : (end : ℕ) (bytes : List ℕ) → Judge (Front (ElemWithin 0) bytes) (FailsElem 0 end bytes) (elem_at 0 end bytes)
unfolding elem_at
no_elem_judged end bytes = refl

no_elem_stops : (end : ℕ) (bytes : List ℕ) (f : Fault) → FailsElem 0 end bytes f → elem_at 0 end bytes ≡ Err f
unfolding elem_at
no_elem_stops end bytes f h = ap Err (sym h)

pub exact_elem : (level : ℕ) → ExactElem level
exact_elem zero = record { found = elem_found 0; judged = no_elem_judged; stops = no_elem_stops }
exact_elem (suc level) = record { found = elem_found (suc level); judged = elem_judged_by level (exact_elem level); stops = elem_stops_by level (exact_elem level) }

pub data_judged : (level end : ℕ) (bytes : List ℕ) → Judge (Front (DataWithin level) bytes) (FailsData level end bytes) (data_at level end bytes)
unfolding data_at
data_judged zero end bytes = refl
data_judged (suc level) end bytes =
    by_opcode_judged part_fault (FailsDataBy (FailsElems level) level) (Front (DataWithin (suc level)) bytes) end bytes _ (λ x o. data_by_judged level (exact_elem level) end x.0 bytes x.1 o)

pub data_stops : (level end : ℕ) (bytes : List ℕ) (f : Fault) → FailsData level end bytes f → data_at level end bytes ≡ Err f
unfolding data_at
data_stops zero end bytes f h = ap Err (sym h)
data_stops (suc level) end bytes f h =
    by_opcode_stops part_fault (FailsDataBy (FailsElems level) level) end bytes _ f (λ o rest read k. data_by_stops level (exact_elem level) end o bytes rest f read k) h
