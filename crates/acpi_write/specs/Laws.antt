-- What is written is read again.
use Rattle.std.specs.Prelude.{◌≡◌, ◌<◌, ◌^◌, ℕ, true, List, [], ◌∷◌, Some}
use Rattle.std.specs.List.{AllByRecursion}
use Rattle.acpi_name.specs.Names.{IsName, is_segment}
use Rattle.acpi_tree.specs.declared.tree.Int.{Int}
use Rattle.acpi_tree.specs.declared.tree.Int.TheVariants.{Word, DWord, QWord}
use Rattle.acpi_tree.specs.DataTerms.{data_term}
use Rattle.acpi_tree.specs.Terms.{TermTree, TermTrees, int, buffer, pkg, var_pkg, raw, ref, call, apply, ElseTree, if_do, no_else, else_do, while_do, declare, declare_units, no_terms, more}
use Rattle.acpi_tree.specs.Tree.{FieldTree, unit, connect_name, connect_buffer, ExternalParts, ItemTree, name, scope, method, external, external_block, create, create_field, mutex, event, region, field, index_field, bank_field, ItemTrees, no_items, item}
use Rattle.acpi_tree.specs.Fits.{items_fit}
use Rattle.acpi_terms.specs.Forms.{FixedArgument, name_arg, source_arg, word_arg, dword_arg, int_arg, Value, Values, fixed_arguments, ArgumentsOf, kind_opcode, kind_arguments}
use Rattle.acpi_code.specs.declared.opcode.Opcode.{Opcode}
use Rattle.acpi_code.specs.declared.opcode.Opcode.TheVariants as opcodes
use Rattle.acpi_terms.specs.Spelling.{SpellsItems}
use Rattle.acpi_write.specs.CanonicalItems.{items_bytes}

-- A tree apart from memory has numbers of any size and names of any length. These trees have values of the
-- types that a value in memory has: numbers of their width, names, segments.

abbrev pub IsIntTyped : Int → Type 0
IsIntTyped (Word n) = n < 65536
IsIntTyped (DWord n) = n < 4294967296
IsIntTyped (QWord n) = n < 18446744073709551616
IsIntTyped _ = Unit {0}

abbrev pub IsTyped : (k : FixedArgument) → Value k → Type 0
IsTyped name_arg n = IsName n
IsTyped source_arg n = IsName n
IsTyped word_arg n = n < 65536
IsTyped dword_arg n = n < 4294967296
IsTyped int_arg i = IsIntTyped i
IsTyped _ v = Unit {0}

abbrev pub AreTyped : (ks : List FixedArgument) → Values ks → Type 0
AreTyped [] v = Unit {0}
AreTyped (k ∷ ks) v = IsTyped k v.0 × AreTyped ks v.1

abbrev pub IsFormTyped : (o : Opcode) → ArgumentsOf o → Type 0
IsFormTyped o v = AreTyped (fixed_arguments o) v

abbrev pub IsFieldTyped : FieldTree → Type 0
IsFieldTyped (unit s bits) = is_segment s ≡ true
IsFieldTyped (connect_name n) = IsName n
IsFieldTyped (connect_buffer size content) = IsIntTyped size
IsFieldTyped _ = Unit {0}

abbrev mutual
  pub IsTermTyped : TermTree → Type 0
  IsTermTyped (int i) = IsIntTyped i
  IsTermTyped (buffer size content) = IsTermTyped size
  IsTermTyped (pkg count es) = AreTermsTyped es
  IsTermTyped (var_pkg count es) = IsTermTyped count × AreTermsTyped es
  IsTermTyped (raw k n) = n < 256 ^ k
  IsTermTyped (ref n) = IsName n
  IsTermTyped (call n vs) = IsName n × AreTermsTyped vs
  IsTermTyped (apply op vs) = AreTermsTyped vs
  IsTermTyped (if_do v ts e) = IsTermTyped v × AreTermsTyped ts × IsElseTyped e
  IsTermTyped (while_do v ts) = IsTermTyped v × AreTermsTyped ts
  IsTermTyped (declare form before n behind) =
      AreTermsTyped before × IsName n × AreTermsTyped behind
  IsTermTyped (declare_units form ns vs es) =
      AllByRecursion IsName ns × AreTermsTyped vs × AllByRecursion IsFieldTyped es
  IsTermTyped _ = Unit {0}

  pub IsElseTyped : ElseTree → Type 0
  IsElseTyped no_else = Unit {0}
  IsElseTyped (else_do ts) = AreTermsTyped ts

  pub AreTermsTyped : TermTrees → Type 0
  AreTermsTyped no_terms = Unit {0}
  AreTermsTyped (more t ts) = IsTermTyped t × AreTermsTyped ts

abbrev pub IsExternalTyped : ExternalParts → Type 0
IsExternalTyped x = IsName x.name

abbrev mutual
  pub IsItemTyped : ItemTree → Type 0
  IsItemTyped (name n d) = IsName n × IsTermTyped (data_term d)
  IsItemTyped (scope kind n is) =
      IsFormTyped (kind_opcode kind) (kind_arguments kind n) × AreItemsTyped is
  IsItemTyped (method n flags code) = IsFormTyped opcodes.Method (n, (flags, tt))
  IsItemTyped (external x) = IsExternalTyped x
  IsItemTyped (external_block xs) = AllByRecursion IsExternalTyped xs
  IsItemTyped (create w source index n) = IsFormTyped (opcodes.Create w) (source, (index, (n, tt)))
  IsItemTyped (create_field source index bits n) =
      IsFormTyped opcodes.CreateField (source, (index, (bits, (n, tt))))
  IsItemTyped (mutex n flags) = IsFormTyped opcodes.Mutex (n, (flags, tt))
  IsItemTyped (event n) = IsFormTyped opcodes.Event (n, tt)
  IsItemTyped (region n space offset len) =
      IsFormTyped opcodes.Region (n, (space, (offset, (len, tt))))
  IsItemTyped (field r flags es) =
      IsFormTyped opcodes.Field (r, (flags, tt)) × AllByRecursion IsFieldTyped es
  IsItemTyped (index_field i d flags es) =
      IsFormTyped opcodes.IndexField (i, (d, (flags, tt))) × AllByRecursion IsFieldTyped es
  IsItemTyped (bank_field r bank value flags es) = IsFormTyped opcodes.BankField
      (r, (bank, (value, (flags, tt)))) × AllByRecursion IsFieldTyped es

  pub AreItemsTyped : ItemTrees → Type 0
  AreItemsTyped no_items = Unit {0}
  AreItemsTyped (item i is) = IsItemTyped i × AreItemsTyped is

-- what is written of items spells them
abbrev pub ItemsAreSpelled : Type 0
ItemsAreSpelled = (is : ItemTrees) (bytes : List ℕ) → AreItemsTyped is → items_fit is ≡ true
    → items_bytes is ≡ Some bytes → SpellsItems is bytes
