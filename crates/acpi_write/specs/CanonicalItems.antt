-- The one spelling of items that is written (ACPI 6.5, 20.2.5.1 and 20.2.5.2): the shortest of each part. The rules of the
-- grammar stand above the lines of `fixed_arguments` and `SpellsItem`.
use Rattle.std.specs.Prelude.{ℕ, List, [], ◌∷◌, Option, Some}
use Rattle.std.specs.Fmt.{option_append}
use Rattle.acpi_name.specs.Spelling.{name_bytes}
use Rattle.acpi_code.specs.declared.opcode.Opcode.TheVariants as opcodes
use Rattle.acpi_tree.specs.DataTerms.{data_term}
use Rattle.acpi_tree.specs.Tree.{ExternalParts, ItemTree, name, scope, method, external, external_block, create, create_field, mutex, event, region, field, index_field, bank_field, ItemTrees, no_items, item}
use Rattle.acpi_terms.specs.Forms.{kind_opcode, kind_arguments}
use Rattle.acpi_write.specs.Canonical.{form_bytes, filled_with, filled_bytes, each_bytes, fields_bytes}
use Rattle.acpi_write.specs.CanonicalTerms.{term_bytes}

abbrev pub external_bytes : ExternalParts → List ℕ
external_bytes x = form_bytes opcodes.External (x.name, (x.kind, (x.args, tt)))

-- None where a package is too long, here and below.
abbrev mutual
  pub item_bytes : ItemTree → Option (List ℕ)
  item_bytes (name n d) = option_append (Some (0x08 ∷ name_bytes n)) (term_bytes (data_term d))
  item_bytes (scope kind n is) =
      filled_bytes (kind_opcode kind) (kind_arguments kind n) (items_bytes is)
  item_bytes (method n flags code) = filled_bytes opcodes.Method (n, (flags, tt)) (Some code)
  item_bytes (external x) = Some (external_bytes x)
  item_bytes (external_block xs) =
      filled_with (0xA0 ∷ []) (0x00 ∷ []) (each_bytes (λ x. Some (external_bytes x)) xs)
  item_bytes (create w source index n) =
      Some (form_bytes (opcodes.Create w) (source, (index, (n, tt))))
  item_bytes (create_field source index bits n) =
      Some (form_bytes opcodes.CreateField (source, (index, (bits, (n, tt)))))
  item_bytes (mutex n flags) = Some (form_bytes opcodes.Mutex (n, (flags, tt)))
  item_bytes (event n) = Some (form_bytes opcodes.Event (n, tt))
  item_bytes (region n space offset len) =
      Some (form_bytes opcodes.Region (n, (space, (offset, (len, tt)))))
  item_bytes (field r flags es) = filled_bytes opcodes.Field (r, (flags, tt)) (fields_bytes es)
  item_bytes (index_field i d flags es) =
      filled_bytes opcodes.IndexField (i, (d, (flags, tt))) (fields_bytes es)
  item_bytes (bank_field r bank value flags es) =
      filled_bytes opcodes.BankField (r, (bank, (value, (flags, tt)))) (fields_bytes es)

  -- one after another
  pub items_bytes : ItemTrees → Option (List ℕ)
  items_bytes no_items = Some []
  items_bytes (item i is) = option_append (item_bytes i) (items_bytes is)
