-- The one spelling of the terms of a method body that is written (ACPI 6.5, 20.2.5): the shortest of each part. The
-- rules of the grammar stand above the lines of `Spells`, `IsStatement` and `row_of`.
use Rattle.std.specs.Prelude.{◌+◌, ℕ, List, [], ◌∷◌, ◌++◌, Option, Some}
use Rattle.std.specs.Fmt.{option_append}
use Rattle.byteorder.specs.Endian.{little_bytes}
use Rattle.acpi_name.specs.Names.{NameParts}
use Rattle.acpi_name.specs.Spelling.{name_bytes}
use Rattle.acpi_code.specs.Opcodes.{opcode_bytes, operator_bytes}
use Rattle.acpi_tree.specs.Terms.{TermTree, TermTrees, int, str, buffer, pkg, var_pkg, local, arg, debug, no_target, raw, ref, call, apply, ElseTree, if_do, no_else, else_do, while_do, declare, declare_units, no_terms, more}
use Rattle.acpi_body.specs.Statements.{named_opcode, units_opcode}
use Rattle.acpi_write.specs.Canonical.{int_bytes, filled_with, each_bytes, fields_bytes}

-- names one after another
abbrev pub names_bytes : List NameParts → Option (List ℕ)
names_bytes ns = each_bytes (λ n. Some (name_bytes n)) ns

-- The parts of a form one after another, each as short as it can be; what follows an opcode and a package length
-- is `filled_with` them. None where a package is too long.
abbrev mutual
  pub term_bytes : TermTree → Option (List ℕ)
  term_bytes (int i) = Some (int_bytes i)
  term_bytes (str text) = Some (0x0D ∷ (text ++ 0x00 ∷ []))
  term_bytes (buffer size content) =
      filled_with (0x11 ∷ []) [] (option_append (term_bytes size) (Some content))
  term_bytes (pkg count es) = filled_with (0x12 ∷ []) (count ∷ []) (terms_bytes es)
  term_bytes (var_pkg count es) =
      filled_with (0x13 ∷ []) [] (option_append (term_bytes count) (terms_bytes es))
  term_bytes (local n) = Some (little_bytes 1 (n + 0x60))
  term_bytes (arg n) = Some (little_bytes 1 (n + 0x68))
  term_bytes debug = Some (0x5B ∷ 0x31 ∷ [])
  term_bytes no_target = Some (0x00 ∷ [])
  term_bytes (raw k n) = Some (little_bytes k n)
  term_bytes (ref n) = Some (name_bytes n)
  term_bytes (call n vs) = option_append (Some (name_bytes n)) (terms_bytes vs)
  term_bytes (apply op vs) = option_append (Some (operator_bytes op)) (terms_bytes vs)
  term_bytes (if_do v ts e) = option_append
      (filled_with (0xA0 ∷ []) [] (option_append (term_bytes v) (terms_bytes ts))) (else_bytes e)
  term_bytes (while_do v ts) =
      filled_with (0xA2 ∷ []) [] (option_append (term_bytes v) (terms_bytes ts))
  term_bytes (declare form before n behind) =
      option_append (Some (opcode_bytes (named_opcode form)))
      (option_append (terms_bytes before)
      (option_append (Some (name_bytes n)) (terms_bytes behind)))
  term_bytes (declare_units form ns vs es) = filled_with (opcode_bytes (units_opcode form)) []
      (option_append (names_bytes ns) (option_append (terms_bytes vs) (fields_bytes es)))

  -- an Else stands behind the package of its If
  pub else_bytes : ElseTree → Option (List ℕ)
  else_bytes no_else = Some []
  else_bytes (else_do ts) = filled_with (0xA1 ∷ []) [] (terms_bytes ts)

  -- one after another
  pub terms_bytes : TermTrees → Option (List ℕ)
  terms_bytes no_terms = Some []
  terms_bytes (more t ts) = option_append (term_bytes t) (terms_bytes ts)
