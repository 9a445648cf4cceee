-- How many values follow a name in the body of a method that tables may declare, and what its grammar is (ACPI 6.5, 5.3
-- and 20.2.5).
use Rattle.std.specs.Prelude.{◌++◌, ℕ, false, cond, List, [], ◌∷◌, map, Option, Some}
use Rattle.std.specs.FinMap as finite
use Rattle.acpi_name.specs.Names.{NameParts}
use Rattle.acpi_space.specs.Lookups.{Lookup}
use Rattle.acpi_space.specs.Spaces.{PathMap, is_defined}
use Rattle.acpi_body.specs.Arguments.{Locals, BodyGrammar}
use Rattle.acpi_body.specs.Grammars.{with_loads}
use Rattle.acpi_conditions.specs.Entries.{Path, Entry}
use Rattle.acpi_conditions.specs.Met.{numbers_beyond}
use Rattle.acpi_conditions.specs.Views.{seen_by}
use Rattle.acpi_conditions.specs.Known.{Known, Certain, candidates}
use Rattle.acpi_survey.specs.Counts.{count_of, counts_numbered}

-- what the body has declared is certain
abbrev pub object_at : Path → Certain
object_at p = record { path = p; is_scope = false }

abbrev pub known_behind : Locals → Known → Known
known_behind locals k = record k { certain = map object_at (finite.keys locals) ++ k.certain }

-- a path that the body has declared has none
abbrev pub counts_behind : Locals → (Path → List (Option ℕ)) → Path → List (Option ℕ)
counts_behind locals counts p = cond (is_defined locals p) (Some 0 ∷ []) (counts p)

-- in the scope of the method's path, over what is known where it is declared
abbrev pub body_count : Lookup ℕ → Path → Known → (Path → List (Option ℕ)) → Locals → NameParts
    → Option ℕ
body_count externals s k counts locals n =
    count_of externals s (counts_behind locals counts) n (candidates (known_behind locals k) s n)

-- as the body of the method of an entry is read, by all entries, their counts, and what the Externals of the method's
-- table say
abbrev pub entry_count : List Entry → List (Option ℕ) → PathMap ℕ → Entry → Locals → NameParts
    → Option ℕ
entry_count es counts expected e = body_count (finite.get expected) e.path
    (seen_by (record { entries = es; entry = e }))
    (λ p. counts_numbered counts (numbers_beyond e.way p 0 es))

-- LoadTable, Load and Unload may stand there
abbrev pub entry_grammar : List Entry → List (Option ℕ) → PathMap ℕ → Entry → BodyGrammar
entry_grammar es counts expected e locals = with_loads (entry_count es counts expected e locals)
