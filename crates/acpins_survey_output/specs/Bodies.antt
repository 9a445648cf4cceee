-- The bodies of methods, in words.
use Rattle.std.specs.Prelude.{ℕ, List, [], ◌∷◌, ◌++◌, codes, decimal}
use Rattle.acpi_name.specs.Names.{Segment}
use Rattle.acpi_name.specs.Text.{path_text}
use Rattle.acpi_tree.specs.TermView.{terms_tree}
use Rattle.acpi_text.specs.Terms.{statements_text, opaque_text}
use Rattle.acpi_entries.specs.declared.body.BodyReading.{BodyReading}
use Rattle.acpi_entries.specs.declared.body.BodyReading.TheVariants.{Terms, Opaque}
use Rattle.acpi_entries.specs.declared.body.MethodBody.{MethodBody}
use Rattle.acpins_survey_reasons.specs.Reasons.{body_fault_text}

-- the lines of a code: its statements, or its bytes and why and where they can't be read
abbrev pub reading_text : (code : List ℕ) → BodyReading → List ℕ
reading_text code (Terms ts) = statements_text [] (terms_tree ts.items)
reading_text code (Opaque reason place name) =
    opaque_text code ++ codes "At " ++ decimal place ++ codes ": " ++ body_fault_text reason name
    ++ 10 ∷ []

abbrev pub body_text : MethodBody → List ℕ
body_text b = reading_text b.code.now b.reading

-- whether a code is read, or why and where it isn't
abbrev pub verdict_text : BodyReading → List ℕ
verdict_text (Terms ts) = codes " terms"
verdict_text (Opaque reason place name) =
    codes " opaque " ++ body_fault_text reason name ++ codes " at " ++ decimal place

-- the line of a method
abbrev pub method_line : List Segment → MethodBody → List ℕ
method_line path b = path_text path ++ verdict_text b.reading ++ 10 ∷ []
