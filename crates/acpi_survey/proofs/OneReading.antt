-- Tables have one reading.
use Rattle.std.proofs.Common.{◌≡◌, ℕ, suc, List, [], ◌∷◌, refl, sym, ap, subst, ◌∙◌}
use Rattle.acpi_outline.specs.Rules.{after_all}
use Rattle.acpi_outline.specs.Outline.{IsOutline}
use Rattle.acpi_outline.proofs.One.{at_most_one as one_outline, has_one}
use Rattle.acpi_survey.specs.Reading.{Reading, survey_rules}
use Rattle.acpi_survey.specs.Survey.{AreRead, at_table, behind_table}
use Rattle.acpi_pieces.specs.Tables.{code_read}
use Rattle.acpi_survey.specs.Laws.{AtMostOneReading, TablesAreRead}
use Rattle.acpi_pieces.proofs.Judgements.{judged, one_code}

-- ---- one reading

pub at_most_one : AtMostOneReading
at_most_one depth number s last other [] [] [] h k = (refl, h ∙ sym k)
at_most_one depth number s last other [] (ns ∷ nss) mss h k = absurd h
at_most_one depth number s last other [] [] (ms ∷ mss) h k = absurd k
at_most_one depth number s last other (b ∷ bs) [] mss h k = absurd h
at_most_one depth number s last other (b ∷ bs) (ns ∷ nss) [] h k = absurd k
at_most_one depth number s last other (b ∷ bs) (ns ∷ nss) (ms ∷ mss) h k =
    let before : Reading = at_table number s in
    let code : code_read h.0 ≡ code_read k.0 = one_code number b h.0 k.0 h.1 k.1 in
    let there : IsOutline survey_rules before depth ms (code_read h.0) = subst (IsOutline survey_rules before depth ms) (sym code) k.2 in
    let alike : ns ≡ ms = one_outline survey_rules before depth (code_read h.0) ns ms h.2 there in
    let behind : after_all survey_rules before ns ≡ after_all survey_rules before ms = ap (after_all survey_rules before) alike in
    let rest = at_most_one depth (suc number) (behind_table (after_all survey_rules before ns)) last other bs nss mss h.3
    (subst (λ (r : Reading). AreRead depth (suc number) (behind_table r) bs mss other) (sym behind) k.3) in
    (rw (alike, rest.0) refl, rest.1)

-- ---- there is one

pub tables_are_read : TablesAreRead
tables_are_read depth number s [] = ([], s, refl)
tables_are_read depth number s (b ∷ bs) =
    let before : Reading = at_table number s in
    let j = judged number b in
    let ns = has_one survey_rules before depth (code_read j.0) in
    let rest = tables_are_read depth (suc number) (behind_table (after_all survey_rules before ns.0)) bs in
    (ns.0 ∷ rest.0, rest.1, (j.0, j.1, ns.1, rest.2))
