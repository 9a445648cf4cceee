use Rattle.std.proofs.Common.{◌∙◌, codes}
use Rattle.acpi_table.specs.Tables.{header_of}
use Rattle.acpins_survey_json.specs.Json.{member}
use Rattle.acpins_survey_json.specs.JsonTables.{label_value}
use Rattle.acpins_survey_json.specs.JsonValues.{number_value}
use Rattle.acpins_survey_json.proofs.JsonPutting.{weaker, number_said}
use Rattle.acpins_survey_json.proofs.tables.put_header.Goals as goal

pub returns : goal.returns
returns c =
    let h = header_of c.args.bytes.now in
    weaker (λ last ms.
    let m7 = member (codes "creator_revision") (number_value h.creator_revision) ms in
    let m6 = member (codes "creator_id") (label_value h.creator_id) m7 in
    let m5 = member (codes "oem_revision") (number_value h.oem_revision) m6 in
    let m4 = member (codes "oem_table_id") (label_value h.oem_table_id) m5 in
    let m3 = member (codes "oem_id") (label_value h.oem_id) m4 in
    let m2 = member (codes "revision") (number_value h.revision) m3 in
    let m1 = member (codes "length") (number_value h.length) m2 in
    last ms
    ∙ c.put_label-4.ensures m7
    ∙ c.put_dword-2.ensures m6
    ∙ c.put_label-3.ensures m5
    ∙ c.put_label-2.ensures m4
    ∙ number_said (codes ",") (codes "revision") _ h.revision _ _ c.from.ensures c.put_number_member.ensures m3
    ∙ c.put_dword.ensures m2
    ∙ c.put_label.ensures m1) c.put_dword-3.ensures
