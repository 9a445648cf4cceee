use Rattle.std.proofs.Common.{◌∙◌, codes, length}
use Rattle.acpi_table.specs.Tables.{table_at}
use Rattle.acpins_survey_json.specs.Json.{member, no_members}
use Rattle.acpins_survey_json.specs.JsonTables.{front_members, sum_value}
use Rattle.acpins_survey_json.specs.JsonValues.{number_value}
use Rattle.acpins_survey_json.proofs.JsonPutting.{closed_put, member_said}
use Rattle.acpins_survey_json.proofs.tables.put_table.Goals as goal

pub returns : goal.returns
returns c =
    let bytes = c.args.bytes.now in
    let sum = sum_value (table_at bytes) in
    let m2 = member (codes "checksum_good") sum no_members in
    let m1 = member (codes "bytes") (number_value (length bytes)) m2 in
    closed_put c.args.text.now _ _ (codes "}") _
    (member_said (codes ",") (codes "checksum_good") sum _ _ _ c.put_member.ensures c.put_sum.ensures no_members
    ∙ c.put_number_member-2.ensures m2
    ∙ c.put_front.ensures m1
    ∙ c.put_number_member.ensures (front_members bytes m1)) c.put.ensures
