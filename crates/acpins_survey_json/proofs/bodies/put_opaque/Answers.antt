use Rattle.std.proofs.Common.{◌∙◌, codes}
use Rattle.acpi_text.specs.Constants.{hex_digits, separated}
use Rattle.acpins_survey_json.specs.Json.{member, no_members, string}
use Rattle.acpins_survey_json.specs.JsonValues.{number_value}
use Rattle.acpins_survey_json.proofs.JsonPutting.{closed_put}
use Rattle.acpins_survey_json.proofs.bodies.put_opaque.Goals as goal

pub returns : goal.returns
returns c =
    let m2 = member (codes "bytes") (string (separated (codes " ") (hex_digits 2) c.args.code.now)) no_members in
    let m1 = member (codes "at") (number_value c.args.place) m2 in
    closed_put c.args.text.now _ _ (codes "}") _
    (c.put_bytes_member.ensures no_members
    ∙ c.put_number_member.ensures m2
    ∙ c.put_reason_member.ensures m1) c.put.ensures
