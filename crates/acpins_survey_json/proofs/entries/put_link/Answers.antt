use Rattle.std.proofs.Common.{◌∙◌, List, codes, subst}
use Rattle.acpins_survey_json.specs.Json.{boolean, member, no_members}
use Rattle.acpins_survey_json.specs.JsonValues.{paths_value}
use Rattle.acpi_name.specs.Names.{Segment}
use Rattle.acpins_survey_json.specs.steps.JsonPuts.{PutsMember}
use Rattle.acpins_survey_json.proofs.JsonPutting.{closed_put}
use Rattle.acpins_survey_json.proofs.entries.put_link.Goals as goal

pub returns : goal.returns
returns c =
    let m2 = member (codes "certain") (boolean c.args.link.now.is_certain) no_members in
    let m1 = member (codes "candidates") (paths_value c.args.link.now.paths.items) m2 in
    let candidates = subst (λ (ps : List (List Segment)). PutsMember (codes ",") (codes "candidates") (paths_value ps) c.put_name_member.new.text c.put_paths_member.new.text)
    c.deref.ensures.value c.put_paths_member.ensures in
    closed_put c.args.text.now _ _ (codes "}") _
    (c.put_boolean_member.ensures no_members
    ∙ candidates m2
    ∙ c.put_name_member.ensures m1) c.put.ensures
