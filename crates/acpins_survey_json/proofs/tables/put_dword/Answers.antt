use Rattle.std.proofs.Common.{◌∙◌, ◌-◌, ap, arith, codes, drop, length}
use Rattle.std.proofs.lemmas.List.{take_all, length-drop}
use Rattle.byteorder.specs.Endian.{little_number}
use Rattle.acpins_survey_json.proofs.JsonPutting.{weaker, number_said}
use Rattle.acpins_survey_json.proofs.tables.put_dword.Goals as goal

pub returns : goal.returns
returns c =
    let bytes = c.args.bytes.now in
    let from = c.args.from in
    let n = c.from.ensures ∙ c.read_u32-n.ensures ∙ ap (little_number 4) (take_all (length bytes - from) (drop from bytes) (omega (arith, length-drop from bytes))) in
    weaker (number_said (codes ",") c.args.name.now _ (little_number 4 (drop from bytes)) _ _ n) c.put_number_member.ensures
