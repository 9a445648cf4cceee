use Rattle.std.proofs.Common.{codes}
use Rattle.std.proofs.lemmas.Result.{IfOk-weaker}
use Rattle.clap.specs.Simple.{with_subcommand}
use Rattle.acpins_words.specs.Arguments.{alone, files_shape, out_shape, path_shape, program_shape}
use Rattle.acpins_words.proofs.Adding.{subcommand_added}
use Rattle.acpins_words.proofs.words.forms.Goals as goal

pub returns : goal.returns
returns c =
    let begun = alone (program_shape (codes "acpins")) in
    let list = files_shape (codes "list") in
    let show = path_shape (codes "show") in
    let check = files_shape (codes "check") in
    let listing = with_subcommand begun list in
    let showing = with_subcommand listing show in
    let checking = with_subcommand showing check in
    let with_list = subcommand_added c.over_files.result _ _ begun list c.in_ok-command.ensures c.program.ensures c.over_files.ensures.app c.over_files.ensures.local in
    let with_show = subcommand_added c.over_path.result _ _ listing show c.in_ok-command-2.ensures with_list c.over_path.ensures.app c.over_path.ensures.local in
    let with_check = subcommand_added c.over_files-2.result _ _ showing check c.in_ok-command-3.ensures with_show c.over_files-2.ensures.app c.over_files-2.ensures.local in
    IfOk-weaker c.with-4.result _ _
    (λ command added. subcommand_added c.over_out.result _ command checking (out_shape (codes "rewrite")) added with_check c.over_out.ensures.app c.over_out.ensures.local) c.with-4.ensures
