use Rattle.std.proofs.Common.{codes}
use Rattle.std.proofs.lemmas.Result.{IfOk-weaker}
use Rattle.clap.specs.Simple.{with_subcommand}
use Rattle.acpins_words.specs.Arguments.{alone, files_shape, out_shape, path_shape, program_shape}
use Rattle.acpins_words.proofs.Adding.{subcommand_added}
use Rattle.acpins_survey_words.specs.Words.{check_shape, list_shape, report_shape, verbose_shape}
use Rattle.acpins_survey_words.proofs.words.forms.Goals as goal

pub returns : goal.returns
returns c =
    let begun = alone (program_shape (codes "acpins-survey")) in
    let show = path_shape (codes "show") in
    let uses = files_shape (codes "uses") in
    let map = files_shape (codes "map") in
    let bodies = files_shape (codes "bodies") in
    let diff = verbose_shape (codes "diff") in
    let report = report_shape in
    let json = files_shape (codes "json") in
    let listing = with_subcommand begun list_shape in
    let showing = with_subcommand listing show in
    let using = with_subcommand showing uses in
    let mapping = with_subcommand using map in
    let telling = with_subcommand mapping bodies in
    let checking = with_subcommand telling check_shape in
    let differing = with_subcommand checking diff in
    let reporting = with_subcommand differing report in
    let spelling = with_subcommand reporting json in
    let with_list = subcommand_added c.list_form.result _ _ begun list_shape c.in_ok-command.ensures c.program.ensures c.list_form.ensures.app c.list_form.ensures.local in
    let with_show = subcommand_added c.over_path.result _ _ listing show c.in_ok-command-2.ensures with_list c.over_path.ensures.app c.over_path.ensures.local in
    let with_uses = subcommand_added c.over_files.result _ _ showing uses c.in_ok-command-3.ensures with_show c.over_files.ensures.app c.over_files.ensures.local in
    let with_map = subcommand_added c.over_files-2.result _ _ using map c.in_ok-command-4.ensures with_uses c.over_files-2.ensures.app c.over_files-2.ensures.local in
    let with_bodies = subcommand_added c.over_files-3.result _ _ mapping bodies c.in_ok-command-5.ensures with_map c.over_files-3.ensures.app c.over_files-3.ensures.local in
    let with_check = subcommand_added c.check_form.result _ _ telling check_shape c.in_ok-command-6.ensures with_bodies c.check_form.ensures.app c.check_form.ensures.local in
    let with_diff = subcommand_added c.verbose_form.result _ _ checking diff c.in_ok-command-7.ensures with_check c.verbose_form.ensures.app c.verbose_form.ensures.local in
    let with_report = subcommand_added c.report_form.result _ _ differing report c.in_ok-command-8.ensures with_diff c.report_form.ensures.app c.report_form.ensures.local in
    let with_json = subcommand_added c.over_files-4.result _ _ reporting json c.in_ok-command-9.ensures with_report c.over_files-4.ensures.app c.over_files-4.ensures.local in
    IfOk-weaker c.with-10.result _ _
    (λ command added. subcommand_added c.over_out.result _ command spelling (out_shape (codes "html")) added with_json c.over_out.ensures.app c.over_out.ensures.local) c.with-10.ensures
