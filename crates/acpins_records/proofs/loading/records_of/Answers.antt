use Rattle.std.specs.FinMap.{get}
use Rattle.std.proofs.lemmas.Result.{MatchResult-weaker}
use Rattle.acpi_declare.specs.Links.{links_at}
use Rattle.acpins_records.proofs.Whole.{load_suits, whole_records}
use Rattle.acpins_records.proofs.loading.records_of.Goals as goal

pub returns : goal.returns
returns c depth tables loads codes =
    MatchResult-weaker c.build_records.result (c.build_records.ensures (load_suits depth tables c.args.objects.now (links_at c.args.links.now) (get c.args.codes.now) loads codes))
    (λ r made. whole_records depth tables c.args.objects.now (links_at c.args.links.now) (get c.args.codes.now) r loads codes made)
    (λ _ u. u)
