use Rattle.std.proofs.Common.{◌∙◌, sym}
use Rattle.datastore_answers.proofs.ErrorLemmas.{undenied}
use Rattle.datastore_answers.proofs.answers.refuse.Goals as goal

pub unreachable-requires : goal.unreachable-requires
unreachable-requires c =
    c.requires (undenied c.args.quota c.args.errors (sym c.in_ok-denial.ensures ∙ c.in-None.is))
