use Rattle.std.proofs.Common.{sym, ◌∙◌}
use Rattle.datastore_query.proofs.SortLemmas.{boundary-quote}
use Rattle.datastore_query.proofs.sort_text.name_of.Goals as goal

pub range-requires-clause-start_boundary : goal.range-requires-clause-start_boundary
range-requires-clause-start_boundary c = λ _.
    boundary-quote c.args.text.now c.as_bytes.result.now c.utf8.text c.as_bytes.ensures.value
    (sym c.is_between_quotes.ensures ∙ c.if-is_between_quotes.true)
