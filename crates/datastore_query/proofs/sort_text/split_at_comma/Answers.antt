use Rattle.datastore_query.proofs.SortLemmas.{boundary-comma}
use Rattle.datastore_query.proofs.sort_text.split_at_comma.Goals as goal

pub range_from-requires : goal.range_from-requires
range_from-requires c = λ _.
    boundary-comma c.args.text.now c.as_bytes.result.now c.in_ok-position.position c.utf8.text c.as_bytes.ensures.value
    c.in_ok-position.ensures.within c.in_ok-position.ensures.comma
