use Rattle.portal_file.proofs.KeyedLemmas.{distinct_by, names_distinct}
use Rattle.portal_file.proofs.rules.have_distinct_names.Goals as goal

pub returns : goal.returns
returns c = distinct_by _ _ _ c.are_distinct.ensures (names_distinct c.args.users.now)
