use Rattle.portal_file.proofs.KeyedLemmas.{distinct_by, digests_distinct}
use Rattle.portal_file.proofs.rules.have_distinct_digests.Goals as goal

pub returns : goal.returns
returns c = distinct_by _ _ _ c.are_distinct.ensures (digests_distinct c.args.tokens.now)
