use Rattle.std.proofs.Common.{subst, sym}
use Rattle.std.specs.Prelude.{nat_eq}
use Rattle.std.specs.HashMap.{get}
use Rattle.datastore_query.specs.Distinct.{HaveDigests}
use Rattle.datastore_query.proofs.DistinctLemmas.{digests_put}
use Rattle.datastore_query.proofs.distinct.keep_with_digest.Goals as goal

pub returns-clause-by_digest : goal.returns-clause-by_digest
returns-clause-by_digest c =
    subst (λ rows. HaveDigests c.args.columns.now rows (get nat_eq c.insert.new.self)) (sym c.in_ok-push.ensures.items)
    (digests_put c.args.columns.now c.args.first.now.items (get nat_eq c.args.by_digest.now)
    (get nat_eq c.insert.new.self) c.args.row c.args.digest _ c.requires.digest c.in_ok-insert.ensures.updates.0
    c.in_ok-insert.ensures.updates.1 c.requires.by_digest)
