use Rattle.std.proofs.Common.{◌≡◌, None, subst, sym}
use Rattle.std.specs.Prelude.{nat_eq}
use Rattle.std.specs.HashMap.{get}
use Rattle.datastore_query.proofs.DistinctLemmas.{not_kept}
use Rattle.datastore_query.proofs.distinct.is_kept.Goals as goal

pub returns-in-None : goal.returns-in-None
returns-in-None c =
    sym (not_kept c.args.columns.now c.args.first.now (get nat_eq c.args.by_digest.now) c.args.row.now
    c.requires.by_digest
    (subst (λ d. get nat_eq c.args.by_digest.now d ≡ None) c.requires.digest (sym c.in-None.ensures.value)))
