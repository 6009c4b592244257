use Rattle.std.proofs.Common.{sym, ap, ◌∙◌}
use Rattle.std.specs.Ordering.{is_eq}
use Rattle.dcat_map.proofs.SharedLemmas.{known}
use Rattle.dcat_map.proofs.shared.find.Goals as goal

pub returns-then-is_eq : goal.returns-then-is_eq
returns-then-is_eq c = λ g all.
    let at = c.in_ok-found.ensures.lookup in
    known g c.args.shared.now c.in_ok-found.found.now c.partition_point-place.result c.get-2.result.now
    c.args.node.now at.3.0 at.1 c.get-2.ensures
    (ap is_eq (sym c.compare_terms.ensures) ∙ sym c.is_eq.ensures ∙ c.if-is_eq.true) all
