use Rattle.std.proofs.Common.{◌∙◌, sym, ap, ap₂, arith}
use Rattle.std.specs.Prelude.{nat_eq}
use Rattle.std.specs.List.{starts_with}
use Rattle.search_index.proofs.TermLemmas.{any_at_first, any_past, begun_is_next}
use Rattle.search_index.proofs.term_set.has_prefix.Goals as goal

pub returns-in-Some : goal.returns-in-Some
returns-in-Some c =
    c.starts_with.ensures.value ∙ ap₂ (starts_with nat_eq) c.as_bytes.ensures c.as_bytes-in-Some.ensures
    ∙ ap (λ x. starts_with nat_eq x c.args.prefix.now) c.in-Some.ensures.lookup.1
    ∙ sym (any_at_first c.args.prefix.now (λ x. starts_with nat_eq x c.args.prefix.now) (begun_is_next c.args.prefix.now) c.args.terms.now c.first_from.result
    c.in-Some.term.now c.requires c.first_from.ensures (grind (arith, c.in-Some.ensures.lookup.0)))

pub returns-in-None : goal.returns-in-None
returns-in-None c =
    sym (any_past c.args.prefix.now (λ x. starts_with nat_eq x c.args.prefix.now) (begun_is_next c.args.prefix.now) c.args.terms.now c.first_from.result
    c.first_from.ensures (grind (arith, c.in-None.ensures.lookup)))
