use Rattle.std.proofs.Common.{◌∙◌, sym, ap, arith}
use Rattle.std.specs.Str.{bytes_eq}
use Rattle.search_index.proofs.TermLemmas.{any_at_first, any_past, same_is_next}
use Rattle.search_index.proofs.term_set.has_term.Goals as goal

pub returns-in-Some : goal.returns-in-Some
returns-in-Some c =
    c.eq.ensures
    ∙ ap (λ x. bytes_eq x c.args.term.now) c.in-Some.ensures.lookup.1
    ∙ sym (any_at_first c.args.term.now (λ x. bytes_eq x c.args.term.now) (same_is_next c.args.term.now) c.args.terms.now c.first_from.result
    c.in-Some.other.now c.requires c.first_from.ensures (grind (arith, c.in-Some.ensures.lookup.0)))

pub returns-in-None : goal.returns-in-None
returns-in-None c =
    sym (any_past c.args.term.now (λ x. bytes_eq x c.args.term.now) (same_is_next c.args.term.now) c.args.terms.now c.first_from.result
    c.first_from.ensures (grind (arith, c.in-None.ensures.lookup)))
