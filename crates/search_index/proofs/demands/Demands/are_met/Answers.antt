use Rattle.std.proofs.Common.{◌∙◌, not, ap, sym}
use Rattle.std.specs.List.{list_any}
use Rattle.search_index.specs.Items.{has_term, passes_all}
use Rattle.search_index.proofs.DemandLemmas.{fails_at_terms, has_either, rest_decides}
use Rattle.search_index.proofs.demands.Demands.are_met.Goals as goal

pub returns-then-has_any : goal.returns-then-has_any
returns-then-has_any c =
    fails_at_terms _ _ _
    (has_either c.args.self.now.excluded_terms.items c.args.terms.now
    ∙ ap (λ excluded. list_any (has_term excluded) c.args.terms.now) (sym c.as_slice-2.ensures.value)
    ∙ sym c.has_any.ensures ∙ c.if-has_any.true)

pub returns : goal.returns
returns c =
    ap not (c.pass_any.ensures ∙ ap (list_any (λ tests. passes_all c.args.terms.now tests.items)) c.as_slice-3.ensures.value)
    ∙ rest_decides _ _ _
    (ap (passes_all c.args.terms.now) (sym c.as_slice.ensures.value) ∙ sym c.if-not-pass_all.ensures)
    (has_either c.args.self.now.excluded_terms.items c.args.terms.now
    ∙ ap (λ excluded. list_any (has_term excluded) c.args.terms.now) (sym c.as_slice-2.ensures.value)
    ∙ sym c.has_any.ensures ∙ c.if-has_any.false)
