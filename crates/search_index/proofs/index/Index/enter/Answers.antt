use Rattle.std.proofs.Common.{◌≡◌, ◌∙◌, ℕ, List, Some, ap, sym}
use Rattle.std.specs.Option.{option_copied}
use Rattle.search_index.specs.Index.{IndexState, entry_cmp, entry_of}
use Rattle.search_index.specs.Terms.{terms_of}
use Rattle.portal_base.specs.Ordered.{upserted}
use Rattle.search_index.proofs.index.Index.enter.Goals as goal

pub returns-in_ok-terms : goal.returns-in_ok-terms
returns-in_ok-terms c = λ dataset there.
    let found : Some c.in-Some.dataset.now ≡ Some dataset =
    sym (ap option_copied c.in-Some.is) ∙ c.package_at.ensures ∙ there in
    let same : c.in-Some.dataset.now ≡ dataset = cc in
    ap (λ (index : IndexState). index.entries) c.commit.ensures.entered
    ∙ ap (λ (n : ℕ). upserted entry_cmp (n, c.in_ok-terms.terms.terms) c.prepare.new.self.entries)
    c.in_ok-terms.ensures.number
    ∙ ap (λ (terms : List (List ℕ)). upserted entry_cmp (c.args.number, terms) c.prepare.new.self.entries)
    (c.in_ok-terms.ensures.terms ∙ ap terms_of same)
    ∙ ap (upserted entry_cmp (entry_of (c.args.number, dataset))) c.in_ok-terms.ensures.same
