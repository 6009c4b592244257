use Rattle.std.proofs.Common.{◌≡◌, ◌∙◌, ℕ, List, Some, ap, sym}
use Rattle.std.specs.Option.{option_copied}
use Rattle.portal_base.specs.Ordered.{upserted}
use Rattle.packages.specs.declared.package.Package.{Package}
use Rattle.facets.specs.Counters.{entry_cmp, entry_of}
use Rattle.facets.specs.Facts.{facts_of}
use Rattle.facets.specs.declared.facts.Facts.{Facts}
use Rattle.facets.proofs.counters.Counters.enter.Goals as goal

pub returns-in_ok-counts : goal.returns-in_ok-counts
returns-in_ok-counts c = λ dataset there.
    let found : Some c.in-Some.dataset.now ≡ Some dataset =
    sym (ap option_copied c.in-Some.is) ∙ c.package_at.ensures ∙ there in
    let same : c.in-Some.dataset.now ≡ dataset = cc in
    c.commit.ensures.entered
    ∙ ap (λ (id : List ℕ). upserted entry_cmp (id, c.in_ok-counts.counts.facts) c.prepare.new.self.entries)
    (c.in_ok-counts.ensures.id ∙ ap (λ (d : Package). d.id) same)
    ∙ ap (λ (facts : Facts). upserted entry_cmp (dataset.id, facts) c.prepare.new.self.entries)
    (c.in_ok-counts.ensures.facts ∙ ap facts_of same)
    ∙ ap (upserted entry_cmp (entry_of dataset)) c.in_ok-counts.ensures.same
