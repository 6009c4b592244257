use Rattle.std.proofs.Common.{◌≡◌, ◌∙◌, ap, sym, subst, map, string_bytes, codes, rules}
use Rattle.portal_words.specs.Commands.{required_text_for, text_for, workers_for}
use Rattle.portal_words.specs.Options.{HaveOtherOptions, MatchesOptions}
use Rattle.portal_words.proofs.HarvestLemmas.{harvest_made, harvest_names, harvest_refused}
use Rattle.portal_words.proofs.command.harvest.Goals as goal

pub returns-in_err-given-clause-bad : goal.returns-in_err-given-clause-bad
returns-in_err-given-clause-bad c = λ bad.
    let words = map string_bytes c.args.words.now in
    let names : map (λ n. n.now) c.as_slice.result.now ≡ harvest_names = ap (map (λ n. n.now)) c.as_slice.ensures in
    harvest_refused words
    (subst (λ ns. HaveOtherOptions ns words) names (c.in_err-given.ensures.bad (search rules)))

pub returns-clause-ok : goal.returns-clause-ok
returns-clause-ok c =
    let words = map string_bytes c.args.words.now in
    let names : map (λ n. n.now) c.as_slice.result.now ≡ harvest_names = ap (map (λ n. n.now)) c.as_slice.ensures in
    let matched = subst (λ ns. MatchesOptions ns words c.in_ok-given.given) names c.in_ok-given.ensures.ok in
    harvest_made words matched.given c.in-Some.workers c.in_ok-portal.portal c.in_ok-caller.caller
    c.in_ok-source.source matched.parsed matched.allowed
    (ap workers_for (sym (c.get_str.ensures ∙ matched.values (codes "workers"))) ∙ sym c.workers_of.ensures.workers
    ∙ c.in-Some.is)
    (ap text_for (sym (c.get_str-2.ensures ∙ matched.values (codes "portal"))) ∙ c.in_ok-portal.ensures.ok)
    (ap required_text_for (sym (c.get_str-3.ensures ∙ matched.values (codes "as"))) ∙ c.in_ok-caller.ensures.ok)
    (ap required_text_for (sym (c.get_str-4.ensures ∙ matched.values (codes "source"))) ∙ c.in_ok-source.ensures.ok)
