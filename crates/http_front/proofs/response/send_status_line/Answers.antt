use Rattle.std.proofs.Common.{◌∙◌, ◌++◌, List, [], ℕ, OnOk, OnErr, subst, sym, ap}
use Rattle.std.specs.Prelude.{codes, decimal, unwrap_or}
use Rattle.portal_base.specs.Outside.{Takes, TakesPrefix}
use Rattle.http_front.specs.Response.{status_line}
use Rattle.http_front.proofs.response.send_status_line.Goals as goal

abbrev written : List ℕ → List ℕ → List ℕ
written digits phrase = (codes "HTTP/1.1 " ++ digits) ++ (codes " " ++ phrase)

pub returns-clause-ok : goal.returns-clause-ok
unfolding status_line
returns-clause-ok g c =
    let digits = c.as_bytes-code.ensures.value ∙ c.format.ensures.text in
    let phrase = c.as_bytes-phrase.ensures.value ∙ sym (ap (λ p. unwrap_or p []) c.phrase_of.ensures) in
    subst (λ p. OnOk c.write_four.result (Takes (g.K.Link.taken c.args.link.now) (written (decimal c.args.status) p)
    (g.K.Link.taken c.write_four.new.link))) phrase
    (subst (λ d. OnOk c.write_four.result (Takes (g.K.Link.taken c.args.link.now)
    (written d c.as_bytes-phrase.result.now) (g.K.Link.taken c.write_four.new.link))) digits
    c.write_four.ensures.ok)

pub returns-clause-failed : goal.returns-clause-failed
unfolding status_line
returns-clause-failed g c =
    let digits = c.as_bytes-code.ensures.value ∙ c.format.ensures.text in
    let phrase = c.as_bytes-phrase.ensures.value ∙ sym (ap (λ p. unwrap_or p []) c.phrase_of.ensures) in
    subst (λ p. OnErr c.write_four.result (TakesPrefix (g.K.Link.taken c.args.link.now)
    (written (decimal c.args.status) p) (g.K.Link.taken c.write_four.new.link))) phrase
    (subst (λ d. OnErr c.write_four.result (TakesPrefix (g.K.Link.taken c.args.link.now)
    (written d c.as_bytes-phrase.result.now) (g.K.Link.taken c.write_four.new.link))) digits
    c.write_four.ensures.failed)
