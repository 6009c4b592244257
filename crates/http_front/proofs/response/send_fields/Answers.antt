use Rattle.std.proofs.Common.{◌∙◌, ◌++◌, List, ℕ, OnOk, OnErr, subst}
use Rattle.std.specs.Prelude.{codes}
use Rattle.portal_base.specs.Outside.{Takes, TakesPrefix}
use Rattle.http_front.specs.Response.{fields_and_body}
use Rattle.http_front.proofs.response.send_fields.Goals as goal

abbrev written : List ℕ → List ℕ → List ℕ
written digits body =
    (codes "\r\nContent-Type: application/json;charset=utf-8\r\nContent-Length: " ++ digits)
    ++ (codes "\r\nConnection: close\r\n\r\n" ++ body)

pub returns-clause-ok : goal.returns-clause-ok
unfolding fields_and_body
returns-clause-ok g c =
    subst (λ digits. OnOk c.write_four.result (Takes (g.K.Link.taken c.args.link.now) (written digits c.args.body.now)
    (g.K.Link.taken c.write_four.new.link))) (c.as_bytes-length.ensures.value ∙ c.format.ensures.text)
    c.write_four.ensures.ok

pub returns-clause-failed : goal.returns-clause-failed
unfolding fields_and_body
returns-clause-failed g c =
    subst (λ digits. OnErr c.write_four.result (TakesPrefix (g.K.Link.taken c.args.link.now)
    (written digits c.args.body.now) (g.K.Link.taken c.write_four.new.link)))
    (c.as_bytes-length.ensures.value ∙ c.format.ensures.text) c.write_four.ensures.failed
