-- The text that was told was written.
use Rattle.std.proofs.Common.{◌≡◌, ◌∙◌, ℕ, List, ap, subst, sym}
use Rattle.portal_links.specs.ByPass.{text_or_memory}
use Rattle.portal_links.specs.Written.{Writes, link_trace}
use Rattle.portal_links.proofs.serve.write_told.Goals as goal

pub returns-in-Some-clause-writes : goal.returns-in-Some-clause-writes
returns-in-Some-clause-writes g c =
    let is : (c.in-Some.status, c.as_slice.result.now) ≡ text_or_memory c.args.text =
    ap (λ (bytes : List ℕ). (c.in-Some.status, bytes)) c.as_slice.ensures ∙ sym (ap text_or_memory c.in-Some.is) in
    subst (λ (text : ℕ × List ℕ). Writes text
    (link_trace (g.K.Link.to_come c.args.link.now) (g.K.Link.taken c.args.link.now) (g.K.Link.faults c.args.link.now))
    (link_trace (g.K.Link.to_come c.write_text.new.link) (g.K.Link.taken c.write_text.new.link)
    (g.K.Link.faults c.write_text.new.link)) c.write_text.result) is c.write_text.ensures.writes
