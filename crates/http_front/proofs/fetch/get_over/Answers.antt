use Rattle.std.proofs.Common.{rules}
use Rattle.portal_base.specs.Outside.{Takes}
use Rattle.http_front.specs.Fetch.{request_bytes}
use Rattle.http_front.proofs.ReplyLemmas.{prefix_kept}
use Rattle.http_front.proofs.fetch.get_over.Goals as goal

pub returns-in-Ok-read_response-clause-taken : goal.returns-in-Ok-read_response-clause-taken
returns-in-Ok-read_response-clause-taken g c =
    let old = g.K.Link.taken c.args.link.now in
    let requested = g.K.Link.taken c.write_request.new.link in
    let piece = request_bytes c.args.host.now c.args.target.now in
    let takes : Takes old piece requested = search rules in
    prefix_kept old requested (g.K.Link.taken c.read_response.new.link) piece takes c.in-Ok-read_response.ensures.taken
