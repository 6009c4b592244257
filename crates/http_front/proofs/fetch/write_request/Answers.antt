use Rattle.http_front.specs.Fetch.{request_bytes}
use Rattle.http_front.proofs.fetch.write_request.Goals as goal

pub returns-clause-ok : goal.returns-clause-ok
unfolding request_bytes
returns-clause-ok g c = c.write_five.ensures.ok

pub returns-clause-failed : goal.returns-clause-failed
unfolding request_bytes
returns-clause-failed g c = c.write_five.ensures.failed
