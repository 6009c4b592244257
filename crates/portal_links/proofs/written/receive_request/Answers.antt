-- The request is the one that is received with `is_reading_action`.
use Rattle.portal_links.proofs.Receiving.{leaves_reading, receives_reading}
use Rattle.portal_links.proofs.written.receive_request.Goals as goal

pub returns-clause-receives : goal.returns-clause-receives
returns-clause-receives g c = receives_reading _ (λ name answer is. is) _ _ c.receive.ensures.request

pub returns-clause-leaves : goal.returns-clause-leaves
returns-clause-leaves g c = leaves_reading _ (λ name answer is. is) _ _ _ c.receive.ensures.leaves
