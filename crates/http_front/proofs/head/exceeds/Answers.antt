use Rattle.std.proofs.Common.{rules, length, ◌≡◌}
use Rattle.httparse.proofs.HeadLemmas.{at_complete}
use Rattle.httparse.specs.Spans.{IsRequestOf, IsRequestWithin}
use Rattle.http_front.proofs.StartLemmas.{complete_fits}
use Rattle.http_front.proofs.head.exceeds.Goals as goal

pub returns-in-Ok-Complete-clause-fits : goal.returns-in-Ok-Complete-clause-fits
returns-in-Ok-Complete-clause-fits c is head rest reads =
    let text = c.args.text.now in
    let spans = c.parse_request.new.headers in
    let room : length spans ≡ 64 = search rules in
    complete_fits text spans c.in-Ok-Complete.field-0-0 room
    (at_complete (IsRequestOf text spans) c.in-Ok-Complete.is c.in-Ok-Complete.field-0-is
    c.parse_request.ensures.complete)
    (at_complete (IsRequestWithin text spans) c.in-Ok-Complete.is c.in-Ok-Complete.field-0-is
    c.parse_request.ensures.within) head rest reads
