use Rattle.std.proofs.Common.{◌≡◌, ◌≤◌, [], refl, ◌-◌, ◌∙◌, ap, subst, sym, take, length, length-append, arith}
use Rattle.std.proofs.lemmas.List.{take_at}
use Rattle.httparse.specs.Grammar.{HasNoRequest}
use Rattle.http_front.specs.Head.{marked}
use Rattle.std.specs.Prelude.{Ok, Err}
use Rattle.http_front.specs.HeadParse.{HasHeadOf, IsParseOfBuffer}
use Rattle.portal_base.specs.Outside.{Gives}
use Rattle.portal_base.proofs.OutsideLemmas.{Gives-none}
use Rattle.http_front.proofs.ReceiveLemmas.{full_has_none}
use Rattle.std.proofs.lemmas.Result.{err_from_is_err_and}
use Rattle.http_front.proofs.TakenLemmas.{head_past, no_head_lost, no_head_parsed, none_in_nothing}
use Rattle.http_front.proofs.reading.read_head.Goals as goal

pub returns-clause-none : goal.returns-clause-none
returns-clause-none g c =
    let inv = c.loop-alloc.invariant in
    let full : 16384 ≤ length c.loop-alloc.buffer.items = omega (arith, c.loop-alloc-test.false, c.len.ensures) in
    full_has_none (g.K.Link.to_come c.args.link.now)
    (g.K.Link.to_come c.loop-alloc.link) c.loop-alloc.buffer.items inv.gives
    full inv.none

pub returns-in_err-more-clause-lost : goal.returns-in_err-more-clause-lost
returns-in_err-more-clause-lost g c =
    let inv = c.loop-alloc.invariant in
    let p = err_from_is_err_and c.from_residual.result c.from_residual.ensures.1 in
    rw (p.1, p.2) (no_head_lost (g.K.Link.to_come c.args.link.now) (g.K.Link.to_come c.loop-alloc.link)
    (g.K.Link.to_come c.read_more.new.link) c.loop-alloc.buffer.items (16384 - c.len-before.result)
    c.in_err-more.field-0.0 inv.gives inv.none (omega (arith, inv.short, c.len-before.ensures)) c.in_err-more.ensures.lost
    c.in_err-more.ensures.fault)

pub parse_buffer-requires-clause-none : goal.parse_buffer-requires-clause-none
parse_buffer-requires-clause-none g c =
    let on = c.in_ok-more.ensures.bytes in
    let old : take c.len-before.result c.as_slice.result.now ≡ c.loop-alloc.buffer.items =
    ap (take c.len-before.result) (c.as_slice.ensures.value ∙ on.joined)
    ∙ take_at c.loop-alloc.buffer.items on.piece c.len-before.result (omega (arith, c.len-before.ensures)) in
    subst (λ v. HasNoRequest (marked v)) (sym old) c.loop-alloc.invariant.none

pub returns-in-Ok-Some-clause-few : goal.returns-in-Ok-Some-clause-few
returns-in-Ok-Some-clause-few g c =
    let on = c.in_ok-more.ensures.bytes in
    let found : HasHeadOf c.as_slice.result.now c.in-Ok-Some.count =
    subst (IsParseOfBuffer c.as_slice.result.now c.in_ok-more.more)
    (c.in-Ok-Some.is ∙ ap Ok c.in-Ok-Some.field-0-is) c.parse_buffer.ensures in
    let past = head_past c.loop-alloc.buffer.items on.piece c.in-Ok-Some.count c.loop-alloc.invariant.none
    (subst (λ v. HasHeadOf v c.in-Ok-Some.count) (c.as_slice.ensures.value ∙ on.joined) found) in
    omega (arith, past, on.small, ap length on.joined, length-append c.loop-alloc.buffer.items on.piece)

pub returns-in-Err-clause-lost : goal.returns-in-Err-clause-lost
returns-in-Err-clause-lost g c =
    let inv = c.loop-alloc.invariant in
    no_head_parsed (g.K.Link.to_come c.args.link.now) (g.K.Link.to_come c.loop-alloc.link)
    (g.K.Link.to_come c.read_more.new.link) c.loop-alloc.buffer.items (16384 - c.len-before.result)
    c.read_more.new.buffer.items c.in_ok-more.more c.in-Err.fault inv.gives
    (omega (arith, inv.short, c.len-before.ensures)) c.in_ok-more.ensures.bytes
    (subst (λ v. IsParseOfBuffer v c.in_ok-more.more (Err c.in-Err.fault)) c.as_slice.ensures.value
    (subst (IsParseOfBuffer c.as_slice.result.now c.in_ok-more.more) c.in-Err.is c.parse_buffer.ensures))

pub loop-alloc-init : goal.loop-alloc-init
loop-alloc-init g c = record {
  gives = subst (λ v. Gives (g.K.Link.to_come c.args.link.now) v (g.K.Link.to_come c.args.link.now))
      (sym c.requires.empty) (Gives-none (g.K.Link.to_come c.args.link.now) [] refl);
  short = rw c.requires.empty (omega arith);
  none = subst (λ v. HasNoRequest (marked v)) (sym c.requires.empty) none_in_nothing;
  taken = refl;
  counts = omega arith;
}
