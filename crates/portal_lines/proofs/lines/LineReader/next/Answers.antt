use Rattle.std.proofs.Common.{◌≡◌, ◌∙◌, ◌<◌, ◌+◌, sym, ap, subst, arith, Ok, Err, Result, OnErr, length, true, false}
use Rattle.portal_lines.specs.declared.lines.NextLine.TheVariants.{Line, TooLong, End}
use Rattle.portal_lines.proofs.LineLemmas.{UnderWay-read, TakesLine-ended, SkipsLine-ended, AtLast, AtLast-read}
use Rattle.portal_lines.proofs.LineLemmas.{SomeLine-last, TakesLine-last, SkipsLine-last, FindsEnd-last}
use Rattle.portal_lines.proofs.LineLemmas.{bytes_left-falls, LosesStart-failed}
use Rattle.portal_lines.proofs.lines.LineReader.next.Goals as goal

on_err : {T E P : Type 0} (outcome : Result T E) → P → OnErr outcome P
on_err (Ok value) p = tt
on_err (Err why) p = p

pub returns-then-branch-clause-line : goal.returns-then-branch-clause-line
returns-then-branch-clause-line g c is =
    let inv = c.loop-self.invariant in
    let taken = c.in_ok-take_from.ensures.taken in
    let line : c.measure.result ≡ Line = cc in
    TakesLine-ended c.args.self.now _ (g.S.Source.to_come c.args.source.now) (g.S.Source.to_come c.loop-self.source)
    c.loop-self.self-inside.window c.loop-self.self-inside.partial.kept.items c.loop-self.self-inside.partial.is_over
    taken.0 c.take_from.new.self.kept.items
    c.loop-self.self-inside.longest inv.under_way inv.longest
    c.in_ok-take_from.field-0 c.if-branch.true taken.1 c.take_from.new.self.is_over taken.2
    (sym c.strip.ensures.over ∙ (c.measure.ensures.line line).0) c.strip.new.self.kept.items c.strip.ensures.kept

pub returns-then-branch-clause-long : goal.returns-then-branch-clause-long
returns-then-branch-clause-long g c is =
    let inv = c.loop-self.invariant in
    let taken = c.in_ok-take_from.ensures.taken in
    let long : c.measure.result ≡ TooLong = cc in
    SkipsLine-ended c.args.self.now _ (g.S.Source.to_come c.args.source.now) (g.S.Source.to_come c.loop-self.source)
    c.loop-self.self-inside.window c.loop-self.self-inside.partial.kept.items c.loop-self.self-inside.partial.is_over
    taken.0 c.take_from.new.self.kept.items
    c.loop-self.self-inside.longest inv.under_way inv.longest
    c.in_ok-take_from.field-0 c.if-branch.true taken.1 c.take_from.new.self.is_over taken.2
    (λ fits. subst (λ v. c.loop-self.self-inside.longest < length v) c.strip.ensures.kept
    (c.measure.ensures.long long (c.strip.ensures.over ∙ fits)))

pub returns-in_err-count-clause-lost : goal.returns-in_err-count-clause-lost
returns-in_err-count-clause-lost g c =
    let inv = c.loop-self.invariant in
    let taken = c.in_ok-take_from.ensures.taken in
    let lost = LosesStart-failed c.args.self.now (record {
      buffered = c.fill.new.self;
      line = c.take_from.new.self.kept.items;
      received = c.loop-self.self-inside.received;
      longest = c.loop-self.self-inside.longest;
      limit = c.loop-self.self-inside.limit;
      has_failed = true;
    }) (g.S.Source.to_come c.args.source.now) (g.S.Source.to_come c.loop-self.source)
    c.loop-self.self-inside.window c.loop-self.self-inside.partial.kept.items c.loop-self.self-inside.partial.is_over
    c.in_ok-take_from.field-0 taken.0 c.take_from.new.window (g.S.Source.to_come c.fill.new.source)
    inv.under_way c.if-branch.false taken.1 c.in_err-count.ensures.kept c.in_err-count.ensures.empty in
    on_err c.from_residual-in_err-count.result lost

pub loop-self-preserved : goal.loop-self-preserved
loop-self-preserved g c =
    let inv = c.loop-self.invariant in
    let taken = c.in_ok-take_from.ensures.taken in
    record {
      under_way = UnderWay-read c.args.self.now.buffered (g.S.Source.to_come c.args.source.now) c.args.self.now.received
          c.args.self.now.longest
          c.loop-self.self-inside.window (g.S.Source.to_come c.loop-self.source) c.loop-self.self-inside.received
          c.loop-self.self-inside.partial.kept.items c.loop-self.self-inside.partial.is_over
          c.in_ok-take_from.field-0 taken.0 c.take_from.new.window c.take_from.new.self.kept.items
          c.take_from.new.self.is_over
          c.fill.new.self (g.S.Source.to_come c.fill.new.source)
          (c.loop-self.self-inside.received + c.in_ok-count.count) c.loop-self.self-inside.longest
          inv.under_way inv.longest c.if-branch.false taken.1 taken.2 c.in_ok-count.ensures.bytes
          (ap (λ n. c.loop-self.self-inside.received + n) c.in_ok-count.ensures.count);
      longest = inv.longest;
      limit = inv.limit;
      bound = c.in_ok-take_from.ensures.bound inv.bound;
      counts = omega (arith, inv.counts, c.in_ok-count.ensures.counts);
      loan = c.in_ok-count.ensures.loan ∙ inv.loan;
      spent = inv.spent;
    }

-- what came is all
last : (g : _) (c : goal.After-measure_last g)
    → AtLast c.args.self.now (record {
      buffered = c.fill.new.self;
      line = c.take_from.new.self.kept.items;
      received = c.loop-self.self-inside.received;
      longest = c.loop-self.self-inside.longest;
      limit = c.loop-self.self-inside.limit;
      has_failed = false;
    }) (g.S.Source.to_come c.args.source.now)
    (g.S.Source.to_come c.fill.new.source) c.take_from.new.self.kept.items c.take_from.new.self.is_over
last g c =
    let inv = c.loop-self.invariant in
    let taken = c.in_ok-take_from.ensures.taken in
    AtLast-read c.args.self.now _ (g.S.Source.to_come c.args.source.now) (g.S.Source.to_come c.loop-self.source)
    c.loop-self.self-inside.window c.loop-self.self-inside.partial.kept.items c.loop-self.self-inside.partial.is_over
    c.in_ok-take_from.field-0
    taken.0 c.take_from.new.window c.take_from.new.self.kept.items c.take_from.new.self.is_over
    (g.S.Source.to_come c.fill.new.source)
    c.loop-self.self-inside.longest inv.under_way inv.longest c.if-branch.false taken.1 taken.2
    c.in_ok-count.ensures.bytes
    (sym c.in_ok-count.ensures.count ∙ c.if-count-eq0.true) (c.in_ok-count.ensures.end (ap Ok c.if-count-eq0.true))

pub returns-then-count-eq0-clause-line : goal.returns-then-count-eq0-clause-line
returns-then-count-eq0-clause-line g c is =
    let line : c.measure_last.result ≡ Line = cc in
    TakesLine-last _ _ _ _ _ c.take_from.new.self.is_over (last g c) (c.measure_last.ensures.line line).0
    (λ e. let end : c.measure_last.result ≡ End =
    c.measure_last.ensures.end.1 ((c.measure_last.ensures.line line).0, e) in cc)

pub returns-then-count-eq0-clause-long : goal.returns-then-count-eq0-clause-long
returns-then-count-eq0-clause-long g c is =
    let long : c.measure_last.result ≡ TooLong = cc in
    SkipsLine-last _ _ _ _ c.take_from.new.self.kept.items c.take_from.new.self.is_over (last g c)
    (λ fits. omega (arith, c.loop-self.invariant.longest, c.measure_last.ensures.long long fits))

pub returns-then-count-eq0-clause-end : goal.returns-then-count-eq0-clause-end
returns-then-count-eq0-clause-end g c is =
    let end : c.measure_last.result ≡ End = cc in
    let empty = c.measure_last.ensures.end.0 end in
    FindsEnd-last _ _ _ _ c.take_from.new.self.kept.items c.take_from.new.self.is_over (last g c) empty.0 empty.1

pub returns-then-count-eq0-clause-falls : goal.returns-then-count-eq0-clause-falls
returns-then-count-eq0-clause-falls g c some =
    let taken = SomeLine-last _ _ _ _ _ c.take_from.new.self.is_over (last g c)
    (λ fits e. some (c.measure_last.ensures.end.1 (fits, e))) in
    bytes_left-falls _ _ _ _ taken.0 taken.1 c.loop-self.invariant.limit
    (omega (arith, c.if-self-from.false, c.from.ensures))
