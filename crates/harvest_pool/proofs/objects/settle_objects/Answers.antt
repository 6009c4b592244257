use Rattle.std.proofs.lemmas.Result.{err_from_is_err_and}
use Rattle.std.proofs.Common.{arith, refl, ◌∙◌}
use Rattle.harvest_pool.proofs.LoopLemmas.{DoesObjects, by-err, not-object, objects-done, objects-more, objects-start}
use Rattle.harvest_pool.proofs.LoopLemmas.{objects-stopped, objects-stopped_in}
use Rattle.harvest_pool.proofs.objects.settle_objects.Goals as goal

pub returns-in_err-job-clause-work : goal.returns-in_err-job-clause-work
returns-in_err-job-clause-work g c =
    let m = g.M.Machine in
    let f = g.F.Fetcher in
    by-err (DoesObjects m.step (f.held c.args.fetcher.now) (m.core c.args.machine.now) (f.faults c.args.fetcher.now)
    (m.core c.make.new.machine) (f.faults c.loop.fetcher)) c.from_residual.result (err_from_is_err_and c.from_residual.result c.from_residual.ensures.1).0
    (err_from_is_err_and c.from_residual.result c.from_residual.ensures.1).1
    (objects-stopped m.step (f.held c.args.fetcher.now) (m.core c.args.machine.now) (f.faults c.args.fetcher.now)
    (m.core c.loop.machine) (m.core c.make.new.machine) (f.faults c.loop.fetcher) c.loop.invariant.so_far
    c.in_err-job.ensures.kept)

pub returns-in_err-settle_object-in-Object-clause-work : goal.returns-in_err-settle_object-in-Object-clause-work
returns-in_err-settle_object-in-Object-clause-work g c =
    let m = g.M.Machine in
    let f = g.F.Fetcher in
    let w = c.in_err-settle_object-in-Object.ensures.work in
    by-err (DoesObjects m.step (f.held c.args.fetcher.now) (m.core c.args.machine.now) (f.faults c.args.fetcher.now)
    (m.core c.settle_object.new.machine) (f.faults c.settle_object.new.fetcher))
    c.from_residual-in_err-settle_object-in-Object.result (err_from_is_err_and c.from_residual-in_err-settle_object-in-Object.result c.from_residual-in_err-settle_object-in-Object.ensures.1).0
    (err_from_is_err_and c.from_residual-in_err-settle_object-in-Object.result c.from_residual-in_err-settle_object-in-Object.ensures.1).1
    (objects-stopped_in m.step (f.held c.args.fetcher.now) (m.core c.args.machine.now) (f.faults c.args.fetcher.now)
    (m.core c.loop.machine) (m.core c.make.new.machine) (m.core c.settle_object.new.machine) (f.faults c.loop.fetcher)
    (f.faults c.settle_object.new.fetcher) c.in_ok-job.field-0 c.in-Object.job c.in-Object.item w.0
    (f.held c.loop.fetcher) c.loop.invariant.so_far c.in_ok-job.ensures.made c.in-Object.is w.1 w.2
    c.loop.invariant.held w.3 c.settle_object.ensures.fetches)

pub returns-in_default : goal.returns-in_default
returns-in_default g c =
    let m = g.M.Machine in
    let f = g.F.Fetcher in record {
      work = objects-done m.step (f.held c.args.fetcher.now) (m.core c.args.machine.now) (f.faults c.args.fetcher.now)
          (m.core c.loop.machine) (m.core c.make.new.machine) (f.faults c.loop.fetcher) c.in_ok-job.field-0
          c.loop.invariant.so_far c.in_ok-job.ensures.made (not-object c.in_ok-job.field-0 c.in_default.not-Object);
      fault = λ e. absurd (cc);
      counts = omega (arith, c.loop.invariant.counts, c.make.ensures.counts);
      fetches = c.loop.invariant.fetches;
      held = c.loop.invariant.held;
    }

pub loop-init : goal.loop-init
loop-init g c =
    let m = g.M.Machine in
    let f = g.F.Fetcher in record {
      so_far = objects-start m.step (f.held c.args.fetcher.now) (m.core c.args.machine.now)
          (f.faults c.args.fetcher.now);
      held = refl;
      counts = omega arith;
      fetches = omega arith;
    }

pub loop-preserved : goal.loop-preserved
loop-preserved g c =
    let m = g.M.Machine in
    let f = g.F.Fetcher in
    let w = c.in_ok-settle_object-in-Object.ensures.work in record {
      so_far = objects-more m.step (f.held c.args.fetcher.now) (m.core c.args.machine.now)
          (f.faults c.args.fetcher.now) (m.core c.loop.machine) (m.core c.make.new.machine)
          (m.core c.settle_object.new.machine) (f.faults c.loop.fetcher) (f.faults c.settle_object.new.fetcher)
          c.in_ok-job.field-0 c.in-Object.job c.in-Object.item w.0 (f.held c.loop.fetcher) c.loop.invariant.so_far
          c.in_ok-job.ensures.made c.in-Object.is w.1 w.2 c.loop.invariant.held w.3 c.settle_object.ensures.fetches;
      held = c.settle_object.ensures.held ∙ c.loop.invariant.held;
      counts = omega (arith, c.loop.invariant.counts, c.make.ensures.counts, c.settle_object.ensures.counts);
      fetches = omega (arith, c.loop.invariant.fetches, c.settle_object.ensures.fetches);
    }

pub returns-clause-work : goal.returns-clause-work
returns-clause-work g c =
    let m = g.M.Machine in
    let f = g.F.Fetcher in
    objects-stopped m.step (f.held c.args.fetcher.now) (m.core c.args.machine.now) (f.faults c.args.fetcher.now)
    (m.core c.loop.machine) (m.core c.loop.machine) (f.faults c.loop.fetcher) c.loop.invariant.so_far refl
