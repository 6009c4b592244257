use Rattle.std.proofs.lemmas.Result.{err_from_is_err_and}
use Rattle.std.proofs.Common.{arith, refl, ◌∙◌}
use Rattle.harvest_pool.proofs.LoopLemmas.{catalogues-done, catalogues-err, catalogues-more, catalogues-start}
use Rattle.harvest_pool.proofs.LoopLemmas.{catalogues-stopped, catalogues-stopped_in, not-gather}
use Rattle.harvest_pool.proofs.catalogues.read_catalogues.Goals as goal

pub returns-in_err-job-clause-work : goal.returns-in_err-job-clause-work
returns-in_err-job-clause-work g c =
    let m = g.M.Machine in
    let f = g.F.Fetcher in
    catalogues-err m.step (f.held c.args.fetcher.now) (m.core c.args.machine.now) (f.faults c.args.fetcher.now)
    c.args.reports.now.items (m.core c.make.new.machine) (f.faults c.loop.fetcher) c.loop.reports.items
    c.from_residual.result (err_from_is_err_and c.from_residual.result c.from_residual.ensures.1).0
    (err_from_is_err_and c.from_residual.result c.from_residual.ensures.1).1
    (catalogues-stopped m.step (f.held c.args.fetcher.now) (m.core c.args.machine.now) (f.faults c.args.fetcher.now)
    c.args.reports.now.items (m.core c.loop.machine) (m.core c.make.new.machine) (f.faults c.loop.fetcher)
    c.loop.reports.items c.loop.invariant.so_far c.in_err-job.ensures.kept)

pub returns-in_err-read_catalogue-in-Gather-clause-work : goal.returns-in_err-read_catalogue-in-Gather-clause-work
returns-in_err-read_catalogue-in-Gather-clause-work g c =
    let m = g.M.Machine in
    let f = g.F.Fetcher in
    let w = c.in_err-read_catalogue-in-Gather.ensures.work in
    catalogues-err m.step (f.held c.args.fetcher.now) (m.core c.args.machine.now) (f.faults c.args.fetcher.now)
    c.args.reports.now.items (m.core c.read_catalogue.new.machine) (f.faults c.read_catalogue.new.fetcher)
    c.read_catalogue.new.reports.items c.from_residual-in_err-read_catalogue-in-Gather.result (err_from_is_err_and c.from_residual-in_err-read_catalogue-in-Gather.result c.from_residual-in_err-read_catalogue-in-Gather.ensures.1).0
    (err_from_is_err_and c.from_residual-in_err-read_catalogue-in-Gather.result c.from_residual-in_err-read_catalogue-in-Gather.ensures.1).1
    (catalogues-stopped_in m.step (f.held c.args.fetcher.now) (m.core c.args.machine.now) (f.faults c.args.fetcher.now)
    c.args.reports.now.items (m.core c.loop.machine) (m.core c.make.new.machine) (m.core c.read_catalogue.new.machine)
    (f.faults c.loop.fetcher) (f.faults c.read_catalogue.new.fetcher) c.loop.reports.items c.in_ok-job.field-0
    c.in-Gather.job c.in-Gather.url w.0 (f.held c.loop.fetcher) c.loop.invariant.so_far c.in_ok-job.ensures.made
    c.in-Gather.is w.1 w.2 c.loop.invariant.held w.3 c.read_catalogue.ensures.fetches)

pub returns-in_default : goal.returns-in_default
returns-in_default g c =
    let m = g.M.Machine in
    let f = g.F.Fetcher in record {
      work = catalogues-done m.step (f.held c.args.fetcher.now) (m.core c.args.machine.now)
          (f.faults c.args.fetcher.now) c.args.reports.now.items (m.core c.loop.machine) (m.core c.make.new.machine)
          (f.faults c.loop.fetcher) c.loop.reports.items c.in_ok-job.field-0 c.loop.invariant.so_far
          c.in_ok-job.ensures.made (not-gather c.in_ok-job.field-0 c.in_default.not-Gather);
      fault = λ e. absurd (cc);
      counts = omega (arith, c.loop.invariant.counts, c.make.ensures.counts);
      fetches = c.loop.invariant.fetches;
      held = c.loop.invariant.held;
    }

pub loop-init : goal.loop-init
loop-init g c =
    let m = g.M.Machine in
    let f = g.F.Fetcher in record {
      so_far = catalogues-start m.step (f.held c.args.fetcher.now) (m.core c.args.machine.now)
          (f.faults c.args.fetcher.now) c.args.reports.now.items;
      held = refl;
      counts = omega arith;
      fetches = omega arith;
    }

pub loop-preserved : goal.loop-preserved
loop-preserved g c =
    let m = g.M.Machine in
    let f = g.F.Fetcher in
    let w = c.in_ok-read_catalogue-in-Gather.ensures.work in record {
      so_far = catalogues-more m.step (f.held c.args.fetcher.now) (m.core c.args.machine.now)
          (f.faults c.args.fetcher.now) c.args.reports.now.items (m.core c.loop.machine) (m.core c.make.new.machine)
          (m.core c.read_catalogue.new.machine) (f.faults c.loop.fetcher) (f.faults c.read_catalogue.new.fetcher)
          c.loop.reports.items c.read_catalogue.new.reports.items c.in_ok-job.field-0 c.in-Gather.job c.in-Gather.url
          w.0 (f.held c.loop.fetcher) c.loop.invariant.so_far c.in_ok-job.ensures.made c.in-Gather.is w.1 w.2
          c.loop.invariant.held w.3 c.read_catalogue.ensures.fetches w.4;
      held = c.read_catalogue.ensures.held ∙ c.loop.invariant.held;
      counts = omega (arith, c.loop.invariant.counts, c.make.ensures.counts, c.read_catalogue.ensures.counts);
      fetches = omega (arith, c.loop.invariant.fetches, c.read_catalogue.ensures.fetches);
    }

pub returns-clause-work : goal.returns-clause-work
returns-clause-work g c =
    let m = g.M.Machine in
    let f = g.F.Fetcher in (
      catalogues-stopped m.step (f.held c.args.fetcher.now) (m.core c.args.machine.now) (f.faults c.args.fetcher.now)
          c.args.reports.now.items (m.core c.loop.machine) (m.core c.loop.machine) (f.faults c.loop.fetcher)
          c.loop.reports.items c.loop.invariant.so_far refl,
      tt,
    )
