use Rattle.std.proofs.lemmas.Result.{err_from_is_err_and}
use Rattle.std.proofs.Common.{false, refl, subst, true}
use Rattle.portal_base.specs.Outside.{Holdings}
use Rattle.harvest_pool.specs.Rounds.{reports_of_catalogues}
use Rattle.harvest_pool.proofs.WholeLemmas.{SettlesAll, err-round, round-unended, round-unread, round-unsettled}
use Rattle.harvest_pool.proofs.WholeLemmas.{round-unstarted, round-whole, told-all}
use Rattle.harvest_pool.proofs.rounds.round_by_one.Goals as goal

pub returns-in_err-make-clause-round : goal.returns-in_err-make-clause-round
returns-in_err-make-clause-round g c =
    let m = g.M.Machine in
    let f = g.F.Fetcher in
    err-round m.step (f.held c.args.fetcher.now) (m.core c.args.machine.now) (m.core c.make.new.machine)
    (f.faults c.args.fetcher.now) (f.faults c.args.fetcher.now) c.from_residual.result (err_from_is_err_and c.from_residual.result c.from_residual.ensures.1).0
    (err_from_is_err_and c.from_residual.result c.from_residual.ensures.1).1
    (λ fault. round-unstarted m.step (f.held c.args.fetcher.now) (m.core c.args.machine.now)
    (f.faults c.args.fetcher.now) (m.core c.make.new.machine) (f.faults c.args.fetcher.now) fault
    c.in_err-make.ensures.kept refl)

pub returns-in_err-read_catalogues-clause-round : goal.returns-in_err-read_catalogues-clause-round
returns-in_err-read_catalogues-clause-round g c =
    let m = g.M.Machine in
    let f = g.F.Fetcher in
    err-round m.step (f.held c.args.fetcher.now) (m.core c.args.machine.now) (m.core c.read_catalogues.new.machine)
    (f.faults c.args.fetcher.now) (f.faults c.read_catalogues.new.fetcher)
    c.from_residual-in_err-read_catalogues.result (err_from_is_err_and c.from_residual-in_err-read_catalogues.result c.from_residual-in_err-read_catalogues.ensures.1).0
    (err_from_is_err_and c.from_residual-in_err-read_catalogues.result c.from_residual-in_err-read_catalogues.ensures.1).1
    (λ fault. round-unread m.step (f.held c.args.fetcher.now) (m.core c.args.machine.now)
    (f.faults c.args.fetcher.now) c.in_ok-make.field-0 (m.core c.make.new.machine)
    (m.core c.read_catalogues.new.machine) (f.faults c.read_catalogues.new.fetcher) fault c.in_ok-make.ensures.made
    c.in_err-read_catalogues.ensures.work.0)

pub returns-in_err-settle_objects-clause-round : goal.returns-in_err-settle_objects-clause-round
returns-in_err-settle_objects-clause-round g c =
    let m = g.M.Machine in
    let f = g.F.Fetcher in
    err-round m.step (f.held c.args.fetcher.now) (m.core c.args.machine.now) (m.core c.settle_objects.new.machine)
    (f.faults c.args.fetcher.now) (f.faults c.settle_objects.new.fetcher)
    c.from_residual-in_err-settle_objects.result (err_from_is_err_and c.from_residual-in_err-settle_objects.result c.from_residual-in_err-settle_objects.ensures.1).0
    (err_from_is_err_and c.from_residual-in_err-settle_objects.result c.from_residual-in_err-settle_objects.ensures.1).1
    (λ fault. round-unsettled m.step (f.held c.args.fetcher.now) (m.core c.args.machine.now)
    (f.faults c.args.fetcher.now) c.in_ok-make.field-0 (m.core c.make.new.machine)
    (m.core c.read_catalogues.new.machine) (f.faults c.read_catalogues.new.fetcher) c.in_ok-make.ensures.made
    c.in_ok-read_catalogues.ensures.work.0 (m.core c.settle_objects.new.machine)
    (f.faults c.settle_objects.new.fetcher) fault
    (subst (λ (h : Holdings). SettlesAll m.step h (m.core c.args.machine.now) (f.faults c.args.fetcher.now)
    (m.core c.read_catalogues.new.machine) (m.core c.settle_objects.new.machine) (f.faults c.read_catalogues.new.fetcher)
    (f.faults c.settle_objects.new.fetcher) false) c.read_catalogues.ensures.held c.in_err-settle_objects.ensures.work)
    c.settle_objects.ensures.fetches)

pub returns-in_err-end_jobs-clause-round : goal.returns-in_err-end_jobs-clause-round
returns-in_err-end_jobs-clause-round g c =
    let m = g.M.Machine in
    let f = g.F.Fetcher in
    err-round m.step (f.held c.args.fetcher.now) (m.core c.args.machine.now) (m.core c.end_jobs.new.machine)
    (f.faults c.args.fetcher.now) (f.faults c.settle_objects.new.fetcher)
    c.from_residual-in_err-end_jobs.result (err_from_is_err_and c.from_residual-in_err-end_jobs.result c.from_residual-in_err-end_jobs.ensures.1).0
    (err_from_is_err_and c.from_residual-in_err-end_jobs.result c.from_residual-in_err-end_jobs.ensures.1).1
    (λ fault. round-unended m.step (f.held c.args.fetcher.now) (m.core c.args.machine.now)
    (f.faults c.args.fetcher.now) c.in_ok-make.field-0 (m.core c.make.new.machine)
    (m.core c.read_catalogues.new.machine) (f.faults c.read_catalogues.new.fetcher) c.in_ok-make.ensures.made
    c.in_ok-read_catalogues.ensures.work.0 (m.core c.settle_objects.new.machine)
    (f.faults c.settle_objects.new.fetcher)
    (subst (λ (h : Holdings). SettlesAll m.step h (m.core c.args.machine.now) (f.faults c.args.fetcher.now)
    (m.core c.read_catalogues.new.machine) (m.core c.settle_objects.new.machine) (f.faults c.read_catalogues.new.fetcher)
    (f.faults c.settle_objects.new.fetcher) true) c.read_catalogues.ensures.held c.in_ok-settle_objects.ensures.work)
    c.settle_objects.ensures.fetches (m.core c.end_jobs.new.machine) c.jobs_started-jobs.result
    c.read_catalogues.new.reports.items c.end_jobs.new.reports.items false fault c.in_err-end_jobs.ensures.work)

pub returns-in_err-report_in_order-clause-round : goal.returns-in_err-report_in_order-clause-round
returns-in_err-report_in_order-clause-round g c =
    let m = g.M.Machine in
    let f = g.F.Fetcher in
    err-round m.step (f.held c.args.fetcher.now) (m.core c.args.machine.now) (m.core c.end_jobs.new.machine)
    (f.faults c.args.fetcher.now) (f.faults c.settle_objects.new.fetcher)
    c.from_residual-in_err-report_in_order.result (err_from_is_err_and c.from_residual-in_err-report_in_order.result c.from_residual-in_err-report_in_order.ensures.1).0
    (err_from_is_err_and c.from_residual-in_err-report_in_order.result c.from_residual-in_err-report_in_order.ensures.1).1
    (λ fault. round-unended m.step (f.held c.args.fetcher.now) (m.core c.args.machine.now)
    (f.faults c.args.fetcher.now) c.in_ok-make.field-0 (m.core c.make.new.machine)
    (m.core c.read_catalogues.new.machine) (f.faults c.read_catalogues.new.fetcher) c.in_ok-make.ensures.made
    c.in_ok-read_catalogues.ensures.work.0 (m.core c.settle_objects.new.machine)
    (f.faults c.settle_objects.new.fetcher)
    (subst (λ (h : Holdings). SettlesAll m.step h (m.core c.args.machine.now) (f.faults c.args.fetcher.now)
    (m.core c.read_catalogues.new.machine) (m.core c.settle_objects.new.machine) (f.faults c.read_catalogues.new.fetcher)
    (f.faults c.settle_objects.new.fetcher) true) c.read_catalogues.ensures.held c.in_ok-settle_objects.ensures.work)
    c.settle_objects.ensures.fetches (m.core c.end_jobs.new.machine) c.jobs_started-jobs.result
    c.read_catalogues.new.reports.items c.end_jobs.new.reports.items true fault c.in_ok-end_jobs.ensures.work)

pub returns-clause-round : goal.returns-clause-round
returns-clause-round g c =
    let m = g.M.Machine in
    let f = g.F.Fetcher in
    let reads = c.in_ok-read_catalogues.ensures.work in
    round-whole m.step (f.held c.args.fetcher.now) (m.core c.args.machine.now)
    (f.faults c.args.fetcher.now) c.in_ok-make.field-0 (m.core c.make.new.machine)
    (m.core c.read_catalogues.new.machine) (f.faults c.read_catalogues.new.fetcher) c.in_ok-make.ensures.made
    reads.0 (m.core c.settle_objects.new.machine) (f.faults c.settle_objects.new.fetcher)
    (subst (λ (h : Holdings). SettlesAll m.step h (m.core c.args.machine.now) (f.faults c.args.fetcher.now)
    (m.core c.read_catalogues.new.machine) (m.core c.settle_objects.new.machine) (f.faults c.read_catalogues.new.fetcher)
    (f.faults c.settle_objects.new.fetcher) true) c.read_catalogues.ensures.held c.in_ok-settle_objects.ensures.work)
    c.settle_objects.ensures.fetches (m.core c.end_jobs.new.machine) c.jobs_started-jobs.result c.read_catalogues.new.reports.items
    c.end_jobs.new.reports.items c.in_ok-report_in_order.field-0 c.in_ok-end_jobs.ensures.work
    c.jobs_started-jobs.ensures
    (told-all c.new-reports.result.items c.read_catalogues.new.reports.items
    (reports_of_catalogues reads.0.work.done) reads.1 c.new-reports.ensures.items)
    c.in_ok-report_in_order.ensures.reports c.in_ok-report_in_order.ensures.order
