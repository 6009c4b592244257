use Rattle.std.proofs.lemmas.Result.{err_from_is_err_and}
use Rattle.std.proofs.Common.{arith}
use Rattle.harvest_pool.specs.Working.{EndsJobs}
use Rattle.harvest_pool.proofs.LoopLemmas.{by-err, ends-more, ends-untold}
use Rattle.harvest_pool.proofs.ends.end_jobs.Goals as goal

pub loop-job-preserved : goal.loop-job-preserved
loop-job-preserved g c =
    let m = g.M.Machine in record {
      so_far = ends-more m.step (m.core c.args.machine.now) c.args.reports.now.items c.loop-job.yielded c.in-Some.job
          c.in_ok-answer.answer (m.core c.loop-job.machine) (m.core c.make.new.machine) c.loop-job.reports.items
          c.push_report.new.reports.items c.loop-job.invariant.so_far c.in_ok-answer.ensures.made
          c.in_ok-push_report.ensures;
      counts = omega (arith, c.loop-job.invariant.counts, c.make.ensures.counts);
    }

pub returns-in_err-push_report-clause-work : goal.returns-in_err-push_report-clause-work
returns-in_err-push_report-clause-work g c =
    let m = g.M.Machine in
    by-err (EndsJobs m.step c.args.jobs (m.core c.args.machine.now) (m.core c.make.new.machine)
    c.args.reports.now.items c.push_report.new.reports.items) c.from_residual-in_err-push_report.result (err_from_is_err_and c.from_residual-in_err-push_report.result c.from_residual-in_err-push_report.ensures.1).0
    (err_from_is_err_and c.from_residual-in_err-push_report.result c.from_residual-in_err-push_report.ensures.1).1
    (ends-untold m.step (m.core c.args.machine.now) c.args.reports.now.items c.loop-job.yielded c.args.jobs
    c.in-Some.job c.in_ok-answer.answer (m.core c.loop-job.machine) (m.core c.make.new.machine)
    c.loop-job.reports.items c.push_report.new.reports.items c.loop-job.invariant.so_far c.in_ok-answer.ensures.made)
