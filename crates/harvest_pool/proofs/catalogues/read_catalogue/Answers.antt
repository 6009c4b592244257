use Rattle.std.proofs.lemmas.Result.{err_from_is_err_and}
use Rattle.std.proofs.Common.{ap, Ok, refl, subst}
use Rattle.harvest_sources.specs.declared.step.Step.{Step}
use Rattle.harvest_pool.specs.Made.{IsMade}
use Rattle.harvest_pool.proofs.ReadLemmas.{a_catalogue, reads-listed, work-unlisted, work-unread, work-untold}
use Rattle.harvest_pool.proofs.catalogues.read_catalogue.Goals as goal

pub returns-in_err-read-clause-work : goal.returns-in_err-read-clause-work
returns-in_err-read-clause-work g c =
    let m = g.M.Machine in
    let f = g.F.Fetcher in
    work-unread m.step (f.held c.args.fetcher.now) c.args.job c.args.url.now (m.core c.args.machine.now)
    (m.core c.args.machine.now) (f.faults c.args.fetcher.now) (f.faults c.fetch_catalogue.new.fetcher)
    c.args.reports.now.items c.args.reports.now.items c.from_residual.result (err_from_is_err_and c.from_residual.result c.from_residual.ensures.1).0
    (err_from_is_err_and c.from_residual.result c.from_residual.ensures.1).1 refl
    c.fetch_catalogue.ensures.counts

pub returns-in_err-answer-clause-work : goal.returns-in_err-answer-clause-work
returns-in_err-answer-clause-work g c =
    let m = g.M.Machine in
    let f = g.F.Fetcher in
    work-unlisted m.step (f.held c.args.fetcher.now) c.args.job c.args.url.now (m.core c.args.machine.now)
    (m.core c.make.new.machine) (f.faults c.args.fetcher.now) (f.faults c.fetch_catalogue.new.fetcher)
    c.in_ok-read.read c.in_ok-read.ensures.told (λ e. c.in_ok-read.ensures.fault (ap Ok e))
    c.fetch_catalogue.ensures.counts c.args.reports.now.items c.args.reports.now.items
    c.from_residual-in_err-answer.result (err_from_is_err_and c.from_residual-in_err-answer.result c.from_residual-in_err-answer.ensures.1).0
    (err_from_is_err_and c.from_residual-in_err-answer.result c.from_residual-in_err-answer.ensures.1).1 c.in_err-answer.ensures.kept

pub returns-in_err-push_report-clause-work : goal.returns-in_err-push_report-clause-work
returns-in_err-push_report-clause-work g c =
    let m = g.M.Machine in
    let f = g.F.Fetcher in
    work-untold m.step (f.held c.args.fetcher.now) c.args.job c.args.url.now (m.core c.args.machine.now)
    (m.core c.make.new.machine) (f.faults c.args.fetcher.now) (f.faults c.fetch_catalogue.new.fetcher)
    c.in_ok-read.read c.in_ok-answer.answer c.in_ok-read.ensures.told (λ e. c.in_ok-read.ensures.fault (ap Ok e))
    c.fetch_catalogue.ensures.counts
    (subst (λ (s : Step). IsMade m.step (m.core c.args.machine.now) s c.in_ok-answer.answer (m.core c.make.new.machine))
    c.step_of_catalogue.ensures c.in_ok-answer.ensures.made) c.args.reports.now.items c.push_report.new.reports.items
    c.from_residual-in_err-push_report.result (err_from_is_err_and c.from_residual-in_err-push_report.result c.from_residual-in_err-push_report.ensures.1).0
    (err_from_is_err_and c.from_residual-in_err-push_report.result c.from_residual-in_err-push_report.ensures.1).1

pub returns-clause-work : goal.returns-clause-work
returns-clause-work g c =
    let m = g.M.Machine in
    let f = g.F.Fetcher in (
      a_catalogue m.step (f.held c.args.fetcher.now) c.args.job c.args.url.now (m.core c.args.machine.now)
          (m.core c.make.new.machine) (f.faults c.args.fetcher.now) (f.faults c.fetch_catalogue.new.fetcher)
          c.in_ok-read.read c.in_ok-answer.answer,
      refl,
      refl,
      reads-listed m.step (f.held c.args.fetcher.now) c.args.job c.args.url.now (m.core c.args.machine.now)
          (m.core c.make.new.machine) (f.faults c.args.fetcher.now) (f.faults c.fetch_catalogue.new.fetcher)
          c.in_ok-read.read c.in_ok-answer.answer _ c.in_ok-read.ensures.told
          (λ e. c.in_ok-read.ensures.fault (ap Ok e)) c.fetch_catalogue.ensures.counts
          (subst (λ (s : Step). IsMade m.step (m.core c.args.machine.now) s c.in_ok-answer.answer
          (m.core c.make.new.machine)) c.step_of_catalogue.ensures c.in_ok-answer.ensures.made),
      c.in_ok-push_report.ensures,
    )
