use Rattle.std.proofs.lemmas.Result.{err_from_is_err_and}
use Rattle.std.proofs.Common.{refl}
use Rattle.harvest_pool.proofs.LoopLemmas.{by-err}
use Rattle.harvest_pool.proofs.ReadLemmas.{ObjectWork, work-settled, work-unmade, work-unread_object}
use Rattle.harvest_pool.proofs.objects.settle_object.Goals as goal

pub returns-in_err-reading-clause-work : goal.returns-in_err-reading-clause-work
returns-in_err-reading-clause-work g c =
    let m = g.M.Machine in
    let f = g.F.Fetcher in
    let before = m.core c.args.machine.now in
    by-err (ObjectWork m.step (f.held c.args.fetcher.now) c.args.job c.args.item before before
    (f.faults c.args.fetcher.now) (f.faults c.read_object.new.fetcher)) c.from_residual.result (err_from_is_err_and c.from_residual.result c.from_residual.ensures.1).0
    (err_from_is_err_and c.from_residual.result c.from_residual.ensures.1).1
    (work-unread_object m.step (f.held c.args.fetcher.now) c.args.job c.args.item before before
    (f.faults c.args.fetcher.now) (f.faults c.read_object.new.fetcher) refl c.read_object.ensures.fetches)

pub returns-in_err-make-clause-work : goal.returns-in_err-make-clause-work
returns-in_err-make-clause-work g c =
    let m = g.M.Machine in
    let f = g.F.Fetcher in
    by-err (ObjectWork m.step (f.held c.args.fetcher.now) c.args.job c.args.item (m.core c.args.machine.now)
    (m.core c.make.new.machine) (f.faults c.args.fetcher.now) (f.faults c.read_object.new.fetcher))
    c.from_residual-in_err-make.result (err_from_is_err_and c.from_residual-in_err-make.result c.from_residual-in_err-make.ensures.1).0
    (err_from_is_err_and c.from_residual-in_err-make.result c.from_residual-in_err-make.ensures.1).1
    (work-unmade m.step (f.held c.args.fetcher.now) c.args.job c.args.item (m.core c.args.machine.now)
    (m.core c.make.new.machine) (f.faults c.args.fetcher.now) (f.faults c.read_object.new.fetcher)
    c.in_ok-reading.reading c.in_ok-reading.ensures.reading c.in_err-make.ensures.kept)

pub returns-clause-work : goal.returns-clause-work
returns-clause-work g c =
    let m = g.M.Machine in
    let f = g.F.Fetcher in
    work-settled m.step (f.held c.args.fetcher.now) c.args.job c.args.item (m.core c.args.machine.now)
    (m.core c.make.new.machine) (f.faults c.args.fetcher.now) (f.faults c.read_object.new.fetcher)
    c.in_ok-reading.reading c.in_ok-make.field-0 c.in_ok-reading.ensures.reading c.in_ok-make.ensures.made
