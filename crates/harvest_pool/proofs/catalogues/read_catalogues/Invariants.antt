use Rattle.std.proofs.Common.{◌≡◌, ◌≤◌}
use Rattle.harvest_pool.proofs.LoopLemmas.{CataloguesSoFar}
use Rattle.harvest_pool.proofs.catalogues.read_catalogues.Given as goal

-- the catalogues so far, and counts that never fall
abbrev pub invariant-loop : goal.invariant-loop
invariant-loop g l = record {
  so_far : CataloguesSoFar g.M.Machine.step (g.F.Fetcher.held l.fn.fetcher) (g.M.Machine.core l.fn.machine)
      (g.F.Fetcher.faults l.fn.fetcher) l.fn.reports.items (g.M.Machine.core l.machine)
      (g.F.Fetcher.faults l.fetcher) l.reports.items;
  held : g.F.Fetcher.held l.fetcher ≡ g.F.Fetcher.held l.fn.fetcher;
  counts : g.M.Machine.faults l.fn.machine ≤ g.M.Machine.faults l.machine;
  fetches : g.F.Fetcher.faults l.fn.fetcher ≤ g.F.Fetcher.faults l.fetcher;
}
