-- The CSV was loaded by the schema that was fetched.
use Rattle.portal_load.proofs.Fetched.{loads_fetched}
use Rattle.portal_status.specs.Fetch.{fetch_trace}
use Rattle.portal_load.proofs.schema_file.load_csv.Goals as goal

pub returns-in-Ok-clause-loads : goal.returns-in-Ok-clause-loads
returns-in-Ok-clause-loads g c =
    loads_fetched
    (fetch_trace (g.F.Fetcher.held c.args.fetcher.now) (g.F.Fetcher.faults c.args.fetcher.now)
    (g.F.Fetcher.faults c.fetch_file.new.fetcher))
    c.args.options c.args.portal.now.state c.load.new.portal.state _ _ c.load.result c.as_str.result.now
    c.in-Ok.schema.items c.as_slice.result.now c.as_str-in-Ok.result.now c.in-Ok.ensures.bytes c.in-Ok.ensures.within
    (cc) (cc) (cc) c.load.ensures.schema c.load.ensures.loads
