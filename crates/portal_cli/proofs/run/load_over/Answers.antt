-- The CSV was loaded into the portal that was opened.
use Rattle.std.proofs.Common.{inl}
use Rattle.portal_cli.proofs.run.load_over.Goals as goal

pub returns-in-Ok-clause-loads : goal.returns-in-Ok-clause-loads
returns-in-Ok-clause-loads g c = inl (record {
  state = c.in-Ok.portal.state;
  begins = c.in-Ok.ensures.opened;
  after = c.load_csv-status.new.portal.state;
  valid = c.end_with.ensures.valid;
  leaves = c.end_with.ensures.rows;
  does = rw c.end_with.ensures.status c.load_csv-status.ensures.loads;
})
