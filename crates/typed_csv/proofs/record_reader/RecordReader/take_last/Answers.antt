use Rattle.std.proofs.Common.{◌∙◌, refl}
use Rattle.typed_csv.proofs.ReceivedLemmas.{TakesFirst-last}
use Rattle.typed_csv.proofs.record_reader.RecordReader.take_last.Goals as goal

pub returns-clause-took : goal.returns-clause-took
returns-clause-took g c is =
    TakesFirst-last g.S.Source.to_come _ c.args.self.now
    (record {
      source = c.self.inside.source;
      ready = c.take.new.self.ready;
      held = c.take.new.self.held;
      given = c.self.inside.given;
      is_fresh = c.take.new.self.is_fresh;
    })
    _ c.finish.new.self.ready c.self.view_is c.requires.ready c.requires.end c.in_ok-finish.ensures.ready
    (c.take.ensures.took is) refl (c.take.ensures.held ∙ c.in_ok-finish.ensures.held)
    (c.take.ensures.fresh ∙ c.in_ok-finish.ensures.fresh)
