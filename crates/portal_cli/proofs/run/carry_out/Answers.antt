-- The status of a load and of a script is neither 2 nor 11. That of a harvest is none of words, of input or of a
-- listener.
use Rattle.portal_cli.proofs.Fetched.{load_no_listener, load_no_words}
use Rattle.portal_start.specs.Fetchers.{first_fetch}
use Rattle.portal_cli.proofs.Statuses.{harvest_is, play_is}
use Rattle.portal_start.proofs.Beginning.{unread_is}
use Rattle.portal_cli.proofs.run.carry_out.Goals as goal

pub returns-in-Ok-Load-clause-words : goal.returns-in-Ok-Load-clause-words
returns-in-Ok-Load-clause-words g c =
    λ is. absurd (load_no_words
    (first_fetch g.F.Fetcher.held g.F.Fetcher.faults c.args.fetchers.now.items c.load_from.new.fetchers.items)
    c.in-Ok-Load.options _ _ _ c.load_from.result.status c.load_from.ensures.loads is)

pub returns-in-Ok-Load-clause-listen_fault : goal.returns-in-Ok-Load-clause-listen_fault
returns-in-Ok-Load-clause-listen_fault g c =
    λ is. absurd (load_no_listener
    (first_fetch g.F.Fetcher.held g.F.Fetcher.faults c.args.fetchers.now.items c.load_from.new.fetchers.items)
    c.in-Ok-Load.options _ _ _ c.load_from.result.status c.load_from.ensures.loads is)

pub returns-in-Ok-Harvest-clause-words : goal.returns-in-Ok-Harvest-clause-words
returns-in-Ok-Harvest-clause-words g c =
    λ is. absurd ((harvest_is g.F.Fetcher.held g.F.Fetcher.faults c.in-Ok-Harvest.options c.args.fetchers.now.items
    c.harvest_from.new.fetchers.items _ _ _ c.harvest_from.result.rounds c.harvest_from.result.status _
    c.harvest_from.ensures.harvests).0 is)

pub returns-in-Ok-Harvest-clause-read_fault : goal.returns-in-Ok-Harvest-clause-read_fault
returns-in-Ok-Harvest-clause-read_fault g c =
    λ is. absurd ((harvest_is g.F.Fetcher.held g.F.Fetcher.faults c.in-Ok-Harvest.options c.args.fetchers.now.items
    c.harvest_from.new.fetchers.items _ _ _ c.harvest_from.result.rounds c.harvest_from.result.status _
    c.harvest_from.ensures.harvests).1 is)

pub returns-in-Ok-Harvest-clause-listen_fault : goal.returns-in-Ok-Harvest-clause-listen_fault
returns-in-Ok-Harvest-clause-listen_fault g c =
    λ is. absurd ((harvest_is g.F.Fetcher.held g.F.Fetcher.faults c.in-Ok-Harvest.options c.args.fetchers.now.items
    c.harvest_from.new.fetchers.items _ _ _ c.harvest_from.result.rounds c.harvest_from.result.status _
    c.harvest_from.ensures.harvests).2 is)

pub returns-in-Ok-Harvest-clause-too_much : goal.returns-in-Ok-Harvest-clause-too_much
returns-in-Ok-Harvest-clause-too_much g c = λ whole observed.
    unread_is _ whole _ (harvest_is g.F.Fetcher.held g.F.Fetcher.faults c.in-Ok-Harvest.options
    c.args.fetchers.now.items c.harvest_from.new.fetchers.items _ _ _ c.harvest_from.result.rounds
    c.harvest_from.result.status _ c.harvest_from.ensures.harvests).3 observed

pub returns-in-Ok-Play-clause-words : goal.returns-in-Ok-Play-clause-words
returns-in-Ok-Play-clause-words g c =
    λ is. absurd ((play_is g.F.Fetcher.held g.F.Fetcher.faults c.in-Ok-Play.options.portal c.args.fetchers.now.items
    c.play_from.new.fetchers.items _ _ _ c.play_from.result.rounds c.play_from.result.status _
    c.play_from.ensures.plays).0 is)

pub returns-in-Ok-Play-clause-listen_fault : goal.returns-in-Ok-Play-clause-listen_fault
returns-in-Ok-Play-clause-listen_fault g c =
    λ is. absurd ((play_is g.F.Fetcher.held g.F.Fetcher.faults c.in-Ok-Play.options.portal c.args.fetchers.now.items
    c.play_from.new.fetchers.items _ _ _ c.play_from.result.rounds c.play_from.result.status _
    c.play_from.ensures.plays).1 is)
