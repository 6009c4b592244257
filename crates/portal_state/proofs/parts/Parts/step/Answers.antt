-- A step that isn't accepted leaves the sources, and with them the state.
use Rattle.std.proofs.Common.{◌≡◌, ◌∙◌, List, ap, false, sym}
use Rattle.harvest_sources.specs.Sources.{SourceState}
use Rattle.harvest_sources.specs.Steps.{is_accepted, stepped}
use Rattle.harvest_sources.specs.declared.step.Effect.{Effect}
use Rattle.harvest_stages.specs.Stages.{sources_in}
use Rattle.portal_state.specs.Parts.{state_of}
use Rattle.portal_state.proofs.StepParts.{left-on, left-state}
use Rattle.portal_state.proofs.StoreLemmas.{same_kept}
use Rattle.portal_state.proofs.parts.Parts.step.Goals as goal

pub returns-else-is_accepted-clause-parts : goal.returns-else-is_accepted-clause-parts
returns-else-is_accepted-clause-parts g c =
    let before = c.args.self.now in
    let refused : is_accepted c.in_ok-prepared.prepared.reply ≡ false =
    ap is_accepted (sym c.reply.ensures) ∙ sym c.is_accepted.ensures ∙ c.if-is_accepted.false in
    same_kept (g.K.Keeper.rows c.args.keeper.now) before (record before { sources = c.commit.new.self }) c.requires.kept
    (ap (λ (sources : List SourceState). record (state_of before) { sources = sources })
    (left-on c.args.step.now (state_of before) c.in_ok-prepared.prepared c.in_ok-found.found.effect
    (sources_in c.prepare.new.self) (sources_in c.commit.new.self) c.in_ok-prepared.ensures.same
    c.in_ok-found.ensures.effect c.in_ok-prepared.ensures.step refused c.commit.ensures.sources))
    c.requires.kept.consistent.shelved

pub returns-else-is_accepted-clause-state : goal.returns-else-is_accepted-clause-state
returns-else-is_accepted-clause-state g c =
    let before = c.args.self.now in
    let state = state_of before in
    let refused : is_accepted c.in_ok-prepared.prepared.reply ≡ false =
    ap is_accepted (sym c.reply.ensures) ∙ sym c.is_accepted.ensures ∙ c.if-is_accepted.false in
    ap (λ (sources : List SourceState). record (state_of before) { sources = sources })
    (left-on c.args.step.now state c.in_ok-prepared.prepared c.in_ok-found.found.effect
    (sources_in c.prepare.new.self) (sources_in c.commit.new.self) c.in_ok-prepared.ensures.same
    c.in_ok-found.ensures.effect c.in_ok-prepared.ensures.step refused c.commit.ensures.sources)
    ∙ sym (left-state c.args.step.now state c.in_ok-prepared.prepared
    (c.in_ok-prepared.ensures.step
    ∙ ap (λ (e : Effect). stepped c.args.step.now e state.sources) c.in_ok-found.ensures.effect)
    refused)
