use Rattle.std.proofs.Common.{◌∙◌, List, ap, subst, sym}
use Rattle.harvest_sources.specs.Entries.{sources_after}
use Rattle.harvest_sources.specs.Sources.{SourceState, states}
use Rattle.harvest_stages.specs.Prepared.{CanMake, entries_of_step}
use Rattle.harvest_stages.specs.declared.prepared.StepChange.{StepChange}
use Rattle.harvest_stages.specs.declared.prepared.StepChange.TheVariants.{At}
use Rattle.harvest_stages.proofs.StepLemmas.{changed_so, renewed_back, within_items}
use Rattle.harvest_stages.proofs.step_commits.make.Goals as goal

pub returns-in-Renew-clause-changed : goal.returns-in-Renew-clause-changed
returns-in-Renew-clause-changed c =
    let xs : List SourceState = states c.args.sources.now.items in
    (renewed_back c.args.sources.now.len c.as_mut_slice.result.now c.args.sources.now.items c.renew_all.new.sources
    c.as_mut_slice.ensures.value c.as_mut_slice.ensures.len c.requires.sources c.renew_all.ensures.state
    c.renew_all.ensures.holds).0
    ∙ sym (ap (λ (change : StepChange). sources_after (entries_of_step change xs) xs) c.in-Renew.is)

pub returns-in-Renew-clause-sources : goal.returns-in-Renew-clause-sources
returns-in-Renew-clause-sources c =
    (renewed_back c.args.sources.now.len c.as_mut_slice.result.now c.args.sources.now.items c.renew_all.new.sources
    c.as_mut_slice.ensures.value c.as_mut_slice.ensures.len c.requires.sources c.renew_all.ensures.state
    c.renew_all.ensures.holds).1

pub returns-in-At-clause-changed : goal.returns-in-At-clause-changed
returns-in-At-clause-changed c =
    let xs : List SourceState = states c.args.sources.now.items in
    let ready : CanMake (At c.in-At.place c.in-At.step) xs =
    subst (λ (change : StepChange). CanMake change xs) c.in-At.is c.requires.ready in
    (changed_so c.args.sources.now.items c.change_at.new.sources.items c.in-At.place c.in-At.step c.requires.sources
    (within_items c.args.sources.now.items c.in-At.place ready.0) c.change_at.ensures).0
    ∙ sym (ap (λ (change : StepChange). sources_after (entries_of_step change xs) xs) c.in-At.is)

pub returns-in-At-clause-sources : goal.returns-in-At-clause-sources
returns-in-At-clause-sources c =
    let xs : List SourceState = states c.args.sources.now.items in
    let ready : CanMake (At c.in-At.place c.in-At.step) xs =
    subst (λ (change : StepChange). CanMake change xs) c.in-At.is c.requires.ready in
    (changed_so c.args.sources.now.items c.change_at.new.sources.items c.in-At.place c.in-At.step c.requires.sources
    (within_items c.args.sources.now.items c.in-At.place ready.0) c.change_at.ensures).1
