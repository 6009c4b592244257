use Rattle.std.proofs.Common.{◌≡◌, ◌∙◌, List, Option, Some, None, ap, map, subst, sym}
use Rattle.std.specs.List.{All}
use Rattle.portal_base.specs.Ordered.{are_apart, ascending}
use Rattle.harvest_sources.specs.Sources.{SourceState, states}
use Rattle.harvest_stages.specs.Groups.{HasOwnJobs, group_cmp, states_of, with_all_own}
use Rattle.harvest_stages.proofs.GroupLemmas.{ascends_still}
use Rattle.harvest_stages.proofs.RestoreLemmas.{AreSources-states, own_groups, restored-equal, restored-groups, restored-unfit}
use Rattle.harvest_stages.proofs.stages.Stages.restore.Goals as goal

pub returns-in_default : goal.returns-in_default
returns-in_default c =
    sym (restored-equal c.args.sources c.args.jobs
    (ap (are_apart group_cmp) (sym c.in_ok-groups.ensures) ∙ sym c.in_default.ensures.exactly))

pub returns-then-not-branch : goal.returns-then-not-branch
returns-then-not-branch c =
    sym (restored-unfit c.args.sources c.args.jobs c.in-Some.groups.items
    (c.in-Some.ensures.items ∙ ap (ascending group_cmp) c.in_ok-groups.ensures)
    (sym c.in_ok-put_jobs.ensures.fit ∙ c.if-not-branch.true))

pub sources_of-requires : goal.sources_of-requires
sources_of-requires c =
    let put : c.put_jobs.new.groups.items ≡ map (with_all_own c.args.jobs) c.in-Some.groups.items =
    c.in_ok-put_jobs.ensures.put c.if-not-branch.false in
    let own : All HasOwnJobs (map (with_all_own c.args.jobs) c.in-Some.groups.items) =
    own_groups c.args.sources c.args.jobs c.in-Some.groups.items c.in-Some.ensures.ascending
    (c.in-Some.ensures.items ∙ ap (ascending group_cmp) c.in_ok-groups.ensures) c.requires
    (sym c.in_ok-put_jobs.ensures.fit ∙ c.if-not-branch.false) in
    subst (All HasOwnJobs) (sym put) own

pub invariant_of-result : goal.invariant_of-result
invariant_of-result c =
    let put : c.put_jobs.new.groups.items ≡ map (with_all_own c.args.jobs) c.in-Some.groups.items =
    c.in_ok-put_jobs.ensures.put c.if-not-branch.false in
    let own : All HasOwnJobs (map (with_all_own c.args.jobs) c.in-Some.groups.items) =
    own_groups c.args.sources c.args.jobs c.in-Some.groups.items c.in-Some.ensures.ascending
    (c.in-Some.ensures.items ∙ ap (ascending group_cmp) c.in_ok-groups.ensures) c.requires
    (sym c.in_ok-put_jobs.ensures.fit ∙ c.if-not-branch.false) in
    let given : Some (states c.in-Some-2.sources.items) ≡ states_of c.put_jobs.new.groups.items =
    rw c.in-Some-2.is at c.in_ok-sources.ensures in
    AreSources-states (map (with_all_own c.args.jobs) c.in-Some.groups.items) (states c.in-Some-2.sources.items)
    (ascends_still c.in-Some.groups.items c.args.jobs c.in-Some.ensures.ascending) own (given ∙ ap states_of put)

pub returns-in-Some-2 : goal.returns-in-Some-2
returns-in-Some-2 c =
    let given : Some (states c.in-Some-2.sources.items) ≡ states_of c.put_jobs.new.groups.items =
    rw c.in-Some-2.is at c.in_ok-sources.ensures in
    given ∙ ap states_of (c.in_ok-put_jobs.ensures.put c.if-not-branch.false)
    ∙ restored-groups c.args.sources c.args.jobs c.in-Some.groups.items
    (ap (are_apart group_cmp) (sym c.in_ok-groups.ensures) ∙ sym c.in-Some.ensures.exactly)
    (c.in-Some.ensures.items ∙ ap (ascending group_cmp) c.in_ok-groups.ensures)
    (sym c.in_ok-put_jobs.ensures.fit ∙ c.if-not-branch.false)

pub returns-in-None : goal.returns-in-None
returns-in-None c =
    let nothing : Option (List SourceState) = None in
    let given : nothing ≡ states_of c.put_jobs.new.groups.items =
    rw c.in-None.is at c.in_ok-sources.ensures in
    given ∙ ap states_of (c.in_ok-put_jobs.ensures.put c.if-not-branch.false)
    ∙ restored-groups c.args.sources c.args.jobs c.in-Some.groups.items
    (ap (are_apart group_cmp) (sym c.in_ok-groups.ensures) ∙ sym c.in-Some.ensures.exactly)
    (c.in-Some.ensures.items ∙ ap (ascending group_cmp) c.in_ok-groups.ensures)
    (sym c.in_ok-put_jobs.ensures.fit ∙ c.if-not-branch.false)
