use Rattle.std.proofs.Common.{◌≡◌, ◌∙◌, ap, false, length, map, refl, rules, subst, sym, true}
use Rattle.std.proofs.lemmas.Iterator.Adapters.{YieldsList-from_vec}
use Rattle.std.proofs.lemmas.Iterator.Consumers.{YieldsList-turn}
use Rattle.portal_base.specs.Ordered.{IsAscending}
use Rattle.portal_base.proofs.Unique.{IsIn, IsIn-get_or}
use Rattle.harvest_stages.specs.Groups.{group_cmp, sources_of, with_own}
use Rattle.harvest_stages.specs.Restored.{is_restorable_job}
use Rattle.harvest_stages.proofs.GroupLemmas.{ascends_still, put_more, put_none, restorable_still}
use Rattle.harvest_stages.proofs.MapLemmas.{list_all-fails, list_all-more}
use Rattle.harvest_stages.proofs.groups.put_jobs.Goals as goal

pub loop-job-init : goal.loop-job-init
loop-job-init c = record { put = sym (put_none c.args.groups.now.items); fit = refl }

pub put_job-requires : goal.put_job-requires
put_job-requires c =
    subst (IsAscending group_cmp) (sym c.loop-job.invariant.put)
    (ascends_still c.args.groups.now.items c.loop-job.yielded c.requires)

pub returns-then-not-branch-clause-fit : goal.returns-then-not-branch-clause-fit
returns-then-not-branch-clause-fit c =
    let turn = YieldsList-turn
    (YieldsList-from_vec {s = c.into_iter-job-iterator.result} c.into_vec-job-items.result.items (search rules) (search rules))
    c.loop-job.yielded c.loop-job.job-iterator c.loop-job.yielded_by c.next.result c.next.new.self c.in-Some.job c.in-Some.is
    c.next.ensures.steps in
    let there : IsIn c.in-Some.job c.args.jobs =
    subst (IsIn c.in-Some.job) c.into_vec-job-items.ensures (IsIn-get_or c.in-Some.job c.into_vec-job-items.result.items (length c.loop-job.yielded) turn.0 (sym turn.1)) in
    let no : c.in_ok-put_job.field-0 ≡ false = c.if-not-branch.true in
    sym (list_all-fails (is_restorable_job (sources_of c.args.groups.now.items)) c.args.jobs c.in-Some.job there
    (restorable_still c.args.groups.now.items c.loop-job.groups.items c.loop-job.yielded c.in-Some.job
    c.loop-job.invariant.put ∙ sym c.in_ok-put_job.ensures.fits ∙ no))

pub loop-job-preserved : goal.loop-job-preserved
loop-job-preserved c =
    let yes : c.in_ok-put_job.field-0 ≡ true = c.if-not-branch.false in
    record {
      put = c.in_ok-put_job.ensures.put yes ∙ ap (map (with_own c.in-Some.job)) c.loop-job.invariant.put
          ∙ put_more c.args.groups.now.items c.loop-job.yielded c.in-Some.job;
      fit = list_all-more (is_restorable_job (sources_of c.args.groups.now.items)) c.loop-job.yielded c.in-Some.job
          c.loop-job.invariant.fit
          (restorable_still c.args.groups.now.items c.loop-job.groups.items c.loop-job.yielded c.in-Some.job
          c.loop-job.invariant.put ∙ sym c.in_ok-put_job.ensures.fits ∙ yes);
    }
