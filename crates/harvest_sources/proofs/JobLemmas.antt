-- The jobs of a source, with the open one replaced or a new one added.
use Rattle.std.proofs.Common.{◌≡◌, ℕ, ◌+◌, ◌<◌, Bool, true, false, cond, List, [], ◌∷◌, length, ◌++◌}
use Rattle.std.proofs.Common.{get_or, set, length-set, Some, None, refl, sym, ap, subst, ◌∙◌, arith, IsTrue, IfSome}
use Rattle.std.specs.Prelude.{Option, count_by, find, is_some, position}
use Rattle.std.specs.Cmp.{IsTotalOrder}
use Rattle.std.specs.List.{All}
use Rattle.std.specs.Option.{option_map_or}
use Rattle.std.specs.Ordering.{is_eq, is_lt, nat_cmp}
use Rattle.std.specs.declared.cmp.Ordering.TheVariants.{Less}
use Rattle.std.proofs.lemmas.Cmp.{on_total, nat_cmp_total, tied_itself}
use Rattle.std.proofs.lemmas.List.Elements.{All-get_or, All-push, All-set, All-tail, All-weaker}
use Rattle.std.proofs.lemmas.List.Sums.{sum_by_push}
use Rattle.std.specs.Bool.{then_some}
use Rattle.std.specs.Prelude.{ℤ, not}
use Rattle.std.proofs.lemmas.List.Folds.{find-set, position_or_len-set}
use Rattle.std.proofs.lemmas.Option.{slice_get-get_or}
use Rattle.portal_base.specs.Ordered.{IsAscending, IsBelowAll, dropped, inserted, upserted}
use Rattle.portal_base.proofs.Upserted.{IsAscending-upserted}
use Rattle.harvest_sources.specs.Entries.{with_job, with_listing, with_new_job}
use Rattle.harvest_sources.specs.Jobs.{blank_report, in_state, is_open, is_open_state, is_running, is_running_state}
use Rattle.harvest_sources.specs.Jobs.{job_cmp, new_job, with_report}
use Rattle.harvest_sources.specs.Listings.{finished_report, first_waiting, is_done, object_cmp, released_object}
use Rattle.harvest_sources.specs.Listings.{waiting_index}
use Rattle.harvest_sources.specs.Steps.{is_settled, waiting_of}
use Rattle.harvest_sources.specs.declared.listing.ListedObject.{ListedObject}
use Rattle.harvest_sources.proofs.ObjectLemmas.{no_waiting}
use Rattle.std.specs.List.{list_all}
use Rattle.std.specs.Prelude.{map, option_and_then}
use Rattle.harvest_sources.specs.Sources.{AreTheirPlaces, HasItsJobs, IsJobOf, SourceState, is_listed, open_job}
use Rattle.harvest_sources.specs.declared.job.Job.{Job}
use Rattle.harvest_sources.specs.declared.job.JobState.{JobState}
use Rattle.harvest_sources.specs.declared.job.SourceReport.{SourceReport}
use Rattle.harvest_sources.specs.declared.job.JobState.TheVariants.{New, Running, Finished, Broken}
use Rattle.harvest_sources.specs.declared.listing.Listing.{Listing}
use Rattle.harvest_sources.proofs.PlaceLemmas.{count-set, count-set_failing, find-position, passes-position}
use Rattle.harvest_sources.proofs.PlaceLemmas.{none_found-count, position-pushed}
use Rattle.harvest_sources.proofs.PlaceLemmas.{position-none_counted, position-some, set-upserted, some-position}

pub job_cmp_total : IsTotalOrder job_cmp
job_cmp_total = on_total (λ job. job.number) nat_cmp_total

-- a running job is open
pub running_is_open : (state : JobState) → is_running_state state ≡ true → is_open_state state ≡ true
running_is_open New e = absurd (cc)
running_is_open Running e = refl
running_is_open Finished e = absurd (cc)
running_is_open (Broken cause) e = absurd (cc)

nat_cmp_less : (m n : ℕ) → m < n → nat_cmp m n ≡ Less
nat_cmp_less m n lt = grind arith

-- ---- the open job by its place

pub open_at : (s : SourceState) (i : ℕ) (d : Job) → position is_open s.jobs ≡ Some i
    → (i < length s.jobs) × (open_job s ≡ Some (get_or s.jobs i d)) × (is_open (get_or s.jobs i d) ≡ true)
open_at s i d e =
    let at = position-some is_open s.jobs i e in (
      at.1,
      find-position is_open s.jobs i e ∙ slice_get-get_or s.jobs i d at.1,
      passes-position is_open s.jobs i d e,
    )

-- ---- the open job, replaced

-- the source after the job at this index is replaced, with this listing
abbrev pub with_job_at : ℕ → Job → Option Listing → SourceState → SourceState
with_job_at i job listing s = record s { jobs = set s.jobs i job; listing = listing }

module _ (s : SourceState) (i : ℕ) (d : Job) (job : Job) (holds : HasItsJobs s)
    (at : position is_open s.jobs ≡ Some i) (same : (get_or s.jobs i d).number ≡ job.number) where
  pub replaced_is_upserted : set s.jobs i job ≡ upserted job_cmp job s.jobs
  replaced_is_upserted =
      set-upserted job_cmp job_cmp_total s.jobs i d job holds.ascending (open_at s i d at).0
      (ap (λ n. nat_cmp n job.number) same ∙ tied_itself nat_cmp_total job.number)

  -- The place of the open job afterwards.
  pub replaced_place : position is_open (set s.jobs i job) ≡ cond (is_open job) (Some i) None
  replaced_place = by (is_open job) refl
    where
      by : (b : Bool) → is_open job ≡ b → position is_open (set s.jobs i job) ≡ cond b (Some i) None
      by true e =
          let there = open_at s i d at in
          some-position is_open (set s.jobs i job) i
          (position_or_len-set is_open s.jobs i job d (e ∙ sym there.2) ∙ (position-some is_open s.jobs i at).0)
          (subst (λ n. i < n) (sym (length-set s.jobs i job)) there.0)
      by false e =
          let there = open_at s i d at in
          let fewer = count-set_failing is_open s.jobs i d job there.0 there.2 e in
          position-none_counted is_open (set s.jobs i job) (omega (arith, fewer, holds.one_open))

  pub replaced_open : is_open job ≡ true → find is_open (set s.jobs i job) ≡ Some job
  replaced_open e =
      let at_it = position-some is_open s.jobs i at in
      find-set is_open s.jobs i job (sym at_it.0) at_it.1 e

  -- Such a source has its jobs, if the new job is one of it, and runs if a catalogue is listed.
  pub replaced_holds : IsJobOf s.source job → (listing : Option Listing)
      → (IsTrue (is_some listing) → is_running job ≡ true)
      → IfSome listing (λ l. IsAscending object_cmp l.objects)
      → HasItsJobs (with_job_at i job listing s)
  replaced_holds own listing runs listed = record {
    own = All-set (IsJobOf s.source) s.jobs i job own holds.own;
    ascending = subst (IsAscending job_cmp) (sym replaced_is_upserted)
        (IsAscending-upserted job_cmp job_cmp_total job s.jobs holds.ascending);
    one_open =
        let there = open_at s i d at in
        let fewer = count-set is_open s.jobs i d job there.0 there.2 in
        omega (arith, fewer, holds.one_open);
    runs = λ is.
        let running = runs is in
        ap (λ o. option_map_or is_running o false) (replaced_open (running_is_open job.report.state running))
        ∙ running;
    listed = listed;
  }

-- ---- the open job in another state

-- the job, with only its state changed
abbrev pub with_state : JobState → Job → Job
with_state state job = record job { report = record job.report { state = state } }

module _ (s : SourceState) (i : ℕ) (d : Job) (state : JobState) (holds : HasItsJobs s)
    (at : position is_open s.jobs ≡ Some i) where
  -- An open job has done nothing, so with another state it is in that state.
  pub state_is : with_state state (get_or s.jobs i d) ≡ in_state state (get_or s.jobs i d)
  state_is =
      let job = get_or s.jobs i d in
      let there = open_at s i d at in
      let own : IsJobOf s.source job = All-get_or (IsJobOf s.source) s.jobs i d there.0 holds.own in
      ap (λ report. record job { report = record report { state = state } }) (own.blank there.2)
      ∙ ap (λ name. with_report (blank_report name state) job) (sym own.own)

  own_in_state : IsJobOf s.source (in_state state (get_or s.jobs i d))
  own_in_state =
      let job = get_or s.jobs i d in
      let there = open_at s i d at in
      let own : IsJobOf s.source job = All-get_or (IsJobOf s.source) s.jobs i d there.0 holds.own in
      record {
        own = own.own;
        reported = own.own;
        given = own.given;
        blank = λ is. ap (λ name. blank_report name state) own.own;
      }

  pub state_replaced : set s.jobs i (with_state state (get_or s.jobs i d))
      ≡ upserted job_cmp (in_state state (get_or s.jobs i d)) s.jobs
  state_replaced =
      ap (set s.jobs i) state_is
      ∙ replaced_is_upserted s i d (in_state state (get_or s.jobs i d)) holds at refl

  pub state_place : position is_open (set s.jobs i (with_state state (get_or s.jobs i d)))
      ≡ cond (is_open_state state) (Some i) None
  state_place = replaced_place s i d (with_state state (get_or s.jobs i d)) holds at refl

  pub state_holds : (IsTrue (is_listed s) → is_running_state state ≡ true)
      → HasItsJobs (with_job_at i (with_state state (get_or s.jobs i d)) s.listing s)
  state_holds runs =
      replaced_holds s i d (with_state state (get_or s.jobs i d)) holds at refl
      (subst (IsJobOf s.source) (sym state_is) own_in_state) s.listing runs holds.listed

then_some_is : (b : Bool) (i : ℕ) → then_some b i ≡ cond b (Some i) None
then_some_is true i = refl
then_some_is false i = refl

-- The open job, as it was read at its place, in another state.
module _ (s : SourceState) (i : ℕ) (job : Job) (state : JobState) (holds : HasItsJobs s)
    (at : position is_open s.jobs ≡ Some i) (read : job ≡ get_or s.jobs i job) where
  pub state_set_places : (waiting : Option ℕ) → waiting ≡ waiting_index s.listing
      → (IsTrue (is_listed s) → IsTrue (is_running_state state))
      → AreTheirPlaces (with_job_at i (with_state state job) s.listing s) (then_some (is_open_state state) i) waiting
  state_set_places waiting is runs =
      subst (λ j. AreTheirPlaces (with_job_at i (with_state state j) s.listing s)
      (then_some (is_open_state state) i) waiting) (sym read) (record {
        jobs = state_holds s i job state holds at runs;
        current = then_some_is (is_open_state state) i ∙ sym (state_place s i job state holds at);
        waiting = is;
      })

  pub state_set_is : IfSome (open_job s) (λ j. with_job_at i (with_state state job) s.listing s
      ≡ with_job (in_state state j) s)
  state_set_is =
      subst (λ o. IfSome o (λ j. with_job_at i (with_state state job) s.listing s ≡ with_job (in_state state j) s))
      (sym (open_at s i job at).1)
      (subst (λ j. with_job_at i (with_state state j) s.listing s
      ≡ with_job (in_state state (get_or s.jobs i job)) s) (sym read)
      (ap (λ jobs. record s { jobs = jobs }) (state_replaced s i job state holds at)))

-- ---- a new job

-- The new job stands after the others, so it is upserted at the end.
pub pushed_is_upserted : (number : ℕ) (jobs : List Job) (job : Job) → All (λ j. j.number < number) jobs
    → job.number ≡ number → jobs ++ job ∷ [] ≡ upserted job_cmp job jobs
pushed_is_upserted number [] job below is = refl
pushed_is_upserted number (j ∷ jobs) job below is =
    let lt : j.number < number = below 0 j (omega arith) in
    let less : nat_cmp j.number job.number ≡ Less = nat_cmp_less j.number job.number (omega (arith, lt, is)) in
    ap (λ l. j ∷ l) (pushed_is_upserted number jobs job (All-tail (λ k. k.number < number) j jobs below) is)
    ∙ sym (ap (λ r. inserted job_cmp job (cond (not (is_eq r)) (j ∷ dropped (λ k. job_cmp k job) jobs)
    (dropped (λ k. job_cmp k job) jobs))) less
    ∙ ap (λ r. cond (is_lt r) (j ∷ upserted job_cmp job jobs) (job ∷ j ∷ dropped (λ k. job_cmp k job) jobs)) less)

-- the source, with a job after the others and the next number
abbrev pub with_pushed : Job → SourceState → SourceState
with_pushed job s = record s {
  source = record s.source { next_job = s.source.next_job + 1 };
  jobs = s.jobs ++ job ∷ [];
}

module _ (s : SourceState) (created : ℤ) (holds : HasItsJobs s) (ended : open_job s ≡ None) where
  -- the new job
  abbrev pub next : Job
  next = new_job s.source.name s.source.next_job created

  numbers_below : All (λ j. j.number < s.source.next_job) s.jobs
  numbers_below =
      All-weaker (IsJobOf s.source) (λ j. j.number < s.source.next_job) (λ j own. own.given) s.jobs holds.own

  pub pushed_is : with_pushed next s ≡ with_new_job next s
  pushed_is =
      ap (λ jobs. record s { source = record s.source { next_job = s.source.next_job + 1 }; jobs = jobs })
      (pushed_is_upserted s.source.next_job s.jobs next numbers_below refl)

  none_open : count_by is_open s.jobs ≡ 0
  none_open = none_found-count is_open s.jobs ended

  pub pushed_place : position is_open (s.jobs ++ next ∷ []) ≡ Some (length s.jobs)
  pushed_place = position-pushed is_open s.jobs next ended refl

  -- Nothing is listed, since no job runs.
  nothing_listed : is_listed s ≡ true → ⊥
  nothing_listed is =
      let no : false ≡ true = sym (ap (λ o. option_map_or is_running o false) ended) ∙ holds.runs is in
      absurd (cc)

  pub pushed_holds : HasItsJobs (with_pushed next s)
  pushed_holds = record {
    own = All-push (IsJobOf (record s.source { next_job = s.source.next_job + 1 })) s.jobs next
        (All-weaker (IsJobOf s.source) (IsJobOf (record s.source { next_job = s.source.next_job + 1 }))
        (λ j own. record {
          own = own.own;
          reported = own.reported;
          given = omega (arith, own.given);
          blank = own.blank;
        }) s.jobs holds.own)
        (record { own = refl; reported = refl; given = omega arith; blank = λ is. refl });
    ascending = subst (IsAscending job_cmp)
        (sym (pushed_is_upserted s.source.next_job s.jobs next numbers_below refl))
        (IsAscending-upserted job_cmp job_cmp_total next s.jobs holds.ascending);
    one_open = omega (arith, sum_by_push (λ j. cond (is_open j) 1 0) s.jobs next, none_open);
    runs = λ is. absurd (nothing_listed is);
    listed = holds.listed;
  }

-- What the fields of a source are after a job is added.
pub pushed_places : (s : SourceState) (job : Job) (jobs : List Job) (n : ℕ) (waiting : Option ℕ) → HasItsJobs s
    → open_job s ≡ None → job ≡ new_job s.source.name s.source.next_job job.created → waiting ≡ waiting_index s.listing
    → n ≡ length s.jobs → jobs ≡ s.jobs ++ job ∷ []
    → AreTheirPlaces (record s { source = record s.source { next_job = s.source.next_job + 1 }; jobs = jobs })
    (Some n) waiting
pushed_places s job jobs n waiting holds ended is places long pushed =
    subst (λ l. AreTheirPlaces (record s { source = record s.source { next_job = s.source.next_job + 1 }; jobs = l })
    (Some n) waiting) (ap (λ j. s.jobs ++ j ∷ []) (sym is) ∙ sym pushed) (record {
      jobs = pushed_holds s job.created holds ended;
      current = ap Some long ∙ sym (pushed_place s job.created holds ended);
      waiting = places;
    })

pub pushed_state : (s : SourceState) (job : Job) (jobs : List Job) → HasItsJobs s
    → open_job s ≡ None → job ≡ new_job s.source.name s.source.next_job job.created → jobs ≡ s.jobs ++ job ∷ []
    → record s { source = record s.source { next_job = s.source.next_job + 1 }; jobs = jobs } ≡ with_new_job job s
pushed_state s job jobs holds ended is pushed =
    ap (λ l. record s { source = record s.source { next_job = s.source.next_job + 1 }; jobs = l })
    (pushed ∙ ap (λ j. s.jobs ++ j ∷ []) is)
    ∙ pushed_is s job.created holds ended
    ∙ ap (λ j. with_new_job j s) (sym is)

-- The open job with a report of its end.
module _ (s : SourceState) (i : ℕ) (d : Job) (report : SourceReport) (jobs : List Job) (holds : HasItsJobs s)
    (at : position is_open s.jobs ≡ Some i) (own : report.source ≡ s.source.name)
    (finished : report.state ≡ Finished) (is : jobs ≡ set s.jobs i (with_report report (get_or s.jobs i d))) where
  -- the job at its end
  abbrev job : Job
  job = with_report report (get_or s.jobs i d)

  not_open : is_open job ≡ false
  not_open = ap is_open_state finished

  own_job : IsJobOf s.source job
  own_job =
      let there = open_at s i d at in
      let was : IsJobOf s.source (get_or s.jobs i d) = All-get_or (IsJobOf s.source) s.jobs i d there.0 holds.own in
      record {
        own = was.own;
        reported = own;
        given = was.given;
        blank = λ open_now. let no : false ≡ true = sym not_open ∙ open_now in absurd (cc);
      }

  pub finished_places : AreTheirPlaces (record s { jobs = jobs; listing = None }) None None
  finished_places =
      subst (λ l. AreTheirPlaces (record s { jobs = l; listing = None }) None None) (sym is) (record {
        jobs = replaced_holds s i d job holds at refl own_job None (λ none. absurd (cc)) tt;
        current = sym (replaced_place s i d job holds at refl ∙ ap (λ b. cond {A = Option ℕ} b (Some i) None) not_open);
        waiting = refl;
      })

  pub finished_is : IfSome (open_job s) (λ j. record s { jobs = jobs; listing = None }
      ≡ with_listing None (with_job (with_report report j) s))
  finished_is =
      subst (λ o. IfSome o (λ j. record s { jobs = jobs; listing = None }
      ≡ with_listing None (with_job (with_report report j) s)))
      (sym (open_at s i d at).1)
      (ap (λ l. record s { jobs = l; listing = None }) (is ∙ replaced_is_upserted s i d job holds at refl))

-- ---- another listing

-- A source has its jobs with another listing in place of one,
pub relisted_holds : (s : SourceState) (listing after : Listing) → HasItsJobs s → s.listing ≡ Some listing
    → IsAscending object_cmp after.objects → HasItsJobs (record s { listing = Some after })
relisted_holds s listing after holds is up = record {
  own = holds.own;
  ascending = holds.ascending;
  one_open = holds.one_open;
  runs = λ _. holds.runs (ap is_some is);
  listed = up;
}

-- and with one for a running job.
pub listed_holds : (s : SourceState) (after : Listing) → HasItsJobs s
    → IsTrue (option_map_or is_running (open_job s) false)
    → IsAscending object_cmp after.objects → HasItsJobs (record s { listing = Some after })
listed_holds s after holds running up = record {
  own = holds.own;
  ascending = holds.ascending;
  one_open = holds.one_open;
  runs = λ _. running;
  listed = up;
}

-- The report at the end of a job is on its source, and the job has ended.
pub finish_given : (s : SourceState) (report : SourceReport) → IsTrue (is_settled s)
    → IfSome s.listing (λ listing. (deleted : ℕ) × (report ≡ finished_report s.source.name listing deleted))
    → (report.source ≡ s.source.name) × (report.state ≡ Finished)
finish_given s report settled given = by s.listing settled given
  where
    by : (l : Option Listing) → option_map_or (λ listing. list_all is_done listing.objects) l false ≡ true
        → IfSome l (λ listing. (deleted : ℕ) × (report ≡ finished_report s.source.name listing deleted))
        → (report.source ≡ s.source.name) × (report.state ≡ Finished)
    by None settled given = absurd (cc)
    by (Some l) settled given = (ap (λ r. r.source) given.1, ap (λ r. r.state) given.1)

-- If the first waiting object has no place, none waits.
pub waiting_gone : (s : SourceState) → waiting_index s.listing ≡ None → IsTrue (is_some (waiting_of s)) → ⊥
waiting_gone s none there = by s.listing none there
  where
    by : (l : Option Listing) → waiting_index l ≡ None → is_some (option_and_then first_waiting l) ≡ true → ⊥
    by None none there = absurd (cc)
    by (Some l) none there =
        let no : false ≡ true = sym (ap is_some (no_waiting l none)) ∙ there in absurd (cc)

-- Objects that wait again stay in order.
released_below : (x : ListedObject) (objects : List ListedObject) → IsBelowAll object_cmp x objects
    → IsBelowAll object_cmp (released_object x) (map released_object objects)
released_below x [] below = tt
released_below x (y ∷ objects) below = (below.0, released_below x objects below.1)

pub released_ascends : (objects : List ListedObject) → IsAscending object_cmp objects
    → IsAscending object_cmp (map released_object objects)
released_ascends [] up = tt
released_ascends (x ∷ objects) up = (released_below x objects up.0, released_ascends objects up.1)

-- The objects of a source's listing are in order.
pub listing_ascends : (s : SourceState) (listing : Listing) → HasItsJobs s → s.listing ≡ Some listing
    → IsAscending object_cmp listing.objects
listing_ascends s listing holds is = subst (λ o. IfSome o (λ l. IsAscending object_cmp l.objects)) is holds.listed
