-- The loops over catalogues, objects and ends: what is done so far, and one more.
use Rattle.std.proofs.Common.{◌≡◌, ◌∙◌, ◌++◌, ◌≤◌, ℕ, Bool, true, false, List, [], ◌∷◌, map, Option, Some, None}
use Rattle.std.proofs.Common.{append_assoc, refl, sym, ap, subst, true≢false}
use Rattle.std.specs.Prelude.{option_to_list}
use Rattle.std.specs.List.{cons_option, filter_map}
use Rattle.std.proofs.lemmas.List.{append-nil}
use Rattle.std.proofs.lemmas.List.Elements.{filter_map-append}
use Rattle.std.proofs.Common.{Result, Err}
use Rattle.std.specs.Prelude.{OnOk, is_ok}
use Rattle.harvest_pool.specs.declared.report.RoundFault.{RoundFault}
use Rattle.portal_base.specs.Outside.{Holdings}
use Rattle.portal_events.specs.declared.event.Event.{Event}
use Rattle.portal_events.specs.declared.event.Reply.{Reply}
use Rattle.portal_hall.specs.History.{Step}
use Rattle.harvest_sources.specs.declared.job.SourceReport.{SourceReport}
use Rattle.harvest_sources.specs.declared.step.Item.{Item}
use Rattle.harvest_sources.specs.declared.step.Step.TheVariants.{Begin, Claim, End}
use Rattle.harvest_sources.specs.declared.step.StepReply.{StepReply}
use Rattle.harvest_sources.specs.declared.step.StepReply.TheVariants.{Started, Gather, Object, Nothing, Done, Ended, Already}
use Rattle.harvest_pool.specs.Made.{AreMade, IsMade, Made}
use Rattle.harvest_pool.specs.Rounds.{CatalogueRead, IsCatalogueOf, IsReadingOf, JobEnded, ObjectSettled, catalogue_listed}
use Rattle.harvest_pool.specs.Rounds.{failed_to_read, failed_to_settle, is_gather, is_object, job_ended, object_settled}
use Rattle.harvest_pool.specs.Rounds.{report_of, reports_of_catalogues, reports_of_ends, steps_of_catalogue, steps_of_ends}
use Rattle.harvest_pool.specs.Rounds.{steps_of_object}
use Rattle.harvest_pool.specs.Working.{DoesAll, DoesOne, EndsJobs}
use Rattle.harvest_pool.proofs.WorkLemmas.{SoFar, all-done, all-stopped, all-stopped_in, made-append, made-one, so_far-more}
use Rattle.harvest_pool.proofs.WorkLemmas.{so_far-start}

-- ---- reports

one-more : {X Y : Type 0} (f : X → Option Y) (xs : List X) (x : X)
    → filter_map f (xs ++ x ∷ []) ≡ filter_map f xs ++ option_to_list (f x)
one-more {X} {Y} f xs x = filter_map-append f xs (x ∷ []) ∙ ap (λ l. filter_map f xs ++ l) (by (f x))
  where
    by : (o : Option Y) → cons_option o [] ≡ option_to_list o
    by None = refl
    by (Some y) = refl

-- one more report after those so far
reports-more : {X : Type 0} (f : X → Option SourceReport) (first was now : List SourceReport) (xs : List X) (x : X)
    → was ≡ first ++ filter_map f xs → now ≡ was ++ option_to_list (f x) → now ≡ first ++ filter_map f (xs ++ x ∷ [])
reports-more f first was now xs x so more =
    more ∙ ap (λ l. l ++ option_to_list (f x)) so ∙ append_assoc first (filter_map f xs) (option_to_list (f x))
    ∙ ap (λ l. first ++ l) (sym (one-more f xs x))

-- ---- answers and results

pub not-gather : (a : StepReply) → ((job url : List ℕ) → a ≡ Gather job url → ⊥) → is_gather a ≡ false
not-gather (Started jobs) never = refl
not-gather (Gather job url) never = absurd (never job url refl)
not-gather (Object job item) never = refl
not-gather Nothing never = refl
not-gather Done never = refl
not-gather (Ended report) never = refl
not-gather Already never = refl

pub not-object : (a : StepReply) → ((job : List ℕ) (item : Item) → a ≡ Object job item → ⊥) → is_object a ≡ false
not-object (Started jobs) never = refl
not-object (Gather job url) never = refl
not-object (Object job item) never = absurd (never job item refl)
not-object Nothing never = refl
not-object Done never = refl
not-object (Ended report) never = refl
not-object Already never = refl

-- a result that is an error isn't a success
pub by-err : {X E : Type 0} (P : Bool → Type 0) (r : Result X E) (e : E) → r ≡ Err e → P false → P (is_ok r)
by-err {X} {E} P r e is p = subst (λ (q : Result X E). P (is_ok q)) (sym is) p

-- ---- catalogues

module _ {C : Type 0} (step : C → Event → Step C Reply) (held : Holdings) (before : C) (faults_before : ℕ)
    (reports_before : List SourceReport) where
  -- these catalogues are read so far, and the jobs that broke are reported
  pub record CataloguesSoFar (now : C) (faults : ℕ) (reports : List SourceReport) : Type 0 where
    pub done : List CatalogueRead
    pub so_far : SoFar step steps_of_catalogue Begin is_gather (IsCatalogueOf held) failed_to_read before now
        faults_before faults done
    pub told : reports ≡ reports_before ++ reports_of_catalogues done

  -- what the loop does
  abbrev pub DoesCatalogues : C → ℕ → Bool → Type 0
  DoesCatalogues after faults is_done =
      DoesAll step steps_of_catalogue Begin is_gather (IsCatalogueOf held) failed_to_read before after faults_before
      faults is_done

  -- what is done for one catalogue
  abbrev pub DoesCatalogue : CatalogueRead → Holdings → C → C → ℕ → ℕ → Bool → Type 0
  DoesCatalogue c holdings mid next faults faults_next is_done =
      DoesOne step catalogue_listed (IsCatalogueOf holdings) failed_to_read c mid next faults faults_next is_done

  steps-of : (c : CatalogueRead) (a : StepReply) (job url : List ℕ) → c.job ≡ job → c.url ≡ url → a ≡ Gather job url
      → steps_of_catalogue c ≡ record { step = Begin; answer = a } ∷ catalogue_listed c ∷ []
  steps-of c a job url of_job at_url is =
      let same : Gather c.job c.url ≡ a = cc in
      ap (λ (x : StepReply). record { step = Begin; answer = x } ∷ catalogue_listed c ∷ []) same

  holding : (c : CatalogueRead) (holdings : Holdings) (mid next : C) (faults faults_next : ℕ) (is_done : Bool)
      → holdings ≡ held → DoesCatalogue c holdings mid next faults faults_next is_done
      → DoesCatalogue c held mid next faults faults_next is_done
  holding c holdings mid next faults faults_next is_done same does =
      subst (λ (h : Holdings). DoesCatalogue c h mid next faults faults_next is_done) same does

  pub catalogues-start : CataloguesSoFar before faults_before reports_before
  catalogues-start = record {
    done = [];
    so_far = so_far-start step steps_of_catalogue Begin is_gather (IsCatalogueOf held) failed_to_read before
        faults_before;
    told = sym (append-nil reports_before);
  }

  pub catalogues-more : (now mid next : C) (faults faults_next : ℕ) (reports reports_next : List SourceReport)
      (a : StepReply) (job url : List ℕ) (c : CatalogueRead) (holdings : Holdings)
      → CataloguesSoFar now faults reports → IsMade step now Begin a mid → a ≡ Gather job url → c.job ≡ job
      → c.url ≡ url → holdings ≡ held → DoesCatalogue c holdings mid next faults faults_next true
      → faults ≤ faults_next → reports_next ≡ reports ++ option_to_list (report_of c.answer)
      → CataloguesSoFar next faults_next reports_next
  catalogues-more now mid next faults faults_next reports reports_next a job url c holdings so begins is of_job at_url
      same does up more = record {
        done = so.done ++ c ∷ [];
        so_far = so_far-more step steps_of_catalogue Begin is_gather (IsCatalogueOf held) failed_to_read catalogue_listed c
            a before now mid next faults_before faults faults_next so.done (steps-of c a job url of_job at_url is) so.so_far
            begins (holding c holdings mid next faults faults_next true same does) up;
        told = reports-more (λ (x : CatalogueRead). report_of x.answer) reports_before reports reports_next so.done c so.told
            more;
      }

  pub catalogues-done : (now after : C) (faults : ℕ) (reports : List SourceReport) (a : StepReply)
      → CataloguesSoFar now faults reports → IsMade step now Begin a after → is_gather a ≡ false
      → (does : DoesCatalogues after faults true)
      × (reports ≡ reports_before ++ reports_of_catalogues does.work.done)
  unfolding all-done
  catalogues-done now after faults reports a so begins stops = (
    all-done step steps_of_catalogue Begin is_gather (IsCatalogueOf held) failed_to_read a before now after
        faults_before faults so.done true so.so_far begins stops,
    so.told,
  )

  pub catalogues-stopped : (now after : C) (faults : ℕ) (reports : List SourceReport)
      → CataloguesSoFar now faults reports → after ≡ now → DoesCatalogues after faults false
  catalogues-stopped now after faults reports so same =
      all-stopped step steps_of_catalogue Begin is_gather (IsCatalogueOf held) failed_to_read before now after
      faults_before faults so.done so.so_far same

  -- the loop's work, with the reports if it is done
  abbrev pub CataloguesWork : C → ℕ → List SourceReport → Result (Unit {0}) RoundFault → Type 0
  CataloguesWork after faults reports result =
      (does : DoesCatalogues after faults (is_ok result))
      × OnOk result (reports ≡ reports_before ++ reports_of_catalogues does.work.done)

  pub catalogues-err : (after : C) (faults : ℕ) (reports : List SourceReport)
      (result : Result (Unit {0}) RoundFault) (fault : RoundFault) → result ≡ Err fault
      → DoesCatalogues after faults false → CataloguesWork after faults reports result
  catalogues-err after faults reports result fault is does =
      subst (λ (r : Result (Unit {0}) RoundFault). CataloguesWork after faults reports r) (sym is) (does, tt)

  pub catalogues-stopped_in : (now mid next : C) (faults faults_next : ℕ) (reports : List SourceReport) (a : StepReply)
      (job url : List ℕ) (c : CatalogueRead) (holdings : Holdings) → CataloguesSoFar now faults reports
      → IsMade step now Begin a mid → a ≡ Gather job url → c.job ≡ job → c.url ≡ url → holdings ≡ held
      → DoesCatalogue c holdings mid next faults faults_next false → faults ≤ faults_next
      → DoesCatalogues next faults_next false
  catalogues-stopped_in now mid next faults faults_next reports a job url c holdings so begins is of_job at_url same does
      up =
      all-stopped_in step steps_of_catalogue Begin is_gather (IsCatalogueOf held) failed_to_read catalogue_listed c a
      before now mid next faults_before faults faults_next so.done (steps-of c a job url of_job at_url is) so.so_far begins
      (holding c holdings mid next faults faults_next false same does) up

-- ---- objects

module _ {C : Type 0} (step : C → Event → Step C Reply) (held : Holdings) (before : C) (faults_before : ℕ) where
  -- these objects are settled so far
  pub record ObjectsSoFar (now : C) (faults : ℕ) : Type 0 where
    pub done : List ObjectSettled
    pub so_far : SoFar step steps_of_object Claim is_object (IsReadingOf held) failed_to_settle before now faults_before
        faults done

  abbrev pub DoesObjects : C → ℕ → Bool → Type 0
  DoesObjects after faults is_done =
      DoesAll step steps_of_object Claim is_object (IsReadingOf held) failed_to_settle before after faults_before
      faults is_done

  abbrev pub DoesObject : ObjectSettled → Holdings → C → C → ℕ → ℕ → Bool → Type 0
  DoesObject o holdings mid next faults faults_next is_done =
      DoesOne step object_settled (IsReadingOf holdings) failed_to_settle o mid next faults faults_next is_done

  object-steps : (o : ObjectSettled) (a : StepReply) (job : List ℕ) (item : Item) → o.job ≡ job → o.item ≡ item
      → a ≡ Object job item
      → steps_of_object o ≡ record { step = Claim; answer = a } ∷ object_settled o ∷ []
  object-steps o a job item of_job is_item is =
      let same : Object o.job o.item ≡ a = cc in
      ap (λ (x : StepReply). record { step = Claim; answer = x } ∷ object_settled o ∷ []) same

  object-holding : (o : ObjectSettled) (holdings : Holdings) (mid next : C) (faults faults_next : ℕ) (is_done : Bool)
      → holdings ≡ held → DoesObject o holdings mid next faults faults_next is_done
      → DoesObject o held mid next faults faults_next is_done
  object-holding o holdings mid next faults faults_next is_done same does =
      subst (λ (h : Holdings). DoesObject o h mid next faults faults_next is_done) same does

  pub objects-start : ObjectsSoFar before faults_before
  objects-start = record {
    done = [];
    so_far = so_far-start step steps_of_object Claim is_object (IsReadingOf held) failed_to_settle before faults_before;
  }

  pub objects-more : (now mid next : C) (faults faults_next : ℕ) (a : StepReply) (job : List ℕ) (item : Item)
      (o : ObjectSettled) (holdings : Holdings) → ObjectsSoFar now faults → IsMade step now Claim a mid
      → a ≡ Object job item → o.job ≡ job → o.item ≡ item → holdings ≡ held
      → DoesObject o holdings mid next faults faults_next true → faults ≤ faults_next → ObjectsSoFar next faults_next
  objects-more now mid next faults faults_next a job item o holdings so claims is of_job is_item same does up = record {
    done = so.done ++ o ∷ [];
    so_far = so_far-more step steps_of_object Claim is_object (IsReadingOf held) failed_to_settle object_settled o a
        before now mid next faults_before faults faults_next so.done (object-steps o a job item of_job is_item is)
        so.so_far claims (object-holding o holdings mid next faults faults_next true same does) up;
  }

  pub objects-done : (now after : C) (faults : ℕ) (a : StepReply) → ObjectsSoFar now faults
      → IsMade step now Claim a after → is_object a ≡ false → DoesObjects after faults true
  objects-done now after faults a so claims stops =
      all-done step steps_of_object Claim is_object (IsReadingOf held) failed_to_settle a before now after
      faults_before faults so.done true so.so_far claims stops

  pub objects-stopped : (now after : C) (faults : ℕ) → ObjectsSoFar now faults → after ≡ now
      → DoesObjects after faults false
  objects-stopped now after faults so same =
      all-stopped step steps_of_object Claim is_object (IsReadingOf held) failed_to_settle before now after
      faults_before faults so.done so.so_far same

  pub objects-stopped_in : (now mid next : C) (faults faults_next : ℕ) (a : StepReply) (job : List ℕ) (item : Item)
      (o : ObjectSettled) (holdings : Holdings) → ObjectsSoFar now faults → IsMade step now Claim a mid
      → a ≡ Object job item → o.job ≡ job → o.item ≡ item → holdings ≡ held
      → DoesObject o holdings mid next faults faults_next false → faults ≤ faults_next
      → DoesObjects next faults_next false
  objects-stopped_in now mid next faults faults_next a job item o holdings so claims is of_job is_item same does up =
      all-stopped_in step steps_of_object Claim is_object (IsReadingOf held) failed_to_settle object_settled o a
      before now mid next faults_before faults faults_next so.done (object-steps o a job item of_job is_item is)
      so.so_far claims (object-holding o holdings mid next faults faults_next false same does) up

-- ---- ends

module _ {C : Type 0} (step : C → Event → Step C Reply) (before : C) (reports_before : List SourceReport) where
  -- the first jobs have ended so far, and their reports were added
  pub record EndsSoFar (jobs : List (List ℕ)) (now : C) (reports : List SourceReport) : Type 0 where
    pub ends : List JobEnded
    pub are_made : AreMade step before (steps_of_ends ends) now
    pub of_jobs : map (λ e. e.job) ends ≡ jobs
    pub told : reports ≡ reports_before ++ reports_of_ends ends

  map-more : {X Y : Type 0} (f : X → Y) (xs : List X) (x : X) → map f (xs ++ x ∷ []) ≡ map f xs ++ f x ∷ []
  map-more f [] x = refl
  map-more f (y ∷ ys) x = ap (λ l. f y ∷ l) (map-more f ys x)

  pub ends-start : EndsSoFar [] before reports_before
  ends-start = record { ends = []; are_made = refl; of_jobs = refl; told = sym (append-nil reports_before) }

  -- the steps with one more
  made-more : (ends : List JobEnded) (job : List ℕ) (a : StepReply) (now after : C)
      → AreMade step before (steps_of_ends ends) now → IsMade step now (End job) a after
      → AreMade step before (steps_of_ends (ends ++ record { job = job; answer = a } ∷ [])) after
  made-more ends job a now after made is =
      subst (λ (l : List Made). AreMade step before l after)
      (sym (map-more job_ended ends (record { job = job; answer = a })))
      (made-append step before now after (steps_of_ends ends) (record { step = End job; answer = a } ∷ []) made
      (made-one step now after (record { step = End job; answer = a }) is))

  pub ends-more : (jobs : List (List ℕ)) (job : List ℕ) (a : StepReply) (now after : C)
      (reports reports_next : List SourceReport) → EndsSoFar jobs now reports → IsMade step now (End job) a after
      → reports_next ≡ reports ++ option_to_list (report_of a) → EndsSoFar (jobs ++ job ∷ []) after reports_next
  ends-more jobs job a now after reports reports_next so is more = record {
    ends = so.ends ++ record { job = job; answer = a } ∷ [];
    are_made = made-more so.ends job a now after so.are_made is;
    of_jobs = map-more (λ (e : JobEnded). e.job) so.ends (record { job = job; answer = a })
        ∙ ap (λ (l : List (List ℕ)). l ++ job ∷ []) so.of_jobs;
    told = reports-more (λ (e : JobEnded). report_of e.answer) reports_before reports reports_next so.ends
        (record { job = job; answer = a }) so.told more;
  }

  pub ends-done : (jobs all : List (List ℕ)) (now : C) (reports : List SourceReport) (is_done : Bool)
      → EndsSoFar jobs now reports → jobs ≡ all → EndsJobs step all before now reports_before reports is_done
  ends-done jobs all now reports is_done so same = record {
    made = steps_of_ends so.ends;
    ends = so.ends;
    are_made = so.are_made;
    first = ([], sym (append-nil (steps_of_ends so.ends)));
    all = λ e. (refl, so.of_jobs ∙ same, so.told);
  }

  -- It stopped, after a last step whose report was lost, or before that.
  pub ends-stopped : (jobs all : List (List ℕ)) (now after : C) (reports reports_after : List SourceReport)
      → EndsSoFar jobs now reports → after ≡ now → EndsJobs step all before after reports_before reports_after false
  ends-stopped jobs all now after reports reports_after so same = record {
    made = steps_of_ends so.ends;
    ends = so.ends;
    are_made = subst (λ (d : C). AreMade step before (steps_of_ends so.ends) d) (sym same) so.are_made;
    first = ([], sym (append-nil (steps_of_ends so.ends)));
    all = λ e. absurd (true≢false (sym e));
  }

  pub ends-untold : (jobs all : List (List ℕ)) (job : List ℕ) (a : StepReply) (now after : C)
      (reports reports_after : List SourceReport) → EndsSoFar jobs now reports → IsMade step now (End job) a after
      → EndsJobs step all before after reports_before reports_after false
  ends-untold jobs all job a now after reports reports_after so is = record {
    made = steps_of_ends (so.ends ++ record { job = job; answer = a } ∷ []);
    ends = so.ends ++ record { job = job; answer = a } ∷ [];
    are_made = made-more so.ends job a now after so.are_made is;
    first = ([], sym (append-nil (steps_of_ends (so.ends ++ record { job = job; answer = a } ∷ []))));
    all = λ e. absurd (true≢false (sym e));
  }
