-- Steps that are made one after the other, and the work that they do.
use Rattle.std.proofs.Common.{◌≡◌, ◌∙◌, ◌⊎◌, ◌+◌, ◌-◌, ◌^◌, ◌≤◌, ℕ, Bool, true, false, cond, List, [], ◌∷◌, ◌++◌, refl, sym, ap}
use Rattle.std.proofs.Common.{append_assoc, subst, inl, inr, arith, true≢false}
use Rattle.std.specs.Prelude.{count_by}
use Rattle.std.specs.List.{All, flat_map}
use Rattle.std.proofs.lemmas.List.{append-nil, flat_map_more}
use Rattle.std.proofs.lemmas.List.Elements.{All-nil, All-push}
use Rattle.std.proofs.lemmas.List.Sums.{sum_by_push}
use Rattle.portal_events.specs.declared.event.Event.{Event}
use Rattle.portal_events.specs.declared.event.Reply.{Reply}
use Rattle.portal_hall.specs.History.{Step}
use Rattle.harvest_sources.specs.declared.step.Step.{Step as HarvestStep}
use Rattle.harvest_sources.specs.declared.step.StepReply.{StepReply}
use Rattle.harvest_sources.specs.declared.step.StepReply.TheVariants.{Already}
use Rattle.harvest_pool.specs.Made.{AreMade, IsMade, Made, core_after}
use Rattle.harvest_pool.specs.Rounds.{RoseBy, steps_of_work}
use Rattle.harvest_pool.specs.Working.{DoesAll, DoesOne}

-- ---- counts of faults

pub rose-none : (n : ℕ) → RoseBy 0 n n
rose-none n = inl (omega arith)

pub rose-more : (n m a b c : ℕ) → RoseBy n a b → RoseBy m b c → b ≤ c → RoseBy (n + m) a c
rose-more n m a b c (inl p) (inl q) up = inl (omega arith)
rose-more n m a b c (inl p) (inr q) up = inr q
rose-more n m a b c (inr p) q up = inr (above (2 ^ 64 - 1) p up)
  where
    above : (top : ℕ) → top ≤ b → b ≤ c → top ≤ c
    above top x y = omega arith

-- a step with its answer
abbrev pub made_step : HarvestStep → StepReply → Made
made_step s answer = record { step = s; answer = answer }

module _ {C : Type 0} (step : C → Event → Step C Reply) where
  -- ---- steps

  pub made-append : (a b c : C) (xs ys : List Made) → AreMade step a xs b → AreMade step b ys c
      → AreMade step a (xs ++ ys) c
  made-append a b c [] ys is more = subst (λ (d : C). AreMade step d ys c) is more
  made-append a b c (x ∷ xs) ys is more =
      (is.0, made-append (core_after step a x.step) b c xs ys is.1 more)

  -- one step
  pub made-one : (a b : C) (m : Made) → IsMade step a m.step m.answer b → AreMade step a (m ∷ []) b
  made-one a b m is = (is.0, is.1)

  -- two steps
  pub made-two : (a b c : C) (m n : Made) → IsMade step a m.step m.answer b → IsMade step b n.step n.answer c
      → AreMade step a (m ∷ n ∷ []) c
  made-two a b c m n is more =
      (is.0, subst (λ (d : C). AreMade step d (n ∷ []) c) is.1 (made-one b c n more))

  -- ---- work on one thing after the other

  module _ {X : Type 0} (steps : X → List Made) (opening : HarvestStep) (goes_on : StepReply → Bool) (Fits : X → Type 0)
      (has_failed : X → Bool) where
    -- these things are done so far
    pub record SoFar (before now : C) (faults_before faults : ℕ) (done : List X) : Type 0 where
      pub are_made : AreMade step before (flat_map steps done) now
      pub fits : All Fits done
      pub failed : RoseBy (count_by has_failed done) faults_before faults

    pub so_far-start : (before : C) (faults : ℕ) → SoFar before before faults faults []
    so_far-start before faults =
        record { are_made = refl; fits = All-nil Fits; failed = rose-none faults }

    pub so_far-more : (follow : X → Made) (x : X) (a : StepReply) (before now mid next : C) (f0 f f' : ℕ)
        (done : List X) → steps x ≡ made_step opening a ∷ follow x ∷ []
        → SoFar before now f0 f done → IsMade step now opening a mid
        → DoesOne step follow Fits has_failed x mid next f f' true → f ≤ f'
        → SoFar before next f0 f' (done ++ x ∷ [])
    so_far-more follow x a before now mid next f0 f f' done is so opens does up = record {
      are_made = subst (λ (l : List Made). AreMade step before l next) (flat_map_more steps [] done x)
          (made-append before now next (flat_map steps done) (steps x) so.are_made
          (subst (λ (l : List Made). AreMade step now l next) (sym is)
          (made-two now mid next (made_step opening a) (follow x) opens (made does.follows))));
      fits = All-push Fits done x so.fits does.fits;
      failed = subst (λ n. RoseBy n f0 f') (sym (sum_by_push (λ (y : X). cond (has_failed y) 1 0) done x))
          (rose-more (count_by has_failed done) (cond (has_failed x) 1 0) f0 f f' so.failed does.failed up);
    }
      where
        made : IsMade step mid (follow x).step (follow x).answer next ⊎ ((next ≡ mid) × (true ≡ false))
            → IsMade step mid (follow x).step (follow x).answer next
        made (inl m) = m
        made (inr n) = absurd (true≢false n.1)

    -- nothing more was to do
    unfoldable pub all-done : (a : StepReply) (before now after : C) (f0 f : ℕ) (done : List X) (is_done : Bool)
        → SoFar before now f0 f done → IsMade step now opening a after → goes_on a ≡ false
        → DoesAll step steps opening goes_on Fits has_failed before after f0 f is_done
    all-done a before now after f0 f done is_done so opens stops = record {
      made = steps_of_work steps opening (record { done = done; last = a });
      work = record { done = done; last = a };
      are_made = made-append before now after (flat_map steps done) (made_step opening a ∷ [])
          so.are_made (made-one now after (made_step opening a) opens);
      first = ([], sym (append-nil (steps_of_work steps opening (record { done = done; last = a }))));
      fits = so.fits;
      failed = so.failed;
      all = λ e. (refl, stops);
    }

    -- the work stopped before its next step
    pub all-stopped : (before now after : C) (f0 f : ℕ) (done : List X) → SoFar before now f0 f done → after ≡ now
        → DoesAll step steps opening goes_on Fits has_failed before after f0 f false
    all-stopped before now after f0 f done so same = record {
      made = flat_map steps done;
      work = record { done = done; last = Already };
      are_made = subst (λ (d : C). AreMade step before (flat_map steps done) d) (sym same) so.are_made;
      first = (made_step opening Already ∷ [], refl);
      fits = so.fits;
      failed = so.failed;
      all = λ e. absurd (true≢false (sym e));
    }

    -- The work stopped in what is to do for one thing.
    pub all-stopped_in : (follow : X → Made) (x : X) (a : StepReply) (before now mid next : C) (f0 f f' : ℕ)
        (done : List X) → steps x ≡ made_step opening a ∷ follow x ∷ []
        → SoFar before now f0 f done → IsMade step now opening a mid
        → DoesOne step follow Fits has_failed x mid next f f' false → f ≤ f'
        → DoesAll step steps opening goes_on Fits has_failed before next f0 f' false
    all-stopped_in follow x a before now mid next f0 f f' done is so opens does up = by does.follows
      where
        by : IsMade step mid (follow x).step (follow x).answer next ⊎ ((next ≡ mid) × (false ≡ false))
            → DoesAll step steps opening goes_on Fits has_failed before next f0 f' false
        by (inl m) =
            all-stopped before next next f0 f' (done ++ x ∷ [])
            (so_far-more follow x a before now mid next f0 f f' done is so opens
            (record { follows = inl m; fits = does.fits; failed = does.failed }) up) refl
        by (inr n) = record {
          made = flat_map steps done ++ made_step opening a ∷ [];
          work = record { done = done ++ x ∷ []; last = Already };
          are_made = subst (λ (d : C). AreMade step before (flat_map steps done ++ made_step opening a ∷ []) d) (sym n.0)
              (made-append before now mid (flat_map steps done) (made_step opening a ∷ []) so.are_made (made-one now mid (made_step opening a) opens));
          first = (
            follow x ∷ made_step opening Already ∷ [],
            ap (λ (l : List Made). l ++ made_step opening Already ∷ []) (sym (flat_map_more steps [] done x)
                ∙ ap (λ (l : List Made). flat_map steps done ++ l) is)
                ∙ append_assoc (flat_map steps done) (made_step opening a ∷ follow x ∷ []) (made_step opening Already ∷ [])
                ∙ sym (append_assoc (flat_map steps done) (made_step opening a ∷ [])
                (follow x ∷ made_step opening Already ∷ [])),
          );
          fits = All-push Fits done x so.fits does.fits;
          failed = subst (λ k. RoseBy k f0 f') (sym (sum_by_push (λ (y : X). cond (has_failed y) 1 0) done x))
              (rose-more (count_by has_failed done) (cond (has_failed x) 1 0) f0 f f' so.failed does.failed up);
          all = λ e. absurd (true≢false (sym e));
        }
