-- What is read of a catalogue and of an object, and the faults that it shows.
use Rattle.std.proofs.Common.{◌≡◌, ◌≤◌, ℕ, Bool, false, cond, List, Some, None, Result, Ok, Err}
use Rattle.std.proofs.Common.{refl, sym, ap, subst, inl, inr, arith}
use Rattle.std.specs.Prelude.{IfOk, IfSome}
use Rattle.std.proofs.Common.{◌++◌, true}
use Rattle.std.specs.Prelude.{OnOk, is_ok, option_to_list}
use Rattle.harvest_sources.specs.declared.job.SourceReport.{SourceReport}
use Rattle.harvest_pool.specs.Rounds.{report_of}
use Rattle.harvest_pool.specs.declared.report.RoundFault.{RoundFault}
use Rattle.portal_base.specs.Outside.{Holdings, Rose}
use Rattle.portal_events.specs.declared.event.Event.{Event}
use Rattle.portal_events.specs.declared.event.Reply.{Reply}
use Rattle.portal_hall.specs.History.{Step}
use Rattle.harvest_readings.specs.Harvests.{catalogue_at, has_failed_catalogue, has_failed_object, is_read_fault}
use Rattle.harvest_readings.specs.Harvests.{object_at, reading_at}
use Rattle.harvest_readings.specs.declared.catalogue.Catalogue.{Catalogue}
use Rattle.harvest_readings.proofs.FailureLemmas.{failed-catalogue, failed-object}
use Rattle.harvest_sources.specs.declared.cause.Cause.{Cause}
use Rattle.harvest_sources.specs.declared.cause.Cause.TheVariants.{ReadFault, Missing, TooLong, NotNTriples, NoCatalog}
use Rattle.harvest_sources.specs.declared.cause.Cause.TheVariants.{NotDescribed, NoTitle, SameName}
use Rattle.harvest_sources.specs.declared.reading.Reading.{Reading}
use Rattle.harvest_sources.specs.declared.reading.Reading.TheVariants.{Good, Bad}
use Rattle.harvest_sources.specs.declared.step.Found.{Found}
use Rattle.harvest_sources.specs.declared.step.Found.TheVariants.{Here, Elsewhere}
use Rattle.harvest_sources.specs.declared.step.Item.{Item}
use Rattle.harvest_sources.specs.declared.step.StepReply.{StepReply}
use Rattle.harvest_sources.specs.declared.step.StepReply.TheVariants.{Already}
use Rattle.harvest_pool.specs.Made.{IsMade}
use Rattle.harvest_pool.specs.Rounds.{CatalogueRead, IsAsClaimed, IsCatalogueOf, IsReadingOf, ObjectSettled, RoseBy}
use Rattle.harvest_pool.specs.Rounds.{catalogue_listed, failed_to_read, failed_to_settle, has_failed_at, object_settled}
use Rattle.harvest_pool.specs.Rounds.{step_of_catalogue}
use Rattle.harvest_pool.specs.Working.{DoesOne, IsSettledWith}

-- ---- faults

none-rose : (f0 f : ℕ) → f0 ≤ f → RoseBy 0 f0 f
none-rose f0 f up = inl (omega arith)

one-rose : (f0 f : ℕ) → Rose f0 f → RoseBy 1 f0 f
one-rose f0 f (inl rises) = inl (omega arith)
one-rose f0 f (inr top) = inr top

cause-rose : (cause : Cause) (f0 f : ℕ) → (cause ≡ ReadFault → Rose f0 f) → f0 ≤ f
    → RoseBy (cond (is_read_fault cause) 1 0) f0 f
cause-rose ReadFault f0 f fault up = one-rose f0 f (fault refl)
cause-rose Missing f0 f fault up = none-rose f0 f up
cause-rose TooLong f0 f fault up = none-rose f0 f up
cause-rose (NotNTriples line) f0 f fault up = none-rose f0 f up
cause-rose NoCatalog f0 f fault up = none-rose f0 f up
cause-rose NotDescribed f0 f fault up = none-rose f0 f up
cause-rose NoTitle f0 f fault up = none-rose f0 f up
cause-rose SameName f0 f fault up = none-rose f0 f up

-- a fetch that failed shows in the count
catalogue-rose : (read : Result Catalogue Cause) (f0 f : ℕ) → (read ≡ Err ReadFault → Rose f0 f) → f0 ≤ f
    → RoseBy (cond (has_failed_catalogue read) 1 0) f0 f
catalogue-rose (Ok catalogue) f0 f fault up = none-rose f0 f up
catalogue-rose (Err cause) f0 f fault up = cause-rose cause f0 f (λ e. fault (ap Err e)) up

object-rose : (reading : Reading) (f0 f : ℕ) → (reading ≡ Bad ReadFault → Rose f0 f) → f0 ≤ f
    → RoseBy (cond (has_failed_object reading) 1 0) f0 f
object-rose (Good r) f0 f fault up = none-rose f0 f up
object-rose (Bad cause) f0 f fault up = cause-rose cause f0 f (λ e. fault (ap Bad e)) up

-- ---- what would have been read

-- what the catalogue gives if its fetch doesn't fail
some_catalogue : Holdings → List ℕ → Result Catalogue Cause
some_catalogue None url = Err Missing
some_catalogue (Some documents) url = catalogue_at documents false url

some_catalogue-fits : (held : Holdings) (url : List ℕ)
    → IfSome held (λ documents. (failed : Bool) × (some_catalogue held url ≡ catalogue_at documents failed url))
unfolding some_catalogue
some_catalogue-fits None url = tt
some_catalogue-fits (Some documents) url = (false, refl)

some_catalogue-quiet : (held : Holdings) (url : List ℕ) → has_failed_catalogue (some_catalogue held url) ≡ false
unfolding some_catalogue
some_catalogue-quiet None url = refl
some_catalogue-quiet (Some documents) url = failed-catalogue documents false url

some_object : Holdings → List ℕ → Reading
some_object None iri = Bad Missing
some_object (Some documents) iri = object_at documents false iri

some_reading : Holdings → List ℕ → Found → Reading
some_reading held iri (Here reading) = reading
some_reading held iri Elsewhere = some_object held iri

some_reading-claimed : (held : Holdings) (iri : List ℕ) (found : Found)
    → IsAsClaimed found (some_reading held iri found)
unfolding some_reading
some_reading-claimed held iri (Here reading) = refl
some_reading-claimed held iri Elsewhere = tt

some_reading-fits : (held : Holdings) (iri : List ℕ) (found : Found)
    → IfSome held (λ documents. (failed : Bool)
    × (some_reading held iri found ≡ reading_at documents (λ i. failed) iri found))
unfolding some_reading some_object
some_reading-fits None iri found = tt
some_reading-fits (Some documents) iri (Here reading) = (false, refl)
some_reading-fits (Some documents) iri Elsewhere = (false, refl)

some_reading-quiet : (held : Holdings) (iri : List ℕ) (found : Found)
    → has_failed_at found (some_reading held iri found) ≡ false
unfolding some_reading some_object
some_reading-quiet held iri (Here reading) = refl
some_reading-quiet None iri Elsewhere = refl
some_reading-quiet (Some documents) iri Elsewhere = failed-object documents false iri

-- ---- a reading

-- An object that was found in the catalogue's document has the reading of its item.
pub settled-here : (held : Holdings) (f0 f : ℕ) (iri : List ℕ) (reading : Reading) → f0 ≤ f
    → IsSettledWith held f0 f iri (Here reading) reading
settled-here held f0 f iri reading up =
    record { claimed = refl; fetched = by held; failed = none-rose f0 f up }
  where
    by : (h : Holdings) → IfSome h (λ documents. (failed : Bool)
        × (reading ≡ reading_at documents (λ i. failed) iri (Here reading)))
    by None = tt
    by (Some documents) = (false, refl)

-- Any other object has that of its own document.
pub settled-elsewhere : {E : Type 0} (held : Holdings) (f0 f : ℕ) (iri : List ℕ) (result : Result Reading E)
    → IfSome held (λ documents. IfOk result (λ reading. (failed : Bool) × (reading ≡ object_at documents failed iri)))
    → (result ≡ Ok (Bad ReadFault) → Rose f0 f) → f0 ≤ f
    → IfOk result (IsSettledWith held f0 f iri Elsewhere)
settled-elsewhere held f0 f iri (Err e) told fault up = tt
settled-elsewhere held f0 f iri (Ok reading) told fault up = record {
  claimed = tt;
  fetched = by held told;
  failed = object-rose reading f0 f (λ e. fault (ap Ok e)) up;
}
  where
    by : (h : Holdings) → IfSome h (λ documents. (failed : Bool) × (reading ≡ object_at documents failed iri))
        → IfSome h (λ documents. (failed : Bool) × (reading ≡ reading_at documents (λ i. failed) iri Elsewhere))
    by None all = tt
    by (Some documents) all = all

-- ---- the work on one catalogue

module _ {C : Type 0} (step : C → Event → Step C Reply) (held : Holdings) (job url : List ℕ) (before after : C)
    (f0 f : ℕ) where
  -- what is done for a catalogue
  abbrev pub ReadsOne : CatalogueRead → Bool → Type 0
  ReadsOne c is_done =
      DoesOne step catalogue_listed (IsCatalogueOf held) failed_to_read c before after f0 f is_done

  abbrev pub a_catalogue : Result Catalogue Cause → StepReply → CatalogueRead
  a_catalogue read answer = record { job = job; url = url; read = read; answer = answer }

  -- the catalogue that isn't read
  pub unread : CatalogueRead
  unread = record { job = job; url = url; read = some_catalogue held url; answer = Already }

  pub unread-job : unread.job ≡ job
  unfolding unread
  unread-job = refl

  pub unread-url : unread.url ≡ url
  unfolding unread
  unread-url = refl

  pub reads-unread : after ≡ before → f0 ≤ f → ReadsOne unread false
  unfolding unread
  reads-unread same up = record {
    follows = inr (same, refl);
    fits = some_catalogue-fits held url;
    failed = subst (λ b. RoseBy (cond b 1 0) f0 f) (sym (some_catalogue-quiet held url)) (none-rose f0 f up);
  }

  -- what was told of the fetch
  abbrev pub Told : Result Catalogue Cause → Type 0
  Told read = IfSome held (λ documents. (failed : Bool) × (read ≡ catalogue_at documents failed url))

  pub reads-unlisted : (read : Result Catalogue Cause) → Told read → (read ≡ Err ReadFault → Rose f0 f) → f0 ≤ f
      → after ≡ before → ReadsOne (a_catalogue read Already) false
  reads-unlisted read told fault up same =
      record { follows = inr (same, refl); fits = told; failed = catalogue-rose read f0 f fault up }

  pub reads-listed : (read : Result Catalogue Cause) (answer : StepReply) (is_done : Bool) → Told read
      → (read ≡ Err ReadFault → Rose f0 f) → f0 ≤ f
      → IsMade step before (step_of_catalogue job read) answer after → ReadsOne (a_catalogue read answer) is_done
  reads-listed read answer is_done told fault up is =
      record { follows = inl is; fits = told; failed = catalogue-rose read f0 f fault up }

  -- the work on the catalogue, with its report if it is done
  abbrev pub CatalogueWork : List SourceReport → List SourceReport → Result (Unit {0}) RoundFault → Type 0
  CatalogueWork old new result =
      (x : CatalogueRead) × (x.job ≡ job) × (x.url ≡ url) × ReadsOne x (is_ok result)
      × OnOk result (new ≡ old ++ option_to_list (report_of x.answer))

  -- There was no memory to read it.
  pub work-unread : (old new : List SourceReport) (result : Result (Unit {0}) RoundFault) (fault : RoundFault)
      → result ≡ Err fault → after ≡ before → f0 ≤ f → CatalogueWork old new result
  work-unread old new result fault is same up =
      subst (λ (r : Result (Unit {0}) RoundFault). CatalogueWork old new r) (sym is)
      (unread, unread-job, unread-url, reads-unread same up, tt)

  -- The step that lists it wasn't made.
  pub work-unlisted : (read : Result Catalogue Cause) → Told read
      → (read ≡ Err ReadFault → Rose f0 f) → f0 ≤ f → (old new : List SourceReport)
      (result : Result (Unit {0}) RoundFault) (fault : RoundFault) → result ≡ Err fault → after ≡ before
      → CatalogueWork old new result
  work-unlisted read told rose up old new result fault is same =
      subst (λ (r : Result (Unit {0}) RoundFault). CatalogueWork old new r) (sym is)
      (a_catalogue read Already, refl, refl, reads-unlisted read told rose up same, tt)

  -- Its report was lost.
  pub work-untold : (read : Result Catalogue Cause) (answer : StepReply) → Told read
      → (read ≡ Err ReadFault → Rose f0 f) → f0 ≤ f
      → IsMade step before (step_of_catalogue job read) answer after → (old new : List SourceReport)
      (result : Result (Unit {0}) RoundFault) (fault : RoundFault) → result ≡ Err fault → CatalogueWork old new result
  work-untold read answer told rose up made old new result fault is =
      subst (λ (r : Result (Unit {0}) RoundFault). CatalogueWork old new r) (sym is)
      (a_catalogue read answer, refl, refl, reads-listed read answer false told rose up made, tt)

-- what was told of the fetch, of the reading that it gave
pub told-of : {E : Type 0} (held : Holdings) (url : List ℕ) (result : Result (Result Catalogue Cause) E)
    (read : Result Catalogue Cause)
    → IfSome held (λ documents. IfOk result (λ catalogue. (failed : Bool)
    × (catalogue ≡ catalogue_at documents failed url)))
    → result ≡ Ok read
    → IfSome held (λ documents. (failed : Bool) × (read ≡ catalogue_at documents failed url))
told-of {E} held url result read told is =
    subst (λ (r : Result (Result Catalogue Cause) E). IfSome held (λ documents. IfOk r (λ catalogue. (failed : Bool)
    × (catalogue ≡ catalogue_at documents failed url)))) is told

-- ---- the work on one object

module _ {C : Type 0} (step : C → Event → Step C Reply) (held : Holdings) (job : List ℕ) (item : Item)
    (before after : C) (f0 f : ℕ) where
  abbrev pub SettlesOne : ObjectSettled → Bool → Type 0
  SettlesOne o is_done =
      DoesOne step object_settled (IsReadingOf held) failed_to_settle o before after f0 f is_done

  abbrev pub an_object : Reading → StepReply → ObjectSettled
  an_object reading answer = record { job = job; item = item; reading = reading; answer = answer }

  pub unsettled : ObjectSettled
  unsettled = record { job = job; item = item; reading = some_reading held item.iri item.found; answer = Already }

  pub unsettled-job : unsettled.job ≡ job
  unfolding unsettled
  unsettled-job = refl

  pub unsettled-item : unsettled.item ≡ item
  unfolding unsettled
  unsettled-item = refl

  pub settles-unread : after ≡ before → f0 ≤ f → SettlesOne unsettled false
  unfolding unsettled
  settles-unread same up = record {
    follows = inr (same, refl);
    fits = record {
      claimed = some_reading-claimed held item.iri item.found;
      fetched = some_reading-fits held item.iri item.found;
    };
    failed = subst (λ b. RoseBy (cond b 1 0) f0 f) (sym (some_reading-quiet held item.iri item.found))
        (none-rose f0 f up);
  }

  fits : (reading : Reading) → IsSettledWith held f0 f item.iri item.found reading → (answer : StepReply)
      → IsReadingOf held (an_object reading answer)
  fits reading so answer = record { claimed = so.claimed; fetched = so.fetched }

  pub settles-unmade : (reading : Reading) → IsSettledWith held f0 f item.iri item.found reading → after ≡ before
      → SettlesOne (an_object reading Already) false
  settles-unmade reading so same =
      record { follows = inr (same, refl); fits = fits reading so Already; failed = so.failed }

  pub settles-made : (reading : Reading) (answer : StepReply) (is_done : Bool)
      → IsSettledWith held f0 f item.iri item.found reading
      → IsMade step before (object_settled (an_object reading answer)).step answer after
      → SettlesOne (an_object reading answer) is_done
  settles-made reading answer is_done so is =
      record { follows = inl is; fits = fits reading so answer; failed = so.failed }

  abbrev pub ObjectWork : Bool → Type 0
  ObjectWork is_done = (x : ObjectSettled) × (x.job ≡ job) × (x.item ≡ item) × SettlesOne x is_done

  pub work-unread_object : after ≡ before → f0 ≤ f → ObjectWork false
  work-unread_object same up = (unsettled, unsettled-job, unsettled-item, settles-unread same up)

  pub work-unmade : (reading : Reading) → IsSettledWith held f0 f item.iri item.found reading → after ≡ before
      → ObjectWork false
  work-unmade reading so same = (an_object reading Already, refl, refl, settles-unmade reading so same)

  pub work-settled : (reading : Reading) (answer : StepReply) → IsSettledWith held f0 f item.iri item.found reading
      → IsMade step before (object_settled (an_object reading answer)).step answer after → ObjectWork true
  work-settled reading answer so made =
      (an_object reading answer, refl, refl, settles-made reading answer true so made)
