-- A report is read back from its dictionary.
use Rattle.std.proofs.Common.{◌≡◌, ℕ, Bool, true, false, List, [], ◌∷◌, map, refl, ap, ap₂, ◌∙◌, get_or}
use Rattle.std.specs.Prelude.{codes, drop, if◌then◌else◌}
use Rattle.std.specs.List.{All}
use Rattle.std.specs.Str.{bytes_eq}
use Rattle.std.proofs.lemmas.List.Elements.{All-head, All-map, All-tail}
use Rattle.portal_base.specs.declared.json_value.Json.{Json}
use Rattle.dataset_rows.specs.Reading.{items_of, text_of}
use Rattle.dataset_rows.proofs.ReadBack.{AreReadBack, IsReadBack, list_back, map_back, text_back, whole_back}
use Rattle.harvest_sources.specs.Causes.{cause_text}
use Rattle.harvest_sources.specs.declared.cause.Cause.{Cause}
use Rattle.harvest_sources.specs.declared.cause.Cause.TheVariants.{ReadFault, Missing, TooLong, NotNTriples, NoCatalog}
use Rattle.harvest_sources.specs.declared.cause.Cause.TheVariants.{NotDescribed, NoTitle, SameName}
use Rattle.harvest_sources.specs.declared.job.JobState.{JobState}
use Rattle.harvest_sources.specs.declared.job.JobState.TheVariants.{New, Running, Finished, Broken}
use Rattle.harvest_sources.specs.declared.job.SourceReport.{SourceReport}
use Rattle.harvest_rows.specs.Readings.{bad_in, cause_named, number_of, number_spelled, report_in, state_from}
use Rattle.harvest_sources.specs.ReportJson.{bad_dictionary, report_dictionary, state_cause_text, state_name}
use Rattle.harvest_rows.specs.Rows.{HasLine, IsKeptReport, IsKeptState}
use Rattle.harvest_rows.proofs.MemberLemmas.{items_of-found, number_of-found, number_of-small, text_of-found}
use Rattle.harvest_rows.proofs.NumberLemmas.{number_spelled-decimal, number_spelled-small}

-- ---- causes and states

cause_named-back : (cause : Cause) → HasLine cause → cause_named (cause_text cause) ≡ cause
unfolding cause_named
cause_named-back ReadFault has = refl
cause_named-back Missing has = refl
cause_named-back TooLong has = refl
cause_named-back (NotNTriples line) has = ap NotNTriples (number_spelled-decimal line has)
cause_named-back NoCatalog has = refl
cause_named-back NotDescribed has = refl
cause_named-back NoTitle has = refl
cause_named-back SameName has = refl

state_from-back : (state : JobState) → IsKeptState state
    → state_from (state_name state) (state_cause_text state) ≡ state
unfolding state_from
state_from-back New kept = refl
state_from-back Running kept = absurd kept
state_from-back Finished kept = refl
state_from-back (Broken cause) kept = ap Broken (cause_named-back cause kept)

-- ---- listed IRIs that gave no dataset

abbrev HasCause : List ℕ × Cause → Type 0
HasCause object = HasLine object.1

bad_in-back : (object : List ℕ × Cause) → HasCause object → bad_in (bad_dictionary object) ≡ object
unfolding bad_in
bad_in-back object has =
    let iri : text_of (codes "iri") (bad_dictionary object) ≡ object.0 = text_of-found (codes "iri") _ object.0 refl in
    let cause : text_of (codes "cause") (bad_dictionary object) ≡ cause_text object.1 =
    text_of-found (codes "cause") _ (cause_text object.1) refl in
    ap₂ (λ (x : List ℕ) (y : Cause). (x, y)) iri (ap cause_named cause ∙ cause_named-back object.1 has)

all_bad-back : (objects : List (List ℕ × Cause)) → All HasCause objects
    → map bad_in (map bad_dictionary objects) ≡ objects
all_bad-back [] all = refl
all_bad-back (object ∷ objects) all =
    ap₂ (λ (x : List ℕ × Cause) (xs : List (List ℕ × Cause)). x ∷ xs)
    (bad_in-back object (All-head HasCause object objects all))
    (all_bad-back objects (All-tail HasCause object objects all))

-- ---- a report

report_with : (r : SourceReport) (source : List ℕ) (state : JobState) (added updated unchanged deleted unnamed : ℕ)
    (bad : List (List ℕ × Cause))
    → source ≡ r.source → state ≡ r.state → added ≡ r.added → updated ≡ r.updated → unchanged ≡ r.unchanged
    → deleted ≡ r.deleted → unnamed ≡ r.unnamed → bad ≡ r.bad
    → record {
      source = source;
      state = state;
      added = added;
      updated = updated;
      unchanged = unchanged;
      deleted = deleted;
      unnamed = unnamed;
      bad = bad;
    } ≡ r
report_with r source state added updated unchanged deleted unnamed bad e1 e2 e3 e4 e5 e6 e7 e8 =
    rw (e1, e2, e3, e4, e5, e6, e7, e8) refl

pub report_in-back : (r : SourceReport) → IsKeptReport r → report_in (report_dictionary r) ≡ r
unfolding report_in
report_in-back r kept =
    let value = report_dictionary r in
    let source : text_of (codes "source") value ≡ r.source = text_of-found (codes "source") _ r.source refl in
    let name : text_of (codes "state") value ≡ state_name r.state =
    text_of-found (codes "state") _ (state_name r.state) refl in
    let cause : text_of (codes "cause") value ≡ state_cause_text r.state =
    text_of-found (codes "cause") _ (state_cause_text r.state) refl in
    let added : number_of (codes "added") value ≡ r.added =
    number_of-found (codes "added") _ r.added refl kept.added in
    let updated : number_of (codes "updated") value ≡ r.updated =
    number_of-found (codes "updated") _ r.updated refl kept.updated in
    let unchanged : number_of (codes "unchanged") value ≡ r.unchanged =
    number_of-found (codes "unchanged") _ r.unchanged refl kept.unchanged in
    let deleted : number_of (codes "deleted") value ≡ r.deleted =
    number_of-found (codes "deleted") _ r.deleted refl kept.deleted in
    let unnamed : number_of (codes "unnamed") value ≡ r.unnamed =
    number_of-found (codes "unnamed") _ r.unnamed refl kept.unnamed in
    let items : items_of (codes "bad") value ≡ map bad_dictionary r.bad =
    items_of-found (codes "bad") _ (map bad_dictionary r.bad) refl in
    report_with r _ _ _ _ _ _ _ _ source (ap₂ state_from name cause ∙ state_from-back r.state kept.state) added updated
    unchanged deleted unnamed (ap (map bad_in) items ∙ all_bad-back r.bad kept.bad)

-- ---- what is read is of its type

pick : (b : Bool) (x y : Cause) → HasLine x → HasLine y → HasLine (if b then x else y)
pick true x y one other = one
pick false x y one other = other

cause_named-kept : (text : List ℕ) → HasLine (cause_named text)
unfolding cause_named
cause_named-kept text =
    pick (bytes_eq text (codes "ReadFault")) ReadFault _ tt
    (pick (bytes_eq text (codes "Missing")) Missing _ tt
    (pick (bytes_eq text (codes "TooLong")) TooLong _ tt
    (pick (bytes_eq text (codes "NoCatalog")) NoCatalog _ tt
    (pick (bytes_eq text (codes "NotDescribed")) NotDescribed _ tt
    (pick (bytes_eq text (codes "NoTitle")) NoTitle _ tt
    (pick (bytes_eq text (codes "SameName")) SameName (NotNTriples (number_spelled (drop 12 text))) tt
    (number_spelled-small (drop 12 text))))))))

pick_state : (b : Bool) (x y : JobState) → IsKeptState x → IsKeptState y → IsKeptState (if b then x else y)
pick_state true x y one other = one
pick_state false x y one other = other

state_from-kept : (name cause : List ℕ) → IsKeptState (state_from name cause)
unfolding state_from
state_from-kept name cause =
    pick_state (bytes_eq name (codes "Finished")) Finished _ tt
    (pick_state (bytes_eq name (codes "Broken")) (Broken (cause_named cause)) New (cause_named-kept cause) tt)

bad_in-kept : (value : Json) → HasCause (bad_in value)
unfolding bad_in
bad_in-kept value = cause_named-kept (text_of (codes "cause") value)

pub report_in-kept : (value : Json) → IsKeptReport (report_in value)
unfolding report_in
report_in-kept value = record {
  state = state_from-kept (text_of (codes "state") value) (text_of (codes "cause") value);
  added = number_of-small (codes "added") value;
  updated = number_of-small (codes "updated") value;
  unchanged = number_of-small (codes "unchanged") value;
  deleted = number_of-small (codes "deleted") value;
  unnamed = number_of-small (codes "unnamed") value;
  bad = All-map HasCause bad_in (items_of (codes "bad") value)
      (λ k d within. bad_in-kept (get_or (items_of (codes "bad") value) k d));
}

-- ---- the dictionary is read back from its text

all_bad-readable : (objects : List (List ℕ × Cause)) → AreReadBack 1 (map bad_dictionary objects)
all_bad-readable [] = tt
all_bad-readable (object ∷ objects) =
    (map_back 0 _ refl (text_back 0 (cause_text object.1), (text_back 0 object.0, tt)), all_bad-readable objects)

pub report_dictionary-readable : (r : SourceReport) → IsKeptReport r → IsReadBack 3 (report_dictionary r)
report_dictionary-readable r kept =
    map_back 2 _ refl (
      whole_back 2 r.added kept.added,
      (
        list_back 1 (map bad_dictionary r.bad) (all_bad-readable r.bad),
        (
          text_back 2 (state_cause_text r.state),
          (
            whole_back 2 r.deleted kept.deleted,
            (
              text_back 2 r.source,
              (
                text_back 2 (state_name r.state),
                (
                  whole_back 2 r.unchanged kept.unchanged,
                  (whole_back 2 r.unnamed kept.unnamed, (whole_back 2 r.updated kept.updated, tt)),
                ),
              ),
            ),
          ),
        ),
      ),
    )
