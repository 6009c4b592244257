use Rattle.std.proofs.Common.{◌≡◌, ◌∙◌, ◌<◌, ℕ, List, Option, Some, None, ap, false, length, refl, subst, sym, true}
use Rattle.std.specs.Prelude.{is_some, position}
use Rattle.std.specs.Ordering.{is_eq}
use Rattle.portal_base.specs.Ordered.{IsAscending}
use Rattle.harvest_sources.specs.Sources.{SourceWithRoom, source_cmp, source_named, states, stored_at, stored_cmp}
use Rattle.harvest_stages.proofs.MapLemmas.{map-IsAscending}
use Rattle.harvest_stages.proofs.ChangeLemmas.{ready_so}
use Rattle.harvest_stages.proofs.SourceLemmas.{nowhere}
use Rattle.harvest_stages.proofs.changes.ready_job.Goals as goal

pub place_of-requires : goal.place_of-requires
place_of-requires c =
    subst (λ (l : List SourceWithRoom). IsAscending stored_cmp l) (sym c.as_slice.ensures.value)
    (map-IsAscending (λ (s : SourceWithRoom). s.state) stored_cmp source_cmp (λ s t. refl) c.args.sources.now.items
    c.requires.ascending)

-- the place, in the list that is lent
lent_place : (lent items : List SourceWithRoom) (name : List ℕ) (r : Option ℕ) (place : ℕ) → lent ≡ items
    → r ≡ position (λ s. is_eq (stored_at name s)) lent → r ≡ Some place
    → position (λ s. is_eq (stored_at name s)) items ≡ Some place
lent_place lent items name r place same is there =
    subst (λ (l : List SourceWithRoom). position (λ s. is_eq (stored_at name s)) l ≡ Some place) same (sym is ∙ there)

lent_none : (lent items : List SourceWithRoom) (name : List ℕ) (r : Option ℕ) → lent ≡ items
    → r ≡ position (λ s. is_eq (stored_at name s)) lent → r ≡ None
    → position (λ s. is_eq (stored_at name s)) items ≡ None
lent_none lent items name r same is there =
    subst (λ (l : List SourceWithRoom). position (λ s. is_eq (stored_at name s)) l ≡ None) same (sym is ∙ there)

pub unreachable-requires : goal.unreachable-requires
unreachable-requires c =
    let none : source_named (states c.args.sources.now.items) c.args.name.now ≡ None =
    nowhere c.args.sources.now.items c.args.name.now
    (lent_none c.as_slice.result.now c.args.sources.now.items c.args.name.now c.place_of.result c.as_slice.ensures.value
    c.place_of.ensures.place c.in-None.is) in
    let yes : is_some (source_named (states c.args.sources.now.items) c.args.name.now) ≡ true = c.requires.there in
    let no : is_some (source_named (states c.args.sources.now.items) c.args.name.now) ≡ false = ap is_some none in
    absurd (cc (yes, no))

pub returns-clause-same : goal.returns-clause-same
returns-clause-same c =
    (ready_so c.args.sources.now.items c.ready_at.new.sources.items c.args.name.now c.in-Some.place c.ready_at.result
    c.args.created c.requires.ascending
    (lent_place c.as_slice.result.now c.args.sources.now.items c.args.name.now c.place_of.result c.in-Some.place
    c.as_slice.ensures.value c.place_of.ensures.place c.in-Some.is)
    (subst (λ (l : List SourceWithRoom). c.in-Some.place < length l) c.as_slice.ensures.value c.in-Some.ensures.within)
    c.ready_at.ensures).0

pub returns-clause-room : goal.returns-clause-room
returns-clause-room c =
    (ready_so c.args.sources.now.items c.ready_at.new.sources.items c.args.name.now c.in-Some.place c.ready_at.result
    c.args.created c.requires.ascending
    (lent_place c.as_slice.result.now c.args.sources.now.items c.args.name.now c.place_of.result c.in-Some.place
    c.as_slice.ensures.value c.place_of.ensures.place c.in-Some.is)
    (subst (λ (l : List SourceWithRoom). c.in-Some.place < length l) c.as_slice.ensures.value c.in-Some.ensures.within)
    c.ready_at.ensures).1

pub returns-clause-job : goal.returns-clause-job
returns-clause-job c =
    (ready_so c.args.sources.now.items c.ready_at.new.sources.items c.args.name.now c.in-Some.place c.ready_at.result
    c.args.created c.requires.ascending
    (lent_place c.as_slice.result.now c.args.sources.now.items c.args.name.now c.place_of.result c.in-Some.place
    c.as_slice.ensures.value c.place_of.ensures.place c.in-Some.is)
    (subst (λ (l : List SourceWithRoom). c.in-Some.place < length l) c.as_slice.ensures.value c.in-Some.ensures.within)
    c.ready_at.ensures).2
