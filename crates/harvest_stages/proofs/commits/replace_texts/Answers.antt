use Rattle.std.proofs.Common.{◌≡◌, ◌∙◌, ◌<◌, ℕ, List, Option, Some, None, ap, false, length, refl, subst, sym, true}
use Rattle.std.specs.Prelude.{is_none, position}
use Rattle.std.specs.Ordering.{is_eq}
use Rattle.portal_base.specs.Ordered.{IsAscending}
use Rattle.harvest_sources.specs.Entries.{fault_if_open}
use Rattle.harvest_sources.specs.Sources.{SourceState, SourceWithRoom, source_cmp, source_named, states, stored_at, stored_cmp}
use Rattle.harvest_stages.proofs.MapLemmas.{map-IsAscending}
use Rattle.harvest_stages.proofs.ChangeLemmas.{texts_so}
use Rattle.harvest_stages.proofs.SourceLemmas.{nowhere}
use Rattle.harvest_stages.proofs.commits.replace_texts.Goals as goal

pub place_of-requires : goal.place_of-requires
place_of-requires c =
    subst (λ (l : List SourceWithRoom). IsAscending stored_cmp l) (sym c.as_slice.ensures.value)
    (map-IsAscending (λ (s : SourceWithRoom). s.state) stored_cmp source_cmp (λ s t. refl) c.args.sources.now.items
    c.requires.sources.ascending)

-- the place, in the list that is lent
lent_place : (lent items : List SourceWithRoom) (name : List ℕ) (r : Option ℕ) (place : ℕ) → lent ≡ items
    → r ≡ position (λ s. is_eq (stored_at name s)) lent → r ≡ Some place
    → position (λ s. is_eq (stored_at name s)) items ≡ Some place
lent_place lent items name r place same is there =
    subst (λ (l : List SourceWithRoom). position (λ s. is_eq (stored_at name s)) l ≡ Some place) same (sym is ∙ there)

lent_none : (lent items : List SourceWithRoom) (name : List ℕ) (r : Option ℕ) → lent ≡ items
    → r ≡ position (λ s. is_eq (stored_at name s)) lent → r ≡ None
    → position (λ s. is_eq (stored_at name s)) items ≡ None
lent_none lent items name r same is there =
    subst (λ (l : List SourceWithRoom). position (λ s. is_eq (stored_at name s)) l ≡ None) same (sym is ∙ there)

pub unreachable-requires : goal.unreachable-requires
unreachable-requires c =
    let none : source_named (states c.args.sources.now.items) c.args.name.now ≡ None =
    nowhere c.args.sources.now.items c.args.name.now
    (lent_none c.as_slice.result.now c.args.sources.now.items c.args.name.now c.place_of.result c.as_slice.ensures.value
    c.place_of.ensures.place c.in-None.is) in
    let yes : is_none (fault_if_open (source_named (states c.args.sources.now.items) c.args.name.now)) ≡ true =
    c.requires.there in
    let no : is_none (fault_if_open (source_named (states c.args.sources.now.items) c.args.name.now)) ≡ false =
    ap (λ (o : Option SourceState). is_none (fault_if_open o)) none in
    absurd (cc (yes, no))

pub returns-clause-changed : goal.returns-clause-changed
returns-clause-changed c =
    (texts_so c.args.sources.now.items c.texts_at.new.sources.items c.args.name.now c.args.title c.args.url
    c.in-Some.place c.requires.sources
    (lent_place c.as_slice.result.now c.args.sources.now.items c.args.name.now c.place_of.result c.in-Some.place
    c.as_slice.ensures.value c.place_of.ensures.place c.in-Some.is)
    (subst (λ (l : List SourceWithRoom). c.in-Some.place < length l) c.as_slice.ensures.value c.in-Some.ensures.within)
    c.texts_at.ensures).0

pub returns-clause-sources : goal.returns-clause-sources
returns-clause-sources c =
    (texts_so c.args.sources.now.items c.texts_at.new.sources.items c.args.name.now c.args.title c.args.url
    c.in-Some.place c.requires.sources
    (lent_place c.as_slice.result.now c.args.sources.now.items c.args.name.now c.place_of.result c.in-Some.place
    c.as_slice.ensures.value c.place_of.ensures.place c.in-Some.is)
    (subst (λ (l : List SourceWithRoom). c.in-Some.place < length l) c.as_slice.ensures.value c.in-Some.ensures.within)
    c.texts_at.ensures).1
