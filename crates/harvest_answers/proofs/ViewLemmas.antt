-- What a caller sees of the sources of harvests.
use Rattle.std.proofs.Common.{◌≡◌, ℕ, ◌+◌, ◌<◌, Bool, true, false, cond, List, [], ◌∷◌, ◌++◌, Option, Some, None, map}
use Rattle.std.proofs.Common.{length, take, get_or, refl, sym, ap, ◌∙◌, arith, Result, Ok, Err}
use Rattle.std.specs.Prelude.{filter, find}
use Rattle.std.specs.List.{cons_option, filter_map}
use Rattle.std.specs.Option.{option_and_then, option_map}
use Rattle.std.specs.Ordering.{is_eq}
use Rattle.std.specs.Str.{bytes_eq}
use Rattle.std.proofs.lemmas.Grind.{common_steps}
use Rattle.std.proofs.lemmas.List.Elements.{filter_map-append}
use Rattle.std.proofs.lemmas.Map.Text.{is_eq-slice_cmp}
use Rattle.portal_base.specs.Ordered.{IsAscending, IsBelowAll, found}
use Rattle.portal_base.specs.declared.caller.Caller.{Caller}
use Rattle.portal_base.proofs.Filtered.{IsIn-filter, find-same, found-filter, kept_item}
use Rattle.portal_base.proofs.Unique.{IsIn}
use Rattle.org_roles.specs.PeopleLists.{PeopleLists}
use Rattle.packages.proofs.FindLemmas.{IsIn-find, map-IsIn}
use Rattle.portal_calls.specs.Answer.{authorized, authorized_thing}
use Rattle.portal_calls.specs.declared.answer.Denial.{Denial}
use Rattle.portal_calls.specs.declared.answer.Kind.TheVariants.{HarvestSource as source_kind}
use Rattle.portal_calls.specs.declared.answer.Right.TheVariants.{AdministerOrganization}
use Rattle.portal_calls.proofs.Answering.{thing_at-ok}
use Rattle.visibility.specs.CallView.{CallView}
use Rattle.visibility.specs.View.{administers, people_seen}
use Rattle.visibility.proofs.ViewLemmas.{administers_seen}
use Rattle.harvest_sources.specs.Entries.{fault_if_open}
use Rattle.harvest_sources.specs.Sources.{SourceState, SourceWithRoom, IsKey-source_at, source_at, source_cmp}
use Rattle.harvest_sources.specs.Sources.{source_cmp_total}
use Rattle.harvest_sources.specs.Sources.{source_named, states, stored_at, stored_cmp}
use Rattle.harvest_answers.specs.Dictionary.{seen_dictionary, source_dictionary}
use Rattle.harvest_answers.specs.Lookup.{administered_source, source_at as source_of_key}
use Rattle.harvest_answers.specs.View.{seen_part, sees_source, sources_seen, without_listing}

-- ---- seeing twice

seen_again : (p q : SourceState → Bool) → ((s : SourceState) → p s ≡ q s) → (sources : List SourceState)
    → ((s : SourceState) → p (without_listing s) ≡ p s)
    → map without_listing (filter p (map without_listing (filter q sources))) ≡ map without_listing (filter q sources)
seen_again p q same [] unlisted = refl
seen_again p q same (s ∷ ss) unlisted = by (q s) refl (seen_again p q same ss unlisted)
  where
    by : (b : Bool) → q s ≡ b
        → map without_listing (filter p (map without_listing (filter q ss))) ≡ map without_listing (filter q ss)
        → map without_listing (filter p (map without_listing (cond b (s ∷ filter q ss) (filter q ss))))
        ≡ map without_listing (cond b (s ∷ filter q ss) (filter q ss))
    by true is rest =
        ap (λ b. map without_listing
        (cond b (without_listing s ∷ filter p (map without_listing (filter q ss)))
        (filter p (map without_listing (filter q ss)))))
        (unlisted s ∙ same s ∙ is)
        ∙ ap (λ l. without_listing s ∷ l) rest
    by false is rest = rest

pub sources_seen_twice : (caller : Caller) (people : PeopleLists) (sources : List SourceState)
    → sources_seen caller (people_seen caller people) (sources_seen caller people sources)
    ≡ sources_seen caller people sources
sources_seen_twice caller people sources =
    seen_again (sees_source (people_seen caller people) caller) (sees_source people caller)
    (λ s. administers_seen caller people s.source.owner_org) sources (λ s. refl)

-- ---- the look-up of a source

-- A search among mapped items finds the image of the first whose image passes.
pub find-map : {X Y : Type 0} (f : X → Y) (p : Y → Bool) (xs : List X)
    → find p (map f xs) ≡ option_map f (find (λ x. p (f x)) xs)
find-map f p [] = refl
find-map f p (x ∷ xs) = by (p (f x)) (find-map f p xs)
  where
    by : (b : Bool) → find p (map f xs) ≡ option_map f (find (λ y. p (f y)) xs)
        → cond b (Some (f x)) (find p (map f xs)) ≡ option_map f (cond b (Some x) (find (λ y. p (f y)) xs))
    by true rest = refl
    by false rest = rest

map-kept : (people : PeopleLists) (caller : Caller) (o : Option SourceState)
    → option_map without_listing (option_and_then (kept_item (sees_source people caller)) o)
    ≡ option_and_then (seen_part people caller) o
map-kept people caller None = refl
map-kept people caller (Some s) = by (sees_source people caller s)
  where
    by : (b : Bool) → option_map without_listing (cond b (Some s) None) ≡ cond b (Some (without_listing s)) None
    by true = refl
    by false = refl

pub source_seen : (caller : Caller) (people : PeopleLists) (sources : List SourceState) (name : List ℕ)
    → IsAscending source_cmp sources
    → source_named (sources_seen caller people sources) name
    ≡ option_and_then (seen_part people caller) (found (source_at name) sources)
source_seen caller people sources name up =
    find-map without_listing (λ s. bytes_eq s.source.name name) (filter (sees_source people caller) sources)
    ∙ ap (option_map without_listing)
    (find-same (λ s. bytes_eq s.source.name name) (λ s. is_eq (source_at name s))
    (λ s. sym (is_eq-slice_cmp s.source.name name)) (filter (sees_source people caller) sources)
    ∙ found-filter source_cmp source_cmp_total (source_at name) (IsKey-source_at name) (sees_source people caller)
    sources up)
    ∙ map-kept people caller (found (source_at name) sources)

-- A source that is found without a fault among those that the caller sees has none among all.
pub fault_seen : (caller : Caller) (people : PeopleLists) (sources : List SourceState) (name : List ℕ)
    → IsAscending source_cmp sources
    → fault_if_open (source_named (sources_seen caller people sources) name) ≡ None
    → fault_if_open (source_named sources name) ≡ None
fault_seen caller people sources name up none =
    by (source_named sources name)
    (sym (ap fault_if_open (source_seen caller people sources name up ∙ ap (option_and_then (seen_part people caller))
    (find-same _ _ (λ s. is_eq-slice_cmp s.source.name name) sources))) ∙ none)
  where
    seen : (s : SourceState) (b : Bool) → fault_if_open (cond b (Some (without_listing s)) None) ≡ None
        → fault_if_open (Some s) ≡ None
    seen s true is = is
    seen s false is = absurd (cc)

    by : (o : Option SourceState) → fault_if_open (option_and_then (seen_part people caller) o) ≡ None
        → fault_if_open o ≡ None
    by None is = is
    by (Some s) is = seen s (sees_source people caller s) is

-- ---- sources in memory

below-stored : (s : SourceWithRoom) (ss : List SourceWithRoom) → IsBelowAll source_cmp s.state (states ss)
    → IsBelowAll stored_cmp s ss
below-stored s [] below = tt
below-stored s (t ∷ ts) below = (below.0, below-stored s ts below.1)

pub stored_ascending : (ss : List SourceWithRoom) → IsAscending source_cmp (states ss) → IsAscending stored_cmp ss
stored_ascending [] up = tt
stored_ascending (s ∷ ss) up = (below-stored s ss up.0, stored_ascending ss up.1)

-- the source that is found in memory
pub stored_seen : (caller : Caller) (people : PeopleLists) (ss : List SourceWithRoom) (name : List ℕ)
    → IsAscending source_cmp (states ss)
    → source_named (sources_seen caller people (states ss)) name
    ≡ option_and_then (seen_part people caller) (option_map (λ s. s.state) (found (stored_at name) ss))
stored_seen caller people ss name up =
    source_seen caller people (states ss) name up
    ∙ ap (option_and_then (seen_part people caller)) (find-map (λ s. s.state) (λ s. is_eq (source_at name s)) ss)

-- The look-up in memory finds the source, or nothing, if the caller sees it.
pub look_up : (caller : Caller) (people : PeopleLists) (ss : List SourceWithRoom) (name : List ℕ)
    (o : Option SourceWithRoom)
    → IsAscending source_cmp (states ss) → o ≡ found (stored_at name) ss
    → option_and_then (seen_part people caller) (option_map (λ s. s.state) o)
    ≡ source_named (sources_seen caller people (states ss)) name
look_up caller people ss name o up is =
    ap (λ f. option_and_then (seen_part people caller) (option_map (λ s. s.state) f)) is
    ∙ sym (stored_seen caller people ss name up)

-- ---- the list of sources

pub dictionaries_listed : (caller : Caller) (people : PeopleLists) (ss : List SourceWithRoom)
    → filter_map (seen_dictionary people caller) ss
    ≡ map (λ s. source_dictionary s.source) (sources_seen caller people (states ss))
dictionaries_listed caller people [] = refl
dictionaries_listed caller people (s ∷ ss) =
    by (sees_source people caller s.state) (dictionaries_listed caller people ss)
  where
    by : (b : Bool)
        → filter_map (seen_dictionary people caller) ss
        ≡ map (λ t. source_dictionary t.source) (sources_seen caller people (states ss))
        → cons_option
        (option_map (λ (t : SourceState). source_dictionary t.source) (cond b (Some (without_listing s.state)) None))
        (filter_map (seen_dictionary people caller) ss)
        ≡ map (λ (t : SourceState). source_dictionary t.source) (map without_listing
        (cond b (s.state ∷ filter (sees_source people caller) (states ss))
        (filter (sees_source people caller) (states ss))))
    by true rest = ap (λ l. source_dictionary s.state.source ∷ l) rest
    by false rest = rest

-- the result of one more item, if there is one, follows those of the items before
pub one_more : {X Y : Type 0} (h : X → Option Y) (xs : List X) (i : ℕ) (x : X) (made : List Y) (item : Option Y)
    → i < length xs → x ≡ get_or xs i x → made ≡ filter_map h (take i xs) → item ≡ h x
    → made ++ cons_option item [] ≡ filter_map h (take (i + 1) xs)
one_more h xs i x made item within is as_made as_given = grind (arith, common_steps, filter_map-append)

-- ---- a source of an organization that the caller administers

-- Each source that the caller sees is one of an organization that it administers.
pub seen_administered : (caller : Caller) (people : PeopleLists) (sources : List SourceState) (s : SourceState)
    → IsIn s (sources_seen caller people sources) → administers (people_seen caller people) caller s.source.owner_org ≡ true
seen_administered caller people sources s within =
    let listed = map-IsIn without_listing s (filter (sees_source people caller) sources) within in
    administers_seen caller people s.source.owner_org
    ∙ ap (λ (t : SourceState). administers people caller t.source.owner_org) listed.2
    ∙ (IsIn-filter (sees_source people caller) listed.0 sources listed.1).1

-- So the right to change a source refuses nobody who sees it.
pub administered_seen : (key : List ℕ) (view : CallView) (caller : Caller) (people : PeopleLists)
    (sources : List SourceState)
    → view.people ≡ people_seen caller people → view.caller ≡ caller
    → administered_source key view (sources_seen caller people sources)
    ≡ source_of_key key view (sources_seen caller people sources)
administered_seen key view caller people sources same_people same_caller =
    by (source_of_key key view (sources_seen caller people sources)) refl
  where
    right : (s : SourceState) → source_of_key key view (sources_seen caller people sources) ≡ Ok s
        → administers view.people view.caller s.source.owner_org ≡ true
    right s is =
        let found = thing_at-ok key view.call.request.body source_kind (source_named (sources_seen caller people sources))
        s is in
        rw (same_people, same_caller)
        (seen_administered caller people sources s
        (IsIn-find (λ t. bytes_eq t.source.name found.name) s (sources_seen caller people sources) found.looked).0)

    by : (found : Result SourceState Denial) → source_of_key key view (sources_seen caller people sources) ≡ found
        → authorized_thing (λ s. administers view.people view.caller s.source.owner_org) AdministerOrganization found
        ≡ found
    by (Err denial) is = refl
    by (Ok s) is = ap (λ b. authorized b AdministerOrganization s) (right s is)
