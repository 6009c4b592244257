-- What the name of a harvested dataset leads to on the shelf of a valid state.
use Rattle.std.proofs.Common.{◌≡◌, ℕ, Bool, true, false, ◌||◌, cond, List, [], ◌∷◌, Option, Some, None, refl, sym, ap}
use Rattle.std.proofs.Common.{◌∙◌, inl, inr, subst}
use Rattle.std.specs.Prelude.{IfSome, find}
use Rattle.std.specs.Borrow.{Bor}
use Rattle.std.specs.Option.{option_and_then, option_copied, option_map}
use Rattle.std.specs.Str.{bytes_eq}
use Rattle.std.proofs.lemmas.Slice.Eq.{bytes_eq-Decides}
use Rattle.portal_base.proofs.Unique.{IsIn}
use Rattle.packages.specs.Named.{is_named}
use Rattle.packages.specs.Shelf.{IsValidShelf, ShelfState, datasets_of, number_in, package_at}
use Rattle.packages.specs.declared.package.Package.{Package}
use Rattle.packages.proofs.EntryLemmas.{package_at-IsIn}
use Rattle.packages.proofs.FindLemmas.{IsIn-find, fails}
use Rattle.packages.proofs.ShelfLemmas.{find_named}
use Rattle.harvest_records.specs.Names.{harvested_name}
use Rattle.harvest_results.specs.Effects.{put_by, read_in}
use Rattle.harvest_results.specs.Harvested.{harvested_dataset}
use Rattle.harvest_results.specs.Results.{IsOwn}
use Rattle.harvest_results.proofs.ResultLemmas.{IsOwn-harvested}
use Rattle.harvest_sources.specs.Sources.{SourceState}
use Rattle.harvest_sources.specs.Steps.{with_open_job}
use Rattle.harvest_sources.specs.declared.reading.Reading.{Reading}
use Rattle.harvest_sources.specs.declared.reading.Reading.TheVariants.{Good, Bad}
use Rattle.harvest_sources.specs.declared.source.HarvestSource.{HarvestSource}
use Rattle.harvest_sources.specs.declared.step.Step.{Step}
use Rattle.harvest_sources.specs.declared.step.Step.TheVariants.{NewRound, Begin, List as list, Break, Claim, Settle, End}
use Rattle.portal_state.specs.Harvest.{harvest_of}
use Rattle.portal_state.specs.Parts.{IsConsistent, IsPlaced, state_of}
use Rattle.portal_state.specs.State.{State}
use Rattle.portal_state.specs.Stepped.{IsPuttable, IsPuttableIf}
use Rattle.portal_state.specs.Valid.{IsSoundAmong, IsValid}
use Rattle.portal_state.specs.declared.parts.Parts.{Parts}
use Rattle.portal_state.proofs.Harvested.{made-id_apart, made-name_apart, sound-in}

-- ---- datasets with such a name

find-within : {X : Type 0} (p q : X → Bool) (xs : List X) → ((x : X) → IsIn x xs → p x ≡ q x)
    → find p xs ≡ find q xs
find-within p q [] same = refl
find-within {X} p q (x ∷ xs) same =
    ap (λ b. cond b (Some x) (find p xs)) (same x (inl refl))
    ∙ ap (λ (o : Option X). cond (q x) (Some x) o) (find-within p q xs (λ y m. same y (inr m)))

twice : (a : Bool) → (a || a) ≡ a
twice true = refl
twice false = refl

-- In a valid state a dataset has such a name as its id or as its name only if it has it as both.
same-named : (state : State) (source iri : List ℕ) (d : Package) → IsValid state → IsIn d state.datasets
    → is_named (harvested_name source iri) d ≡ bytes_eq d.name (harvested_name source iri)
same-named state source iri d valid m = by (sound-in state d valid m)
  where
    key : List ℕ
    key = harvested_name source iri

    by : IsSoundAmong state.people state.sources d → is_named key d ≡ bytes_eq d.name key
    by (inl sound) =
        ap (λ b. b || bytes_eq d.name key)
        (fails (bytes_eq d.id key)
        (λ like. made-id_apart state.people d source iri sound ((bytes_eq-Decides d.id key).0 like)))
    by (inr from) =
        ap (λ (id : List ℕ). bytes_eq id key || bytes_eq d.name key) from.own.id_is_name ∙ twice (bytes_eq d.name key)

-- and then it was harvested, so that its id is its name
both-named : (state : State) (source iri : List ℕ) (d : Package) → IsValid state → IsIn d state.datasets
    → d.name ≡ harvested_name source iri → d.id ≡ d.name
both-named state source iri d valid m named = by (sound-in state d valid m)
  where
    by : IsSoundAmong state.people state.sources d → d.id ≡ d.name
    by (inl sound) = absurd (made-name_apart state.people d source iri sound named)
    by (inr from) = from.own.id_is_name

-- ---- what it leads to

-- The name leads to the dataset that has it as its name.
pub led_by_name : (parts : Parts) (source iri : List ℕ) → IsConsistent parts
    → option_and_then (λ n. package_at n parts.shelf) (number_in (harvested_name source iri) parts.shelf)
    ≡ find (λ (d : Package). bytes_eq d.name (harvested_name source iri)) (datasets_of parts.shelf)
led_by_name parts source iri consistent =
    let key = harvested_name source iri in
    sym (find_named key parts.shelf consistent.shelved.valid)
    ∙ find-within (is_named key) (λ (d : Package). bytes_eq d.name key) (datasets_of parts.shelf)
    (λ d m. same-named (state_of parts) source iri d consistent.valid m)

pub led_by : (parts : Parts) (source iri name : List ℕ) → IsConsistent parts → name ≡ harvested_name source iri
    → option_and_then (λ n. package_at n parts.shelf) (number_in name parts.shelf)
    ≡ find (λ (d : Package). bytes_eq d.name name) (datasets_of parts.shelf)
led_by parts source iri name consistent is =
    subst (λ (key : List ℕ). option_and_then (λ n. package_at n parts.shelf) (number_in key parts.shelf)
    ≡ find (λ (d : Package). bytes_eq d.name key) (datasets_of parts.shelf)) (sym is)
    (led_by_name parts source iri consistent)

-- A number that a text leads to has a dataset.
number-there : (key : List ℕ) (n : ℕ) (shelf : ShelfState) → IsValidShelf shelf → number_in key shelf ≡ Some n
    → (d : Package) × (package_at n shelf ≡ Some d)
number-there key n shelf valid leads = by (find (λ (e : ℕ × Package). is_named key e.1) shelf.entries) refl leads
  where
    by : (o : Option (ℕ × Package)) → find (λ (e : ℕ × Package). is_named key e.1) shelf.entries ≡ o
        → option_map (λ (e : ℕ × Package). e.0) o ≡ Some n → (d : Package) × (package_at n shelf ≡ Some d)
    by None is l = absurd (cc)
    by (Some e) is l =
        let there = IsIn-find (λ (f : ℕ × Package). is_named key f.1) e shelf.entries is in
        let number : e.0 ≡ n = cc in (
          e.1,
          ap (λ (k : ℕ). package_at k shelf) (sym number)
              ∙ package_at-IsIn e.0 e.1 shelf.entries valid.numbers there.0,
        )

-- ---- a dataset that a step puts

-- The shelf can take a dataset that has such a name as its name and its id.
puttable : (parts : Parts) (source iri : List ℕ) (d : Package) → IsConsistent parts → d.name ≡ harvested_name source iri
    → d.id ≡ d.name → IsPuttable parts.shelf d
puttable parts source iri d consistent named own =
    by (number_in key parts.shelf) refl (led_by_name parts source iri consistent)
  where
    key : List ℕ
    key = harvested_name source iri

    id-is : d.id ≡ key
    id-is = own ∙ named

    there : (n : ℕ) → number_in key parts.shelf ≡ Some n → (old : Package) → package_at n parts.shelf ≡ Some old
        → find (λ (e : Package). bytes_eq e.name key) (datasets_of parts.shelf) ≡ Some old → IsPuttable parts.shelf d
    there n leads old is finds =
        let found = IsIn-find (λ (e : Package). bytes_eq e.name key) old (datasets_of parts.shelf) finds in
        let old_name : old.name ≡ key = (bytes_eq-Decides old.name key).0 found.1 in
        let old_id : old.id ≡ old.name = both-named (state_of parts) source iri old consistent.valid found.0 old_name in
        inl (record {
          on_shelf = record {
            number = n;
            leads = ap (λ (k : List ℕ). number_in k parts.shelf) id-is ∙ leads;
            is_present = ap (option_map (λ (e : Package). e.id)) is ∙ ap Some (old_id ∙ old_name ∙ sym id-is);
          };
          name = ap (option_map (λ (e : Package). e.name)) is ∙ ap Some (old_name ∙ sym named);
        })

    vacant : number_in key parts.shelf ≡ None → IsPuttable parts.shelf d
    vacant none = inr (record {
      id = ap (λ (k : List ℕ). number_in k parts.shelf) id-is ∙ none;
      name = ap (λ (k : List ℕ). number_in k parts.shelf) named ∙ none;
    })

    by : (o : Option ℕ) → number_in key parts.shelf ≡ o
        → option_and_then (λ n. package_at n parts.shelf) o
        ≡ find (λ (e : Package). bytes_eq e.name key) (datasets_of parts.shelf)
        → IsPuttable parts.shelf d
    by None is finds = vacant is
    by (Some n) is finds =
        let stands = number-there key n parts.shelf consistent.shelved.valid is in
        there n is stands.0 stands.1 (sym finds ∙ stands.1)

-- What is read of an object is the source's own.
read-own : (iri : List ℕ) (reading : Reading) (found : Option SourceState) (d : Package)
    → read_in iri reading found ≡ Some d → (source : HarvestSource) × IsOwn source d
read-own iri reading None d is = absurd (cc)
read-own iri (Bad cause) (Some s) d is = absurd (cc)
read-own iri (Good r) (Some s) d is =
    let same : harvested_dataset s.source iri r ≡ d = cc in
    (s.source, subst (IsOwn s.source) same (IsOwn-harvested s.source iri r))

-- It has the name that the source gives it.
pub read-named : (iri : List ℕ) (reading : Reading) (found : Option SourceState) (o : Option Package)
    → o ≡ read_in iri reading found → IfSome o (λ d. (source : List ℕ) × (d.name ≡ harvested_name source d.iri))
read-named iri reading found None is = tt
read-named iri reading found (Some d) is =
    let own = read-own iri reading found d (sym is) in (own.0.name, own.1.named)

puts-own : (step : Step) (state : State) (d : Package) → put_by step (harvest_of state) ≡ Some d
    → (source : HarvestSource) × IsOwn source d
puts-own NewRound state d is = absurd (cc)
puts-own Begin state d is = absurd (cc)
puts-own (list job items unnamed) state d is = absurd (cc)
puts-own (Break job cause) state d is = absurd (cc)
puts-own Claim state d is = absurd (cc)
puts-own (Settle job iri reading) state d is = read-own iri reading (with_open_job state.sources job) d is
puts-own (End job) state d is = absurd (cc)

-- The shelf can take the dataset that a step puts.
pub step-puttable : (step : Step) (parts : Parts) (put : Option Package) → IsConsistent parts
    → put ≡ put_by step (harvest_of (state_of parts)) → IsPuttableIf parts.shelf put
step-puttable step parts None consistent is = tt
step-puttable step parts (Some d) consistent is =
    let own = puts-own step (state_of parts) d (sym is) in
    puttable parts own.0.name d.iri d consistent own.1.named own.1.id_is_name

pub puttable-placed : (shelf : ShelfState) (d : Package) → IsPuttable shelf d → IsPlaced d.id shelf
puttable-placed shelf d (inl there) = inl there.on_shelf
puttable-placed shelf d (inr free) = inr free.id

pub placed-behind : (shelf : ShelfState) (put : Option Package) (there : Option (Bor Package))
    → option_copied there ≡ put → IsPuttableIf shelf put → IfSome there (λ d. IsPlaced d.now.id shelf)
placed-behind shelf put None is puttable = tt
placed-behind shelf None (Some d) is puttable = absurd (cc)
placed-behind shelf (Some e) (Some d) is puttable =
    let same : d.now ≡ e = cc in
    subst (λ (f : Package). IsPlaced f.id shelf) (sym same) (puttable-placed shelf e puttable)

-- What is behind the option has the name that its source gives it.
pub named-behind : (iri : List ℕ) (reading : Reading) (found : Option SourceState) (put : Option Package)
    (there : Option (Bor Package)) → option_copied there ≡ put → put ≡ read_in iri reading found
    → IfSome there (λ d. (source : List ℕ) × (d.now.name ≡ harvested_name source d.now.iri))
named-behind iri reading found put None is read = tt
named-behind iri reading found None (Some d) is read = absurd (cc)
named-behind iri reading found (Some e) (Some d) is read =
    let same : d.now ≡ e = cc in
    subst (λ (f : Package). (source : List ℕ) × (f.name ≡ harvested_name source f.iri)) (sym same)
    (read-named iri reading found (Some e) read)
