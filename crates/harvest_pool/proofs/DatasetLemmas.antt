-- The datasets after a round: each is one that harvesting a source leaves, or one of no harvested source.
use Rattle.std.proofs.Common.{◌≡◌, ◌≢◌, ◌∙◌, ◌⊎◌, Bool, true, false, not, cond, List, [], ◌∷◌, map, refl, sym, ap}
use Rattle.std.proofs.Common.{subst, Result, Ok, Err, inl, inr, true≢false}
use Rattle.std.specs.Prelude.{filter}
use Rattle.std.specs.List.{All}
use Rattle.std.specs.Ordering.{is_eq}
use Rattle.std.proofs.lemmas.Map.Text.{is_eq-slice_cmp}
use Rattle.std.proofs.lemmas.Slice.Eq.{bytes_eq-Decides}
use Rattle.portal_base.specs.Ordered.{IsAscending}
use Rattle.portal_base.proofs.Filtered.{IsAscending-filter, IsIn-filter, filter-IsIn}
use Rattle.portal_base.proofs.Unique.{Contains-IsIn, IsIn, below_in}
use Rattle.portal_base.proofs.Upserted.{All-IsIn, All-each, IsAscending-upserted, IsIn-upserted, upserted-IsIn, upserted-IsIn_other}
use Rattle.packages.specs.Order.{dataset_cmp, dataset_cmp_total}
use Rattle.packages.specs.declared.package.Package.{Package}
use Rattle.packages.proofs.FindLemmas.{fails}
use Rattle.harvest_readings.specs.Harvests.{Documents, catalogue_at}
use Rattle.harvest_readings.specs.declared.catalogue.Catalogue.{Catalogue}
use Rattle.harvest_results.specs.Effects.{HarvestState, is_of_source}
use Rattle.harvest_results.specs.Histories.{IsFit}
use Rattle.harvest_results.specs.Results.{IsOwn, datasets_after}
use Rattle.harvest_results.proofs.NameLemmas.{harvested_name-source}
use Rattle.harvest_results.proofs.ResultLemmas.{after-by_id, after-own}
use Rattle.harvest_results.proofs.SourceEntryLemmas.{same_bytes}
use Rattle.harvest_sources.specs.Sources.{SourceState, source_cmp}
use Rattle.harvest_sources.specs.Steps.{has_new}
use Rattle.harvest_sources.specs.declared.cause.Cause.{Cause}
use Rattle.harvest_pool.specs.WholeRounds.{Failures, all_read, datasets_after_round, item_read, own_after, own_datasets}
use Rattle.harvest_pool.specs.WholeRounds.{with_all, with_own}

-- ---- datasets that are put in place of others

-- Their ids are apart from that one.
abbrev no_id : Package → List Package → Type 0
no_id z own = (d : Package) → IsIn d own → z.id ≢ d.id

unlike : (z d : Package) → z.id ≢ d.id → is_eq (dataset_cmp z d) ≡ false
unlike z d apart =
    fails (is_eq (dataset_cmp z d)) (λ like.
    apart ((bytes_eq-Decides z.id d.id).0 (sym (is_eq-slice_cmp z.id d.id) ∙ like)))

IsAscending-with_all : (own ds : List Package) → IsAscending dataset_cmp ds → IsAscending dataset_cmp (with_all own ds)
IsAscending-with_all [] ds up = up
IsAscending-with_all (d ∷ own) ds up =
    IsAscending-upserted dataset_cmp dataset_cmp_total d (with_all own ds) (IsAscending-with_all own ds up)

with_all-IsIn : (z : Package) (own ds : List Package) → IsIn z (with_all own ds) → IsIn z own ⊎ IsIn z ds
with_all-IsIn z [] ds m = inr m
with_all-IsIn z (d ∷ own) ds m = by (IsIn-upserted dataset_cmp d z (with_all own ds) m) (with_all-IsIn z own ds)
  where
    later : IsIn z own ⊎ IsIn z ds → IsIn z (d ∷ own) ⊎ IsIn z ds
    later (inl n) = inl (inr n)
    later (inr n) = inr n

    by : (z ≡ d) ⊎ (IsIn z (with_all own ds) × (is_eq (dataset_cmp z d) ≡ false))
        → (IsIn z (with_all own ds) → IsIn z own ⊎ IsIn z ds) → IsIn z (d ∷ own) ⊎ IsIn z ds
    by (inl same) go = inl (inl same)
    by (inr n) go = later (go n.0)

-- An old one stays where none of these has its id.
old-with_all : (z : Package) (own ds : List Package) → no_id z own → IsIn z ds → IsIn z (with_all own ds)
old-with_all z [] ds apart m = m
old-with_all z (d ∷ own) ds apart m =
    upserted-IsIn_other dataset_cmp d z (with_all own ds) (old-with_all z own ds (λ e n. apart e (inr n)) m)
    (unlike z d (apart d (inl refl)))

-- Each of these is there, where they ascend.
own-with_all : (z : Package) (own ds : List Package) → IsAscending dataset_cmp own → IsIn z own
    → IsIn z (with_all own ds)
own-with_all z [] ds up m = absurd m
own-with_all z (d ∷ own) ds up (inl same) =
    subst (λ (e : Package). IsIn e (with_all (d ∷ own) ds)) (sym same)
    (upserted-IsIn dataset_cmp d (with_all own ds))
own-with_all z (d ∷ own) ds up (inr m) =
    upserted-IsIn_other dataset_cmp d z (with_all own ds) (own-with_all z own ds up.1 m)
    (unlike z d (λ same. let below = below_in dataset_cmp d z own up.0 m in
    let equal = same_bytes d.id z.id (sym same) in
    absurd (cc)))

-- ---- what harvesting a source leaves

module _ (documents : Documents) (failures : Failures) (before : HarvestState) where
  abbrev left_of : SourceState → List Package
  left_of s = own_after documents failures before.datasets s.source

  abbrev left_by : List SourceState → List Package
  left_by ss = datasets_after_round documents failures before.datasets ss

  -- the source's datasets from before are its own
  old_own : (s : SourceState) → IsFit s.source before → All (IsOwn s.source) (own_datasets s.source.name before.datasets)
  old_own s fit =
      All-each (IsOwn s.source) (own_datasets s.source.name before.datasets)
      (λ d m. let there = IsIn-filter (is_of_source s.source.name) d before.datasets m in
      fit.own d (Contains-IsIn d before.datasets there.0) ((bytes_eq-Decides d.source s.source.name).0 there.1))

  -- What is left of them is too, and ascends.
  left_fits : (s : SourceState) → IsFit s.source before
      → All (IsOwn s.source) (left_of s) × IsAscending dataset_cmp (left_of s)
  left_fits s fit =
      by (catalogue_at documents (failures.catalogue s.source.name) s.source.url)
    where
      old : List Package
      old = own_datasets s.source.name before.datasets

      by : (read : Result Catalogue Cause)
          → All (IsOwn s.source)
          (datasets_after old (all_read documents (failures.object s.source.name) s.source read))
          × IsAscending dataset_cmp
          (datasets_after old (all_read documents (failures.object s.source.name) s.source read))
      by (Ok catalogue) =
          let items = map (item_read documents (failures.object s.source.name) s.source catalogue.items) catalogue.items in (
            after-own old s.source items catalogue.unnamed (old_own s fit),
            after-by_id old s.source items catalogue.unnamed (old_own s fit),
          )
      by (Err cause) = (
        old_own s fit,
        IsAscending-filter dataset_cmp (is_of_source s.source.name) before.datasets fit.ascending,
      )

  own_in : (s : SourceState) → IsFit s.source before → (d : Package) → IsIn d (left_of s) → IsOwn s.source d
  own_in s fit d m = All-IsIn (IsOwn s.source) (left_of s) (left_fits s fit).0 d m

  -- no dataset of the source has the id of this one
  abbrev IsApart : SourceState → Package → Type 0
  IsApart s z = (d : Package) → IsOwn s.source d → z.id ≢ d.id

  -- ---- the datasets after the round, by what they are

  -- the dataset is one that harvesting a source leaves
  pub record IsLeft (ss : List SourceState) (z : Package) : Type 0 where
    pub at : SourceState
    pub there : IsIn at ss
    pub new : has_new at ≡ true
    pub left : IsIn z (left_of at)

  -- none of the sources that are harvested has the dataset
  abbrev pub IsBeside : List SourceState → Package → Type 0
  IsBeside ss z = (s : SourceState) → IsIn s ss → has_new s ≡ true → z.source ≢ s.source.name

  abbrev AllFitted : List SourceState → Type 0
  AllFitted ss = (s : SourceState) → IsIn s ss → IsFit s.source before

  -- The datasets ascend.
  pub IsAscending-left : (ss : List SourceState) → IsAscending dataset_cmp before.datasets
      → IsAscending dataset_cmp (left_by ss)
  IsAscending-left [] up = up
  IsAscending-left (s ∷ ss) up = by (has_new s) (IsAscending-left ss up)
    where
      by : (b : Bool) → IsAscending dataset_cmp (left_by ss)
          → IsAscending dataset_cmp (cond b (with_own s.source.name (left_of s) (left_by ss)) (left_by ss))
      by true rest =
          IsAscending-with_all (left_of s) (filter (λ (d : Package). not (is_of_source s.source.name d)) (left_by ss))
          (IsAscending-filter dataset_cmp (λ (d : Package). not (is_of_source s.source.name d)) (left_by ss) rest)
      by false rest = rest

  -- Each is left by a harvest, or is an old one beside them.
  pub what_is_left : (ss : List SourceState) (z : Package) → IsIn z (left_by ss)
      → IsLeft ss z ⊎ (IsIn z before.datasets × IsBeside ss z)
  what_is_left [] z m = inr (m, λ s n. absurd n)
  what_is_left (s ∷ ss) z m = by (has_new s) refl m (what_is_left ss z)
    where
      later : IsLeft ss z → IsLeft (s ∷ ss) z
      later w = record { at = w.at; there = inr w.there; new = w.new; left = w.left }

      beside : (has_new s ≡ true → z.source ≢ s.source.name) → IsBeside ss z → IsBeside (s ∷ ss) z
      beside here rest t (inl same) new named =
          here (sym (ap has_new same) ∙ new) (named ∙ ap (λ (u : SourceState). u.source.name) same)
      beside here rest t (inr n) new named = rest t n new named

      out : (has_new s ≡ true → z.source ≢ s.source.name) → IsLeft ss z ⊎ (IsIn z before.datasets × IsBeside ss z)
          → IsLeft (s ∷ ss) z ⊎ (IsIn z before.datasets × IsBeside (s ∷ ss) z)
      out here (inl w) = inl (later w)
      out here (inr w) = inr (w.0, beside here w.1)

      split : has_new s ≡ true
          → IsIn z (left_of s) ⊎ IsIn z (filter (λ (d : Package). not (is_of_source s.source.name d)) (left_by ss))
          → (IsIn z (left_by ss) → IsLeft ss z ⊎ (IsIn z before.datasets × IsBeside ss z))
          → IsLeft (s ∷ ss) z ⊎ (IsIn z before.datasets × IsBeside (s ∷ ss) z)
      split new (inl n) go = inl (record { at = s; there = inl refl; new = new; left = n })
      split new (inr n) go =
          let there = IsIn-filter (λ (d : Package). not (is_of_source s.source.name d)) z (left_by ss) n in
          out (λ e named. true≢false (sym there.1 ∙ ap not ((bytes_eq-Decides z.source s.source.name).1 named)))
          (go there.0)

      by : (b : Bool) → has_new s ≡ b → IsIn z (cond b (with_own s.source.name (left_of s) (left_by ss)) (left_by ss))
          → (IsIn z (left_by ss) → IsLeft ss z ⊎ (IsIn z before.datasets × IsBeside ss z))
          → IsLeft (s ∷ ss) z ⊎ (IsIn z before.datasets × IsBeside (s ∷ ss) z)
      by true new n go =
          split new (with_all-IsIn z (left_of s)
          (filter (λ (d : Package). not (is_of_source s.source.name d)) (left_by ss)) n) go
      by false old n go = out (λ e. absurd (true≢false (sym e ∙ old))) (go n)

  -- what stays through the harvest of a source that hasn't its name and gives no id to it
  through : (s : SourceState) (ss : List SourceState) (z : Package) → IsFit s.source before
      → (has_new s ≡ true → z.source ≢ s.source.name)
      → (has_new s ≡ true → IsApart s z)
      → IsIn z (left_by ss) → IsIn z (left_by (s ∷ ss))
  through s ss z fit apart never m = by (has_new s) refl
    where
      by : (b : Bool) → has_new s ≡ b → IsIn z (cond b (with_own s.source.name (left_of s) (left_by ss)) (left_by ss))
      by true new =
          old-with_all z (left_of s) (filter (λ (d : Package). not (is_of_source s.source.name d)) (left_by ss))
          (λ d n. never new d (own_in s fit d n))
          (filter-IsIn (λ (d : Package). not (is_of_source s.source.name d)) z (left_by ss) m
          (ap not (fails (is_of_source s.source.name z)
          (λ yes. apart new ((bytes_eq-Decides z.source s.source.name).0 yes)))))
      by false old = m

  pub beside-stays : (ss : List SourceState) (z : Package) → AllFitted ss → IsIn z before.datasets → IsBeside ss z
      → IsIn z (left_by ss)
  beside-stays [] z fit m apart = m
  beside-stays (s ∷ ss) z fit m apart =
      through s ss z (fit s (inl refl)) (apart s (inl refl))
      (λ new d own same. apart s (inl refl) new
      ((fit s (inl refl)).apart z d.iri (Contains-IsIn z before.datasets m) (same ∙ own.id_is_name ∙ own.named)))
      (beside-stays ss z (λ t n. fit t (inr n)) m (λ t n. apart t (inr n)))

  pub left-there : (ss : List SourceState) (z : Package) → IsAscending source_cmp ss → AllFitted ss → (s : SourceState)
      → IsIn s ss → has_new s ≡ true → IsIn z (left_of s) → IsIn z (left_by ss)
  left-there [] z up fit s m new n = absurd m
  left-there (t ∷ ss) z up fit s (inl same) new n =
      subst (λ (b : Bool). IsIn z (cond b (with_own t.source.name (left_of t) (left_by ss)) (left_by ss)))
      (sym (sym (ap has_new same) ∙ new))
      (own-with_all z (left_of t) (filter (λ (d : Package). not (is_of_source t.source.name d)) (left_by ss))
      (left_fits t (fit t (inl refl))).1 (subst (λ (u : SourceState). IsIn z (left_of u)) same n))
  left-there (t ∷ ss) z up fit s (inr m) new n =
      let own = own_in s (fit s (inr m)) z n in
      let apart : t.source.name ≢ s.source.name = λ alike.
      let below = below_in source_cmp t s ss up.0 m in
      let equal = same_bytes t.source.name s.source.name alike in
      absurd (cc) in
      through t ss z (fit t (inl refl)) (λ e named. apart (sym named ∙ own.of_source))
      (λ e d other same. apart (harvested_name-source t.source.name s.source.name d.iri z.iri
      (sym other.named ∙ sym other.id_is_name ∙ sym same ∙ own.id_is_name ∙ own.named)))
      (left-there ss z up.1 (λ u k. fit u (inr k)) s m new n)
