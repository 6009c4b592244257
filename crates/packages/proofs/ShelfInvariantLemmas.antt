-- The invariant of a shelf holds after each change.
use Rattle.std.proofs.Common.{◌≡◌, ◌≢◌, ℕ, ◌+◌, ◌<◌, ◌≤◌, ◌^◌, Bool, true, false, ◌||◌, List, Option, Some, None}
use Rattle.std.proofs.Common.{refl, sym, ap, ◌∙◌, subst, ◌⊎◌, inl, inr, arith, Contains, is_some, cond}
use Rattle.std.proofs.Common.{get_or, true≢false}
use Rattle.std.specs.Str.{bytes_eq}
use Rattle.std.proofs.lemmas.Bool.{cases_eq, or_left}
use Rattle.std.proofs.lemmas.List.Sums.{sum_by-set}
use Rattle.std.proofs.lemmas.Slice.Eq.{bytes_eq-Decides}
use Rattle.slab.specs.Slab.{Slab, get, slab_len, with_value, Updates}
use Rattle.slab.proofs.SlabLemmas.{ContainsKey-within}
use Rattle.digest_index.specs.Index.{IndexState, IsUnder, Enters, Leaves, first_under, further_under}
use Rattle.packages.specs.Digest.{digest_of}
use Rattle.packages.specs.ShelfInvariant.{HasDigest, HasUniqueKeys, IsIndexed, IsConsistent, IsReady}
use Rattle.packages.specs.Named.{is_named}
use Rattle.packages.specs.declared.package.Package.{Package}

-- ---- names

pub named-cases : (key : List ℕ) (d : Package) → is_named key d ≡ true → (d.id ≡ key) ⊎ (d.name ≡ key)
named-cases key d named = by (bytes_eq d.id key) refl named
  where
    by : (b : Bool) → bytes_eq d.id key ≡ b → (b || bytes_eq d.name key) ≡ true → (d.id ≡ key) ⊎ (d.name ≡ key)
    by true is h = inl ((bytes_eq-Decides d.id key).0 is)
    by false is h = inr ((bytes_eq-Decides d.name key).0 h)

pub id_named : (d : Package) → is_named d.id d ≡ true
id_named d = or_left (bytes_eq d.id d.id) (bytes_eq d.name d.id) ((bytes_eq-Decides d.id d.id).1 refl)

-- the same keys name two datasets with the same id and the same name
named_alike : (key : List ℕ) (d e : Package) → d.id ≡ e.id → d.name ≡ e.name → is_named key d ≡ is_named key e
named_alike key d e id name =
    ap (λ t. bytes_eq t key || bytes_eq d.name key) id ∙ ap (λ t. bytes_eq e.id key || bytes_eq t key) name

-- ---- the dataset at a number after a change

pub same_some : {X : Type 0} (x y : X) → Some x ≡ Some y → x ≡ y
same_some x y e = cc

pub some_there : {X : Type 0} (o : Option X) → is_some o ≡ true → (x : X) × (o ≡ Some x)
some_there None h = absurd (cc)
some_there (Some x) h = (x, refl)

-- the dataset at a number after one at `n` was set: the new dataset at `n`, and elsewhere the one before
abbrev pub IsAfterUpdate : Slab Package → ℕ → Package → ℕ → Package → Type 0
IsAfterUpdate old n p m d = ((m ≡ n) × (d ≡ p)) ⊎ ((m ≢ n) × (get old m ≡ Some d))

pub after_update : (old new : Slab Package) (n : ℕ) (p : Package) → Updates old new n (Some p) → (m : ℕ) (d : Package)
    → get new m ≡ Some d → IsAfterUpdate old n p m d
after_update old new n p change m d there =
    elim (cases_eq m n) [
      | inl same ↦ inl (same, same_some d p (sym there ∙ ap (get new) same ∙ change.changed))
      | inr other ↦ inr (other, sym (change.others m other) ∙ there)
    ]

pub unchanged : (old new : Slab Package) (n : ℕ) (o : Option Package) → Updates old new n o → (m : ℕ) (d : Package)
    → m ≢ n → get old m ≡ Some d → get new m ≡ Some d
unchanged old new n o change m d other there = change.others m other ∙ there

-- a dataset after a removal was there before, at another number
pub before_removal : (old new : Slab Package) (n : ℕ) → Updates old new n None → (m : ℕ) (d : Package)
    → get new m ≡ Some d → (m ≢ n) × (get old m ≡ Some d)
before_removal old new n change m d there =
    elim (cases_eq m n) [
      | inl same ↦
          let none : get new m ≡ None = ap (get new) same ∙ change.changed in
          let both : Some d ≡ None = sym there ∙ none in
          absurd (cc)
      | inr other ↦ (other, sym (change.others m other) ∙ there)
    ]

vacant_apart : (s : Slab Package) (m n : ℕ) (d : Package) → get s n ≡ None → get s m ≡ Some d → m ≢ n
vacant_apart s m n d none there same =
    let both : Some d ≡ None = sym there ∙ ap (get s) same ∙ none in
    absurd (cc)

-- ---- room that is reserved

-- The numbers under each digest are those of another index with the same parts.
under_same : (one other : IndexState ℕ) → ((d : ℕ) → first_under d one ≡ first_under d other)
    → one.further ≡ other.further → (d n : ℕ) → IsUnder one d n → IsUnder other d n
under_same one other first further d n (inl is) = inl (sym (first d) ∙ is)
under_same one other first further d n (inr among) =
    inr (subst (λ es. Contains (further_under d es) n) further among)

pub IsConsistent-reserved : (old new : Slab Package) (first second : IndexState ℕ) (b c : Bool)
    → IsConsistent old first b → ((m : ℕ) → get new m ≡ get old m)
    → ((d : ℕ) → first_under d second ≡ first_under d first) → second.further ≡ first.further
    → (c ≡ true → IsReady new second) → IsConsistent new second c
IsConsistent-reserved old new first second b c kept same firsts further ready =
    record {
      below = λ m d at_m. kept.below m d (sym (same m) ∙ at_m);
      apart = λ key m k d e at_m at_k. kept.apart key m k d e (sym (same m) ∙ at_m) (sym (same k) ∙ at_k);
      indexed = record {
        candidate = λ key m d at_m named.
            under_same first second (λ digest. sym (firsts digest)) (sym further) (digest_of key) m
            (kept.indexed.candidate key m d (sym (same m) ∙ at_m) named);
        of_dataset = λ digest m under.
            let w = kept.indexed.of_dataset digest m (under_same second first firsts further digest m under) in
            (w.0, same m ∙ w.1, w.2);
      };
      ready = ready;
    }

-- ---- a dataset that is put

-- no dataset has this one's id or name
abbrev pub IsFree : Slab Package → Package → Type 0
IsFree s p = (m : ℕ) (d : Package) → get s m ≡ Some d → (is_named p.id d ≡ false) × (is_named p.name d ≡ false)

-- a key that names the new dataset names no other
free_apart : (s : Slab Package) (p : Package) → IsFree s p → (key : List ℕ) (m : ℕ) (d : Package) → get s m ≡ Some d
    → is_named key p ≡ true → is_named key d ≡ true → ⊥
free_apart s p free key m d there mine its =
    elim (named-cases key p mine) [
      | inl id ↦ true≢false (sym its ∙ ap (λ k. is_named k d) (sym id) ∙ (free m d there).0)
      | inr name ↦ true≢false (sym its ∙ ap (λ k. is_named k d) (sym name) ∙ (free m d there).1)
    ]

put_apart : (old new : Slab Package) (n : ℕ) (p : Package) → HasUniqueKeys old → IsFree old p
    → Updates old new n (Some p)
    → HasUniqueKeys new
put_apart old new n p apart free change key m k d e at_m at_k named also =
    by (after_update old new n p change m d at_m) (after_update old new n p change k e at_k)
  where
    by : IsAfterUpdate old n p m d → IsAfterUpdate old n p k e → m ≡ k
    by (inl x) (inl y) = x.0 ∙ sym y.0
    by (inl x) (inr y) = absurd (free_apart old p free key k e y.1 (ap (is_named key) (sym x.1) ∙ named) also)
    by (inr x) (inl y) = absurd (free_apart old p free key m d x.1 (ap (is_named key) (sym y.1) ∙ also) named)
    by (inr x) (inr y) = apart key m k d e x.1 y.1 named also

-- the index, once the number was entered under the digests of the dataset's id and name
module _ (old new : Slab Package) (first second third : IndexState ℕ) (n : ℕ) (p : Package) where
  put_candidate : IsIndexed old first → Enters first second (digest_of p.id) n
      → Enters second third (digest_of p.name) n → Updates old new n (Some p)
      → (key : List ℕ) (m : ℕ) (d : Package) → get new m ≡ Some d → is_named key d ≡ true
      → IsUnder third (digest_of key) m
  put_candidate index id name change key m d there named = by (after_update old new n p change m d there)
    where
      mine : m ≡ n → (p.id ≡ key) ⊎ (p.name ≡ key) → IsUnder third (digest_of key) m
      mine same (inl e) =
          (name.under (digest_of key) m).1
          (inl ((id.under (digest_of key) m).1 (inr (ap digest_of (sym e), same))))
      mine same (inr e) = (name.under (digest_of key) m).1 (inr (ap digest_of (sym e), same))

      by : IsAfterUpdate old n p m d → IsUnder third (digest_of key) m
      by (inl x) = mine x.0 (named-cases key p (ap (is_named key) (sym x.1) ∙ named))
      by (inr x) =
          (name.under (digest_of key) m).1
          (inl ((id.under (digest_of key) m).1 (inl (index.candidate key m d x.1 named))))

  put_of_dataset : IsIndexed old first → Enters first second (digest_of p.id) n
      → Enters second third (digest_of p.name) n → Updates old new n (Some p) → get old n ≡ None
      → (digest m : ℕ) → IsUnder third digest m → (d : Package) × (get new m ≡ Some d) × HasDigest digest d
  put_of_dataset index id name change none digest m under = by_name ((name.under digest m).0 under)
    where
      by_id : IsUnder first digest m ⊎ ((digest ≡ digest_of p.id) × (m ≡ n))
          → (d : Package) × (get new m ≡ Some d) × HasDigest digest d
      by_id (inl was) =
          let w = index.of_dataset digest m was in
          (w.0, unchanged old new n (Some p) change m w.0 (vacant_apart old m n w.0 none w.1) w.1, w.2)
      by_id (inr x) = (p, ap (get new) x.1 ∙ change.changed, inl x.0)

      by_name : IsUnder second digest m ⊎ ((digest ≡ digest_of p.name) × (m ≡ n))
          → (d : Package) × (get new m ≡ Some d) × HasDigest digest d
      by_name (inl was) = by_id ((id.under digest m).0 was)
      by_name (inr x) = (p, ap (get new) x.1 ∙ change.changed, inr x.0)

  pub IsConsistent-put : IsConsistent old first true → IsFree old p → Updates old new n (Some p) → n ≡ old.vacant_key
      → Enters first second (digest_of p.id) n → Enters second third (digest_of p.name) n
      → IsConsistent new third false
  IsConsistent-put kept free change next id name =
      let none : get old n ≡ None = ap (get old) next ∙ (kept.ready refl).vacant in
      record {
        below = below;
        apart = put_apart old new n p kept.apart free change;
        indexed = record {
          candidate = put_candidate kept.indexed id name change;
          of_dataset = put_of_dataset kept.indexed id name change none;
        };
        ready = λ h. absurd (true≢false (sym h));
      }
    where
      below : (m : ℕ) (d : Package) → get new m ≡ Some d → m < 2 ^ 32
      below m d there = by (after_update old new n p change m d there)
        where
          by : IsAfterUpdate old n p m d → m < 2 ^ 32
          by (inl x) = subst (λ k. k < 2 ^ 32) (sym (x.0 ∙ next)) (kept.ready refl).number
          by (inr x) = kept.below m d x.1

-- ---- a dataset that is replaced

replace_apart : (old new : Slab Package) (n : ℕ) (p q : Package) → HasUniqueKeys old → get old n ≡ Some q
    → q.id ≡ p.id → q.name ≡ p.name → Updates old new n (Some p) → HasUniqueKeys new
replace_apart old new n p q apart there id name change key m k d e at_m at_k named also =
    by (after_update old new n p change m d at_m) (after_update old new n p change k e at_k)
  where
    was : (f : Package) → f ≡ p → is_named key f ≡ true → is_named key q ≡ true
    was f same h = named_alike key q p id name ∙ ap (is_named key) (sym same) ∙ h

    by : IsAfterUpdate old n p m d → IsAfterUpdate old n p k e → m ≡ k
    by (inl x) (inl y) = x.0 ∙ sym y.0
    by (inl x) (inr y) = x.0 ∙ apart key n k q e there y.1 (was d x.1 named) also
    by (inr x) (inl y) = apart key m n d q x.1 there named (was e y.1 also) ∙ sym y.0
    by (inr x) (inr y) = apart key m k d e x.1 y.1 named also

module _ (old new : Slab Package) (index : IndexState ℕ) (n : ℕ) (p q : Package) where
  -- a number with a dataset has the new one, or the same
  now_there : get old n ≡ Some q → Updates old new n (Some p) → (m : ℕ) (d : Package) → get old m ≡ Some d
      → ((m ≡ n) × (d ≡ q) × (get new m ≡ Some p)) ⊎ (get new m ≡ Some d)
  now_there there change m d was =
      elim (cases_eq m n) [
        | inl same ↦ inl (
          same,
          same_some d q (sym was ∙ ap (get old) same ∙ there),
          ap (get new) same ∙ change.changed,
        )
        | inr other ↦ inr (unchanged old new n (Some p) change m d other was)
      ]

  replace_indexed : IsIndexed old index → get old n ≡ Some q → q.id ≡ p.id → q.name ≡ p.name
      → Updates old new n (Some p) → IsIndexed new index
  replace_indexed indexed there id name change =
      record { candidate = candidate; of_dataset = of_dataset }
    where
      candidate : (key : List ℕ) (m : ℕ) (d : Package) → get new m ≡ Some d → is_named key d ≡ true
          → IsUnder index (digest_of key) m
      candidate key m d at_m named = by (after_update old new n p change m d at_m)
        where
          by : IsAfterUpdate old n p m d → IsUnder index (digest_of key) m
          by (inl x) =
              subst (λ k. IsUnder index (digest_of key) k) (sym x.0)
              (indexed.candidate key n q there
              (named_alike key q p id name ∙ ap (is_named key) (sym x.1) ∙ named))
          by (inr x) = indexed.candidate key m d x.1 named

      of_dataset : (digest m : ℕ) → IsUnder index digest m → (d : Package) × (get new m ≡ Some d) × HasDigest digest d
      of_dataset digest m under = by (indexed.of_dataset digest m under)
        where
          alike : (d : Package) → d ≡ q → HasDigest digest d → HasDigest digest p
          alike d same (inl e) = inl (e ∙ ap (λ f. digest_of f.id) same ∙ ap digest_of id)
          alike d same (inr e) = inr (e ∙ ap (λ f. digest_of f.name) same ∙ ap digest_of name)

          by : (d : Package) × (get old m ≡ Some d) × HasDigest digest d
              → (d : Package) × (get new m ≡ Some d) × HasDigest digest d
          by w =
              elim (now_there there change m w.0 w.1) [
                | inl x ↦ (p, x.2, alike w.0 x.1 w.2)
                | inr same ↦ (w.0, same, w.2)
              ]

-- a write at a number with a dataset keeps the count
pub length-with_value : (s : Slab Package) (n : ℕ) (p q : Package) → get s n ≡ Some q
    → slab_len (with_value s n p) ≡ slab_len s
length-with_value s n p q there =
    let count : Option Package → ℕ = λ o. cond (is_some o) 1 0 in
    let both = sum_by-set count s.slots n (Some p) None (ContainsKey-within s n (ap is_some there)) in
    let was : count (get_or s.slots n None) ≡ 1 = ap count there in
    omega (arith, both, was)

pub IsConsistent-replace : (old new : Slab Package) (index : IndexState ℕ) (b : Bool) (n : ℕ) (p q : Package)
    → IsConsistent old index b
    → get old n ≡ Some q → q.id ≡ p.id → q.name ≡ p.name → Updates old new n (Some p)
    → slab_len new ≡ slab_len old → new.capacity ≡ old.capacity → new.vacant_key ≡ old.vacant_key
    → IsConsistent new index b
IsConsistent-replace old new index b n p q kept there id name change len capacity next =
    record {
      below = below;
      apart = replace_apart old new n p q kept.apart there id name change;
      indexed = replace_indexed old new index n p q kept.indexed there id name change;
      ready = ready;
    }
  where
    below : (m : ℕ) (d : Package) → get new m ≡ Some d → m < 2 ^ 32
    below m d at_m = by (after_update old new n p change m d at_m)
      where
        by : IsAfterUpdate old n p m d → m < 2 ^ 32
        by (inl x) = subst (λ k. k < 2 ^ 32) (sym x.0) (kept.below n q there)
        by (inr x) = kept.below m d x.1

    ready : b ≡ true → IsReady new index
    ready is =
        let was = kept.ready is in
        record {
          slot = omega (arith, was.slot, len, capacity);
          number = subst (λ k. k < 2 ^ 32) (sym next) was.number;
          vacant =
              ap (get new) next
              ∙ change.others old.vacant_key
              (λ same. vacant_apart old n old.vacant_key q was.vacant there (sym same))
              ∙ was.vacant;
          index_room = was.index_room;
        }

-- ---- a dataset that is removed

module _ (old new : Slab Package) (first second third : IndexState ℕ) (n : ℕ) (p : Package) where
  remove_indexed : IsIndexed old first → get old n ≡ Some p → Updates old new n None
      → Leaves first second (digest_of p.id) n → Leaves second third (digest_of p.name) n → IsIndexed new third
  remove_indexed indexed there change id name = record { candidate = candidate; of_dataset = of_dataset }
    where
      candidate : (key : List ℕ) (m : ℕ) (d : Package) → get new m ≡ Some d → is_named key d ≡ true
          → IsUnder third (digest_of key) m
      candidate key m d at_m named =
          let was = before_removal old new n change m d at_m in
          (name.under (digest_of key) m).1 (
            (id.under (digest_of key) m).1
                (indexed.candidate key m d was.1 named, λ here. was.0 here.1),
            λ here. was.0 here.1,
          )

      of_dataset : (digest m : ℕ) → IsUnder third digest m → (d : Package) × (get new m ≡ Some d) × HasDigest digest d
      of_dataset digest m under =
          let by_name = (name.under digest m).0 under in
          let by_id = (id.under digest m).0 by_name.0 in
          let w = indexed.of_dataset digest m by_id.0 in
          let other : m ≢ n =
          λ same.
          let mine : w.0 ≡ p = same_some w.0 p (sym w.1 ∙ ap (get old) same ∙ there) in
          (elim w.2 [
            | inl e ↦ by_id.1 (e ∙ ap (λ f. digest_of f.id) mine, same)
            | inr e ↦ by_name.1 (e ∙ ap (λ f. digest_of f.name) mine, same)
          ]) in
          (w.0, unchanged old new n None change m w.0 other w.1, w.2)

  pub IsConsistent-remove : (b : Bool) → IsConsistent old first b → get old n ≡ Some p → Updates old new n None
      → slab_len new + 1 ≤ new.capacity → new.vacant_key ≡ n
      → Leaves first second (digest_of p.id) n → Leaves second third (digest_of p.name) n → IsConsistent new third b
  IsConsistent-remove b kept there change room next id name =
      record {
        below = λ m d at_m. kept.below m d (before_removal old new n change m d at_m).1;
        apart = λ key m k d e at_m at_k.
            kept.apart key m k d e (before_removal old new n change m d at_m).1
            (before_removal old new n change k e at_k).1;
        indexed = remove_indexed kept.indexed there change id name;
        ready = λ is. record {
          slot = room;
          number = subst (λ k. k < 2 ^ 32) (sym next) (kept.below n p there);
          vacant = ap (get new) next ∙ change.changed;
          index_room = omega (arith, (kept.ready is).index_room, id.room, name.room);
        };
      }
