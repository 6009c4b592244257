-- The effect of each change of a shelf on its value, and that the invariant holds after it.
use Rattle.std.proofs.Common.{◌≡◌, ℕ, ◌+◌, ◌<◌, ◌≤◌, ◌^◌, Bool, true, false, cond, List, Option, Some, None}
use Rattle.std.proofs.Common.{IsSome, is_some, refl, sym, ap, ◌∙◌, subst, true≢false, IfSome, IsTrue}
use Rattle.std.specs.Option.{option_map, option_map_or}
use Rattle.slab.specs.Slab.{Slab, get, entries, slab_len, with_value, Updates}
use Rattle.slab.proofs.SlabLemmas.{Updates-with_value}
use Rattle.portal_base.specs.Ordered.{upserted, dropped}
use Rattle.digest_index.specs.Index.{IndexState, Enters, Leaves}
use Rattle.packages.specs.Digest.{digest_of}
use Rattle.packages.specs.ShelfInvariant.{IsConsistent, is_named_at, shelf_state}
use Rattle.packages.specs.Named.{is_named}
use Rattle.packages.specs.Order.{dataset_cmp}
use Rattle.packages.specs.Shelf.{ShelfState, IsValidShelf, at_number, package_at, number_in, datasets_of}
use Rattle.packages.specs.Shelf.{with_package, without_number, with_room}
use Rattle.packages.specs.declared.package.Package.{Package}
use Rattle.packages.proofs.DatasetLemmas.{free-none, datasets_by_id-with, datasets_by_id-without}
use Rattle.packages.proofs.DatasetLemmas.{IsValidShelf-consistent, package_at_slab}
use Rattle.packages.proofs.ShelfInvariantLemmas.{IsFree, IsConsistent-put, IsConsistent-remove, IsConsistent-replace}
use Rattle.packages.proofs.ShelfInvariantLemmas.{length-with_value, same_some}
use Rattle.packages.proofs.EntryLemmas.{entries-with, entries-without}

-- the new datasets and index are consistent, and this is the shelf's value, with these datasets by id
pub record IsChanged (new : Slab Package) (index : IndexState ℕ) (b : Bool) (after : ShelfState) (datasets : List Package)
    : Type 0 where
  pub kept : IsConsistent new index b
  pub same_state : shelf_state new b ≡ after
  pub by_id : datasets_of (shelf_state new b) ≡ datasets
  pub valid : IsValidShelf (shelf_state new b)

abbrev with_entries : Option ℕ → List (ℕ × Package) → ShelfState
with_entries room es = record { entries = es; room = room }

pub package_at_seen : (old : Slab Package) (b : Bool) (s : ShelfState) (n : ℕ) → shelf_state old b ≡ s
    → package_at n s ≡ get old n
package_at_seen old b s n same_state = ap (package_at n) (sym same_state) ∙ package_at_slab n old b

-- The number that is found has a dataset.
pub found_number-exists : (old : Slab Package) (b : Bool) (s : ShelfState) (key : List ℕ) (r : Option ℕ)
    → shelf_state old b ≡ s → IfSome r (λ n. IsTrue (is_named_at n key old)) → IfSome r (λ n. IsSome (package_at n s))
found_number-exists old b s key None same_state named = tt
found_number-exists old b s key (Some n) same_state named = by (get old n) refl named
  where
    by : (o : Option Package) → get old n ≡ o → option_map_or (is_named key) o false ≡ true
        → is_some (package_at n s) ≡ true
    by None is h = absurd (true≢false (sym h))
    by (Some d) is h = ap is_some (package_at_seen old b s n same_state ∙ is)

-- ---- put

-- If the value of a shelf has room, the shelf is prepared.
pub is_prepared : (old : Slab Package) (b : Bool) (s : ShelfState) → shelf_state old b ≡ s → IsSome s.room → b ≡ true
is_prepared old b s same_state room = by b (subst (λ t. IsSome t.room) (sym same_state) room)
  where
    by : (c : Bool) → is_some (cond c (Some old.vacant_key) None) ≡ true → c ≡ true
    by true h = refl
    by false h = absurd (cc)

pub changed-put : (old new : Slab Package) (first second third : IndexState ℕ) (b : Bool) (n m : ℕ) (p : Package)
    (s : ShelfState)
    → shelf_state old b ≡ s → IsConsistent old first b → IsSome s.room → number_in p.id s ≡ None
    → number_in p.name s ≡ None
    → n ≡ old.vacant_key → m ≡ old.vacant_key → Updates old new m (Some p)
    → Enters first second (digest_of p.id) n → Enters second third (digest_of p.name) n
    → IsChanged new third false (with_room None (with_package n p s)) (upserted dataset_cmp p (datasets_of s))
changed-put old new first second third b n m p s same_state keeps room id name next also change entered and_name =
    let was : IsConsistent old first true =
    subst (λ c. IsConsistent old first c) (is_prepared old b s same_state room) keeps in
    let moved : Updates old new n (Some p) = subst (λ k. Updates old new k (Some p)) (also ∙ sym next) change in
    let free : IsFree old p = free-none old b p (ap (number_in p.id) same_state ∙ id)
    (ap (number_in p.name) same_state ∙ name) in
    let now : IsConsistent new third false =
    IsConsistent-put old new first second third n p was free moved next entered and_name in
    let none : get old n ≡ None = ap (get old) next ∙ (was.ready refl).vacant in
    record {
      kept = now;
      same_state = subst (λ t. shelf_state new false ≡ with_room None (with_package n p t)) same_state
          (ap (with_entries None) (entries-with n p old new moved));
      by_id = subst (λ t. datasets_of (shelf_state new false) ≡ upserted dataset_cmp p (datasets_of t)) same_state
          (datasets_by_id-with old new n p keeps.apart now.apart moved (own none));
      valid = IsValidShelf-consistent new third false now;
    }
  where
    own : get old n ≡ None → (q : Package) → get old n ≡ Some q → q.id ≡ p.id
    own none q there = let both : Some q ≡ None = sym there ∙ none in absurd (cc)

-- ---- replace

-- the old dataset at the number has the same text as the new one
same_text : (old : Slab Package) (b : Bool) (s : ShelfState) (n : ℕ) (q : Package) (text : Package → List ℕ)
    (t : List ℕ)
    → shelf_state old b ≡ s → get old n ≡ Some q → option_map text (package_at n s) ≡ Some t → text q ≡ t
same_text old b s n q text t same_state there has =
    same_some (text q) t (sym (ap (option_map text) (package_at_seen old b s n same_state ∙ there)) ∙ has)

pub changed-replace : (old : Slab Package) (index : IndexState ℕ) (b : Bool) (n : ℕ) (p q : Package) (s : ShelfState)
    → shelf_state old b ≡ s → IsConsistent old index b → get old n ≡ Some q
    → option_map (λ d. d.id) (package_at n s) ≡ Some p.id → option_map (λ d. d.name) (package_at n s) ≡ Some p.name
    → IsChanged (with_value old n p) index b (with_package n p s) (upserted dataset_cmp p (datasets_of s))
changed-replace old index b n p q s same_state keeps there id name =
    let new : Slab Package = with_value old n p in
    let change : Updates old new n (Some p) = Updates-with_value old n p (ap is_some there) in
    let same_id : q.id ≡ p.id = same_text old b s n q (λ d. d.id) p.id same_state there id in
    let same_name : q.name ≡ p.name = same_text old b s n q (λ d. d.name) p.name same_state there name in
    let now : IsConsistent new index b =
    IsConsistent-replace old new index b n p q keeps there same_id same_name change
    (length-with_value old n p q there) refl
    refl in
    let own : (r : Package) → get old n ≡ Some r → r.id ≡ p.id =
    λ r here. ap (λ d. d.id) (same_some r q (sym here ∙ there)) ∙ same_id in
    record {
      kept = now;
      same_state = subst (λ t. shelf_state (with_value old n p) b ≡ with_package n p t) same_state
          (ap (with_entries (cond b (Some old.vacant_key) None)) (entries-with n p old new change));
      by_id = subst (λ t. datasets_of (shelf_state (with_value old n p) b) ≡ upserted dataset_cmp p (datasets_of t))
          same_state
          (datasets_by_id-with old new n p keeps.apart now.apart change own);
      valid = IsValidShelf-consistent new index b now;
    }

-- A text isn't found without a dataset.
pub no_text : (o : Option Package) (t : List ℕ) → o ≡ None → option_map (λ d. d.id) o ≡ Some t → ⊥
no_text o t none some =
    let both : None ≡ Some t = sym (ap (option_map (λ d. d.id)) none) ∙ some in
    absurd (cc)

-- ---- remove

pub changed-remove : (old new : Slab Package) (first second third : IndexState ℕ) (b : Bool) (n : ℕ) (p : Package)
    (s : ShelfState) → shelf_state old b ≡ s → IsConsistent old first b → get old n ≡ Some p → Updates old new n None
    → slab_len new + 1 ≤ new.capacity → new.vacant_key ≡ n
    → Leaves first second (digest_of p.id) n → Leaves second third (digest_of p.name) n
    → IsChanged new third b (with_room (option_map (λ _. n) s.room) (without_number n s))
    (dropped (λ d. dataset_cmp d p) (datasets_of s))
changed-remove old new first second third b n p s same_state keeps there change room next left and_name =
    let now : IsConsistent new third b =
    IsConsistent-remove old new first second third n p b keeps there change room next left and_name in
    record {
      kept = now;
      same_state = subst (λ t. shelf_state new b ≡ with_room (option_map (λ _. n) t.room) (without_number n t))
          same_state
          (ap (with_entries (cond b (Some new.vacant_key) None)) (entries-without n old new change)
          ∙ ap (λ r. with_entries r (dropped (at_number n) (entries old))) (rooms b));
      by_id = subst (λ t. datasets_of (shelf_state new b) ≡ dropped (λ d. dataset_cmp d p) (datasets_of t)) same_state
          (datasets_by_id-without old new n p keeps.apart now.apart change there);
      valid = IsValidShelf-consistent new third b now;
    }
  where
    rooms : (c : Bool)
        → cond c (Some new.vacant_key) None ≡ option_map (λ _. n) (cond c (Some old.vacant_key) None)
    rooms true = ap Some next
    rooms false = refl

-- ---- prepare

-- A valid shelf stays valid with room at a vacant number.
pub shelved_with_room : (s : ShelfState) (n : ℕ) → IsValidShelf s → n < 2 ^ 32 → package_at n s ≡ None
    → IsValidShelf (with_room (Some n) s)
shelved_with_room s n valid below none =
    record { numbers = valid.numbers; below = valid.below; apart = valid.apart; vacant = (below, none) }
