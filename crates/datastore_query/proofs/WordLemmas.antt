-- The words of a query, each once and in order.
use Rattle.std.proofs.Common.{◌≡◌, ◌∙◌, ℕ, Bool, true, false, ◌||◌, ◌&&◌, not, List, [], ◌∷◌, refl, ap, sym, cond}
use Rattle.std.specs.Cmp.Lexicographic.{slice_cmp, texts_ties}
use Rattle.std.specs.List as lists
use Rattle.std.specs.List.{dedup, list_all, list_any}
use Rattle.std.specs.List.Sorted.{IsPermutation}
use Rattle.std.specs.Ordering.{is_eq, nat_cmp}
use Rattle.std.specs.Str.{bytes_eq}
use Rattle.std.specs.List.Retain.{DiffersFromLast, IsFiltered}
use mathlib.Core.Path.{fun_ext}
use Rattle.std.proofs.lemmas.List.Filters.{dedup_is}
use Rattle.std.proofs.lemmas.List.Sorted.{list_any-IsPermutation}
use Rattle.std.proofs.lemmas.Slice.Eq.{bytes_eq-Decides}
use Rattle.datastore_query.specs.Repeats.{PassAlike}
use Rattle.datastore_query.specs.Words.{has_word}

-- The order of texts ties exactly the equal ones.
pub alike-texts : (a b : List ℕ) → is_eq (slice_cmp nat_cmp a b) ≡ bytes_eq a b
alike-texts a b = sym (texts_ties a b)

all-none : {X : Type 0} (p : X → Bool) (xs : List X) → list_all p xs ≡ not (list_any (λ x. not (p x)) xs)
all-none p [] = refl
all-none {X} p (x ∷ xs) = by (p x) (all-none p xs)
  where
    by : (b : Bool) → list_all p xs ≡ not (list_any (λ y. not (p y)) xs)
        → (b && list_all p xs) ≡ not (not b || list_any (λ y. not (p y)) xs)
    by true more = more
    by false more = refl

pub list_all-IsPermutation : {X : Type 0} (p : X → Bool) (xs ys : List X) → IsPermutation xs ys
    → list_all p ys ≡ list_all p xs
list_all-IsPermutation p xs ys moved =
    all-none p ys ∙ ap not (sym (list_any-IsPermutation (λ x. not (p x)) xs ys moved)) ∙ sym (all-none p xs)

-- Repeats change nothing of what all items pass.
all-dedup_from : {X : Type 0} (same : X → X → Bool) → ((x y : X) → same x y ≡ true → x ≡ y) → (p : X → Bool)
    (k : X) (xs : List X) → list_all p (lists.dedup_from same k xs) ≡ (p k && list_all p xs)
all-dedup_from same exact p k [] = refl
all-dedup_from {X} same exact p k (x ∷ xs) =
    by (same x k) refl (all-dedup_from same exact p k xs) (all-dedup_from same exact p x xs)
  where
    twice : (b : Bool) (c : Bool) → (b && c) ≡ (b && (b && c))
    twice true c = refl
    twice false c = refl

    by : (b : Bool) → same x k ≡ b → list_all p (lists.dedup_from same k xs) ≡ (p k && list_all p xs)
        → list_all p (lists.dedup_from same x xs) ≡ (p x && list_all p xs)
        → list_all p (cond b (lists.dedup_from same k xs) (k ∷ lists.dedup_from same x xs))
        ≡ (p k && (p x && list_all p xs))
    by true e here there =
        here ∙ twice (p k) (list_all p xs) ∙ ap (λ (y : X). p k && (p y && list_all p xs)) (sym (exact x k e))
    by false e here there = ap (λ b. p k && b) there

pub all-dedup : {X : Type 0} (same : X → X → Bool) → ((x y : X) → same x y ≡ true → x ≡ y) → (p : X → Bool)
    (xs : List X) → list_all p (dedup same xs) ≡ list_all p xs
all-dedup same exact p [] = refl
all-dedup same exact p (x ∷ xs) = all-dedup_from same exact p x xs

-- The words in order, each once, are the words.
pub once-words : (words sorted once : List (List ℕ)) → IsPermutation words sorted
    → IsFiltered (DiffersFromLast bytes_eq) [] sorted once → PassAlike words once
once-words words sorted once moved kept p =
    ap (list_all p) (dedup_is bytes_eq sorted once kept)
    ∙ all-dedup bytes_eq (λ x y e. (bytes_eq-Decides x y).0 e) p sorted
    ∙ list_all-IsPermutation p words sorted moved

-- A text is found among texts in order exactly where it is one of them.
pub has_word-found : (found : List (List ℕ)) (word : List ℕ)
    → list_any (λ token. is_eq (slice_cmp nat_cmp token word)) found ≡ has_word found word
has_word-found found word = ap (λ p. list_any p found) (fun_ext (λ token. alike-texts token word))

-- Tokens in another order have the same words.
pub has_words_sorted : (found sorted words : List (List ℕ)) → IsPermutation found sorted
    → list_all (has_word sorted) words ≡ list_all (has_word found) words
has_words_sorted found sorted words moved =
    ap (λ p. list_all p words)
    (fun_ext (λ word. sym (list_any-IsPermutation (λ token. bytes_eq token word) found sorted moved)))
