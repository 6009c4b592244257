-- Results one after another, as a loop takes them.
use Rattle.std.proofs.Common.{◌≡◌, ◌∙◌, ℕ, ◌+◌, ◌<◌, List, [], ◌∷◌, ◌++◌, length, drop, get_or, refl, ap, sym}
use Rattle.std.proofs.Common.{append_assoc}
use Rattle.std.proofs.Common.{Result, Ok, Err, append-nil}
use Rattle.std.proofs.lemmas.List.{at_drop_more}
use Rattle.datastore_table.specs.Results.{◌>>>◌, each_ok, in_turn}

-- the results of the items, appended to the results before
abbrev pub each_on : {A B E : Type 0} → (ℕ → A → Result B E) → ℕ → List B → List A → Result (List B) E
each_on f number before xs = each_ok f number xs >>> λ ys. Ok (before ++ ys)

pub each_on-start : {A B E : Type 0} (f : ℕ → A → Result B E) (number : ℕ) (xs : List A)
    → each_ok f number xs ≡ each_on f number [] xs
each_on-start {A} {B} {E} f number xs =
    elim (each_ok f number xs) as (λ (r : Result (List B) E). r ≡ (r >>> λ ys. Ok ([] ++ ys)))
    [ Err fault ↦ refl | Ok ys ↦ refl ]

moved : {B E : Type 0} (before : List B) (y : B) (r : Result (List B) E)
    → ((r >>> λ ys. Ok (y ∷ ys)) >>> λ ys. Ok (before ++ ys)) ≡ (r >>> λ ys. Ok ((before ++ y ∷ []) ++ ys))
moved before y (Err fault) = refl
moved before y (Ok ys) = ap Ok (sym (append_assoc before (y ∷ []) ys))

pub each_on-next : {A B E : Type 0} (f : ℕ → A → Result B E) (i : ℕ) (before : List B) (xs : List A) (x : A) (y : B)
    → i < length xs → x ≡ get_or xs i x → f i x ≡ Ok y
    → each_on f i before (drop i xs) ≡ each_on f (i + 1) (before ++ y ∷ []) (drop (i + 1) xs)
each_on-next {A} {B} {E} f i before xs x y lt is e =
    at_drop_more (each_on f i before) xs i x lt
    ∙ ap (λ a. each_on f i before (a ∷ drop (i + 1) xs)) (sym is)
    ∙ ap (λ (r : Result B E). (r >>> λ z. (each_ok f (i + 1) (drop (i + 1) xs) >>> λ zs. Ok (z ∷ zs)))
    >>> λ zs. Ok (before ++ zs)) e
    ∙ moved before y (each_ok f (i + 1) (drop (i + 1) xs))

pub each_on-fault : {A B E : Type 0} (f : ℕ → A → Result B E) (i : ℕ) (before : List B) (xs : List A) (x : A)
    (fault : E)
    → i < length xs → x ≡ get_or xs i x → f i x ≡ Err fault → each_on f i before (drop i xs) ≡ Err fault
each_on-fault {A} {B} {E} f i before xs x fault lt is e =
    at_drop_more (each_on f i before) xs i x lt
    ∙ ap (λ a. each_on f i before (a ∷ drop (i + 1) xs)) (sym is)
    ∙ ap (λ (r : Result B E). (r >>> λ z. (each_ok f (i + 1) (drop (i + 1) xs) >>> λ zs. Ok (z ∷ zs)))
    >>> λ zs. Ok (before ++ zs)) e

pub each_on-end : {A B E : Type 0} (f : ℕ → A → Result B E) (number : ℕ) (before : List B)
    → each_on f number before [] ≡ Ok before
each_on-end f number before = ap Ok (append-nil before)

pub in_turn-next : {A S E : Type 0} (f : ℕ → A → S → Result S E) (n i : ℕ) (xs : List A) (x : A) (s t : S)
    → i < length xs → x ≡ get_or xs i x → f n x s ≡ Ok t
    → in_turn f n (drop i xs) s ≡ in_turn f (n + 1) (drop (i + 1) xs) t
in_turn-next {A} {S} {E} f n i xs x s t lt is e =
    at_drop_more (λ l. in_turn f n l s) xs i x lt
    ∙ ap (λ a. in_turn f n (a ∷ drop (i + 1) xs) s) (sym is)
    ∙ ap (λ (r : Result S E). r >>> in_turn f (n + 1) (drop (i + 1) xs)) e

pub in_turn-fault : {A S E : Type 0} (f : ℕ → A → S → Result S E) (n i : ℕ) (xs : List A) (x : A) (s : S) (fault : E)
    → i < length xs → x ≡ get_or xs i x → f n x s ≡ Err fault
    → in_turn f n (drop i xs) s ≡ Err fault
in_turn-fault {A} {S} {E} f n i xs x s fault lt is e =
    at_drop_more (λ l. in_turn f n l s) xs i x lt
    ∙ ap (λ a. in_turn f n (a ∷ drop (i + 1) xs) s) (sym is)
    ∙ ap (λ (r : Result S E). r >>> in_turn f (n + 1) (drop (i + 1) xs)) e

-- If a sequence succeeds, so does its first part.
pub bound-ok : {A B E : Type 0} (r : Result A E) (f : A → Result B E) (y : B) → (r >>> f) ≡ Ok y
    → (x : A) × (r ≡ Ok x) × (f x ≡ Ok y)
bound-ok (Err fault) f y h = absurd (cc)
bound-ok (Ok x) f y h = (x, refl, h)
