-- Results one after another, as a loop takes them.
use Rattle.std.proofs.Common.{◌≡◌, ◌∙◌, ℕ, ◌+◌, ◌<◌, List, [], ◌∷◌, ◌++◌, length, drop, get_or, refl, ap, sym}
use Rattle.std.proofs.Common.{append_assoc, append-nil, Result, Ok, Err}
use Rattle.std.proofs.lemmas.List.{at_drop_more}
use Rattle.datastore_query.specs.Results.{each_read, prepended}

abbrev pub appended : {B E : Type 0} → List B → Result (List B) E → Result (List B) E
appended before (Err fault) = Err fault
appended before (Ok ys) = Ok (before ++ ys)

-- the results of reading the items, appended to those before
abbrev pub read_on : {A B E : Type 0} → (A → Result B E) → List B → List A → Result (List B) E
read_on f before xs = appended before (each_read f xs)

pub read_on-start : {A B E : Type 0} (f : A → Result B E) (xs : List A) → each_read f xs ≡ read_on f [] xs
read_on-start {A} {B} {E} f xs =
    elim (each_read f xs) as (λ (r : Result (List B) E). r ≡ appended [] r) [ Err fault ↦ refl | Ok ys ↦ refl ]

moved : {B E : Type 0} (before : List B) (y : B) (r : Result (List B) E)
    → appended before (prepended (Ok y) r) ≡ appended (before ++ y ∷ []) r
moved before y (Err fault) = refl
moved before y (Ok ys) = ap Ok (sym (append_assoc before (y ∷ []) ys))

pub read_on-next : {A B E : Type 0} (f : A → Result B E) (i : ℕ) (before : List B) (xs : List A) (x : A) (y : B)
    → i < length xs → x ≡ get_or xs i x → f x ≡ Ok y
    → read_on f before (drop i xs) ≡ read_on f (before ++ y ∷ []) (drop (i + 1) xs)
read_on-next {A} {B} {E} f i before xs x y lt is e =
    at_drop_more (read_on f before) xs i x lt
    ∙ ap (λ a. read_on f before (a ∷ drop (i + 1) xs)) (sym is)
    ∙ ap (λ (r : Result B E). appended before (prepended r (each_read f (drop (i + 1) xs)))) e
    ∙ moved before y (each_read f (drop (i + 1) xs))

pub read_on-fault : {A B E : Type 0} (f : A → Result B E) (i : ℕ) (before : List B) (xs : List A) (x : A) (fault : E)
    → i < length xs → x ≡ get_or xs i x → f x ≡ Err fault → read_on f before (drop i xs) ≡ Err fault
read_on-fault {A} {B} {E} f i before xs x fault lt is e =
    at_drop_more (read_on f before) xs i x lt
    ∙ ap (λ a. read_on f before (a ∷ drop (i + 1) xs)) (sym is)
    ∙ ap (λ (r : Result B E). appended before (prepended r (each_read f (drop (i + 1) xs)))) e

pub read_on-end : {A B E : Type 0} (f : A → Result B E) (before : List B) → read_on f before [] ≡ Ok before
read_on-end f before = ap Ok (append-nil before)
