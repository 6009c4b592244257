-- Which options are allowed, as they come one by one.
use Rattle.std.proofs.Common.{◌≡◌, ◌∙◌, ℕ, Bool, true, false, not, ◌&&◌, ◌||◌, List, [], ◌∷◌, ◌++◌, refl, sym, ap}
use Rattle.std.proofs.Common.{append_assoc}
use Rattle.std.specs.List.{list_any}
use Rattle.std.specs.Ordering.{is_eq}
use Rattle.std.specs.Str.{bytes_eq}
use Rattle.std.proofs.lemmas.List.{append-nil}
use Rattle.std.proofs.lemmas.List.Folds.{list_all-append, list_any-append}
use Rattle.std.proofs.lemmas.Map.Text.{is_eq-slice_cmp}
use Rattle.std.proofs.lemmas.Slice.Eq.{bytes_eq-Decides}
use Rattle.portal_base.specs.Ordered.{are_apart}
use Rattle.portal_words.specs.Commands.{are_allowed, are_among, is_among, setting_cmp}
use Rattle.portal_words.specs.Grammar.{Setting}

-- one of the options has the name
abbrev pub is_given : List ℕ → List Setting → Bool
is_given name given = list_any (λ s. bytes_eq s.name name) given

both-true : (a : Bool) → (a && true) ≡ a
both-true true = refl
both-true false = refl

either-false : (a : Bool) → (a || false) ≡ a
either-false true = refl
either-false false = refl

both-false : (a : Bool) → (a && false) ≡ false
both-false true = refl
both-false false = refl

-- Texts are alike in both directions.
alike-sym : (a b : List ℕ) → bytes_eq a b ≡ bytes_eq b a
alike-sym a b = go (bytes_eq a b) (bytes_eq b a) refl refl
  where
    go : (s t : Bool) → bytes_eq a b ≡ s → bytes_eq b a ≡ t → bytes_eq a b ≡ bytes_eq b a
    go true t e f = e ∙ sym ((bytes_eq-Decides b a).1 (sym ((bytes_eq-Decides a b).0 e)))
    go false true e f = (bytes_eq-Decides a b).1 (sym ((bytes_eq-Decides b a).0 f)) ∙ sym f
    go false false e f = e ∙ sym f

moved : (a b c d : Bool) → (not (a || b) && (c && not d)) ≡ ((not a && c) && not (b || d))
moved true b c d = refl
moved false true true d = refl
moved false true false d = refl
moved false false true d = refl
moved false false false d = refl

apart-last : (given : List Setting) (s : Setting)
    → are_apart setting_cmp (given ++ s ∷ []) ≡ (are_apart setting_cmp given && not (is_given s.name given))
apart-last [] s = refl
apart-last (x ∷ xs) s =
    let likes : Setting → Bool = λ y. is_eq (setting_cmp y x) in
    ap (λ b. not b && are_apart setting_cmp (xs ++ s ∷ []))
    (list_any-append likes xs (s ∷ [])
    ∙ ap (λ b. list_any likes xs || b)
    (either-false (likes s) ∙ is_eq-slice_cmp s.name x.name ∙ alike-sym s.name x.name))
    ∙ ap (λ b. not (list_any likes xs || bytes_eq x.name s.name) && b) (apart-last xs s)
    ∙ moved (list_any likes xs) (bytes_eq x.name s.name) (are_apart setting_cmp xs) (is_given s.name xs)

among-last : (names : List (List ℕ)) (given : List Setting) (s : Setting)
    → are_among names (given ++ s ∷ []) ≡ (are_among names given && is_among names s.name)
among-last names given s =
    list_all-append (λ t. is_among names t.name) given (s ∷ [])
    ∙ ap (λ b. are_among names given && b) (both-true (is_among names s.name))

regrouped : (a b c d : Bool) → ((a && b) && (c && d)) ≡ ((a && c) && (b && d))
regrouped true true c d = refl
regrouped true false true d = refl
regrouped true false false d = refl
regrouped false b c d = refl

-- One more option is allowed where it is among the names and wasn't given.
pub allowed-last : (names : List (List ℕ)) (given : List Setting) (s : Setting)
    → are_allowed names (given ++ s ∷ [])
    ≡ (are_allowed names given && (is_among names s.name && not (is_given s.name given)))
allowed-last names given s =
    ap (λ b. b && are_apart setting_cmp (given ++ s ∷ [])) (among-last names given s)
    ∙ ap (λ b. (are_among names given && is_among names s.name) && b) (apart-last given s)
    ∙ regrouped (are_among names given) (is_among names s.name) (are_apart setting_cmp given)
    (not (is_given s.name given))

-- Options that aren't allowed aren't allowed with more options after them either.
pub refused-more : (names : List (List ℕ)) (given more : List Setting) → are_allowed names given ≡ false
    → are_allowed names (given ++ more) ≡ false
refused-more names given [] e = ap (are_allowed names) (append-nil given) ∙ e
refused-more names given (s ∷ more) e =
    ap (are_allowed names) (sym (append_assoc given (s ∷ []) more))
    ∙ refused-more names (given ++ s ∷ []) more (allowed-last names given s
    ∙ ap (λ b. b && (is_among names s.name && not (is_given s.name given))) e)

-- Nor is one whose name is none of the names.
pub refused-other : (names : List (List ℕ)) (given : List Setting) (s : Setting) → is_among names s.name ≡ false
    → are_allowed names (given ++ s ∷ []) ≡ false
refused-other names given s e =
    allowed-last names given s
    ∙ ap (λ b. are_allowed names given && (b && not (is_given s.name given))) e ∙ both-false (are_allowed names given)
