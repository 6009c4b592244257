-- What follows the last mark of a text, and what follows a front.
use Rattle.std.proofs.Common.{◌≡◌, ◌≢◌, ℕ, suc, cond, ◌<◌, length, get_or, take, drop, Bool, true, false, ◌||◌, eqb}
use Rattle.std.proofs.Common.{List}
use Rattle.std.proofs.Common.{[], ◌∷◌, ◌++◌, Option, Some, None, Bor, refl, sym, ap, ◌∙◌, subst, arith}
use Rattle.std.specs.List.{list_any, starts_with}
use Rattle.std.specs.Option.{MatchOption, option_copied}
use Rattle.std.specs.Str.{NoCharPasses, IsCharBoundary}
use Rattle.std.specs.Str.Pattern.{RFindsChar, SplitsAroundMatch, FindsTextPrefix, StripsPrefix}
use Rattle.std.proofs.lemmas.Bool.{eqb-true, eq-eqb}
use Rattle.std.proofs.lemmas.List.{take-append-drop}
use Rattle.std.proofs.lemmas.Str.Pattern.{NoCharPasses-char, drop_at_char, starts_text}
use Rattle.std.proofs.lemmas.List.Folds.{list_any-append}
use Rattle.dcat_map.specs.Distributions.{after_mark, last_part, stripped}

none_of : (c : ℕ) (bs : List ℕ) → ((i : ℕ) → i < length bs → get_or bs i 0 ≢ c) → list_any (λ d. eqb d c) bs ≡ false
none_of c [] h = refl
none_of c (b ∷ bs) h =
    let P : Bool → Type 0 = λ v. eqb b c ≡ v → (v || list_any (λ d. eqb d c) bs) ≡ false in
    (elim (eqb b c) as P [
      | true ↦ λ e. absurd (h 0 (omega arith) (eqb-true b c e))
      | false ↦ λ e. none_of c bs (λ i lt. h (suc i) (omega arith))
    ]) refl

-- Without a mark the text is left as it is.
pub after_mark-none : (c : ℕ) (bs : List ℕ) → list_any (λ d. eqb d c) bs ≡ false → after_mark c bs ≡ bs
unfolding after_mark
after_mark-none c [] h = refl
after_mark-none c (b ∷ bs) h =
    let parts : (eqb b c ≡ false) × (list_any (λ d. eqb d c) bs ≡ false) = both _ _ h in
    rw (parts.1, parts.0) refl
  where
    both : (p q : Bool) → (p || q) ≡ false → (p ≡ false) × (q ≡ false)
    both true q e = absurd (cc)
    both false q e = (refl, e)

any_later : (c : ℕ) (front rest : List ℕ) → list_any (λ d. eqb d c) (front ++ c ∷ rest) ≡ true
any_later c [] rest = ap (λ v. v || list_any (λ d. eqb d c) rest) (eq-eqb c c refl)
any_later c (f ∷ fs) rest =
    let P : Bool → Type 0 = λ v. (v || list_any (λ d. eqb d c) (fs ++ c ∷ rest)) ≡ true in
    elim (eqb f c) as P [ true ↦ refl | false ↦ any_later c fs rest ]

-- The rest follows the last mark.
pub after_mark-last : (c : ℕ) (front rest : List ℕ) → list_any (λ d. eqb d c) rest ≡ false
    → after_mark c (front ++ c ∷ rest) ≡ rest
unfolding after_mark
after_mark-last c [] rest h = rw (h, eq-eqb c c refl) refl
after_mark-last c (f ∷ fs) rest h = rw (any_later c fs rest) (after_mark-last c fs rest h)

-- What has no mark stays as it is, after what follows the last mark before it.
after_mark-unmarked : (c : ℕ) (front rest : List ℕ) → list_any (λ d. eqb d c) rest ≡ false
    → after_mark c (front ++ rest) ≡ after_mark c front ++ rest
unfolding after_mark
after_mark-unmarked c [] rest h = after_mark-none c rest h
after_mark-unmarked c (f ∷ fs) rest h =
    let P : Bool → Type 0 = λ v. cond v (after_mark c fs ++ rest) (cond (eqb f c) (fs ++ rest) (f ∷ fs ++ rest))
    ≡ cond v (after_mark c fs) (cond (eqb f c) fs (f ∷ fs)) ++ rest in
    let Q : Bool → Type 0 = λ v. cond v (fs ++ rest) (f ∷ fs ++ rest) ≡ cond v fs (f ∷ fs) ++ rest in
    let marked : list_any (λ d. eqb d c) (fs ++ rest) ≡ list_any (λ d. eqb d c) fs =
    list_any-append (λ d. eqb d c) fs rest ∙ ap (λ v. list_any (λ d. eqb d c) fs || v) h ∙ or_false _ in
    ap (λ v. cond v (after_mark c (fs ++ rest)) (cond (eqb f c) (fs ++ rest) (f ∷ fs ++ rest))) marked
    ∙ ap (λ (l : List ℕ). cond (list_any (λ d. eqb d c) fs) l (cond (eqb f c) (fs ++ rest) (f ∷ fs ++ rest)))
    (after_mark-unmarked c fs rest h)
    ∙ elim (list_any (λ d. eqb d c) fs) as P [
      | true ↦ refl
      | false ↦ elim (eqb f c) as Q [ true ↦ refl | false ↦ refl ]
    ]
  where
    or_false : (v : Bool) → (v || false) ≡ v
    or_false true = refl
    or_false false = refl

-- The last part follows the last slash or number sign.
pub last_part-slash : (front rest : List ℕ) → list_any (λ c. eqb c 47) rest ≡ false
    → list_any (λ c. eqb c 35) rest ≡ false → last_part (front ++ 47 ∷ rest) ≡ rest
last_part-slash front rest slash sign = ap (after_mark 35) (after_mark-last 47 front rest slash)
    ∙ after_mark-none 35 rest sign

pub last_part-sign : (front rest : List ℕ) → list_any (λ c. eqb c 47) rest ≡ false
    → list_any (λ c. eqb c 35) rest ≡ false → last_part (front ++ 35 ∷ rest) ≡ rest
last_part-sign front rest slash sign = ap (after_mark 35) (after_mark-unmarked 47 front (35 ∷ rest) slash)
    ∙ after_mark-last 35 (after_mark 47 front) rest sign

pub last_part-none : (text : List ℕ) → list_any (λ c. eqb c 47) text ≡ false → list_any (λ c. eqb c 35) text ≡ false
    → last_part text ≡ text
last_part-none text slash sign = ap (after_mark 35) (after_mark-none 47 text slash) ∙ after_mark-none 35 text sign

-- What `rsplit_once` gives.
pub after_mark-split : (c : ℕ) (s front back : List ℕ) → SplitsAroundMatch (RFindsChar c) s front back → c < 128
    → back ≡ after_mark c s
after_mark-split c s front back h small =
    let rest = drop h.1 s in
    let free : list_any (λ d. eqb d c) rest ≡ false =
    none_of c rest (λ i lt. NoCharPasses-char c rest i h.2.0 small lt) in
    let whole : take h.0 s ++ c ∷ rest ≡ s = ap (λ l. take h.0 s ++ l) (sym (drop_at_char c s h.0 h.1 h.2.1 small))
    ∙ take-append-drop h.0 s in
    h.4 ∙ sym (after_mark-last c (take h.0 s) rest free) ∙ ap (after_mark c) whole

pub after_mark-unsplit : (c : ℕ) (s : List ℕ) → NoCharPasses (λ d. eqb d c) s → c < 128 → s ≡ after_mark c s
after_mark-unsplit c s h small = sym (after_mark-none c s (none_of c s (λ i lt. NoCharPasses-char c s i h small lt)))

-- What `strip_prefix` gives.
pub stripped-some : (front s x : List ℕ) → StripsPrefix (FindsTextPrefix front) s x → Some x ≡ stripped front s
unfolding stripped
stripped-some front s x h =
    let begins : true ≡ starts_with eqb s front =
    starts_text true front s (h.0, h.1, subst (λ n. IsCharBoundary s n) (sym h.1.0) h.1.2) in
    let long : h.0 ≡ length front = h.1.0 in
    rw (sym begins) (ap Some (h.2 ∙ ap (λ n. drop n s) long))

pub stripped-none : (front s : List ℕ) → FindsTextPrefix front s None → None ≡ stripped front s
unfolding stripped
stripped-none front s h =
    let begins : false ≡ starts_with eqb s front = starts_text false front s h in
    rw (sym begins) refl

pub stripped-cases : (front s : List ℕ) (r : Option (Bor (List ℕ)))
    → MatchOption r (FindsTextPrefix front s None) (λ x. StripsPrefix (FindsTextPrefix front) s x.now)
    → option_copied r ≡ stripped front s
stripped-cases front s None h = stripped-none front s h
stripped-cases front s (Some x) h = stripped-some front s x.now h
