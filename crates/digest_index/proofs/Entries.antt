-- The further entries of an index: membership, the run of a digest, and how both change.
use Rattle.std.proofs.Common.{◌≡◌, ℕ, zero, suc, ◌<◌, ◌≤◌, ◌==◌, ltb, leb, Bool, true, false, cond, ◌||◌}
use Rattle.std.proofs.Common.{List, [], ◌∷◌, ◌++◌, length, get_or, take, drop, map, filter, Contains, refl, sym, ap, ◌∙◌, subst}
use Rattle.std.proofs.Common.{◌⊎◌, inl, inr, arith, ltb-true, ltb-false, leb-true, leb-false, eqb-true, eq-eqb, ne_eqb}
use Rattle.std.specs.Prelude.{◌↔◌, insert}
use Rattle.std.specs.List.{AllWithin, list_any}
use Rattle.std.proofs.lemmas.List.{take-append-drop}
use Rattle.digest_index.specs.Index.{entries_under, further_under}
use Rattle.digest_index.specs.declared.Further.{Further}

-- ---- members

-- one of the entries has the digest and the number
abbrev pub IsEntry : {N : Type 0} → ℕ → N → List (Further N) → Type 0
IsEntry d n [] = ⊥
IsEntry d n (e ∷ es) = ((e.digest ≡ d) × (e.number ≡ n)) ⊎ IsEntry d n es

-- z is one of the items
IsIn : {X : Type 0} → X → List X → Type 0
IsIn z [] = ⊥
IsIn z (x ∷ xs) = (z ≡ x) ⊎ IsIn z xs

IsIn-get_or : {X : Type 0} (z : X) (xs : List X) (k : ℕ) → k < length xs → get_or xs k z ≡ z → IsIn z xs
unfolding IsIn
IsIn-get_or z [] k lt e = absurd (omega arith)
IsIn-get_or z (x ∷ xs) zero lt e = inl (sym e)
IsIn-get_or z (x ∷ xs) (suc k) lt e = inr (IsIn-get_or z xs k (omega arith) e)

Contains-IsIn : {X : Type 0} (z : X) (xs : List X) → IsIn z xs → Contains xs z
unfolding IsIn
Contains-IsIn z [] m = absurd m
Contains-IsIn z (x ∷ xs) (inl e) = (0, omega arith, sym e)
Contains-IsIn z (x ∷ xs) (inr m) = let c = Contains-IsIn z xs m in (suc c.0, omega arith, c.2)

entry_of : {N : Type 0} (d : ℕ) (n : N) (es : List (Further N)) → IsIn n (further_under d es) → IsEntry d n es
unfolding IsIn
entry_of d n [] m = absurd m
entry_of {N} d n (e ∷ es) m = by (e.digest == d) refl m (λ rest. entry_of d n es rest)
  where
    by : (b : Bool) → (e.digest == d) ≡ b
        → IsIn n (map (λ (f : Further N). f.number) (cond b (e ∷ entries_under d es) (entries_under d es)))
        → (IsIn n (further_under d es) → IsEntry d n es) → IsEntry d n (e ∷ es)
    by true is (inl same) more = inl (eqb-true e.digest d is, sym same)
    by true is (inr rest) more = inr (more rest)
    by false is rest more = inr (more rest)

of_entry : {N : Type 0} (d : ℕ) (n : N) (es : List (Further N)) → IsEntry d n es → IsIn n (further_under d es)
unfolding IsIn
of_entry d n [] m = absurd m
of_entry {N} d n (e ∷ es) m = by (e.digest == d) refl m (λ rest. of_entry d n es rest)
  where
    by : (b : Bool) → (e.digest == d) ≡ b → IsEntry d n (e ∷ es)
        → (IsEntry d n es → IsIn n (further_under d es))
        → IsIn n (map (λ (f : Further N). f.number) (cond b (e ∷ entries_under d es) (entries_under d es)))
    by true is (inl both) more = inl (sym both.1)
    by true is (inr rest) more = inr (more rest)
    by false is (inl both) more =
        let same : (e.digest == d) ≡ true = eq-eqb e.digest d both.0 in
        absurd (cc)
    by false is (inr rest) more = more rest

-- The further numbers of a digest are those of its entries.
pub entry-Contains : {N : Type 0} (d : ℕ) (n : N) (es : List (Further N))
    → Contains (further_under d es) n ↔ IsEntry d n es
entry-Contains d n es = (
  λ (c : Contains (further_under d es) n).
      entry_of d n es (IsIn-get_or n (further_under d es) c.0 c.1 c.2),
  λ (m : IsEntry d n es). Contains-IsIn n (further_under d es) (of_entry d n es m),
)

-- ---- the run of a digest

-- The entries with a digest are those between the ones with lower digests and the ones with higher digests.
pub run_is : {N : Type 0} (d start end : ℕ) (es : List (Further N))
    → AllWithin (λ (e : Further N). ltb e.digest d ≡ true) es 0 start
    → AllWithin (λ (e : Further N). ltb e.digest d ≡ false) es start (length es)
    → AllWithin (λ (e : Further N). leb e.digest d ≡ true) es 0 end
    → AllWithin (λ (e : Further N). leb e.digest d ≡ false) es end (length es)
    → drop start (take end es) ≡ entries_under d es
run_is d zero zero [] low rest high above = refl
run_is d zero (suc end) [] low rest high above = refl
run_is d (suc start) zero [] low rest high above = refl
run_is d (suc start) (suc end) [] low rest high above = refl
run_is d zero zero (e ∷ es) low rest high above =
    let up = leb-false e.digest d (above 0 e (omega arith) (omega arith)) in
    let other : (e.digest == d) ≡ false = ne_eqb e.digest d (λ same. omega arith) in
    let more : drop 0 (take 0 es) ≡ entries_under d es = run_is d zero zero es
    (λ k f le lt. absurd (omega arith)) (λ k f le lt. rest (suc k) f (omega arith) (omega arith))
    (λ k f le lt. absurd (omega arith)) (λ k f le lt. above (suc k) f (omega arith) (omega arith)) in
    more ∙ ap (λ b. cond b (e ∷ entries_under d es) (entries_under d es)) (sym other)
run_is d zero (suc end) (e ∷ es) low rest high above =
    let from = ltb-false e.digest d (rest 0 e (omega arith) (omega arith)) in
    let up = leb-true e.digest d (high 0 e (omega arith) (omega arith)) in
    let same : (e.digest == d) ≡ true = eq-eqb e.digest d (omega arith) in
    let more : drop 0 (take end es) ≡ entries_under d es = run_is d zero end es
    (λ k f le lt. absurd (omega arith)) (λ k f le lt. rest (suc k) f (omega arith) (omega arith))
    (λ k f le lt. high (suc k) f (omega arith) (omega arith))
    (λ k f le lt. above (suc k) f (omega arith) (omega arith)) in
    ap (λ l. e ∷ l) more ∙ ap (λ b. cond b (e ∷ entries_under d es) (entries_under d es)) (sym same)
run_is d (suc start) zero (e ∷ es) low rest high above =
    let down = ltb-true e.digest d (low 0 e (omega arith) (omega arith)) in
    let up = leb-false e.digest d (above 0 e (omega arith) (omega arith)) in
    absurd (omega arith)
run_is d (suc start) (suc end) (e ∷ es) low rest high above =
    let down = ltb-true e.digest d (low 0 e (omega arith) (omega arith)) in
    let other : (e.digest == d) ≡ false = ne_eqb e.digest d (λ same. omega arith) in
    let more : drop start (take end es) ≡ entries_under d es = run_is d start end es
    (λ k f le lt. low (suc k) f (omega arith) (omega arith)) (λ k f le lt. rest (suc k) f (omega arith) (omega arith))
    (λ k f le lt. high (suc k) f (omega arith) (omega arith))
    (λ k f le lt. above (suc k) f (omega arith) (omega arith)) in
    more ∙ ap (λ b. cond b (e ∷ entries_under d es) (entries_under d es)) (sym other)

-- The run starts at or before its end.
pub run_starts : {N : Type 0} (d start end : ℕ) (es : List (Further N))
    → AllWithin (λ (e : Further N). ltb e.digest d ≡ true) es 0 start
    → AllWithin (λ (e : Further N). leb e.digest d ≡ false) es end (length es)
    → start ≤ length es → start ≤ end
run_starts d zero end es low above le = omega arith
run_starts d (suc start) end [] low above le = absurd (omega arith)
run_starts d (suc start) zero (e ∷ es) low above le =
    let down = ltb-true e.digest d (low 0 e (omega arith) (omega arith)) in
    let up = leb-false e.digest d (above 0 e (omega arith) (omega arith)) in
    absurd (omega arith)
run_starts d (suc start) (suc end) (e ∷ es) low above le =
    let rest = run_starts d start end es (λ k f le lt. low (suc k) f (omega arith) (omega arith))
    (λ k f le lt. above (suc k) f (omega arith) (omega arith)) (omega arith) in
    omega arith

-- ---- an entry that is added

entry_left : {N : Type 0} (d : ℕ) (n : N) (es fs : List (Further N)) → IsEntry d n es → IsEntry d n (es ++ fs)
entry_left d n [] fs m = absurd m
entry_left d n (e ∷ es) fs (inl same) = inl same
entry_left d n (e ∷ es) fs (inr m) = inr (entry_left d n es fs m)

entry_right : {N : Type 0} (d : ℕ) (n : N) (es fs : List (Further N)) → IsEntry d n fs → IsEntry d n (es ++ fs)
entry_right d n [] fs m = m
entry_right d n (e ∷ es) fs m = inr (entry_right d n es fs m)

entry_cases : {N : Type 0} (d : ℕ) (n : N) (es fs : List (Further N)) → IsEntry d n (es ++ fs)
    → IsEntry d n es ⊎ IsEntry d n fs
entry_cases d n [] fs m = inr m
entry_cases d n (e ∷ es) fs (inl same) = inl (inl same)
entry_cases d n (e ∷ es) fs (inr m) =
    elim (entry_cases d n es fs m) [ inl left ↦ inl (inr left) | inr right ↦ inr right ]

-- After an insertion the entries are the old ones and the new one.
pub entry-insert : {N : Type 0} (d : ℕ) (n : N) (es : List (Further N)) (i : ℕ) (new : Further N)
    → IsEntry d n (insert es i new) ↔ (IsEntry d n es ⊎ ((new.digest ≡ d) × (new.number ≡ n)))
entry-insert {N} d n es i new = (to, from)
  where
    whole : take i es ++ drop i es ≡ es
    whole = take-append-drop i es

    to : IsEntry d n (take i es ++ new ∷ drop i es) → IsEntry d n es ⊎ ((new.digest ≡ d) × (new.number ≡ n))
    to m =
        elim (entry_cases d n (take i es) (new ∷ drop i es) m) [
          | inl left ↦ inl (subst (IsEntry d n) whole (entry_left d n (take i es) (drop i es) left))
          | inr (inl same) ↦ inr same
          | inr (inr right) ↦ inl (subst (IsEntry d n) whole (entry_right d n (take i es) (drop i es) right))
        ]

    from : IsEntry d n es ⊎ ((new.digest ≡ d) × (new.number ≡ n)) → IsEntry d n (take i es ++ new ∷ drop i es)
    from (inr same) = entry_right d n (take i es) (new ∷ drop i es) (inl same)
    from (inl m) =
        elim (entry_cases d n (take i es) (drop i es) (subst (IsEntry d n) (sym whole) m)) [
          | inl left ↦ entry_left d n (take i es) (new ∷ drop i es) left
          | inr right ↦ entry_right d n (take i es) (new ∷ drop i es) (inr right)
        ]

-- ---- entries that are removed

-- After a filter the entries are the old ones that pass the test.
pub entry-filter : {N : Type 0} (keeps : ℕ → N → Bool) (d : ℕ) (n : N) (es : List (Further N))
    → IsEntry d n (filter (λ e. keeps e.digest e.number) es) ↔ (IsEntry d n es × (keeps d n ≡ true))
entry-filter {N} keeps d n [] = (λ m. absurd m, λ m. absurd m.0)
entry-filter {N} keeps d n (e ∷ es) =
    let more = entry-filter keeps d n es in
    (to (keeps e.digest e.number) refl more.0, from (keeps e.digest e.number) refl more.1)
  where
    rest : List (Further N)
    rest = filter (λ f. keeps f.digest f.number) es

    to : (b : Bool) → keeps e.digest e.number ≡ b → (IsEntry d n rest → IsEntry d n es × (keeps d n ≡ true))
        → IsEntry d n (cond b (e ∷ rest) rest) → IsEntry d n (e ∷ es) × (keeps d n ≡ true)
    to true is more (inl same) =
        (inl same, ap (λ x. keeps x n) (sym same.0) ∙ ap (keeps e.digest) (sym same.1) ∙ is)
    to true is more (inr m) = (inr (more m).0, (more m).1)
    to false is more m = (inr (more m).0, (more m).1)

    from : (b : Bool) → keeps e.digest e.number ≡ b → (IsEntry d n es × (keeps d n ≡ true) → IsEntry d n rest)
        → IsEntry d n (e ∷ es) × (keeps d n ≡ true) → IsEntry d n (cond b (e ∷ rest) rest)
    from true is more (inl same, passes) = inl same
    from true is more (inr m, passes) = inr (more (m, passes))
    from false is more (inl same, passes) =
        let fails : keeps d n ≡ false =
        ap (λ x. keeps x n) (sym same.0) ∙ ap (keeps e.digest) (sym same.1) ∙ is in
        absurd (cc)
    from false is more (inr m, passes) = more (m, passes)

-- No entry with the digest has a number that none of the digest's entries has.
pub entry-none : {N : Type 0} (E : N → N → Bool) → ((x y : N) → (E x y ≡ true) ↔ (x ≡ y)) → (d : ℕ) (n : N)
    (es : List (Further N)) → list_any (λ (e : Further N). E e.number n) (entries_under d es) ≡ false
    → IsEntry d n es → ⊥
entry-none E same d n [] none m = absurd m
entry-none {N} E same d n (e ∷ es) none m =
    by (e.digest == d) (E e.number n) refl refl none m (λ rest. entry-none E same d n es rest)
  where
    by : (b t : Bool) → (e.digest == d) ≡ b → E e.number n ≡ t
        → list_any (λ (f : Further N). E f.number n) (cond b (e ∷ entries_under d es) (entries_under d es)) ≡ false
        → IsEntry d n (e ∷ es)
        → (list_any (λ (f : Further N). E f.number n) (entries_under d es) ≡ false → IsEntry d n es → ⊥) → ⊥
    by false t is test none (inr rest) more = more none rest
    by false t is test none (inl both) more =
        let other : (e.digest == d) ≡ true = eq-eqb e.digest d both.0 in
        absurd (cc)
    by true false is test none (inl both) more =
        let alike : E e.number n ≡ true = (same e.number n).1 both.1 in
        absurd (cc)
    by true false is test none (inr rest) more =
        more (sym (ap (λ t. t || list_any (λ (f : Further N). E f.number n) (entries_under d es)) test) ∙ none) rest
    by true true is test none some more =
        let found : (true || list_any (λ (f : Further N). E f.number n) (entries_under d es)) ≡ false =
        sym (ap (λ t. t || list_any (λ (f : Further N). E f.number n) (entries_under d es)) test) ∙ none in
        absurd (cc)
