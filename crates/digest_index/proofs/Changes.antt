-- What an index has after a change of its parts.
use Rattle.std.proofs.Common.{◌≡◌, ℕ, ◌+◌, ◌≤◌, ◌==◌, Bool, true, false, cond, not, ◌&&◌, Some, None}
use Rattle.std.proofs.Common.{Contains, filter, refl, sym, ap, ◌∙◌, arith, subst, ◌⊎◌, inl, inr, eqb-true, eq-eqb}
use Rattle.std.specs.Prelude.{◌↔◌, insert, nat_eq}
use Rattle.std.specs.List.{list_any}
use Rattle.std.specs.Map.{lookup}
use Rattle.digest_index.specs.Index.{IndexState, IsUnder, Enters, Leaves, LeavesFirst, LeavesFurther, entries_under}
use Rattle.digest_index.specs.Index.{first_under, further_under}
use Rattle.digest_index.specs.declared.Further.{Further}
use Rattle.digest_index.proofs.Entries.{IsEntry, entry-Contains, entry-filter, entry-insert, entry-none}

module _ {N : Type 0} (old new : IndexState N) (digest : ℕ) (number : N) where
  -- the first number of a digest was put
  pub enters_first : first_under digest old ≡ None
      → ((d : ℕ) → first_under d new ≡ cond (nat_eq digest d) (Some number) (first_under d old))
      → new.further ≡ old.further → old.room ≤ new.room + 1 → Enters old new digest number
  enters_first none put further room = record { under = λ d n. (to d n, from d n); room = room }
    where
      Here : ℕ → N → Type 0
      Here d n = (d ≡ digest) × (n ≡ number)

      to : (d : ℕ) (n : N) → IsUnder new d n → IsUnder old d n ⊎ ((d ≡ digest) × (n ≡ number))
      to d n (inr m) = inl (inr (subst (λ es. Contains (further_under d es) n) further m))
      to d n (inl is) = by (nat_eq digest d) refl
        where
          by : (b : Bool) → nat_eq digest d ≡ b → IsUnder old d n ⊎ ((d ≡ digest) × (n ≡ number))
          by true same =
              let both : Some number ≡ Some n =
              sym (put d ∙ ap (λ b. cond b (Some number) (first_under d old)) same) ∙ is in
              inr (sym (eqb-true digest d same), cc)
          by false other =
              inl (inl (sym (put d ∙ ap (λ b. cond b (Some number) (first_under d old)) other) ∙ is))

      from : (d : ℕ) (n : N) → IsUnder old d n ⊎ ((d ≡ digest) × (n ≡ number)) → IsUnder new d n
      from d n (inl (inr m)) = inr (subst (λ es. Contains (further_under d es) n) (sym further) m)
      from d n (inl (inl is)) = by (nat_eq digest d) refl
        where
          by : (b : Bool) → nat_eq digest d ≡ b → IsUnder new d n
          by true same =
              let both : None ≡ Some n =
              sym none ∙ ap (λ k. first_under k old) (eqb-true digest d same) ∙ is in
              absurd (cc)
          by false other = inl (put d ∙ ap (λ b. cond b (Some number) (first_under d old)) other ∙ is)
      from d n (inr here) =
          inl (put d
          ∙ ap (λ b. cond b (Some number) (first_under d old)) (eq-eqb digest d (sym here.0))
          ∙ ap Some (sym here.1))

  -- an entry was inserted among the further ones
  pub enters_further : (i : ℕ) (entry : Further N) → entry.digest ≡ digest → entry.number ≡ number
      → new.firsts ≡ old.firsts → new.further ≡ insert old.further i entry → old.room ≤ new.room + 1
      → Enters old new digest number
  enters_further i entry its_digest its_number firsts further room =
      record { under = λ d n. (to d n, from d n); room = room }
    where
      to : (d : ℕ) (n : N) → IsUnder new d n → IsUnder old d n ⊎ ((d ≡ digest) × (n ≡ number))
      to d n (inl is) = inl (inl (ap (λ fs. lookup (nat_eq d) fs) (sym firsts) ∙ is))
      to d n (inr m) =
          elim ((entry-insert d n old.further i entry).0
          (subst (IsEntry d n) further ((entry-Contains d n new.further).0 m))) [
            | inl was ↦ inl (inr ((entry-Contains d n old.further).1 was))
            | inr here ↦ inr (sym here.0 ∙ its_digest, sym here.1 ∙ its_number)
          ]

      from : (d : ℕ) (n : N) → IsUnder old d n ⊎ ((d ≡ digest) × (n ≡ number)) → IsUnder new d n
      from d n (inl (inl is)) = inl (ap (λ fs. lookup (nat_eq d) fs) firsts ∙ is)
      from d n (inl (inr m)) =
          inr ((entry-Contains d n new.further).1 (subst (IsEntry d n) (sym further)
          ((entry-insert d n old.further i entry).1 (inl ((entry-Contains d n old.further).0 m)))))
      from d n (inr here) =
          inr ((entry-Contains d n new.further).1 (subst (IsEntry d n) (sym further)
          ((entry-insert d n old.further i entry).1
          (inr (its_digest ∙ sym here.0, its_number ∙ sym here.1)))))

  -- the number was removed from the further ones
  pub leaves_further : (E : N → N → Bool) → ((x y : N) → (E x y ≡ true) ↔ (x ≡ y)) → new.firsts ≡ old.firsts
      → new.further ≡ filter (λ e. not (e.digest == digest && E e.number number)) old.further
      → old.room ≤ new.room → LeavesFurther old new digest number
  leaves_further E same firsts further room =
      record { firsts = firsts; further = λ d n. (to d n, from d n); room = room }
    where
      keeps : ℕ → N → Bool
      keeps d n = not (d == digest && E n number)

      kept-apart : (d : ℕ) (n : N) → keeps d n ≡ true → (d ≡ digest) × (n ≡ number) → ⊥
      kept-apart d n kept both =
          let fails : keeps d n ≡ false =
          ap (λ b. not (b && E n number)) (eq-eqb d digest both.0)
          ∙ ap (λ b. not b) ((same n number).1 both.1) in
          cc

      apart-kept : (d : ℕ) (n : N) → ((d ≡ digest) × (n ≡ number) → ⊥) → keeps d n ≡ true
      apart-kept d n apart = by (d == digest) (E n number) refl refl
        where
          by : (a b : Bool) → (d == digest) ≡ a → E n number ≡ b → not (a && b) ≡ true
          by false b is test = refl
          by true false is test = refl
          by true true is test = absurd (apart (eqb-true d digest is, (same n number).0 test))

      to : (d : ℕ) (n : N) → Contains (further_under d new.further) n
          → Contains (further_under d old.further) n × ((d ≡ digest) × (n ≡ number) → ⊥)
      to d n m =
          let was = (entry-filter keeps d n old.further).0
          (subst (IsEntry d n) further ((entry-Contains d n new.further).0 m)) in
          ((entry-Contains d n old.further).1 was.0, kept-apart d n was.1)

      from : (d : ℕ) (n : N) → Contains (further_under d old.further) n × ((d ≡ digest) × (n ≡ number) → ⊥)
          → Contains (further_under d new.further) n
      from d n (m, apart) =
          (entry-Contains d n new.further).1 (subst (IsEntry d n) (sym further)
          ((entry-filter keeps d n old.further).1 ((entry-Contains d n old.further).0 m, apart-kept d n apart)))

-- the number isn't among the further ones
pub leaves_none : {N : Type 0} (s : IndexState N) (digest : ℕ) (number : N) (E : N → N → Bool)
    → ((x y : N) → (E x y ≡ true) ↔ (x ≡ y))
    → list_any (λ (e : Further N). E e.number number) (entries_under digest s.further) ≡ false
    → LeavesFurther s s digest number
leaves_none {N} s digest number E same none =
    record { firsts = refl; further = λ d n. (to d n, λ both. both.0); room = omega arith }
  where
    to : (d : ℕ) (n : N) → Contains (further_under d s.further) n
        → Contains (further_under d s.further) n × ((d ≡ digest) × (n ≡ number) → ⊥)
    to d n m = (
      m,
      λ here. entry-none E same digest number s.further none
          (subst (λ k. IsEntry k number s.further) here.0
          (subst (λ x. IsEntry d x s.further) here.1 ((entry-Contains d n s.further).0 m))),
    )

-- the number was removed from the first one and from the further ones
pub leaves_both : {N : Type 0} (old mid new : IndexState N) (digest : ℕ) (number : N)
    → LeavesFirst old mid digest number → LeavesFurther mid new digest number → Leaves old new digest number
leaves_both {N} old mid new digest number one other =
    record { under = λ d n. (to d n, from d n); room = omega arith }
  where
    first_same : (d : ℕ) → first_under d new ≡ first_under d mid
    first_same d = ap (λ fs. lookup (nat_eq d) fs) other.firsts

    to : (d : ℕ) (n : N) → IsUnder new d n → IsUnder old d n × ((d ≡ digest) × (n ≡ number) → ⊥)
    to d n (inl is) = let was = (one.first d n).0 (sym (first_same d) ∙ is) in (inl was.0, was.1)
    to d n (inr m) =
        let was = (other.further d n).0 m in
        (inr (subst (λ es. Contains (further_under d es) n) one.further was.0), was.1)

    from : (d : ℕ) (n : N) → IsUnder old d n × ((d ≡ digest) × (n ≡ number) → ⊥) → IsUnder new d n
    from d n (inl is, apart) = inl (first_same d ∙ (one.first d n).1 (is, apart))
    from d n (inr m, apart) =
        inr ((other.further d n).1 (subst (λ es. Contains (further_under d es) n) (sym one.further) m, apart))
