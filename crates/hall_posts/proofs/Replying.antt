-- What a reply says of a prefix of the history holds of the history.
use Rattle.std.proofs.Common.{◌≡◌, ◌⊎◌, inl, inr, ℕ, zero, suc, ◌<◌, ◌≤◌, ◌+◌, List, [], ◌∷◌, ◌++◌, length, take}
use Rattle.std.proofs.Common.{Option, Some, None, refl, sym, arith, subst, length-append}
use Rattle.std.specs.Prelude.{slice_get}
use Rattle.std.proofs.lemmas.List.{take_all, take-append-le}
use Rattle.portal_hall.specs.History.{Step, Begins, replay, Accepts, Refuses}
use Rattle.portal_hall.specs.Passes.{IsEntry, IsRefusal}
use Rattle.hall_posts.specs.Replies.{IsReplyAt}

get_within : {E : Type 0} (k : ℕ) (e : E) (xs rest : List E) → slice_get xs k ≡ Some e → slice_get (xs ++ rest) k ≡ Some e
get_within k e [] rest is = absurd (cc is)
get_within zero e (x ∷ xs) rest is = is
get_within (suc k) e (x ∷ xs) rest is = get_within k e xs rest is

get_below : {E : Type 0} (k : ℕ) (e : E) (xs : List E) → slice_get xs k ≡ Some e → k < length xs
get_below k e [] is = absurd (cc is)
get_below zero e (x ∷ xs) is = omega arith
get_below (suc k) e (x ∷ xs) is = let h = get_below k e xs is in omega arith

module _ {C E R : Type 0} (step : C → E → Step C R) (IsOutOfMemory IsFault : R → Type 0) (core : C) where
  pub reply_later : (xs ys : List E) (event : E) (reply : R) (front : ℕ) (entry : Option ℕ) → Begins xs ys
      → IsReplyAt step IsOutOfMemory IsFault core xs event reply front entry
      → IsReplyAt step IsOutOfMemory IsFault core ys event reply front entry
  reply_later xs ys event reply front (Some k) b r =
      let below = get_below k event xs r.1 in
      subst (λ (w : List E). IsReplyAt step IsOutOfMemory IsFault core w event reply front (Some k)) (sym b.1) (
        r.0,
        get_within k event xs b.0 r.1,
        subst (λ (w : List E). Accepts step (replay step core w) event reply)
            (sym (take-append-le k xs b.0 (omega arith))) r.2,
      )
  reply_later xs ys event reply front None b r =
      subst (λ (w : List E). IsReplyAt step IsOutOfMemory IsFault core w event reply front None) (sym b.1) (
        omega (arith, r.0, length-append xs b.0),
        subst (λ (w : List E). Refuses step (replay step core w) event reply ⊎ (IsOutOfMemory reply ⊎ IsFault reply))
            (sym (take-append-le front xs b.0 r.0)) r.1,
      )

  pub entry_is_reply : (before after : List E) (event : E) (reply : R) (front k : ℕ)
      → IsEntry step core before after event reply front k
      → IsReplyAt step IsOutOfMemory IsFault core after event reply front (Some k)
  entry_is_reply before after event reply front k e = (e.index, e.recorded, e.answer)

  other_of : (events : List E) (event : E) (reply : R) (m n : ℕ)
      → IsRefusal step IsOutOfMemory IsFault (replay step core events) event reply m n
      → Refuses step (replay step core events) event reply ⊎ (IsOutOfMemory reply ⊎ IsFault reply)
  other_of events event reply m n (inl refused) = inl refused
  other_of events event reply m n (inr (inl short)) = inr (inl short)
  other_of events event reply m n (inr (inr fault)) = inr (inr fault.0)

  pub refusal_is_reply : (events : List E) (event : E) (reply : R) (m n : ℕ)
      → IsRefusal step IsOutOfMemory IsFault (replay step core events) event reply m n
      → IsReplyAt step IsOutOfMemory IsFault core events event reply (length events) None
  refusal_is_reply events event reply m n r = (
    omega arith,
    subst (λ (w : List E). Refuses step (replay step core w) event reply ⊎ (IsOutOfMemory reply ⊎ IsFault reply))
        (sym (take_all (length events) events (omega arith))) (other_of events event reply m n r),
  )
