-- The rest of a text after a prefix.
use Rattle.std.proofs.Common.{◌≡◌, ℕ, length, drop, true, false, eqb, List, Option, Some, None, Bor}
use Rattle.std.proofs.Common.{refl, sym, ap, ◌∙◌, subst}
use Rattle.std.specs.List.{starts_with}
use Rattle.std.specs.Option.{MatchOption, option_copied}
use Rattle.std.specs.Str.{IsCharBoundary}
use Rattle.std.specs.Str.Pattern.{FindsTextPrefix, StripsPrefix}
use Rattle.std.proofs.lemmas.Str.Pattern.{starts_text}
use Rattle.http_front.specs.ActionTarget.{without_prefix}

without_prefix-some : (front s x : List ℕ) → StripsPrefix (FindsTextPrefix front) s x → Some x ≡ without_prefix front s
unfolding without_prefix
without_prefix-some front s x h =
    let begins : true ≡ starts_with eqb s front =
    starts_text true front s (h.0, h.1, subst (λ n. IsCharBoundary s n) (sym h.1.0) h.1.2) in
    let long : h.0 ≡ length front = h.1.0 in
    rw (sym begins) (ap Some (h.2 ∙ ap (λ n. drop n s) long))

without_prefix-none : (front s : List ℕ) → FindsTextPrefix front s None → None ≡ without_prefix front s
unfolding without_prefix
without_prefix-none front s h =
    let begins : false ≡ starts_with eqb s front = starts_text false front s h in
    rw (sym begins) refl

pub without_prefix-cases : (front s : List ℕ) (r : Option (Bor (List ℕ)))
    → MatchOption r (FindsTextPrefix front s None) (λ x. StripsPrefix (FindsTextPrefix front) s x.now)
    → option_copied r ≡ without_prefix front s
without_prefix-cases front s None h = without_prefix-none front s h
without_prefix-cases front s (Some x) h = without_prefix-some front s x.now h
