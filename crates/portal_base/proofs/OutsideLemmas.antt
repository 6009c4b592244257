-- What is observable of several calls together.
use Rattle.std.proofs.Common.{◌≡◌, ℕ, List, [], ◌++◌, ◌∙◌, refl, sym, ap, subst, append_assoc}
use Rattle.std.specs.Prelude.{Option, Some, None, option_map}
use Rattle.std.proofs.lemmas.List.{append-nil}
use Rattle.portal_base.specs.Outside.{Gives, Takes}

-- no bytes came
pub Gives-none : (observed : Option (List ℕ)) (bytes : List ℕ) → bytes ≡ [] → Gives observed bytes observed
Gives-none None bytes e = refl
Gives-none (Some all) bytes e = (all, refl, sym (ap (λ v. v ++ all) e))

pub Gives-append : (a b c : Option (List ℕ)) (x y : List ℕ) → Gives a x b → Gives b y c → Gives a (x ++ y) c
Gives-append None b c x y p q = subst (λ o. Gives o y c) p q
Gives-append (Some all) b c x y p q =
    let r = subst (λ o. Gives o y c) p.1 q in
    (r.0, r.1, p.2 ∙ ap (λ v. x ++ v) r.2 ∙ sym (append_assoc x y r.0))

pub Takes-none : (observed : Option (List ℕ)) → Takes observed [] observed
Takes-none None = refl
Takes-none (Some all) = ap Some (sym (append-nil all))

pub Takes-append : (a b c : Option (List ℕ)) (x y : List ℕ) → Takes a x b → Takes b y c → Takes a (x ++ y) c
Takes-append None b c x y p q = q ∙ ap (option_map (λ all. all ++ y)) p
Takes-append (Some all) b c x y p q = q ∙ ap (option_map (λ all. all ++ y)) p ∙ ap Some (append_assoc all x y)
