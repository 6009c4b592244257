-- Links that passed a desk after others.
use Rattle.std.proofs.Common.{◌≡◌, ℕ, zero, suc, ◌+◌, ◌≤◌, List, [], ◌∷◌, ◌++◌, length, Option, Some, None}
use Rattle.std.proofs.Common.{map, refl, sym, ap, subst, ◌∙◌, append_assoc, append-nil, length-append, arith}
use Rattle.std.specs.Prelude.{option_map}
use Rattle.std.proofs.lemmas.List.{map-append}
use Rattle.portal_base.specs.Counted.{next_count}
use Rattle.portal_base.specs.Outside.{Draws, GivesOne}
use Rattle.portal_links.specs.Desk.{DeskTrace, DrawsAll, GivesAll, PassesLinks, TakesAll, Visit, counted}

-- ---- the devices

pub DrawsAll-none : {X : Type 0} (o : Option (List X)) → DrawsAll o [] o
DrawsAll-none None = tt
DrawsAll-none (Some xs) = sym (append-nil xs)

pub DrawsAll-more : {X : Type 0} (a b c : Option (List X)) (xs ys : List X) → DrawsAll a xs b → DrawsAll b ys c
    → DrawsAll a (xs ++ ys) c
DrawsAll-more a b None xs ys first second = tt
DrawsAll-more a None (Some zs) xs ys first second = absurd second
DrawsAll-more None (Some bs) (Some zs) xs ys first second = absurd first
DrawsAll-more (Some fs) (Some bs) (Some zs) xs ys first second = second ∙ ap (λ l. l ++ ys) first
    ∙ append_assoc fs xs ys

pub DrawsAll-one : {X : Type 0} (a b : Option (List X)) (x : X) → Draws a x b → DrawsAll a (x ∷ []) b
DrawsAll-one a b x h = h

-- none was drawn
pub DrawsAll-same : {X : Type 0} (a b : Option (List X)) → b ≡ a → DrawsAll a [] b
DrawsAll-same a b e = subst (λ o. DrawsAll a [] o) (sym e) (DrawsAll-none a)

-- one was drawn, and then none
pub DrawsAll-once : {X : Type 0} (a b c : Option (List X)) (x : X) → Draws a x b → c ≡ b → DrawsAll a (x ∷ []) c
DrawsAll-once a b c x h e = subst (λ o. DrawsAll a (x ∷ []) o) (sym e) (DrawsAll-one a b x h)

gives_none : {X : Type 0} (o : Option (List X)) → GivesAll o [] o
gives_none None = refl
gives_none (Some xs) = (xs, refl, refl)

gives_more : {X : Type 0} (a b c : Option (List X)) (xs ys : List X) → GivesAll a xs b → GivesAll b ys c
    → GivesAll a (xs ++ ys) c
gives_more None b c xs ys first second = subst (λ o. GivesAll o ys c) first second
gives_more (Some all) b c xs ys first second =
    let rest = subst (λ o. GivesAll o ys c) first.1 second in
    (rest.0, rest.1, first.2 ∙ ap (λ r. xs ++ r) rest.2 ∙ sym (append_assoc xs ys rest.0))

pub gives_one : {X : Type 0} (old new : Option (List X)) (x : X) → GivesOne old x new → GivesAll old (x ∷ []) new
gives_one None new x gave = gave
gives_one (Some all) None x gave = absurd gave
gives_one (Some all) (Some rest) x gave = (rest, refl, gave)

takes_none : {X : Type 0} (o : Option (List X)) → TakesAll o [] o
takes_none None = refl
takes_none (Some xs) = ap (λ l. Some l) (sym (append-nil xs))

takes_more : {X : Type 0} (a b c : Option (List X)) (xs ys : List X) → TakesAll a xs b → TakesAll b ys c
    → TakesAll a (xs ++ ys) c
takes_more None b c xs ys first second = second ∙ ap (option_map (λ all. all ++ ys)) first
takes_more (Some all) b c xs ys first second =
    second ∙ ap (option_map (λ l. l ++ ys)) first ∙ ap (λ l. Some l) (append_assoc all xs ys)

counted_more : (m n count : ℕ) → counted (m + n) count ≡ counted n (counted m count)
counted_more zero n count = let none : 0 + n ≡ n = omega arith in ap (λ k. counted k count) none
counted_more (suc m) n count =
    let one : suc m + n ≡ suc (m + n) = omega arith in
    ap (λ k. counted k count) one ∙ counted_more m n (next_count count)

-- ---- links

-- no link passed, and nothing but the count of faults changed
pub passes_none : {Peer : Type 0} (limit : ℕ) (old new : DeskTrace Peer) → new.to_come ≡ old.to_come
    → new.taken_back ≡ old.taken_back → new.count ≡ old.count → new.moments ≡ old.moments → new.nonces ≡ old.nonces
    → PassesLinks limit [] old new
passes_none limit old new to_come taken_back count moments nonces = record {
  few = omega arith;
  came = subst (λ o. GivesAll old.to_come [] o) (sym to_come) (gives_none old.to_come);
  back = taken_back ∙ takes_none old.taken_back;
  count = count;
  clock = subst (λ o. DrawsAll old.moments [] o) (sym moments) (DrawsAll-none old.moments);
  numbers = subst (λ o. DrawsAll old.nonces [] o) (sym nonces) (DrawsAll-none old.nonces);
}

-- one link passed
pub passes_one : {Peer : Type 0} (old new : DeskTrace Peer) (v : Visit Peer)
    → GivesAll old.to_come (v.link ∷ []) new.to_come → TakesAll old.taken_back (v.back ∷ []) new.taken_back
    → new.count ≡ next_count old.count → DrawsAll old.moments (v.moment ∷ []) new.moments
    → DrawsAll old.nonces (v.nonce ∷ []) new.nonces → PassesLinks 1 (v ∷ []) old new
passes_one old new v came back count clock numbers =
    record { few = omega arith; came = came; back = back; count = count; clock = clock; numbers = numbers }

-- links passed, and then others
pub passes_more : {Peer : Type 0} (first second limit : ℕ) (visits more : List (Visit Peer)) (a b c : DeskTrace Peer)
    → length visits + length more ≤ limit → PassesLinks first visits a b → PassesLinks second more b c
    → PassesLinks limit (visits ++ more) a c
passes_more first second limit visits more a b c both x y =
    let total : length (visits ++ more) ≡ length visits + length more = length-append visits more in
    record {
      few = omega (arith, total, both);
      came = subst (λ l. GivesAll a.to_come l c.to_come) (sym (map-append (λ v. v.link) visits more))
          (gives_more a.to_come b.to_come c.to_come (map (λ v. v.link) visits) (map (λ v. v.link) more) x.came y.came);
      back = subst (λ l. TakesAll a.taken_back l c.taken_back) (sym (map-append (λ v. v.back) visits more))
          (takes_more a.taken_back b.taken_back c.taken_back (map (λ v. v.back) visits) (map (λ v. v.back) more) x.back
          y.back);
      count = y.count ∙ ap (counted (length more)) x.count
          ∙ sym (ap (λ k. counted k a.count) total ∙ counted_more (length visits) (length more) a.count);
      clock = subst (λ l. DrawsAll a.moments l c.moments) (sym (map-append (λ v. v.moment) visits more))
          (DrawsAll-more a.moments b.moments c.moments (map (λ v. v.moment) visits) (map (λ v. v.moment) more) x.clock
          y.clock);
      numbers = subst (λ l. DrawsAll a.nonces l c.nonces) (sym (map-append (λ v. v.nonce) visits more))
          (DrawsAll-more a.nonces b.nonces c.nonces (map (λ v. v.nonce) visits) (map (λ v. v.nonce) more) x.numbers
          y.numbers);
    }

-- another limit
pub passes_within : {Peer : Type 0} (first limit : ℕ) (visits : List (Visit Peer)) (a b : DeskTrace Peer)
    → length visits ≤ limit → PassesLinks first visits a b → PassesLinks limit visits a b
passes_within first limit visits a b within x = record {
  few = within;
  came = x.came;
  back = x.back;
  count = x.count;
  clock = x.clock;
  numbers = x.numbers;
}
