use Rattle.std.proofs.Common.{◌≡◌, ◌++◌, [], ◌∷◌, ◌<◌, ◌^◌, ◌∙◌, ap, append_assoc, suc, arith, subst, map, List}
use Rattle.slab.specs.Slab.{entries}
use Rattle.std.specs.List.{All}
use Rattle.packages.proofs.walk.numbers_of.Goals as goal

tail : {X : Type 0} (P : X → Type 0) (x : X) (xs : List X) → All P (x ∷ xs) → All P xs
tail P x xs all = λ k d lt. all (suc k) d (omega (lt, arith))

-- The remaining numbers stay below 2^32.
pub loop-entry-preserved : goal.loop-entry-preserved
loop-entry-preserved c = (
  tt,
  tt,
  ap (λ numbers. numbers ++ map (λ e. e.0) c.next.new.self) c.in_ok-push.ensures.items
      ∙ append_assoc c.loop-entry.numbers.items (c.in-Some.entry.0 ∷ []) (map (λ e. e.0) c.next.new.self)
      ∙ subst (λ es. c.loop-entry.numbers.items ++ map (λ e. e.0) es ≡ map (λ e. e.0) (entries c.args.datasets.now))
      c.in-Some.ensures.steps c.loop-entry.invariant.2,
  tail (λ e. e.0 < 2 ^ 32) _ c.next.new.self
      (subst (All (λ e. e.0 < 2 ^ 32)) c.in-Some.ensures.steps c.loop-entry.invariant.3),
)
