-- A number that isn't the first one of the digest is searched for among the further ones.
use Rattle.std.proofs.Common.{◌≡◌, ◌∙◌, map, subst, sym, inl, inr, Contains}
use Rattle.packages.specs.Digest.{digest_of}
use Rattle.packages.specs.ShelfInvariant.{is_named_at}
use Rattle.digest_index.specs.Index.{IsUnder}
use Rattle.packages.proofs.FindLemmas.{find-IfSome, find-IfNone, IfNone-from}
use Rattle.packages.proofs.shelf.find_number.Goals as goal

pub returns-in-None-clause-named : goal.returns-in-None-clause-named
returns-in-None-clause-named c =
    find-IfSome (λ n. is_named_at n c.args.key.now c.args.datasets.now) (map (λ e. e.number) c.further.result.now)
    c.find_further.result c.find_further.ensures

pub returns-in-None-clause-none : goal.returns-in-None-clause-none
returns-in-None-clause-none c =
    let digest : c.digest_of-digest.result ≡ digest_of c.args.key.now = c.digest_of-digest.ensures in
    IfNone-from c.find_further.result _ _
    (find-IfNone (λ n. is_named_at n c.args.key.now c.args.datasets.now) (map (λ e. e.number) c.further.result.now)
    c.find_further.result c.find_further.ensures)
    (λ beside n under.
    elim (subst (λ d. IsUnder c.args.index.now d n) (sym digest) under) [
      | inl first ↦ c.in-None.ensures.none n (c.first.ensures ∙ first)
      | inr further ↦ beside n
          (subst (λ es. Contains (map (λ e. e.number) es) n) (sym c.further.ensures) further)
    ])
