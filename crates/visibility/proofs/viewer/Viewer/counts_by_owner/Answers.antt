use Rattle.std.proofs.Common.{◌≡◌, ◌∙◌, ◌&&◌, ℕ, Bool, true, false, List, Result, Ok, Err, IfOk, refl, sym, ap, subst, length}
use Rattle.std.specs.Prelude.{filter}
use Rattle.std.specs.Str.{bytes_eq}
use Rattle.packages.specs.Owners.{count_at}
use Rattle.packages.specs.Shelf.{datasets_of}
use Rattle.packages.specs.declared.package.Package.{Package}
use Rattle.visibility.specs.Viewer.{datasets_for}
use Rattle.visibility.specs.Visibility.{sees_in}
use Rattle.visibility.proofs.ViewLemmas.{filter_both}
use Rattle.visibility.proofs.viewer.Viewer.counts_by_owner.Goals as goal

and_assoc : (a b c : Bool) → (a && (b && c)) ≡ ((a && b) && c)
and_assoc true b c = refl
and_assoc false b c = refl

carry : {A E : Type 0} {P Q : A → Type 0} (r : Result A E) → ((x : A) → P x → Q x) → IfOk r P → IfOk r Q
carry (Ok x) each held = each x held
carry (Err e) each held = tt

-- A dataset of the organization that passes the test and is seen is one among those seen.
pub returns : goal.returns
returns g c =
    let test : Package → Bool = g.T.Test.test c.args.test.now in
    let sees : Package → Bool = sees_in c.self.inside.standing.people c.self.inside.standing.caller in
    subst (λ v. IfOk c.counts_by_owner.result (λ counts. (org : List ℕ) → count_at org counts
    ≡ length (filter (λ d. bytes_eq d.owner_org org && test d) (datasets_for v)))) c.self.view_is
    (carry c.counts_by_owner.result
    (λ counts each org. each org ∙ sym (ap length (filter_both (λ d. bytes_eq d.owner_org org && test d) sees
    (λ d. bytes_eq d.owner_org org && (test d && sees d))
    (λ d. and_assoc (bytes_eq d.owner_org org) (test d) (sees d)) (datasets_of c.self.inside.shelf.now))))
    c.counts_by_owner.ensures)
