-- What is known of a shared distribution is what the graph says of it.
use Rattle.std.proofs.Common.{◌≡◌, ℕ, ◌<◌, true, List, length, sym, ap, ◌∙◌, subst, get_or}
use Rattle.std.specs.Ordering.{is_eq}
use Rattle.ntriples.specs.declared.term.Term.{Term}
use Rattle.ntriples.specs.declared.term.Triple.{Triple}
use Rattle.dcat_map.specs.declared.shared.Shared.{Shared}
use Rattle.dcat_map.specs.Terms.{term_cmp}
use Rattle.dcat_map.specs.Distributions.{distribution_in, AreDescribed}
use Rattle.dcat_map.proofs.Memberships.{equal_from_is_eq}
use Rattle.dcat_map.proofs.Orders.{same_term}

pub known : (g : List Triple) (shared : List Shared) (found : Shared) (k : ℕ) (named node : Term)
    → k < length shared → found ≡ get_or shared k found → named ≡ found.node → is_eq (term_cmp named node) ≡ true
    → AreDescribed g shared → found.distribution ≡ distribution_in g node
known g shared found k named node within at is tied all =
    let said : found.distribution ≡ distribution_in g found.node =
    subst (λ (one : Shared). one.distribution ≡ distribution_in g one.node) (sym at) (all k found within) in
    said ∙ ap (distribution_in g) (sym is ∙ same_term named node (equal_from_is_eq (term_cmp named node) tied))
