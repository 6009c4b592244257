-- The test by fields says whether two datasets are equal.
use Rattle.std.proofs.Common.{◌≡◌, ℕ, List, [], refl, ap, Decides, length, get_or, arith}
use Rattle.std.specs.Cmp.{booleans_Decides}
use Rattle.std.specs.Cmp.Lexicographic.{pointwise}
use Rattle.std.specs.Str.{bytes_eq}
use Rattle.std.proofs.lemmas.Bool.Decides.{Decides-and, Decides-eqb, Decides-int_eq, Decides-like}
use Rattle.std.proofs.lemmas.Slice.Eq.{bytes_eq-Decides, slice_eq-Decides}
use Rattle.packages.specs.State.{state_name}
use Rattle.packages.specs.declared.package.Package.{Package}
use Rattle.packages.specs.declared.package.Resource.{Resource}
use Rattle.packages.specs.declared.package.State.{State}
use Rattle.packages.specs.declared.package.State.TheVariants.{Draft, Active, Deleted}
use Rattle.harvest_results.specs.Equality.{dataset_texts, equal_datasets, equal_resources, resource_texts}

same_state : (s t : State) → state_name s ≡ state_name t → s ≡ t
same_state Draft Draft e = refl
same_state Active Active e = refl
same_state Deleted Deleted e = refl
same_state Draft Active e = let l = ap length e in absurd (omega arith)
same_state Draft Deleted e = let l = ap length e in absurd (omega arith)
same_state Active Draft e = let l = ap length e in absurd (omega arith)
same_state Active Deleted e = let l = ap length e in absurd (omega arith)
same_state Deleted Draft e = let l = ap length e in absurd (omega arith)
same_state Deleted Active e = let l = ap length e in absurd (omega arith)

Decides-texts : (xs ys : List (List ℕ)) → Decides (pointwise bytes_eq xs ys) (xs ≡ ys)
Decides-texts xs ys = slice_eq-Decides bytes_eq-Decides xs ys _ refl

same_resource : (r s : Resource) → (r.number ≡ s.number) × (resource_texts r ≡ resource_texts s) → r ≡ s
same_resource r s h =
    let at : (k : ℕ) → get_or (resource_texts r) k [] ≡ get_or (resource_texts s) k [] =
    λ k. ap (λ (l : List (List ℕ)). get_or l k []) h.1 in
    λ i. record {
      number = h.0 i;
      name = at 0 i;
      url = at 1 i;
      format = at 2 i;
      description = at 3 i;
      mimetype = at 4 i;
    }

Decides-resource : (r s : Resource) → Decides (equal_resources r s) (r ≡ s)
Decides-resource r s =
    Decides-like _ (same_resource r s) (λ e. (ap (λ (t : Resource). t.number) e, ap resource_texts e))
    (Decides-and _ _ (Decides-eqb r.number s.number) (Decides-texts (resource_texts r) (resource_texts s)))

-- the values of a dataset's fields
Fields : Package → Package → Type 0
Fields d e =
    (dataset_texts d ≡ dataset_texts e)
    × ((d.private ≡ e.private)
    × ((d.tags ≡ e.tags)
    × ((d.resources ≡ e.resources)
    × ((d.next_resource ≡ e.next_resource) × ((d.created ≡ e.created) × (d.modified ≡ e.modified))))))

same_dataset : (d e : Package) → Fields d e → d ≡ e
unfolding Fields
same_dataset d e h =
    let at : (k : ℕ) → get_or (dataset_texts d) k [] ≡ get_or (dataset_texts e) k [] =
    λ k. ap (λ (l : List (List ℕ)). get_or l k []) h.0 in
    let state = same_state d.state e.state (at 13) in
    λ i. record {
      id = at 0 i;
      name = at 1 i;
      title = at 2 i;
      notes = at 3 i;
      author = at 4 i;
      maintainer = at 5 i;
      license_id = at 6 i;
      url = at 7 i;
      version = at 8 i;
      owner_org = at 9 i;
      private = h.1.0 i;
      state = state i;
      tags = h.1.1.0 i;
      resources = h.1.1.1.0 i;
      next_resource = h.1.1.1.1.0 i;
      creator = at 10 i;
      created = h.1.1.1.1.1.0 i;
      modified = h.1.1.1.1.1.1 i;
      source = at 11 i;
      iri = at 12 i;
    }

fields_of : (d e : Package) → d ≡ e → Fields d e
unfolding Fields
fields_of d e same = (
  ap dataset_texts same,
  (
    ap (λ (p : Package). p.private) same,
    (
      ap (λ (p : Package). p.tags) same,
      (
        ap (λ (p : Package). p.resources) same,
        (
          ap (λ (p : Package). p.next_resource) same,
          (ap (λ (p : Package). p.created) same, ap (λ (p : Package). p.modified) same),
        ),
      ),
    ),
  ),
)

Decides-fields : (d e : Package) → Decides (equal_datasets d e) (Fields d e)
unfolding Fields
Decides-fields d e =
    Decides-and _ _ (Decides-texts (dataset_texts d) (dataset_texts e))
    (Decides-and _ _ (booleans_Decides d.private e.private)
    (Decides-and _ _ (Decides-texts d.tags e.tags)
    (Decides-and _ _ (slice_eq-Decides Decides-resource d.resources e.resources _ refl)
    (Decides-and _ _ (Decides-eqb d.next_resource e.next_resource)
    (Decides-and _ _ (Decides-int_eq d.created e.created) (Decides-int_eq d.modified e.modified))))))

pub Decides-dataset : (d e : Package) → Decides (equal_datasets d e) (d ≡ e)
Decides-dataset d e = Decides-like _ (same_dataset d e) (fields_of d e) (Decides-fields d e)
