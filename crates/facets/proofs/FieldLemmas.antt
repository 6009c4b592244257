-- The fields of a request that are counted.
use Rattle.std.proofs.Common.{◌≡◌, ◌≤◌, ℕ, ◌+◌, Bool, true, false, cond, if◌then◌else◌, List, [], ◌∷◌, Option, Some, None}
use Rattle.std.proofs.Common.{refl, sym, arith, length, subst}
use Rattle.std.specs.Prelude.{codes, filter, is_some}
use Rattle.std.specs.Cmp.Lexicographic.{slice_cmp}
use Rattle.std.specs.Ordering.{nat_cmp}
use Rattle.std.specs.Str.{bytes_eq}
use Rattle.std.proofs.lemmas.Slice.Eq.{bytes_eq-Decides}
use Rattle.portal_base.specs.Ordered.{IsAscending}
use Rattle.portal_base.proofs.Unique.{IsIn}
use Rattle.facets.specs.Request.{field_named, fields_shown}
use Rattle.facets.specs.SearchFacets.{counted_names}
use Rattle.facets.specs.Tally.{occurrences}
use Rattle.facets.specs.declared.field.FacetField.{FacetField}
use Rattle.facets.specs.declared.field.FacetField.TheVariants.{LicenseId, Organization, ResFormat, Tags}
use Rattle.facets.proofs.RunLemmas.{not_in_above, occurrences-more, occurrences-none, occurrences-other}
use Rattle.facets.proofs.SetLemmas.{SetsAscend}

-- A text is in a set at most once.
occurs-once : (t : List ℕ) (xs : List (List ℕ)) → IsAscending (slice_cmp nat_cmp) xs → occurrences xs t ≤ 1
occurs-once t [] up = omega arith
occurs-once t (x ∷ xs) up = by (bytes_eq x t) refl (occurs-once t xs up.1)
  where
    by : (b : Bool) → bytes_eq x t ≡ b → occurrences xs t ≤ 1 → occurrences (x ∷ xs) t ≤ 1
    by true same rest =
        let here : x ≡ t = (bytes_eq-Decides x t).0 same in
        let none : occurrences xs t ≡ 0 =
        occurrences-none t xs
        (λ m. not_in_above x xs up.0 (subst (λ (w : List ℕ). IsIn w xs) (sym here) m)) in
        omega (arith, occurrences-more x t xs same, none)
    by false apart rest = omega (arith, occurrences-other x t xs apart, rest)

-- the field by the four tests of its name
abbrev chosen : Bool → Bool → Bool → Bool → Option FacetField
chosen a b c d =
    if a then Some Organization else if b then Some Tags else if c then Some ResFormat
    else if d then Some LicenseId else None

-- Each counted name is one of four.
counted-occur : (xs : List (List ℕ)) → counted_names xs
    ≤ occurrences xs (codes "organization") + occurrences xs (codes "tags") + occurrences xs (codes "res_format")
    + occurrences xs (codes "license_id")
counted-occur [] = omega arith
counted-occur (x ∷ xs) =
    by (bytes_eq x (codes "organization")) (bytes_eq x (codes "tags")) (bytes_eq x (codes "res_format"))
    (bytes_eq x (codes "license_id")) (counted-occur xs)
  where
    same : List ℕ → List (List ℕ)
    same t = filter (λ y. bytes_eq y t) xs

    counted : List (List ℕ)
    counted = filter (λ name. is_some (field_named name)) xs

    longer : (b : Bool) (ys : List (List ℕ)) → length ys ≤ length (cond b (x ∷ ys) ys)
    longer true ys = omega arith
    longer false ys = omega arith

    by : (a b c d : Bool) → length counted
        ≤ length (same (codes "organization")) + length (same (codes "tags")) + length (same (codes "res_format"))
        + length (same (codes "license_id"))
        → length (cond (is_some (chosen a b c d)) (x ∷ counted) counted)
        ≤ length (cond a (x ∷ same (codes "organization")) (same (codes "organization")))
        + length (cond b (x ∷ same (codes "tags")) (same (codes "tags")))
        + length (cond c (x ∷ same (codes "res_format")) (same (codes "res_format")))
        + length (cond d (x ∷ same (codes "license_id")) (same (codes "license_id")))
    by true b c d rest =
        omega (
          arith,
          rest,
          longer b (same (codes "tags")),
          longer c (same (codes "res_format")),
          longer d (same (codes "license_id")),
        )
    by false true c d rest =
        omega (arith, rest, longer c (same (codes "res_format")), longer d (same (codes "license_id")))
    by false false true d rest = omega (arith, rest, longer d (same (codes "license_id")))
    by false false false true rest = omega (arith, rest)
    by false false false false rest = rest

at-most-four : (xs : List (List ℕ)) → IsAscending (slice_cmp nat_cmp) xs → counted_names xs ≤ 4
at-most-four xs up =
    omega (
      arith,
      counted-occur xs,
      occurs-once (codes "organization") xs up,
      occurs-once (codes "tags") xs up,
      occurs-once (codes "res_format") xs up,
      occurs-once (codes "license_id") xs up,
    )

-- Of a set of names at most four are counted.
pub shown-at-most-four : SetsAscend → (is_shown : Bool) (names : Option (List (List ℕ)))
    → counted_names (fields_shown is_shown names) ≤ 4
shown-at-most-four up true (Some names) = at-most-four (fields_shown true (Some names)) (up names)
shown-at-most-four up true None = omega arith
shown-at-most-four up false names = omega arith
