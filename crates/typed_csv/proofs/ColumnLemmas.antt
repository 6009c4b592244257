-- The column that a header's error names is the first column with an invalid name.
use Rattle.std.proofs.Common.{◌≡◌, ◌∙◌, ◌+◌, ◌<◌, ◌≤◌, ◌↔◌, ℕ, zero, suc, Bool, true, false, refl, ap, sym, subst}
use Rattle.std.proofs.Common.{List, length, take, arith, true≢false}
use native.Mathlib.Decide.{dec_lt}
use Rattle.std.proofs.lemmas.List.{drop_all}
use Rattle.std.specs.Prelude.{Some, None}
use Rattle.table_schema.specs.Field.{FieldValue}
use Rattle.typed_csv.specs.Header.{bad_column, bad_column_from, is_valid_column}
use Rattle.typed_csv.specs.Laws.{IsFirstInvalidColumn, IsInvalidColumn}
use Rattle.typed_csv.specs.Records.{text_at}
use Rattle.typed_csv.proofs.HeaderLemmas.{bad-here, bad-next, bad_on}

module _ (fields : List FieldValue) (names : List (List ℕ)) where
  -- the first column with an invalid name, from this column on
  abbrev IsFirstFrom : ℕ → ℕ → Type 0
  IsFirstFrom from column = IsInvalidColumn fields names column × (from ≤ column)
      × ((earlier : ℕ) → from ≤ earlier → earlier < column → IsInvalidColumn fields names earlier → ⊥)

  abbrev order : ℕ → Bool
  order column = is_valid_column fields (take column names) (text_at names column)

  none_on : (from : ℕ) → length names ≤ from → bad_on fields names from ≡ None
  none_on from h = ap (bad_column_from fields (take from names)) (drop_all from names h)

  none_reported : (from column : ℕ) → length names ≤ from → bad_on fields names from ≡ Some column → ⊥
  none_reported from column h e = let none : None ≡ Some column = sym (none_on from h) ∙ e in cc

  first_on : (left from column : ℕ) → length names ≤ from + left → bad_on fields names from ≡ Some column
      → IsFirstFrom from column
  first_on zero from column h e = absurd (none_reported from column (omega arith) e)
  first_on (suc left) from column h e = elim (dec_lt from (length names)) [
    | yes within ↦ by (order from) within refl (first_on left (from + 1) column)
    | no above ↦ absurd (none_reported from column (omega arith) e)
  ]
    where
      later : (earlier : ℕ) → order from ≡ true → from ≤ earlier → earlier < column
          → ((index : ℕ) → from + 1 ≤ index → index < column → IsInvalidColumn fields names index → ⊥)
          → IsInvalidColumn fields names earlier → ⊥
      later earlier good low high none out = elim (dec_lt from earlier) [
        | yes after ↦ none earlier (omega arith) high out
        | no here ↦ let at : from ≡ earlier = omega arith in true≢false (sym good ∙ ap order at ∙ out.1)
      ]

      by : (b : Bool) → from < length names → order from ≡ b
          → (length names ≤ from + 1 + left → bad_on fields names (from + 1) ≡ Some column
          → IsFirstFrom (from + 1) column)
          → IsFirstFrom from column
      by false within bad more =
          let same : Some from ≡ Some column = sym (bad-here fields names from within bad) ∙ e in
          let at : from ≡ column = cc in (
            subst (IsInvalidColumn fields names) at (within, bad),
            omega (arith, at),
            λ earlier low high out. absurd
                (omega (arith, at)),
          )
      by true within good more =
          let rest = more (omega arith) (sym (bad-next fields names from within good) ∙ e) in
          (rest.0, omega (arith, rest.1), λ earlier low high out. later earlier good low high rest.2 out)

  found_on : (left from column : ℕ) → from + left ≡ column → IsInvalidColumn fields names column
      → ((earlier : ℕ) → from ≤ earlier → earlier < column → IsInvalidColumn fields names earlier → ⊥)
      → bad_on fields names from ≡ Some column
  found_on zero from column e out none =
      let at : column ≡ from = omega (arith, e) in
      let here = subst (IsInvalidColumn fields names) at out in
      bad-here fields names from here.0 here.1 ∙ ap Some (sym at)
  found_on (suc left) from column e out none =
      by (order from) refl
      (found_on left (from + 1) column (omega (arith, e)) out
      (λ earlier low high bad. none earlier (omega (arith, low)) high bad))
    where
      within : from < length names
      within = omega (arith, e, out.0)

      by : (b : Bool) → order from ≡ b → bad_on fields names (from + 1) ≡ Some column
          → bad_on fields names from ≡ Some column
      by false bad more = absurd (none from (omega arith) (omega (arith, e)) (within, bad))
      by true good more = bad-next fields names from within good ∙ more

  pub first_column : (column : ℕ) → (bad_column fields names ≡ Some column) ↔ IsFirstInvalidColumn fields names column
  first_column column = (
    (λ e. let found = first_on (length names) 0 column (omega arith) e in
        (found.0, λ earlier high out. found.2 earlier (omega arith) high out)),
    (λ h. found_on column 0 column (omega arith) h.0 (λ earlier low high out. h.1 earlier high out)),
  )
