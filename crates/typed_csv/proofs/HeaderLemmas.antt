-- The names of columns, and their indices.
use Rattle.std.proofs.Common.{◌≡◌, ◌∙◌, ◌+◌, ◌<◌, ℕ, zero, suc, true, false, refl, ap, sym, List, [], ◌∷◌, ◌++◌}
use Rattle.std.proofs.Common.{length, ◌||◌, get_or, take, drop, add-one, length-take, arith}
use Rattle.std.proofs.lemmas.List.{at_drop_more, get_or-take, take_more}
use Rattle.std.proofs.lemmas.List.Folds.{list_any_at, list_any_more}
use Rattle.std.proofs.lemmas.Iterator.Adapters.{position_from-zero}
use Rattle.std.specs.Prelude.{Option, Some}
use Rattle.std.specs.List.{position_from}
use Rattle.std.specs.Str.{bytes_eq}
use Rattle.csv.specs.Records.{field_at}
use Rattle.table_schema.specs.Field.{FieldValue}
use Rattle.table_schema.specs.Truth.{is_among}
use Rattle.typed_csv.specs.Header.{bad_column_from, column_of, is_valid_column}
use Rattle.typed_csv.specs.Records.{text_at}

pub text_at-get_or : (fields : List (List ℕ)) (index : ℕ) → text_at fields index ≡ get_or fields index []
unfolding field_at
text_at-get_or [] index = refl
text_at-get_or (f ∷ fs) zero = refl
text_at-get_or (f ∷ fs) (suc index) = text_at-get_or fs index

-- ---- the columns before one

pub among-here : (names : List (List ℕ)) (column earlier : ℕ) (name : List ℕ) → earlier < column
    → column < length names → bytes_eq (text_at names earlier) name ≡ true → is_among (take column names) name ≡ true
among-here names column earlier name lt within is =
    let shorter : earlier < length (take column names) = simp length-take (omega arith) in
    let here : get_or (take column names) earlier [] ≡ text_at names earlier = get_or-take column names earlier [] lt
    ∙ sym (text_at-get_or names earlier) in
    list_any_at (λ c. bytes_eq c name) (take column names) earlier [] shorter (ap (λ c. bytes_eq c name) here ∙ is)

pub among-more : (names : List (List ℕ)) (column : ℕ) (name : List ℕ) → column < length names
    → is_among (take column names) name ≡ false → bytes_eq (text_at names column) name ≡ false
    → is_among (take (column + 1) names) name ≡ false
among-more names column name lt none other =
    list_any_more (λ c. bytes_eq c name) names column [] lt
    ∙ ap (λ b. b || bytes_eq (get_or names column []) name) none
    ∙ ap (λ c. bytes_eq c name) (sym (text_at-get_or names column))
    ∙ other

pub ruleset earlier = (among-here, among-more)

-- ---- the column of a name

-- the column of the name among those from this one on
abbrev pub column_on : List (List ℕ) → ℕ → List ℕ → Option ℕ
column_on names column name = position_from (λ c. bytes_eq c name) column (drop column names)

pub column-start : (names : List (List ℕ)) (name : List ℕ) → column_of names name ≡ column_on names 0 name
column-start names name = position_from-zero (λ c. bytes_eq c name) names

pub column-here : (names : List (List ℕ)) (column : ℕ) (name : List ℕ) → column < length names
    → bytes_eq (text_at names column) name ≡ true → column_on names column name ≡ Some column
column-here names column name lt is =
    at_drop_more (position_from (λ c. bytes_eq c name) column) names column [] lt
    ∙ (rw (← text_at-get_or names column) (rw is refl))

pub column-next : (names : List (List ℕ)) (column : ℕ) (name : List ℕ) → column < length names
    → bytes_eq (text_at names column) name ≡ false → column_on names column name ≡ column_on names (column + 1) name
column-next names column name lt other =
    at_drop_more (position_from (λ c. bytes_eq c name) column) names column [] lt
    ∙ (rw (← text_at-get_or names column) (rw other (rw add-one refl)))

pub ruleset columns = (column-start, column-here, column-next)

-- ---- the first bad column

-- the first bad column from this one on
abbrev pub bad_on : List FieldValue → List (List ℕ) → ℕ → Option ℕ
bad_on fields names column = bad_column_from fields (take column names) (drop column names)

pub bad-here : (fields : List FieldValue) (names : List (List ℕ)) (column : ℕ) → column < length names
    → is_valid_column fields (take column names) (text_at names column) ≡ false
    → bad_on fields names column ≡ Some column
bad-here fields names column lt bad =
    let before = take column names in
    let count : length before ≡ column = simp length-take (omega arith) in
    at_drop_more (bad_column_from fields before) names column [] lt
    ∙ (rw (← text_at-get_or names column) (rw bad (ap Some count)))

pub bad-next : (fields : List FieldValue) (names : List (List ℕ)) (column : ℕ) → column < length names
    → is_valid_column fields (take column names) (text_at names column) ≡ true
    → bad_on fields names column ≡ bad_on fields names (column + 1)
bad-next fields names column lt good =
    let before = take column names in
    let more : before ++ text_at names column ∷ [] ≡ take (column + 1) names =
    ap (λ c. before ++ c ∷ []) (text_at-get_or names column) ∙ sym (take_more names column [] lt) in
    at_drop_more (bad_column_from fields before) names column [] lt
    ∙ (rw (← text_at-get_or names column) (rw good (rw more refl)))

pub ruleset bad_columns = (bad-here, bad-next)
