-- Cells by column, and lists of cells that are compared pair by pair.
use Rattle.std.proofs.Common.{◌≡◌, ◌≢◌, ◌∙◌, ℕ, ◌+◌, ◌<◌, Bool, true, false, ◌&&◌, List, [], ◌∷◌, length, drop}
use Rattle.std.proofs.Common.{get_or, refl, ap, sym, arith}
use Rattle.std.proofs.lemmas.List.{at_drop_more}
use Rattle.std.specs.Cmp.Lexicographic.{pointwise}
use Rattle.table_schema.specs.declared.cell.Cell.{Cell}
use Rattle.table_schema.specs.declared.cell.Cell.TheVariants as cell
use Rattle.table_schema.specs.Order.{same_cell}
use Rattle.datastore_table.specs.Cells.{is_null}

pub same_as_null : (c : Cell) → same_cell cell.Null c ≡ is_null c
same_as_null cell.Null = refl
same_as_null (cell.Text text) = refl
same_as_null (cell.Int z) = refl
same_as_null (cell.Number z) = refl
same_as_null (cell.Truth b) = refl
same_as_null (cell.Date z) = refl
same_as_null (cell.Time n) = refl
same_as_null (cell.Stamp z) = refl
same_as_null (cell.Year n) = refl
same_as_null (cell.YearMonth n m) = refl

pub null_as_same : (c : Cell) → same_cell c cell.Null ≡ is_null c
null_as_same cell.Null = refl
null_as_same (cell.Text text) = refl
null_as_same (cell.Int z) = refl
null_as_same (cell.Number z) = refl
null_as_same (cell.Truth b) = refl
null_as_same (cell.Date z) = refl
null_as_same (cell.Time n) = refl
null_as_same (cell.Stamp z) = refl
null_as_same (cell.Year n) = refl
null_as_same (cell.YearMonth n m) = refl

-- Lists of different lengths aren't equal.
pub pointwise-length : {A B : Type 0} (e : A → B → Bool) (xs : List A) (ys : List B) → length xs ≢ length ys
    → pointwise e xs ys ≡ false
pointwise-length e [] [] n = absurd (n refl)
pointwise-length e [] (y ∷ ys) n = refl
pointwise-length e (x ∷ xs) [] n = refl
pointwise-length e (x ∷ xs) (y ∷ ys) n =
    ap (λ b. e x y && b) (pointwise-length e xs ys (λ h. n (omega (arith, h)))) ∙ and_false (e x y)
  where
    and_false : (b : Bool) → (b && false) ≡ false
    and_false true = refl
    and_false false = refl

pub same-start : {A B : Type 0} (e : A → B → Bool) (xs : List A) (ys : List B)
    → pointwise e xs ys ≡ pointwise e (drop 0 xs) (drop 0 ys)
same-start e xs ys = refl

-- One more pair is compared.
pub same-next : {A B : Type 0} (e : A → B → Bool) (i : ℕ) (x : A) (y : B) (xs : List A) (ys : List B)
    → i < length xs → i < length ys → x ≡ get_or xs i x → y ≡ get_or ys i y
    → pointwise e (drop i xs) (drop i ys) ≡ (e x y && pointwise e (drop (i + 1) xs) (drop (i + 1) ys))
same-next e i x y xs ys inx iny isx isy =
    at_drop_more (λ l. pointwise e l (drop i ys)) xs i x inx
    ∙ at_drop_more (λ l. pointwise e (get_or xs i x ∷ drop (i + 1) xs) l) ys i y iny
    ∙ ap (λ a. e a (get_or ys i y) && pointwise e (drop (i + 1) xs) (drop (i + 1) ys)) (sym isx)
    ∙ ap (λ b. e x b && pointwise e (drop (i + 1) xs) (drop (i + 1) ys)) (sym isy)
