-- No name has the form of an id.
use Rattle.std.proofs.Common.{◌≡◌, ℕ, zero, suc, ◌+◌, ◌<◌, ◌/◌, ◌%◌, Bool, true, false, ◌&&◌, ◌||◌, not, List, [], ◌∷◌}
use Rattle.std.proofs.Common.{◌++◌, length, refl, ap, ◌∙◌, arith, ◌==◌}
use Rattle.std.specs.Prelude.{slice_index, is_none, if◌then◌else◌, Some, None, codes, nat_eq}
use Rattle.std.specs.Int.{to_be_bytes, w128}
use Rattle.std.specs.List.{list_all, enumerate_from, starts_with}
use Rattle.uuid.specs.Text.{by_index, hex_digit, nibble, digit_place, is_hyphen_place, lower, hyphen}
use Rattle.portal_base.specs.Id.{id_text}
use Rattle.portal_base.specs.Name.{is_id_character, is_hexadecimal_digit, has_id_characters, is_id_shaped, is_name}
use Rattle.portal_base.specs.Name.{has_name_length, has_name_characters, is_portal_address, is_reserved}
use Rattle.portal_base.specs.declared.name.NameFault.TheVariants.{Length, Character, Reserved}

-- ---- digits

hexadecimal : (d : ℕ) → d < 16 → is_hexadecimal_digit (hex_digit lower d) ≡ true
hexadecimal zero below = refl
hexadecimal (suc zero) below = refl
hexadecimal (suc (suc zero)) below = refl
hexadecimal (suc (suc (suc zero))) below = refl
hexadecimal (suc (suc (suc (suc zero)))) below = refl
hexadecimal (suc (suc (suc (suc (suc zero))))) below = refl
hexadecimal (suc (suc (suc (suc (suc (suc zero)))))) below = refl
hexadecimal (suc (suc (suc (suc (suc (suc (suc zero))))))) below = refl
hexadecimal (suc (suc (suc (suc (suc (suc (suc (suc zero)))))))) below = refl
hexadecimal (suc (suc (suc (suc (suc (suc (suc (suc (suc zero))))))))) below = refl
hexadecimal (suc (suc (suc (suc (suc (suc (suc (suc (suc (suc zero)))))))))) below = refl
hexadecimal (suc (suc (suc (suc (suc (suc (suc (suc (suc (suc (suc zero))))))))))) below = refl
hexadecimal (suc (suc (suc (suc (suc (suc (suc (suc (suc (suc (suc (suc zero)))))))))))) below = refl
hexadecimal (suc (suc (suc (suc (suc (suc (suc (suc (suc (suc (suc (suc (suc zero))))))))))))) below = refl
hexadecimal (suc (suc (suc (suc (suc (suc (suc (suc (suc (suc (suc (suc (suc (suc zero)))))))))))))) below = refl
hexadecimal (suc (suc (suc (suc (suc (suc (suc (suc (suc (suc (suc (suc (suc (suc (suc zero))))))))))))))) below = refl
hexadecimal (suc (suc (suc (suc (suc (suc (suc (suc (suc (suc (suc (suc (suc (suc (suc (suc d)))))))))))))))) below =
    absurd (omega arith)

half : (xs : List ℕ) (k : ℕ) → nibble xs k < 16
half xs k = by (k % 2 == 0)
  where
    by : (b : Bool) → (if b then slice_index xs (k / 2) / 16 % 16 else slice_index xs (k / 2) % 16) < 16
    by true = omega arith
    by false = omega arith

-- the characters of an id at a position
abbrev id_character : List ℕ → ℕ → ℕ
id_character xs k = if is_hyphen_place k then hyphen else hex_digit lower (nibble xs (digit_place k))

fits : (xs : List ℕ) (k : ℕ) → is_id_character k (id_character xs k) ≡ true
fits xs k = by (is_hyphen_place k)
  where
    by : (b : Bool)
        → (if b then (if b then hyphen else hex_digit lower (nibble xs (digit_place k))) == 45
        else is_hexadecimal_digit (if b then hyphen else hex_digit lower (nibble xs (digit_place k)))) ≡ true
    by true = refl
    by false = hexadecimal (nibble xs (digit_place k)) (half xs (digit_place k))

-- ---- positions

-- each character of the text is as in an id, from this position on
abbrev all_fit : ℕ → List ℕ → Bool
all_fit position text = list_all (λ p. is_id_character p.0 p.1) (enumerate_from position text)

and_true : (a : Bool) → (a && true) ≡ a
and_true true = refl
and_true false = refl

and_all : (a b c : Bool) → (a && (b && c)) ≡ ((a && b) && c)
and_all true b c = refl
and_all false b c = refl

nothing_more : (n : ℕ) → n ≡ n + 0
nothing_more n = omega arith

one_more : (n m : ℕ) → n + 1 + m ≡ n + suc m
one_more n m = omega arith

-- one more character at the end
all_fit-end : (position : ℕ) (text : List ℕ) (c : ℕ)
    → all_fit position (text ++ c ∷ []) ≡ (all_fit position text && is_id_character (position + length text) c)
all_fit-end position [] c =
    and_true (is_id_character position c) ∙ ap (λ (n : ℕ). is_id_character n c) (nothing_more position)
all_fit-end position (x ∷ xs) c =
    ap (λ b. is_id_character position x && b)
    (all_fit-end (position + 1) xs c
    ∙ ap (λ (n : ℕ). all_fit (position + 1) xs && is_id_character n c) (one_more position (length xs)))
    ∙ and_all (is_id_character position x) (all_fit (position + 1) xs) (is_id_character (position + length (x ∷ xs)) c)

length-end : (xs : List ℕ) (c : ℕ) → length (xs ++ c ∷ []) ≡ length xs + 1
length-end [] c = refl
length-end (x ∷ xs) c = omega (arith, length-end xs c)

length-by_index : (n : ℕ) (f : ℕ → ℕ) → length (by_index n f) ≡ n
unfolding by_index
length-by_index zero f = refl
length-by_index (suc n) f = length-end (by_index n f) (f n) ∙ ap (λ (m : ℕ). m + 1) (length-by_index n f) ∙ sum n
  where
    sum : (m : ℕ) → m + 1 ≡ suc m
    sum m = omega arith

from_none : (n : ℕ) → 0 + n ≡ n
from_none n = omega arith

all_fit-by_index : (n : ℕ) (xs : List ℕ) → all_fit 0 (by_index n (id_character xs)) ≡ true
unfolding by_index
all_fit-by_index zero xs = refl
all_fit-by_index (suc n) xs =
    all_fit-end 0 (by_index n (id_character xs)) (id_character xs n)
    ∙ ap (λ b. b && is_id_character (0 + length (by_index n (id_character xs))) (id_character xs n))
    (all_fit-by_index n xs)
    ∙ ap (λ (m : ℕ). is_id_character m (id_character xs n))
    (from_none (length (by_index n (id_character xs))) ∙ length-by_index n (id_character xs))
    ∙ fits xs n

-- ---- ids

pub is_id_shaped-id_text : (number : ℕ) → is_id_shaped (id_text number) ≡ true
is_id_shaped-id_text number =
    let bytes : List ℕ = to_be_bytes w128 number in
    ap (λ (n : ℕ). (n == 36) && has_id_characters (by_index 36 (id_character bytes)))
    (length-by_index 36 (id_character bytes))
    ∙ all_fit-by_index 36 bytes

no_name : (text : List ℕ) (longest : ℕ) → is_reserved text ≡ true → is_name text longest ≡ false
no_name text longest reserved =
    ap (λ b. is_none (if not (has_name_length text longest) then Some Length
    else if not (has_name_characters text) then Some Character else if b then Some Reserved else None)) reserved
    ∙ by (has_name_length text longest) (has_name_characters text)
  where
    by : (long characters : Bool)
        → is_none (if not long then Some Length else if not characters then Some Character
        else if true then Some Reserved else None) ≡ false
    by false characters = refl
    by true false = refl
    by true true = refl

or_true : (a b : Bool) → b ≡ true → (a || b) ≡ true
or_true true b is = refl
or_true false b is = is

-- An id is no name.
pub id_is_no_name : (number longest : ℕ) → is_name (id_text number) longest ≡ false
id_is_no_name number longest =
    let text : List ℕ = id_text number in
    no_name text longest
    (or_true (is_portal_address text || starts_with nat_eq text (codes "hv-")) (is_id_shaped text)
    (is_id_shaped-id_text number))
