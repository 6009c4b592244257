-- The texts of fields: the numeric part of each has the form of its number.
use Rattle.std.proofs.Common.{◌≡◌, ℕ, refl, ap, ◌∙◌, Bool, List, ℤ}
use Rattle.std.specs.Prelude.{◌↔◌, Some, None}
use Rattle.lexical_forms.specs.declared.form.NumberForm.{NumberForm}
use Rattle.lexical_forms.specs.Forms.{IsInteger, IsNumber, IsSpelling}
use Rattle.lexical_forms.specs.Number.{numeric_part, integer_text_reading, integer_reading, number_text_reading}
use Rattle.lexical_forms.specs.Number.{number_reading}
use Rattle.lexical_forms.proofs.FormLemmas.{integer_where_of_form}
use Rattle.lexical_forms.proofs.InsideLemmas.{part_is_inside}
use Rattle.lexical_forms.proofs.NumberFormLemmas.{number_where_of_form}

is_integer : (bare : Bool) (text : List ℕ) (z : ℤ) → integer_reading bare text ≡ Some z → IsInteger bare text z
is_integer bare text z e =
    let middle = numeric_part bare None text in
    let found = (integer_where_of_form middle z).0 e in
    record {
      middle = middle;
      part = (part_is_inside bare None text middle).0 refl;
      form = found.0;
      range = found.1;
    }

integer_is : (bare : Bool) (text : List ℕ) (z : ℤ) → IsInteger bare text z → integer_reading bare text ≡ Some z
integer_is bare text z h =
    ap integer_text_reading ((part_is_inside bare None text h.middle).1 h.part)
    ∙ (integer_where_of_form h.middle z).1 (h.form, h.range)

pub integer_where_one : (bare : Bool) (text : List ℕ) (z : ℤ)
    → (integer_reading bare text ≡ Some z) ↔ IsInteger bare text z
integer_where_one bare text z = (is_integer bare text z, integer_is bare text z)

is_number : (form : NumberForm) (text : List ℕ) (b : ℤ) → IsSpelling form → number_reading form text ≡ Some b
    → IsNumber form text b
is_number form text b spelling e =
    let middle = numeric_part form.bare (Some form.decimal) text in
    record {
      middle = middle;
      part = (part_is_inside form.bare (Some form.decimal) text middle).0 refl;
      number = (number_where_of_form form middle b spelling).0 e;
    }

number_is : (form : NumberForm) (text : List ℕ) (b : ℤ) → IsSpelling form → IsNumber form text b
    → number_reading form text ≡ Some b
number_is form text b spelling h =
    ap (number_text_reading form) ((part_is_inside form.bare (Some form.decimal) text h.middle).1 h.part)
    ∙ (number_where_of_form form h.middle b spelling).1 h.number

pub number_where_one : (form : NumberForm) (text : List ℕ) (b : ℤ) → IsSpelling form
    → (number_reading form text ≡ Some b) ↔ IsNumber form text b
number_where_one form text b spelling = (is_number form text b spelling, number_is form text b spelling)
