-- The definitions on worked examples.
use Rattle.std.proofs.Common.{◌≡◌, inr, true, false, Some, None, refl, lit<}
use Rattle.std.specs.Prelude.{codes, pos, neg_ℤ}
use Rattle.lexical_forms.specs.declared.form.NumberForm.{NumberForm}
use Rattle.lexical_forms.specs.Forms.{IsIntegerText, IsInside, IsGroups, IsFractionPart, IsExponentPart}
use Rattle.lexical_forms.specs.Forms.{IsUnsignedText, IsNumberText, IsSpelling}
use Rattle.lexical_forms.specs.Forms.IsExponentPart.{ten_to}
use Rattle.lexical_forms.specs.Forms.IsFractionPart.{point}
use Rattle.lexical_forms.specs.Forms.IsGroups.{one, digit, mark}
use Rattle.lexical_forms.specs.Forms.IsSign.{plus, minus}
use Rattle.lexical_forms.specs.Forms.IsWholePart.{some}
use Rattle.lexical_forms.specs.Number.{integer_text_reading, integer_reading, number_text_reading, number_reading}
use Rattle.lexical_forms.specs.Number.{default_spelling}

-- ---- whole numbers

a_signed_number : integer_reading true (codes "-007") ≡ Some (neg_ℤ (pos 7))
unfolding integer_text_reading
a_signed_number = refl

no_digits : integer_reading true (codes "+") ≡ None
unfolding integer_text_reading
no_digits = refl

a_number_and_its_unit : integer_reading false (codes "EUR 12 each") ≡ Some (pos 12)
unfolding integer_text_reading
a_number_and_its_unit = refl

-- ---- numbers, in billionths

a_half : number_reading default_spelling (codes ".5") ≡ Some (pos 500000000)
unfolding number_text_reading
a_half = refl

an_exponent_down : number_reading default_spelling (codes "15e-1") ≡ Some (pos 1500000000)
unfolding number_text_reading
an_exponent_down = refl

zeros_after_nine_decimals : number_reading default_spelling (codes "0.1000000000") ≡ Some (pos 100000000)
unfolding number_text_reading
zeros_after_nine_decimals = refl

too_many_decimals : number_reading default_spelling (codes "0.0000000001") ≡ None
unfolding number_text_reading
too_many_decimals = refl

-- a comma before the fraction, and points between groups
abbrev continental : NumberForm
continental = record { decimal = 44; group = Some 46; bare = true }

a_grouped_number : number_reading continental (codes "1.234,5") ≡ Some (pos 1234500000000)
unfolding number_text_reading
a_grouped_number = refl

a_doubled_group : number_reading continental (codes "1..234") ≡ None
unfolding number_text_reading
a_doubled_group = refl

-- ---- the forms, by hand

-- `-007` is a sign and digits
minus_seven : IsIntegerText (codes "-007") (neg_ℤ (pos 7))
minus_seven = record {
  sign = codes "-";
  negative = true;
  digits = codes "007";
  cut = refl;
  signs = minus;
  some = refl;
  value = refl;
}

-- `EUR 12 each`: nothing in `EUR ` begins a number, and there is no digit in ` each`
twelve_inside : IsInside None (codes "EUR 12 each") (codes "12")
twelve_inside = record {
  front = codes "EUR ";
  back = codes " each";
  cut = refl;
  before = refl;
  core = inr (record {
    first = 49;
    after = codes "2";
    before = codes "1";
    last = 50;
    from_first = refl;
    begins = refl;
    to_last = refl;
    ends = refl;
  });
  after = refl;
}

-- `1.23`: the point is between two digits
groups_of_two : IsGroups (Some 46) (codes "1.23") (codes "123")
groups_of_two = mark 49 46 (codes "23") (codes "23") refl refl (digit 50 (codes "3") (codes "3") refl (one 51 refl))

-- `,5`: the decimal character and a digit
a_fraction : IsFractionPart 44 (codes ",5") (codes "5")
a_fraction = point (codes "5") refl

-- `e-1`: the exponent mark and a whole number
a_power : IsExponentPart (codes "e-1") (neg_ℤ (pos 1))
a_power = ten_to 101 (codes "-1") (neg_ℤ (pos 1)) refl (record {
  sign = codes "-";
  negative = true;
  digits = codes "1";
  cut = refl;
  signs = minus;
  some = refl;
  value = refl;
})

-- `1.23,5e-1` is 123.5 / 10 = 12.35, which is 12350000000 billionths
a_size : IsUnsignedText continental (codes "1.23,5e-1") 12350000000
a_size = record {
  whole = codes "1.23";
  fraction = codes ",5";
  exponent = codes "e-1";
  digits = codes "123";
  places = codes "5";
  power = neg_ℤ (pos 1);
  cut = refl;
  whole_part = some (codes "1.23") (codes "123") groups_of_two;
  fraction_part = a_fraction;
  exponent_part = a_power;
  some = refl;
  exact = refl;
  small = lit< tt;
}

-- `+1.23,5e-1` is the same number, and a descriptor can give the continental spelling
a_number : IsNumberText continental (codes "+1.23,5e-1") (pos 12350000000)
a_number = record {
  sign = codes "+";
  negative = false;
  rest = codes "1.23,5e-1";
  size = 12350000000;
  cut = refl;
  signs = plus;
  number = a_size;
  value = refl;
}

a_spelling : IsSpelling continental
a_spelling = record { decimal = refl; group = refl; apart = λ e. cc }
