-- The definitions on worked examples.
use Rattle.std.proofs.Common.{◌≡◌, refl}
use Rattle.std.specs.Prelude.{codes}
use Rattle.std.specs.Str.{chars, trim_end}
use Rattle.sorted_pages.specs.declared.direction.Direction.TheVariants.{Ascending, Descending}
use Rattle.sorted_pages.specs.Direction.{directed}

-- Text without a direction ascends, as does `asc`.
plain : directed (codes "n") ≡ record { name = codes "n"; direction = Ascending }
plain = refl

downwards : directed (codes "n  desc") ≡ record { name = codes "n"; direction = Descending }
unfolding trim_end chars lib.Utf8.encode
downwards = refl

-- The word alone is a name, since no white space is before it.
word_alone : directed (codes "desc") ≡ record { name = codes "desc"; direction = Ascending }
unfolding trim_end chars lib.Utf8.encode
word_alone = refl
