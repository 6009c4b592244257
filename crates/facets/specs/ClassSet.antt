-- Classes by the names of their organizations. No public clause cites this definition.
use Rattle.std.specs.Prelude.{Bool}
use Rattle.std.specs.BTreeSet.{contains_by}
use Rattle.std.specs.Cmp.Lexicographic.{slice_cmp}
use Rattle.std.specs.Ordering.{nat_cmp}
use Rattle.visibility.specs.declared.class.Class.{Class}
use Rattle.visibility.specs.declared.class.Class.TheVariants.{Editing, Inside, Public}
use Rattle.facets.specs.declared.class_set.ClassSet.{ClassSet}

-- whether the class is in the set
abbrev pub has_class : ClassSet → Class → Bool
has_class set Public = set.has_public
has_class set (Inside org) = contains_by (λ name. slice_cmp nat_cmp org name.now) set.inside
has_class set (Editing org) = contains_by (λ name. slice_cmp nat_cmp org name.now) set.editing
