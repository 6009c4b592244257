use Rattle.std.proofs.Common.{◌≡◌, take}
use Rattle.visibility.specs.declared.class.Class.{Class}
use Rattle.facets.specs.ClassSet.{has_class}
use Rattle.facets.specs.Facts.{is_one_of}
use Rattle.facets.proofs.class_set.ClassSet.of.Given as goal

abbrev pub invariant-loop-class : goal.invariant-loop-class
invariant-loop-class l = (class : Class) → has_class l.set class ≡ is_one_of (take l.class-index l.classes) class
