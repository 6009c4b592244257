use Rattle.std.proofs.Common.{◌∙◌, ◌||◌, ℕ, List, ap, sym}
use Rattle.facets.specs.ClassSet.{has_class}
use Rattle.facets.specs.Facts.{same_class}
use Rattle.visibility.specs.declared.class.Class.TheVariants.{Editing, Inside}
use Rattle.facets.proofs.ClassLemmas.{editing_added, inside_added}
use Rattle.facets.proofs.class_set.ClassSet.add.Goals as goal

pub returns-in_ok-insert-in-Inside : goal.returns-in_ok-insert-in-Inside
returns-in_ok-insert-in-Inside c = λ other.
    inside_added c.args.self.now c.insert.new.self c.as_str.result.now
    (λ name. c.in_ok-insert-in-Inside.ensures.updates.0 (record { ref_ptr = (0, 0); now = name })) other
    ∙ ap (λ (org : List ℕ). has_class c.args.self.now other || same_class other (Inside org)) c.as_str.ensures
    ∙ ap (λ class. has_class c.args.self.now other || same_class other class) (sym c.in-Inside.is)

pub returns-in_ok-insert-in-Editing : goal.returns-in_ok-insert-in-Editing
returns-in_ok-insert-in-Editing c = λ other.
    editing_added c.args.self.now c.insert-in-Editing.new.self c.as_str-in-Editing.result.now
    (λ name. c.in_ok-insert-in-Editing.ensures.updates.0 (record { ref_ptr = (0, 0); now = name })) other
    ∙ ap (λ (org : List ℕ). has_class c.args.self.now other || same_class other (Editing org)) c.as_str-in-Editing.ensures
    ∙ ap (λ class. has_class c.args.self.now other || same_class other class) (sym c.in-Editing.is)
