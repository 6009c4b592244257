use Rattle.std.proofs.Common.{sym, ap, ◌∙◌, length}
use Rattle.slab.proofs.SlabLemmas.{length-entries}
use Rattle.packages.proofs.shelf.Shelf.len.Goals as goal

pub returns : goal.returns
returns c =
    c.len.ensures ∙ sym (length-entries c.self.inside.datasets) ∙ ap (λ s. length s.entries) c.self.view_is
