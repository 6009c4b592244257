-- The errors are added key by key.
use Rattle.std.proofs.Common.{◌≡◌, ◌∙◌, ℕ, List, OnOk, ap, subst, codes}
use Rattle.portal_base.specs.KeyErrors.{KeyError, error_if}
use Rattle.packages.specs.Texts.{short_text_error}
use Rattle.packages.proofs.resources.read_texts.Goals as goal

pub returns-clause-errors : goal.returns-clause-errors
returns-clause-errors c =
    let body = c.args.body.now in
    let add : List ℕ → List KeyError → List KeyError = λ key. error_if key (short_text_error 2000 key body) in
    subst (λ (fs : List KeyError). OnOk c.read_text-5.result
    (c.read_text-5.new.faults ≡ error_if (codes "description") (short_text_error 20000 (codes "description") body) fs))
    (c.in_ok-read_text-4.ensures.errors
    ∙ ap (add (codes "mimetype")) (c.in_ok-read_text-3.ensures.errors
    ∙ ap (add (codes "format")) (c.in_ok-read_text-2.ensures.errors
    ∙ ap (add (codes "url")) c.in_ok-read_text.ensures.errors)))
    c.read_text-5.ensures.errors
