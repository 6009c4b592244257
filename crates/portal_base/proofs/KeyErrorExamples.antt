-- Examples of errors of keys.
use Rattle.std.proofs.Common.{◌≡◌, [], ◌∷◌, Some, None, refl}
use Rattle.std.specs.Prelude.{codes}
use Rattle.portal_base.specs.KeyErrors.{KeyError, with_error, with_rule_errors, with_errors}

abbrev name-missing : KeyError
name-missing = (codes "name", codes "Missing value")

abbrev title-long : KeyError
title-long = (codes "title", codes "Longer than 2000 bytes")

-- The errors ascend by key, in whatever order they were added.
in-order : with_rule_errors ((codes "title", Some (codes "Longer than 2000 bytes")) ∷ (codes "url", None)
    ∷ (codes "name", Some (codes "Missing value")) ∷ []) [] ≡ name-missing ∷ title-long ∷ []
in-order = refl

-- The first message of a key is kept.
first-kept : with_error (codes "name") (codes "Must be text") (name-missing ∷ title-long ∷ []) ≡ name-missing
    ∷ title-long ∷ []
first-kept = refl

both-with_error : with_errors (name-missing ∷ []) (title-long ∷ []) ≡ name-missing ∷ title-long ∷ []
both-with_error = refl
