-- The definitions on worked examples.
use Rattle.std.proofs.Common.{◌≡◌, [], ◌∷◌, refl}
use Rattle.std.specs.Prelude.{codes}
use Rattle.portal_base.specs.declared.caller.Caller.TheVariants.{Anonymous, Named}
use Rattle.portal_state.specs.Known.{known_caller}
use Rattle.portal_serve.specs.Script.{script_lines}
use Rattle.portal_serve.specs.Defaults.{default_state}

-- a carriage return before a line feed is no part of the line, empty lines are left out, and the last line keeps what
-- it has
lines_of_a_script : script_lines (codes "a\r\n\n\r\nb\r") ≡ codes "a" ∷ codes "b\r" ∷ []
lines_of_a_script = refl

stranger_is_nobody : known_caller default_state.people (Named (codes "zoe")) ≡ Anonymous
stranger_is_nobody = refl

ann_is_herself : known_caller default_state.people (Named (codes "ann")) ≡ Named (codes "ann")
ann_is_herself = refl
