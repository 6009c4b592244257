use Rattle.std.proofs.Common.{◌∙◌, ◌∷◌, []}
use Rattle.std.specs.Prelude.{decimal}
use Rattle.packages.proofs.Addresses.{begins, begins_otherwise}
use Rattle.packages.proofs.named.is_address.Goals as goal

pub returns-in-Some-strip_prefix : goal.returns-in-Some-strip_prefix
returns-in-Some-strip_prefix c =
    let rest = c.in-Some.rest.now in
    let digits = c.format-digits.result.now in
    let name = c.in-Some.ensures.cases in
    let dot = c.in-Some-strip_prefix.ensures.cases in
    rw (← c.as_bytes.ensures.value, ← c.as_bytes-2.ensures, ← c.format-digits.ensures.text)
    (rw (c.as_bytes-in-Some-strip_prefix.ensures.value) at c.eq.ensures
    ∙ begins (46 ∷ []) digits rest c.in-Some-strip_prefix.suffix.now dot.0 dot.1
    ∙ begins c.as_bytes-2.result.now (46 ∷ digits) c.as_bytes.result.now rest name.0 name.1)

pub returns-in-None-strip_prefix : goal.returns-in-None-strip_prefix
returns-in-None-strip_prefix c =
    let rest = c.in-Some.rest.now in
    let digits = decimal c.args.number in
    let name = c.in-Some.ensures.cases in
    rw (← c.as_bytes.ensures.value, ← c.as_bytes-2.ensures)
    (begins_otherwise (46 ∷ []) digits rest c.in-None-strip_prefix.ensures.cases
    ∙ begins c.as_bytes-2.result.now (46 ∷ digits) c.as_bytes.result.now rest name.0 name.1)

pub returns-in-None : goal.returns-in-None
returns-in-None c =
    rw (← c.as_bytes.ensures.value, ← c.as_bytes-2.ensures)
    (begins_otherwise c.as_bytes-2.result.now (46 ∷ decimal c.args.number) c.as_bytes.result.now
    c.in-None.ensures.cases)
