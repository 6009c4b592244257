-- What reading from the left gives: a value and the characters after it, or nothing.
use Rattle.std.specs.Prelude.{◌≡◌, ℕ, ◌==◌, if◌then◌else◌, List, [], ◌∷◌, ◌++◌, ◌||◌, Option, Some, None, Result, Ok}
use Rattle.std.specs.Prelude.{Err}
use Rattle.ntriples.specs.declared.fault.Refusal.{Refusal}
use Rattle.ntriples.specs.declared.fault.Refusal.TheVariants.{Malformed, OutOfMemory}

infixl 10 ◌>>=◌
abbrev pub ◌>>=◌ : {A B : Type 0} → Option A → (A → Option B) → Option B
None >>= f = None
(Some x) >>= f = f x

-- What a function returned, seen by view, is what reading gives, unless memory ran out.
abbrev pub Fails : {Y : Type 0} → Refusal → Option Y → Type 0
Fails OutOfMemory read = Unit {0}
Fails Malformed read = read ≡ None

abbrev pub Gives : {X Y : Type 0} → (X → Y) → Result X Refusal → Option Y → Type 0
Gives view (Ok x) read = read ≡ Some (view x)
Gives view (Err e) read = Fails e read

-- a text, followed by what is read after it
abbrev pub onto : List ℕ → List ℕ × List ℕ → List ℕ × List ℕ
onto prefix read = (prefix ++ read.0, read.1)

-- a text read before, and what is still read
abbrev pub prepended : List ℕ → Option (List ℕ × List ℕ) → Option (List ℕ × List ℕ)
prepended prefix read = read >>= λ x. Some (onto prefix x)

-- one character, and those after it
abbrev pub character : List ℕ → Option (ℕ × List ℕ)
character [] = None
character (c ∷ cs) = Some (c, cs)

-- the characters after this one
abbrev pub following : ℕ → List ℕ → Option (List ℕ)
following expected [] = None
following expected (c ∷ cs) = if c == expected then Some cs else None

-- without the spaces and tabs at the start
unfoldable pub skip_blanks : List ℕ → List ℕ
skip_blanks [] = []
skip_blanks (c ∷ cs) = if (c == 32) || (c == 9) then skip_blanks cs else c ∷ cs
