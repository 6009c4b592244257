-- Documents of N-Triples (RDF 1.1 N-Triples, sections 2 and 7), and their graphs.
use Rattle.std.specs.Prelude.{ℕ, ◌+◌, List, [], ◌∷◌, ◌++◌, Option, Some, None, Result, Ok, Err}
use Rattle.ntriples.specs.Document.{given, lines}
use Rattle.ntriples.specs.ParsedLines.{line_of}
use Rattle.ntriples.specs.declared.term.Triple.{Triple}
use Rattle.dcat_map.specs.Graphs.{graph_of}
use Rattle.harvest_sources.specs.declared.cause.Cause.{Cause}
use Rattle.harvest_sources.specs.declared.cause.Cause.TheVariants.{NotNTriples}

-- a line's triple, if it has one, and those of the lines after it
abbrev pub onto_later : Option Triple → Result (List Triple) Cause → Result (List Triple) Cause
onto_later triple (Ok later) = Ok (given triple ++ later)
onto_later triple (Err cause) = Err cause

-- the same for the line of this number, which may be none of N-Triples
abbrev pub line_onto_later : ℕ → Option (Option Triple) → Result (List Triple) Cause → Result (List Triple) Cause
line_onto_later number None later = Err (NotNTriples number)
line_onto_later number (Some triple) later = onto_later triple later

-- the triples of lines that are numbered from this number on, or the number of the first that is none of N-Triples
abbrev pub triples_from : ℕ → List (List ℕ) → Result (List Triple) Cause
triples_from number [] = Ok []
triples_from number (line ∷ rest) = line_onto_later number (line_of line) (triples_from (number + 1) rest)

-- the triples of a document
unfoldable pub triples_in : List ℕ → Result (List Triple) Cause
triples_in bytes = triples_from 1 (lines bytes)

-- the graph of the triples
abbrev pub graphed : Result (List Triple) Cause → Result (List Triple) Cause
graphed (Ok triples) = Ok (graph_of triples)
graphed (Err cause) = Err cause

-- the graph of a document
abbrev pub graph_in : List ℕ → Result (List Triple) Cause
graph_in bytes = graphed (triples_in bytes)
