-- The texts of causes.
use Rattle.std.specs.Prelude.{ℕ, List, ◌++◌, codes, decimal}
use Rattle.harvest_sources.specs.declared.cause.Cause.{Cause}
use Rattle.harvest_sources.specs.declared.cause.Cause.TheVariants.{ReadFault, Missing, TooLong, NotNTriples, NoCatalog}
use Rattle.harvest_sources.specs.declared.cause.Cause.TheVariants.{NotDescribed, NoTitle, SameName}

-- the text for a document whose first bad line has this number
abbrev pub bad_line_text : ℕ → List ℕ
bad_line_text line = codes "NotNTriples " ++ decimal line

-- the name of a cause, and the number of the bad line
abbrev pub cause_text : Cause → List ℕ
cause_text ReadFault = codes "ReadFault"
cause_text Missing = codes "Missing"
cause_text TooLong = codes "TooLong"
cause_text (NotNTriples line) = bad_line_text line
cause_text NoCatalog = codes "NoCatalog"
cause_text NotDescribed = codes "NotDescribed"
cause_text NoTitle = codes "NoTitle"
cause_text SameName = codes "SameName"
