use Rattle.search_cases.proofs.matching.push_finding.Given as goal

-- The steps are counted over the blank that is passed.
abbrev pub ghosts-finds : goal.ghosts-finds
ghosts-finds a = record { name = a.blank.name; parts = a.blank.parts }
