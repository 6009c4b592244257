-- Worked examples, by computation.
use Rattle.std.specs.Prelude.{◌≡◌, codes, [], ◌∷◌, Some, None}
use Rattle.std.proofs.Common.{refl}
use Rattle.portal_words.specs.declared.command.Command.TheVariants.{Play, Load, Harvest, Serve, Report}
use Rattle.portal_words.specs.declared.command.ReportKind.TheVariants.{Tables}
use Rattle.portal_base.specs.declared.caller.Caller.TheVariants.{Named}
use Rattle.portal_words.specs.Commands.{command_of}

-- `play` alone
plays : command_of (codes "play" ∷ []) ≡ Some (Play (record { portal = None }))
plays = refl

-- an option in one word, and one in two, in any order
serves_some : command_of (codes "serve" ∷ codes "--links" ∷ codes "007" ∷ codes "--portal=a=b" ∷ [])
    ≡ Some (Serve (record { portal = Some (codes "a=b"); links = 7 }))
serves_some = refl

-- an option that is given twice
says_twice : command_of (codes "play" ∷ codes "--portal=a" ∷ codes "--portal=a" ∷ []) ≡ None
says_twice = refl

-- a value that begins with a dash is possible in one word only
begins_with_dash_in_one : command_of (codes "play" ∷ codes "--portal=-a" ∷ [])
    ≡ Some (Play (record { portal = Some (codes "-a") }))
begins_with_dash_in_one = refl

begins_with_dash_in_two : command_of (codes "play" ∷ codes "--portal" ∷ codes "-a" ∷ []) ≡ None
begins_with_dash_in_two = refl

-- numbers that are too small and too large
serves_none : command_of (codes "serve" ∷ codes "--links=0" ∷ []) ≡ None
serves_none = refl

serves_too_many : command_of (codes "serve" ∷ codes "--links=1000000001" ∷ []) ≡ None
serves_too_many = refl

-- three required options
loads : command_of (codes "load" ∷ codes "--schema" ∷ codes "s" ∷ codes "--as=ann" ∷ codes "--resource=air.1" ∷ [])
    ≡ Some (Load (record { portal = None; caller = codes "ann"; resource = codes "air.1"; schema = codes "s" }))
loads = refl

loads_by_nobody : command_of (codes "load" ∷ codes "--schema=s" ∷ codes "--resource=air.1" ∷ []) ≡ None
loads_by_nobody = refl

-- two required options, and a number of workers up to 16
harvests : command_of (codes "harvest" ∷ codes "--source=aa" ∷ codes "--as" ∷ codes "cyn" ∷ [])
    ≡ Some (Harvest (record { portal = None; caller = codes "cyn"; source = codes "aa"; workers = 4 }))
harvests = refl

harvests_by_too_many : command_of (codes "harvest" ∷ codes "--source=aa" ∷ codes "--as=cyn" ∷ codes "--workers=17" ∷ [])
    ≡ None
harvests_by_too_many = refl

harvests_no_source : command_of (codes "harvest" ∷ codes "--as=cyn" ∷ codes "--workers=1" ∷ []) ≡ None
harvests_no_source = refl

-- a report of a kind that is there, and one of another
reports : command_of (codes "report" ∷ codes "--as" ∷ codes "ann" ∷ codes "--kind=tables" ∷ [])
    ≡ Some (Report (record { portal = None; kind = Tables; caller = Named (codes "ann") }))
reports = refl

reports_other : command_of (codes "report" ∷ codes "--kind=harvest" ∷ []) ≡ None
reports_other = refl
