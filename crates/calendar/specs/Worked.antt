-- Worked cases of the calendar. Assumes nothing.
use Rattle.std.specs.Prelude.{◌≡◌, ℕ, List, [], ◌∷◌, Some, None, Option}
use Rattle.std.specs.Option.{option_map}
use Rattle.calendar.specs.declared.clock.Register.{Register}
use Rattle.calendar.specs.declared.clock.Register.TheVariants.{Date}
use Rattle.calendar.specs.declared.worked.Case.{Case}
use Rattle.calendar.specs.Clock.{register_number, unlisted}
use Rattle.calendar.specs.Dates.{first_bad}
use Rattle.calendar.specs.Next.{next}

-- A case from its bytes.
abbrev pub case_of : List ℕ → Option Register → List ℕ → Case
case_of shown bad later = record { shown = unlisted shown; bad = bad; later = unlisted later }

-- The first bad register of the bytes shown is the case's, and so are the bytes one second later.
abbrev pub Holds : Case → Type 0
Holds k = (first_bad k.shown ≡ option_map register_number k.bad) × (next k.shown ≡ k.later)

-- At 23:59:59: 1999-12-31 goes to 2000, 1900-02-28 to 1 March, 2000-02-28 to 29 February, and 2099-12-31 to 2000-01-01.
-- At 11:59:59: hour 11h goes to 32h, and 31h to 12h of the next day. 30 February is bad at 33h.
abbrev pub worked : List Case
worked =
    case_of (0x59 ∷ 0x59 ∷ 0xa3 ∷ 0x31 ∷ 0x12 ∷ 0x99 ∷ 5 ∷ 0x19 ∷ []) None (0x00 ∷ 0x00 ∷ 0x80 ∷ 0x01 ∷ 0x01 ∷ 0x00 ∷ 6 ∷ 0x20 ∷ [])
    ∷ case_of (0x59 ∷ 0x59 ∷ 0xa3 ∷ 0x28 ∷ 0x02 ∷ 0x00 ∷ 3 ∷ 0x19 ∷ []) None (0x00 ∷ 0x00 ∷ 0x80 ∷ 0x01 ∷ 0x03 ∷ 0x00 ∷ 4 ∷ 0x19 ∷ [])
    ∷ case_of (0x59 ∷ 0x59 ∷ 0xa3 ∷ 0x28 ∷ 0x02 ∷ 0x00 ∷ 1 ∷ 0x20 ∷ []) None (0x00 ∷ 0x00 ∷ 0x80 ∷ 0x29 ∷ 0x02 ∷ 0x00 ∷ 2 ∷ 0x20 ∷ [])
    ∷ case_of (0x59 ∷ 0x59 ∷ 0xa3 ∷ 0x31 ∷ 0x12 ∷ 0x99 ∷ 4 ∷ 0x20 ∷ []) None (0x00 ∷ 0x00 ∷ 0x80 ∷ 0x01 ∷ 0x01 ∷ 0x00 ∷ 5 ∷ 0x20 ∷ [])
    ∷ case_of (0x59 ∷ 0x59 ∷ 0x11 ∷ 0x01 ∷ 0x01 ∷ 0x00 ∷ 6 ∷ 0x20 ∷ []) None (0x00 ∷ 0x00 ∷ 0x32 ∷ 0x01 ∷ 0x01 ∷ 0x00 ∷ 6 ∷ 0x20 ∷ [])
    ∷ case_of (0x59 ∷ 0x59 ∷ 0x31 ∷ 0x01 ∷ 0x01 ∷ 0x00 ∷ 6 ∷ 0x20 ∷ []) None (0x00 ∷ 0x00 ∷ 0x12 ∷ 0x02 ∷ 0x01 ∷ 0x00 ∷ 0 ∷ 0x20 ∷ [])
    ∷ case_of (0x00 ∷ 0x00 ∷ 0x12 ∷ 0x30 ∷ 0x02 ∷ 0x00 ∷ 3 ∷ 0x20 ∷ []) (Some Date) (0x00 ∷ 0x00 ∷ 0x12 ∷ 0x30 ∷ 0x02 ∷ 0x00 ∷ 3 ∷ 0x20 ∷ [])
    ∷ []
