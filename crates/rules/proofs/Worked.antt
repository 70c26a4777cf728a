-- The worked cases follow from the rules.
use Rattle.std.proofs.Common.{◌≡◌, replicate, refl, rules}
use Rattle.calendar.specs.Alarm.{matches}
use Rattle.calendar.specs.Dates.{first_bad}
use Rattle.calendar.specs.Next.{after, next}
use Rattle.calendar.specs.Worked.{Holds, worked}
use Rattle.memory.specs.Journal.{journal, blank}
use Rattle.std.specs.List.{AllByRecursion as All}
use Rattle.rules.specs.Cases.{WorkedCases}
use Rattle.rules.proofs.Runs.{flag_stays as stays}

-- The cases of the calendar.
dates_hold : All Holds worked
unfolding first_bad next
dates_hold = search rules

-- The life of a blank journal.
blank_life : (journal (replicate 533 blank) 0).life ≡ 533
blank_life = refl

-- Every case follows from the rules, by computing.
pub worked_cases : WorkedCases
unfolding after first_bad matches
worked_cases = record {
  dates = dates_hold;
  blank_journal = blank_life;
  rises_37 = refl;
  rises_38 = refl;
  half_a_byte = refl;
  wel_off = refl;
  page_wraps = refl;
  page_costs = refl;
  lock_refuses = refl;
  lock_number = refl;
  lock_allows = refl;
  mask_acts = refl;
  february_30 = refl;
  february_number = refl;
  rwel_before = refl;
  rwel_off = refl;
  clock_twice = refl;
  worn = refl;
  worn_stores_nothing = refl;
  cycle_163 = refl;
  cycle_164 = refl;
  first_read = refl;
  second_read = refl;
  tenth_pulse = refl;
  flag_stays = stays;
}
