-- The steps planned for a day, by their number.
use Rattle.std.specs.Prelude.{ℕ, ◌+◌, ◌-◌, ◌*◌, ◌%◌, cond, Some, None, Option, nat_lt}
use Rattle.ledger.specs.declared.day.Step.{Step}
use Rattle.ledger.specs.declared.day.Step.TheVariants.{SetTare, Weigh, Read, Bill}

-- Eight trucks get their tare; every ticket is weighed on, one of them once too often, read back and billed;
-- then ten tickets are weighed on again, read back and billed.
abbrev pub planned_step : ℕ → Option Step
planned_step n =
    cond (nat_lt n 8) (Some (SetTare n (6800 + 420 * n)))
    (cond (nat_lt n 32) (Some (Weigh (n - 8) ((n - 8) % 8) (17500 + 365 * (n - 8))))
    (cond (nat_lt n 33) (Some (Weigh 0 5 19000))
    (cond (nat_lt n 57) (Some (Read (n - 33)))
    (cond (nat_lt n 81) (Some (Bill (n - 57)))
    (cond (nat_lt n 91) (Some (Weigh (n - 81) ((n - 81) % 8) (21000 + 290 * (n - 81))))
    (cond (nat_lt n 101) (Some (Read (n - 91)))
    (cond (nat_lt n 111) (Some (Bill (n - 101))) None)))))))
