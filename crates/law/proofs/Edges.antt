-- What an edge says of the levels before and after it, and of the pull.
use Rattle.std.proofs.Common.{◌≡◌, Bool, true, false, refl}
use Rattle.std.proofs.lemmas.Bool.{false≢true}
use Rattle.chip.specs.Wires.{wire, edge_by}
use Rattle.chip.specs.declared.wires.Edge.{Edge}
use Rattle.chip.specs.declared.wires.Edge.TheVariants.{Start, Stop, Rise, Fall, Still}
use Rattle.rules.specs.Past.{is_start, is_stop, is_fall}

abbrev pub is_rise : Edge → Bool
is_rise Start = false
is_rise Stop = false
is_rise (Rise v) = true
is_rise Fall = false
is_rise Still = false

abbrev pub is_still : Edge → Bool
is_still Start = false
is_still Stop = false
is_still (Rise v) = false
is_still Fall = false
is_still Still = true

abbrev pub level_in : Edge → Bool
level_in Start = false
level_in Stop = false
level_in (Rise v) = v
level_in Fall = false
level_in Still = false

-- SCL before and after, the wire before and after.
pub record SaidBy (c c' w v : Bool) (a b x y : Bool) : Type 0 where
  pub scl_was : c ≡ a
  pub scl_is : c' ≡ b
  pub wire_was : w ≡ x
  pub wire_is : v ≡ y

-- At a start SCL is high before and after, and the wire goes from high to low.
pub start_says : (c c' w v : Bool) → is_start (edge_by c c' w v) ≡ true → SaidBy c c' w v true true true false
start_says false false w v e = absurd (false≢true e)
start_says false true w v e = absurd (false≢true e)
start_says true false w v e = absurd (false≢true e)
start_says true true false false e = absurd (false≢true e)
start_says true true false true e = absurd (false≢true e)
start_says true true true false e = record { scl_was = refl; scl_is = refl; wire_was = refl; wire_is = refl }
start_says true true true true e = absurd (false≢true e)

-- At a stop SCL is high before and after, and the wire goes from low to high.
pub stop_says : (c c' w v : Bool) → is_stop (edge_by c c' w v) ≡ true → SaidBy c c' w v true true false true
stop_says false false w v e = absurd (false≢true e)
stop_says false true w v e = absurd (false≢true e)
stop_says true false w v e = absurd (false≢true e)
stop_says true true false false e = absurd (false≢true e)
stop_says true true false true e = record { scl_was = refl; scl_is = refl; wire_was = refl; wire_is = refl }
stop_says true true true false e = absurd (false≢true e)
stop_says true true true true e = absurd (false≢true e)

-- At a rise SCL goes from low to high, and the level is the wire's.
pub rise_says : (c c' w v : Bool) → is_rise (edge_by c c' w v) ≡ true → SaidBy c c' w v false true w (level_in (edge_by c c' w v))
rise_says false false w v e = absurd (false≢true e)
rise_says false true w v e = record { scl_was = refl; scl_is = refl; wire_was = refl; wire_is = refl }
rise_says true false w v e = absurd (false≢true e)
rise_says true true false false e = absurd (false≢true e)
rise_says true true false true e = absurd (false≢true e)
rise_says true true true false e = absurd (false≢true e)
rise_says true true true true e = absurd (false≢true e)

-- At a fall SCL goes from high to low.
pub fall_says : (c c' w v : Bool) → is_fall (edge_by c c' w v) ≡ true → SaidBy c c' w v true false w v
fall_says false false w v e = absurd (false≢true e)
fall_says false true w v e = absurd (false≢true e)
fall_says true false w v e = record { scl_was = refl; scl_is = refl; wire_was = refl; wire_is = refl }
fall_says true true false false e = absurd (false≢true e)
fall_says true true false true e = absurd (false≢true e)
fall_says true true true false e = absurd (false≢true e)
fall_says true true true true e = absurd (false≢true e)

-- Otherwise SCL stays as it is.
pub still_says : (c c' w v : Bool) → is_still (edge_by c c' w v) ≡ true → c ≡ c'
still_says false false w v e = refl
still_says false true w v e = absurd (false≢true e)
still_says true false w v e = absurd (false≢true e)
still_says true true w v e = refl

-- The wire is high only where the module does not pull.
pub wire_free : (d p : Bool) → wire d p ≡ true → p ≡ false
wire_free true false e = refl
wire_free true true e = absurd (false≢true e)
wire_free false false e = refl
wire_free false true e = absurd (false≢true e)
