-- The two wires: the level that the bus carries, and what moved between two calls.
use Rattle.std.specs.Prelude.{Bool, true, false}
use Rattle.chip.specs.declared.wires.Levels.{Levels}
use Rattle.chip.specs.declared.wires.Edge.{Edge}
use Rattle.chip.specs.declared.wires.Edge.TheVariants.{Start, Stop, Rise, Fall, Still}

-- The wire is low exactly when the master's SDA is low or the module pulls.
abbrev pub wire : Bool → Bool → Bool
wire true false = true
wire true true = false
wire false false = false
wire false true = false

-- A start is the wire falling while SCL was and stays high; a stop is the wire rising so.
abbrev pub under_high_clock : Bool → Bool → Edge
under_high_clock true false = Start
under_high_clock false true = Stop
under_high_clock true true = Still
under_high_clock false false = Still

-- What SCL's move makes of SDA's: at a rise of SCL the new wire level is sampled; under a low SCL nothing is said.
abbrev pub edge_by : (was is : Bool) → (wire_was wire_is : Bool) → Edge
edge_by true true w v = under_high_clock w v
edge_by false true w v = Rise v
edge_by true false w v = Fall
edge_by false false w v = Still

-- What moved when the levels go from `before` to `after` under one pull.
abbrev pub edge_between : Levels → Bool → Levels → Edge
edge_between before pulls after =
    edge_by before.scl after.scl (wire before.sda pulls) (wire after.sda pulls)
