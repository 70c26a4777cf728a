-- The wires: which levels stand, when the bus hears, and what it hears.
use Rattle.std.specs.Prelude.{ℕ, ◌-◌, Bool, true, false, not, List, [], ◌∷◌, is_some, nat_eq}
use Rattle.std.specs.Option.{unwrap_or}
use Rattle.chip.specs.Sizes.{write_cycle}
use Rattle.chip.specs.Wires.{wire, edge_between}
use Rattle.chip.specs.declared.calls.Event.{Event}
use Rattle.chip.specs.declared.calls.Event.TheVariants.{Given, Ticked, Supplied}
use Rattle.chip.specs.declared.calls.Supply.{Supply}
use Rattle.chip.specs.declared.calls.Supply.TheVariants.{Off}
use Rattle.chip.specs.declared.wires.Edge.{Edge}
use Rattle.chip.specs.declared.wires.Edge.TheVariants.{Still}
use Rattle.chip.specs.declared.wires.Levels.{Levels}
use Rattle.rules.specs.Past.{History, Moment, moments, latest, since, any_of, count_of, levels_given, supply_given, is_tick, is_main, is_off, leaves_main, lawful_write}

-- The module begins with both levels high.
abbrev pub both_high : Levels
both_high = record { scl = true; sda = true }

-- The master's levels: those that it gave last.
abbrev pub levels : History → Levels
levels h = unwrap_or (latest (λ m. levels_given m.entry.event) (moments h)) both_high

-- The supply: the one called last; none at first.
abbrev pub supply : History → Supply
supply h = unwrap_or (latest (λ m. supply_given m.entry.event) (moments h)) Off

abbrev pub on_main : History → Bool
on_main h = is_main (supply h)

abbrev pub supplied : History → Bool
supplied h = not (is_off (supply h))

-- Whether the module pulls SDA.
abbrev pub pulls : History → Bool
pulls [] = false
pulls (e ∷ h) = e.pulls

-- The level on the wire SDA.
abbrev pub wire_level : History → Bool
wire_level h = wire (levels h).sda (pulls h)

-- The moments since main supply came on.
abbrev pub since_main : History → List Moment
since_main h = since (λ m. leaves_main m.entry.event) (moments h)

abbrev pub is_lawful : Moment → Bool
is_lawful m = is_some (lawful_write m.entry.outcome)

-- The ticks still to come of a write cycle: 164 from each lawful write on, while main supply lasts.
abbrev pub cycle_left : History → ℕ
cycle_left h =
    let ms : List Moment = since_main h in
    elim (any_of is_lawful ms) [
      | true ↦ write_cycle - count_of (λ m. is_tick m.entry.event) (since is_lawful ms)
      | false ↦ 0
    ]

-- The bus hears on main supply, outside a write cycle.
abbrev pub hears : History → Bool
hears h = elim (on_main h) [ true ↦ nat_eq (cycle_left h) 0 | false ↦ false ]

-- What the module hears of an event: what moved on the wires, where the bus hears; else the levels are only remembered.
abbrev pub edge_heard : Event → History → Edge
edge_heard (Given l) h = elim (hears h) [ true ↦ edge_between (levels h) (pulls h) l | false ↦ Still ]
edge_heard Ticked h = Still
edge_heard (Supplied s) h = Still
