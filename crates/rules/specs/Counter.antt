-- The address counter.
use Rattle.std.specs.Prelude.{ℕ, zero, suc, ◌/◌, ◌%◌, Bool, true, false, cond, not, ◌&&◌, List, [], ◌∷◌, length, Some, None, Option, ◌==◌, nat_le}
use Rattle.chip.specs.Counter.{next_written, next_read, at_status}
use Rattle.chip.specs.declared.slaves.Area.{Area}
use Rattle.rules.specs.Past.{History, is_fall, leaves_main}
use Rattle.rules.specs.Frames.{Sample, in_frame, sampled, acknowledged, ninth, slave, area_written, area_read, address}

-- The master asked for more after each of the k bytes sent: it answered each by a low ninth level.
abbrev pub asked_on : ℕ → List Sample → Bool
asked_on zero xs = true
asked_on (suc k) xs = asked_on k xs && not (ninth (suc k) xs).level

-- The module sends byte k, counted from the slave byte as byte 0: its slave byte was acknowledged and the master asked for more
-- after each byte sent before. Status is sent once.
abbrev pub sends_byte : Area → ℕ → List Sample → ℕ → Bool
sends_byte area c xs zero = false
sends_byte area c xs (suc k) = ((ninth 0 xs).pulled && asked_on k xs) && cond (at_status area c) (k == 0) true

-- At the fall that ends the second address byte's acknowledge the counter takes the address; at the fall that ends a data byte's
-- acknowledge it moves on by one inside its page or section.
abbrev pub write_fall : Area → List Sample → ℕ → ℕ
write_fall area xs c =
    elim (length xs % 9 == 0 && nat_le 27 (length xs)) [
      | true ↦
          elim (acknowledged (length xs / 9) xs) [
            | true ↦ elim (length xs == 27) [ true ↦ address area xs | false ↦ next_written area c ]
            | false ↦ c
          ]
      | false ↦ c
    ]

-- At the fall after the eighth bit of a byte sent it moves on across the whole array, or inside its section; status and empty
-- addresses do not move it.
abbrev pub read_fall : Area → List Sample → ℕ → ℕ
read_fall area xs c =
    elim (length xs % 9 == 8 && sends_byte area c xs (length xs / 9)) [ true ↦ next_read area c | false ↦ c ]

abbrev pub fall_by : Option Area → Option Area → List Sample → ℕ → ℕ
fall_by (Some area) r xs c = write_fall area xs c
fall_by None (Some area) xs c = read_fall area xs c
fall_by None None xs c = c

-- What a fall makes of the counter.
abbrev pub at_fall : History → ℕ → ℕ
at_fall h c =
    elim (in_frame h) [
      | true ↦ fall_by (area_written (slave (sampled h))) (area_read (slave (sampled h))) (sampled h) c
      | false ↦ c
    ]

-- The counter begins at 0, and goes there where main supply ends.
abbrev pub counter : History → ℕ
counter [] = 0
counter (e ∷ h) =
    elim (leaves_main e.event) [
      | true ↦ 0
      | false ↦ elim (is_fall e.edge) [ true ↦ at_fall h (counter h) | false ↦ counter h ]
    ]
