-- Lists of calls: pulses, bytes and frames in the order in which the terminal makes them.
use Rattle.std.specs.Prelude.{ℕ, zero, suc, ◌/◌, ◌%◌, cond, is_ok, Result, List, [], ◌∷◌, ◌++◌, replicate}
use Rattle.calendar.specs.Clock.{listed}
use Rattle.calendar.specs.declared.clock.Clock.{Clock}
use Rattle.std.specs.declared.alloc.AllocError.{AllocError}
use Rattle.chip.specs.Calls.{supply_number}
use Rattle.chip.specs.Slaves.{slave_byte, slave_of}
use Rattle.chip.specs.declared.slaves.Direction.TheVariants.{Write, Read}
use Rattle.terminal.specs.declared.frames.Latch.{Latch}
use Rattle.terminal.specs.declared.frames.Latch.TheVariants.{Wel, Rwel}
use Rattle.chip.specs.declared.calls.Call.{Call}
use Rattle.chip.specs.declared.calls.Call.TheVariants.{Level, Tick, Supply as SupplyCall}
use Rattle.chip.specs.declared.calls.Supply.{Supply}
use Rattle.chip.specs.declared.slaves.Area.{Area}
use Rattle.chip.specs.declared.slaves.Area.TheVariants.{Registers}
use Rattle.terminal.specs.declared.script.Reply.{Reply}
use Rattle.terminal.specs.declared.script.Reply.TheVariants.{More, Last}

-- The calls are added, or on an error none is.
abbrev pub added : Result Unit AllocError → List Call → List Call → List Call
added r calls more = cond (is_ok r) (calls ++ more) calls

-- A supply is named by its number.
abbrev pub supply_calls : Supply → List Call
supply_calls supply = SupplyCall (supply_number supply) ∷ []

unfoldable pub tick_calls : ℕ → List Call
tick_calls n = replicate n Tick

-- SCL falls as SDA takes a level, and SCL rises.
abbrev pub pulse : ℕ → List Call
pulse level = Level 0 level ∷ Level 1 level ∷ []

-- Eight pulses with the bits of a byte, the highest first, and a ninth.
abbrev pub nine : ℕ → ℕ → List Call
nine byte ninth =
    pulse (byte / 128 % 2) ++ (pulse (byte / 64 % 2) ++ (pulse (byte / 32 % 2) ++ (pulse (byte / 16 % 2) ++
    (pulse (byte / 8 % 2) ++ (pulse (byte / 4 % 2) ++ (pulse (byte / 2 % 2) ++ (pulse (byte % 2) ++ pulse ninth)))))))

-- A byte sent: SDA is released for its acknowledge.
abbrev pub sent : ℕ → List Call
sent byte = nine byte 1

-- The ninth level of a byte read: low asks for more.
abbrev pub reply_level : Reply → ℕ
reply_level More = 0
reply_level Last = 1

-- A byte read: SDA is released for its bits.
abbrev pub received : Reply → List Call
received reply = nine 0xFF (reply_level reply)

-- From both levels high: SDA falls.
abbrev pub start_calls : List Call
start_calls = Level 1 0 ∷ []

-- One more pulse with SDA released, and a start.
abbrev pub restart_calls : List Call
restart_calls = pulse 1 ++ start_calls

-- A pulse with SDA low, and SDA rises.
abbrev pub stop_calls : List Call
stop_calls = pulse 0 ++ Level 1 1 ∷ []

-- Ten pulses with SDA released.
abbrev pub release_calls : List Call
release_calls =
    pulse 1 ++ (pulse 1 ++ (pulse 1 ++ (pulse 1 ++ (pulse 1 ++ (pulse 1 ++ (pulse 1 ++ (pulse 1 ++ (pulse 1 ++ pulse 1))))))))

-- The slave bytes of an area.
abbrev pub write_slave : Area → ℕ
write_slave area = slave_byte (slave_of area Write)

abbrev pub read_slave : Area → ℕ
read_slave area = slave_byte (slave_of area Read)

-- Bytes sent one after the other.
unfoldable pub all_sent : List ℕ → List Call
all_sent [] = []
all_sent (b ∷ bs) = sent b ++ all_sent bs

-- Calls, and behind them a start, the slave byte of a write, and the address, high byte first.
abbrev pub with_head : List Call → Area → ℕ → List Call
with_head calls area address = calls ++ start_calls ++ sent (write_slave area) ++ sent (address / 256) ++ sent (address % 256)

-- Calls, and behind them a whole write.
abbrev pub with_write : List Call → Area → ℕ → List ℕ → List Call
with_write calls area address bytes = with_head calls area address ++ all_sent bytes ++ stop_calls

-- Bytes read one after the other: one more than n, all but the last with a request for more.
unfoldable pub all_received : ℕ → List Call
all_received zero = received Last
all_received (suc n) = received More ++ all_received n

-- The counter is set by the head of a write, and after a repeated start a read begins.
abbrev pub with_seek : List Call → Area → ℕ → List Call
with_seek calls area address = with_head calls area address ++ restart_calls ++ sent (read_slave area)

-- The byte that puts a latch on: 02h WEL, 06h RWEL.
abbrev pub latch_byte : Latch → ℕ
latch_byte Wel = 0x02
latch_byte Rwel = 0x06

-- Status takes the byte of a latch.
abbrev pub with_latch : List Call → Latch → List Call
with_latch calls latch = with_write calls Registers 0x3F (latch_byte latch ∷ [])

-- The eight clock bytes from 30h on.
abbrev pub with_clock : List Call → Clock → List Call
with_clock calls clock = with_write calls Registers 0x30 (listed clock)
