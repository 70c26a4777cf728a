-- The worked cases: what the rules say of lists of calls that a terminal makes, and of a few dates and memories.
use Rattle.std.specs.Prelude.{◌≡◌, ℕ, zero, suc, Bool, true, false, List, [], ◌∷◌, ◌++◌, map, replicate, Some, None}
use Rattle.std.specs.List.{AllByRecursion}
use Rattle.memory.specs.Model.{Mem}
use Rattle.memory.specs.Journal.{journal, blank}
use Rattle.calendar.specs.Worked.{Holds, worked}
use Rattle.chip.specs.Places.{place_of}
use Rattle.chip.specs.Refusals.{report}
use Rattle.chip.specs.declared.calls.Call.{Call}
use Rattle.chip.specs.declared.calls.Call.TheVariants.{Level}
use Rattle.chip.specs.declared.refusals.Layer.TheVariants.{Bus}
use Rattle.chip.specs.declared.refusals.Refusal.TheVariants.{Worn, RwelOff, NotADate, PageLocked}
use Rattle.chip.specs.declared.registers.Section.TheVariants.{Alarm0}
use Rattle.chip.specs.declared.slaves.Area.TheVariants.{Array, Registers}
use Rattle.rules.specs.Wires.{wire_level, hears}
use Rattle.rules.specs.Frames.{sampled, byte_at}
use Rattle.rules.specs.Stored.{stored, life_left}
use Rattle.rules.specs.Latches.{rwel}
use Rattle.rules.specs.Alarms.{flag}
use Rattle.rules.specs.Script.{frame, power_up, start, stop, bytes, byte, bits, pulse, ticks, tick_run, past, last_answer}

-- A memory as it leaves the factory, with a life of 1,000 writes: FFh in the array, 20h at registers 07h and 0Fh, else 00h.
abbrev pub factory : Mem
factory =
    record {
      fit = true;
      bytes = replicate 512 0xFF ++ (replicate 7 0x00 ++ (0x20 ∷ (replicate 7 0x00 ++ (0x20 ∷ replicate 4 0x00))));
      life = 1000;
    }

-- The same with a life of one write.
abbrev pub nearly_worn : Mem
nearly_worn = record { fit = true; bytes = factory.bytes; life = 1 }

-- Place 0 holds A5h, place 1 holds 5Ah.
abbrev pub marked : Mem
marked = record { fit = true; bytes = 0xA5 ∷ 0x5A ∷ replicate 530 0x00; life = 1000 }

-- Alarm 0 is enabled for the month of January alone.
abbrev pub january : Mem
january =
    record {
      fit = true;
      bytes = replicate 512 0xFF ++ (replicate 4 0x00 ++ (0x81 ∷ replicate 15 0x00));
      life = 1000;
    }

-- Main supply comes on, and a status write of 02h puts WEL on.
abbrev pub unlocked : List Call
unlocked = power_up ++ frame (0xDE ∷ 0x00 ∷ 0x3F ∷ 0x02 ∷ [])

-- Then one of 06h puts RWEL on.
abbrev pub register_unlocked : List Call
register_unlocked = unlocked ++ frame (0xDE ∷ 0x00 ∷ 0x3F ∷ 0x06 ∷ [])

-- A write of 5Ah to 0040h, up to its last acknowledge.
abbrev pub tare : List Call
tare = start ++ bytes (0xAE ∷ 0x00 ∷ 0x40 ∷ 0x5A ∷ [])

-- BL takes 80h, and the write cycle is waited out.
abbrev pub page_locked : List Call
page_locked = register_unlocked ++ (frame (0xDE ∷ 0x00 ∷ 0x10 ∷ 0x80 ∷ []) ++ ticks 164)

-- The clock is set: its seconds to 00h.
abbrev pub clock_set : List Call
clock_set = register_unlocked ++ frame (0xDE ∷ 0x00 ∷ 0x30 ∷ 0x00 ∷ [])

-- A terminal that lost its place: a register read that has just sent its slave byte.
abbrev pub read_begun : List Call
read_begun = power_up ++ (start ++ bits 8 0xDF)

-- n pulses with SDA released.
abbrev pub pulses : ℕ → List Call
pulses zero = []
pulses (suc n) = pulse 1 ++ pulses n

-- The wire at the rise of pulse n after it.
abbrev pub wire_at : ℕ → Bool
wire_at n = wire_level (past factory (read_begun ++ pulses n))

-- The clock is set, the counter is put at status, and after a repeated start a status read has come to the rise of its last bit.
abbrev pub status_nearly_read : List Call
status_nearly_read =
    clock_set
    ++ (start ++ (bytes (0xDE ∷ 0x00 ∷ 0x3F ∷ []) ++ (pulse 1 ++ (start ++ (byte 0xDF ++ pulses 8)))))

-- The fall after the status byte's eighth bit.
abbrev pub status_read : List Call
status_read = Level 0 1 ∷ []

-- How many there are.
abbrev pub case_count : ℕ
case_count = 25

-- The worked cases, all of them.
pub record WorkedCases : Type 0 where
  -- at 23:59:59, 1999-12-31 goes to 2000, and 1900-02-28 to 1 March; hour 11h at 11:59:59 goes to 32h, and 31h to 12h of the next day;
  -- 30 February is bad at 33h
  pub dates : AllByRecursion Holds worked
  -- 533 blank words with no erasure have life 533
  pub blank_journal : (journal (replicate 533 blank) 0).life ≡ 533
  -- AEh 00h 40h 5Ah with WEL on and 37 rises stores 5Ah at 64
  pub rises_37 : stored factory (past factory (unlocked ++ (tare ++ stop))) 64 ≡ 0x5A
  -- 38 rises store nothing
  pub rises_38 : stored factory (past factory (unlocked ++ (tare ++ (pulse 0 ++ stop)))) 64 ≡ 0xFF
  -- a stop in the middle of the next byte stores nothing
  pub half_a_byte : stored factory (past factory (unlocked ++ (tare ++ (bits 4 0x0B ++ stop)))) 64 ≡ 0xFF
  -- without WEL the data byte is not acknowledged, and nothing is stored
  pub wel_off : stored factory (past factory (power_up ++ (tare ++ stop))) 64 ≡ 0xFF
  -- two bytes from 003Fh land at 003Fh and 0000h
  pub page_wraps :
      map (stored factory (past factory (unlocked ++ frame (0xAE ∷ 0x00 ∷ 0x3F ∷ 0x11 ∷ 0x22 ∷ [])))) (0x3F ∷ 0x00 ∷ 0x40 ∷ [])
      ≡ 0x11 ∷ 0x22 ∷ 0xFF ∷ []
  -- and cost two writes
  pub page_costs : life_left factory (past factory (unlocked ++ frame (0xAE ∷ 0x00 ∷ 0x3F ∷ 0x11 ∷ 0x22 ∷ []))) ≡ 998
  -- BL 80h refuses 003Fh by 8
  pub lock_refuses :
      last_answer factory (page_locked ++ frame (0xAE ∷ 0x00 ∷ 0x3F ∷ 0x5A ∷ []))
      ≡ record { sda = true; refusal = Some (PageLocked 0x3F) }
  pub lock_number : report (PageLocked 0x3F) ≡ record { number = 8; layer = Bus; area = Some Array; address = 0x3F; life = None }
  -- and allows 0040h
  pub lock_allows : stored factory (past factory (page_locked ++ frame (0xAE ∷ 0x00 ∷ 0x40 ∷ 0x5A ∷ []))) 64 ≡ 0x5A
  -- a register write stores what its mask lets through: FFh to INT stores F8h
  pub mask_acts : stored factory (past factory (register_unlocked ++ frame (0xDE ∷ 0x00 ∷ 0x11 ∷ 0xFF ∷ []))) (place_of Registers 0x11) ≡ 0xF8
  -- 30 February gets 7 at 33h
  pub february_30 :
      last_answer factory (register_unlocked ++ frame (0xDE ∷ 0x00 ∷ 0x33 ∷ 0x30 ∷ 0x02 ∷ []))
      ≡ record { sda = true; refusal = Some (NotADate 0x33) }
  pub february_number : report (NotADate 0x33) ≡ record { number = 7; layer = Bus; area = Some Registers; address = 0x33; life = None }
  -- a clock write puts RWEL off, so a second one is refused by 6
  pub rwel_before : rwel (past factory register_unlocked) ≡ true
  pub rwel_off : rwel (past factory clock_set) ≡ false
  pub clock_twice :
      last_answer factory (clock_set ++ frame (0xDE ∷ 0x00 ∷ 0x30 ∷ 0x00 ∷ []))
      ≡ record { sda = true; refusal = Some (RwelOff 0x30) }
  -- a life of one refuses a write of two places by 5, with the life left, and nothing is stored
  pub worn :
      last_answer nearly_worn (unlocked ++ frame (0xAE ∷ 0x00 ∷ 0x40 ∷ 0x11 ∷ 0x22 ∷ []))
      ≡ record { sda = true; refusal = Some (Worn Array 0x40 1) }
  pub worn_stores_nothing :
      stored nearly_worn (past nearly_worn (unlocked ++ frame (0xAE ∷ 0x00 ∷ 0x40 ∷ 0x11 ∷ 0x22 ∷ []))) 64 ≡ 0xFF
  -- 163 ticks after a lawful write the bus does not hear, 164 ticks after it it does
  pub cycle_163 : hears (past factory (unlocked ++ (tare ++ (stop ++ ticks 163)))) ≡ false
  pub cycle_164 : hears (past factory (unlocked ++ (tare ++ (stop ++ ticks 164)))) ≡ true
  -- a read straight after power-up answers place 0 first, and then place 1
  pub first_read : byte_at 1 (sampled (past marked (power_up ++ (start ++ (byte 0xAF ++ byte 0xFF))))) ≡ 0xA5
  pub second_read : byte_at 2 (sampled (past marked (power_up ++ (start ++ (byte 0xAF ++ (bits 8 0xFF ++ (pulse 0 ++ byte 0xFF))))))) ≡ 0x5A
  -- nine pulses can all be low: an acknowledge and eight zeros; the tenth is high
  pub tenth_pulse :
      map wire_at (1 ∷ 2 ∷ 3 ∷ 4 ∷ 5 ∷ 6 ∷ 7 ∷ 8 ∷ 9 ∷ 10 ∷ [])
      ≡ false ∷ false ∷ false ∷ false ∷ false ∷ false ∷ false ∷ false ∷ false ∷ true ∷ []
  -- an alarm that matches between the copy and the fall after a status byte's eighth bit keeps its flag: a second passes there
  pub flag_stays : flag january Alarm0 (past january (status_nearly_read ++ (tick_run 32768 ++ status_read))) ≡ true
