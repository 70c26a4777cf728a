-- The byte to send: module and rules agree, since the counter stays below 512.
use Rattle.std.proofs.Common.{◌≡◌, ℕ, ◌+◌, ◌-◌, ◌/◌, ◌%◌, ◌<◌, Bool, true, false, ◌&&◌, eqb, leb, List, [], ◌∷◌, length, get_or, Some, None, Option, refl, ap, ◌∙◌, arith}
use Rattle.memory.specs.Model.{Mem}
use Rattle.calendar.specs.Clock.{byte_of}
use Rattle.calendar.specs.declared.clock.Clock.{Clock}
use Rattle.chip.specs.Counter.{next_written, next_read}
use Rattle.chip.specs.Registers.{section_of}
use Rattle.chip.specs.Sizes.{clock_base}
use Rattle.chip.specs.declared.registers.Section.{Section}
use Rattle.chip.specs.declared.registers.Section.TheVariants.{Alarm0, Alarm1, Control, Clock as ClockSection, Status}
use Rattle.chip.specs.declared.slaves.Area.{Area}
use Rattle.chip.specs.declared.slaves.Area.TheVariants.{Array, Registers}
use Rattle.rules.specs.Past.{History, is_fall, leaves_main}
use Rattle.rules.specs.Frames.{Sample, in_frame, sampled, slave, area_written, area_read, address, byte_at, acknowledged}
use Rattle.rules.specs.Counter.{counter, sends_byte, fall_by, at_fall}
use Rattle.rules.specs.Clock.{clock}
use Rattle.chip.specs.Status.{status_byte}
use Rattle.chip.specs.declared.calls.Supply.{Supply}
use Rattle.chip.specs.declared.calls.Supply.TheVariants.{Off, Main, Battery}
use Rattle.rules.specs.Wires.{supply}
use Rattle.rules.specs.Latches.{wel, rwel}
use Rattle.rules.specs.Alarms.{flag}
use Rattle.rules.specs.Reads as reads
use Rattle.rules.specs.Reads.{status, byte_sent, register_sent, copied}
use Rattle.x1226.specs.declared.state.State.{State}
use Rattle.x1226.specs.Frame.{to_send, register_to_send, status_of, is_battery}
use Rattle.law.proofs.Tracks.{Holds}
use Rattle.law.proofs.Moves.{Inside, section_range, address_small, written_small, read_small}

-- Both ways below, so the choice too.
either_small : (n : ℕ) (b : Bool) (x y : ℕ) → x < n → y < n → elim b as (λ _. ℕ) [ true ↦ x | false ↦ y ] < n
either_small n true x y l m = l
either_small n false x y l m = m

address_below : (area : Area) (xs : List Sample) → address area xs < 512
address_below Array xs = address_small Array (byte_at 1 xs) (byte_at 2 xs)
address_below Registers xs = below (address Registers xs) (address_small Registers (byte_at 1 xs) (byte_at 2 xs))
  where
    below : (n : ℕ) → n < 64 → n < 512
    below n l = omega arith

fall_small : (o p : Option Area) (xs : List Sample) (c : ℕ) → c < 512 → fall_by o p xs c < 512
fall_small (Some area) p xs c l =
    either_small 512 (eqb (length xs % 9) 0 && leb 27 (length xs)) _ c
    (either_small 512 (acknowledged (length xs / 9) xs) _ c
    (either_small 512 (eqb (length xs) 27) (address area xs) (next_written area c) (address_below area xs) (written_small area c l)) l) l
fall_small None (Some area) xs c l =
    either_small 512 (eqb (length xs % 9) 8 && sends_byte area c xs (length xs / 9)) (next_read area c) c (read_small area c l) l
fall_small None None xs c l = l

-- The counter stays below 512.
pub counter_small : (h : History) → counter h < 512
counter_small [] = omega arith
counter_small (e ∷ h) =
    either_small 512 (leaves_main e.event) 0 _ (omega arith)
    (either_small 512 (is_fall e.edge) (at_fall h (counter h)) (counter h)
    (either_small 512 (in_frame h) _ (counter h)
    (fall_small (area_written (slave (sampled h))) (area_read (slave (sampled h))) (sampled h) (counter h) (counter_small h)) (counter_small h))
    (counter_small h))

module _ (was : Mem) (h : History) (s : State) (m : Mem) (k : Holds was h s m)
    (clock_is : s.copies.clock ≡ clock (copied h)) (status_is : s.copies.status ≡ status was (copied h)) where
  register_agrees : (o : Option Section) (r : ℕ) → section_of r ≡ o → register_to_send s m o r ≡ register_sent was h o r
  register_agrees None r e = refl
  register_agrees (Some Alarm0) r e =
      let i : Inside Alarm0 r = section_range r Alarm0 e in k.bytes (512 + r) (omega (arith, i.to_last))
  register_agrees (Some Alarm1) r e =
      let i : Inside Alarm1 r = section_range r Alarm1 e in k.bytes (512 + r) (omega (arith, i.to_last))
  register_agrees (Some Control) r e =
      let i : Inside Control r = section_range r Control e in k.bytes (512 + r) (omega (arith, i.to_last))
  register_agrees (Some ClockSection) r e = ap (λ (c : Clock). byte_of c (r - clock_base)) clock_is
  register_agrees (Some Status) r e = status_is

  -- The byte to send.
  pub sent_agrees : (area : Area) → to_send s m area ≡ byte_sent was h area
  sent_agrees Array =
      ap (λ (c : ℕ). get_or m.bytes c 0) k.counted ∙ k.bytes (counter h) (below (counter h) (counter_small h))
    where
      below : (n : ℕ) → n < 512 → n < 532
      below n l = omega arith
  sent_agrees Registers =
      ap (λ (c : ℕ). register_to_send s m (section_of (c % 64)) (c % 64)) k.counted
      ∙ register_agrees (section_of (counter h % 64)) (counter h % 64) refl

-- The status byte as it stands.
pub status_agrees : (was : Mem) (h : History) (s : State) (m : Mem) → Holds was h s m → status_of s ≡ status was h
status_agrees was h s m k =
    ap (λ (b : Bool). status_byte (record { bat = b; al1 = s.flags.second; al0 = s.flags.first; rwel = s.latches.rwel; wel = s.latches.wel; rtcf = s.timer.rtcf }))
    (battery_same s.supply ∙ ap reads.is_battery k.supply)
    ∙ ap (λ (b : Bool). status_byte (record { bat = reads.is_battery (supply h); al1 = b; al0 = s.flags.first; rwel = s.latches.rwel; wel = s.latches.wel; rtcf = s.timer.rtcf })) k.second
    ∙ ap (λ (b : Bool). status_byte (record { bat = reads.is_battery (supply h); al1 = flag was Alarm1 h; al0 = b; rwel = s.latches.rwel; wel = s.latches.wel; rtcf = s.timer.rtcf })) k.first
    ∙ ap (λ (b : Bool). status_byte (record { bat = reads.is_battery (supply h); al1 = flag was Alarm1 h; al0 = flag was Alarm0 h; rwel = b; wel = s.latches.wel; rtcf = s.timer.rtcf })) k.rwel_is
    ∙ ap (λ (b : Bool). status_byte (record { bat = reads.is_battery (supply h); al1 = flag was Alarm1 h; al0 = flag was Alarm0 h; rwel = rwel h; wel = b; rtcf = s.timer.rtcf })) k.wel_is
    ∙ ap (λ (b : Bool). status_byte (record { bat = reads.is_battery (supply h); al1 = flag was Alarm1 h; al0 = flag was Alarm0 h; rwel = rwel h; wel = wel h; rtcf = b })) k.rtcf_is
  where
    battery_same : (p : Supply) → is_battery p ≡ reads.is_battery p
    battery_same Off = refl
    battery_same Main = refl
    battery_same Battery = refl
