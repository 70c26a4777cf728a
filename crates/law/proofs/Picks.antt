-- Values found or not, and the byte sent: what they come to.
use Rattle.std.proofs.Common.{◌≡◌, ℕ, ◌-◌, ◌%◌, true, is_some, Some, None, Option, unwrap_or, sym, refl, ap, ◌∙◌}
use Rattle.std.proofs.lemmas.Bool.{true≢false}
use Rattle.memory.specs.Model.{Mem}
use Rattle.calendar.specs.Clock.{byte_of}
use Rattle.chip.specs.Places.{place_of}
use Rattle.chip.specs.Registers.{section_of}
use Rattle.chip.specs.Sizes.{register_space, clock_base}
use Rattle.chip.specs.declared.registers.Section.{Section}
use Rattle.chip.specs.declared.registers.Section.TheVariants.{Alarm0, Alarm1, Control, Clock as ClockSection, Status as StatusSection}
use Rattle.chip.specs.declared.slaves.Area.{Area}
use Rattle.chip.specs.declared.slaves.Area.TheVariants.{Array, Registers}
use Rattle.rules.specs.Past.{History}
use Rattle.rules.specs.Clock.{clock}
use Rattle.rules.specs.Counter.{counter}
use Rattle.rules.specs.Stored.{stored}
use Rattle.rules.specs.Reads.{status, copied, register_sent, byte_sent}

-- A found value is the same over any default.
pub found_same : {A : Type 0} (o : Option A) (x y : A) → is_some o ≡ true → unwrap_or o x ≡ unwrap_or o y
found_same None x y e = absurd (true≢false (sym e))
found_same (Some z) x y e = refl

-- Two histories with the same bytes stored and the same copy send the same register bytes.
register_same : (was : Mem) (g h : History) (o : Option Section) (r : ℕ)
    → ((p : ℕ) → stored was g p ≡ stored was h p) → copied g ≡ copied h → register_sent was g o r ≡ register_sent was h o r
register_same was g h None r s e = refl
register_same was g h (Some Alarm0) r s e = s (place_of Registers r)
register_same was g h (Some Alarm1) r s e = s (place_of Registers r)
register_same was g h (Some Control) r s e = s (place_of Registers r)
register_same was g h (Some ClockSection) r s e = ap (λ (x : History). byte_of (clock x) (r - clock_base)) e
register_same was g h (Some StatusSection) r s e = ap (λ (x : History). status was x) e

-- With the same counter too they send the same byte.
pub byte_same : (was : Mem) (g h : History) (area : Area) → ((p : ℕ) → stored was g p ≡ stored was h p) → counter g ≡ counter h
    → copied g ≡ copied h → byte_sent was g area ≡ byte_sent was h area
byte_same was g h Array s c e = s (counter g) ∙ ap (stored was h) c
byte_same was g h Registers s c e =
    register_same was g h (section_of (counter g % register_space)) (counter g % register_space) s e
    ∙ ap (λ (x : ℕ). register_sent was h (section_of (x % register_space)) (x % register_space)) c
