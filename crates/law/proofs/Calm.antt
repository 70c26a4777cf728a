-- Level calls that end no pull and close no write: what the rules say of a history stays, but for the levels.
use Rattle.std.proofs.Common.{◌≡◌, ℕ, ◌-◌, ◌%◌, false, ◌∷◌, Some, None, Option, unwrap_or, sym, refl, ap, ◌∙◌}
use Rattle.memory.specs.Model.{Mem}
use Rattle.calendar.specs.Clock.{byte_of}
use Rattle.chip.specs.Places.{place_of}
use Rattle.chip.specs.Registers.{section_of}
use Rattle.chip.specs.Sizes.{register_space, clock_base}
use Rattle.chip.specs.declared.slaves.Area.{Area}
use Rattle.chip.specs.declared.slaves.Area.TheVariants.{Array, Registers}
use Rattle.chip.specs.declared.calls.Event.TheVariants.{Given}
use Rattle.chip.specs.declared.registers.Section.{Section}
use Rattle.chip.specs.declared.registers.Section.TheVariants.{Alarm0, Alarm1, Control, Clock, Status}
use Rattle.chip.specs.declared.wires.Edge.{Edge}
use Rattle.chip.specs.declared.wires.Levels.{Levels}
use Rattle.rules.specs.Past.{History, Entry, Idle, is_fall, is_start}
use Rattle.rules.specs.Wires as wires
use Rattle.rules.specs.Counter.{counter}
use Rattle.rules.specs.Stored.{stored}
use Rattle.rules.specs.Clock.{clock}
use Rattle.rules.specs.Alarms.{flag, matched_since_copy}
use Rattle.rules.specs.Reads.{status, register_sent, byte_sent}
use Rattle.x1226.specs.declared.state.Phase.{Phase}
use Rattle.x1226.specs.declared.state.Staging.{Staging}
use Rattle.x1226.specs.declared.state.State.{State}
use Rattle.x1226.specs.State.{with_levels, with_phase, with_staging}
use Rattle.x1226.specs.Frame.{pulls}
use Rattle.law.proofs.Tracks.{Holds, copied_at, addressed_at}

-- A level call at which an edge is heard and the pull stays.
abbrev pub calm : Levels → Edge → History → Entry
calm l edge h = record { event = Given l; edge = edge; pulls = wires.pulls h; outcome = Idle }

-- The byte that a read sends, where the counter, the copies and the stored bytes stay.
pub byte_sent_same : (was : Mem) (h : History) (e : Entry) (area : Area) (g : History)
    → counter (e ∷ h) ≡ counter h → ((p : ℕ) → stored was (e ∷ h) p ≡ stored was h p)
    → copied_at h ≡ Some g → copied_at (e ∷ h) ≡ Some g
    → byte_sent was (e ∷ h) area ≡ byte_sent was h area
byte_sent_same was h e Array g ec es f f' = es (counter (e ∷ h)) ∙ ap (stored was h) ec
byte_sent_same was h e Registers g ec es f f' =
    ap (λ (c : ℕ). register_sent was (e ∷ h) (section_of (c % register_space)) (c % register_space)) ec
    ∙ register_same (section_of (counter h % register_space)) (counter h % register_space)
  where
    register_same : (o : Option Section) (r : ℕ) → register_sent was (e ∷ h) o r ≡ register_sent was h o r
    register_same None r = refl
    register_same (Some Alarm0) r = es (place_of Registers r)
    register_same (Some Alarm1) r = es (place_of Registers r)
    register_same (Some Control) r = es (place_of Registers r)
    register_same (Some Clock) r = ap (λ (o : Option History). byte_of (clock (unwrap_or o (e ∷ h))) (r - clock_base)) f' ∙ sym (ap (λ (o : Option History). byte_of (clock (unwrap_or o h)) (r - clock_base)) f)
    register_same (Some Status) r = ap (λ (o : Option History). status was (unwrap_or o (e ∷ h))) f' ∙ sym (ap (λ (o : Option History). status was (unwrap_or o h)) f)

module _ (was : Mem) (h : History) (l : Levels) (edge : Edge) (no_fall : is_fall edge ≡ false) where
  pub calm_counter : counter (calm l edge h ∷ h) ≡ counter h
  calm_counter = rw no_fall

  pub calm_flag : (a : Section) → flag was a (calm l edge h ∷ h) ≡ flag was a h
  calm_flag a = rw no_fall

  pub calm_since_copy : (a : Section) → matched_since_copy was a (calm l edge h ∷ h) ≡ matched_since_copy was a h
  calm_since_copy a = rw no_fall

  pub calm_copied : is_start edge ≡ false → copied_at (calm l edge h ∷ h) ≡ copied_at h
  calm_copied no_start = rw (no_start, no_fall)

  pub calm_addressed : is_start edge ≡ false → addressed_at (calm l edge h ∷ h) ≡ addressed_at h
  calm_addressed no_start = rw (no_start, no_fall)

  -- The byte that a read sends.
  pub byte_sent_calm : is_start edge ≡ false → (area : Area) (g : History) → copied_at h ≡ Some g
      → byte_sent was (calm l edge h ∷ h) area ≡ byte_sent was h area
  byte_sent_calm no_start area g found = byte_sent_same was h (calm l edge h) area g calm_counter (λ p. refl) found (calm_copied no_start ∙ found)

  -- Everything but the phase.
  pub calm_holds : (s : State) (m : Mem) (p : Phase) (g : Staging) → Holds was h s m → pulls p ≡ wires.pulls h
      → Holds was (calm l edge h ∷ h) (with_levels l (with_phase p (with_staging g s))) m
  calm_holds s m p g t e =
      record {
        levels = refl;
        supply = t.supply;
        pulled = e;
        counted = t.counted ∙ sym calm_counter;
        wel_is = t.wel_is;
        rwel_is = t.rwel_is;
        cycle = t.cycle;
        rtcf_is = t.rtcf_is;
        divided = t.divided;
        shown = t.shown;
        waits = t.waits;
        first = t.first ∙ sym (calm_flag Alarm0);
        second = t.second ∙ sym (calm_flag Alarm1);
        fit = t.fit;
        sized = t.sized;
        bytes = t.bytes;
        life = t.life;
      }
