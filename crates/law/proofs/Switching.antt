-- A module just made, and a call of supply: the module's step follows the rules.
use Rattle.std.proofs.Common.{◌≡◌, Bool, true, false, eqb, [], ◌∷◌, length, is_some, Option, unwrap_or, sym, refl, ap, ◌∙◌, inl, inr, arith}
use Rattle.std.proofs.lemmas.Bool.{true≢false}
use Rattle.memory.specs.Model.{Mem}
use Rattle.memory.specs.Sizes.{places}
use Rattle.calendar.specs.Next.{after}
use Rattle.chip.specs.declared.calls.Event.TheVariants.{Supplied}
use Rattle.chip.specs.declared.calls.Supply.{Supply}
use Rattle.chip.specs.declared.calls.Supply.TheVariants.{Off, Main, Battery}
use Rattle.chip.specs.declared.wires.Edge.TheVariants.{Still}
use Rattle.rules.specs.Past.{History, Entry, Idle}
use Rattle.rules.specs.Wires as wires
use Rattle.rules.specs.Frames.{sampled, takes}
use Rattle.rules.specs.Latches.{wel, rwel}
use Rattle.rules.specs.History.{entry_of}
use Rattle.x1226.specs.declared.state.Phase.{Phase}
use Rattle.x1226.specs.declared.state.Phase.TheVariants.{Deaf, Receiving, Acknowledging, Sending, Listening}
use Rattle.x1226.specs.declared.state.State.{State}
use Rattle.x1226.specs.State.{made, with_supply}
use Rattle.x1226.specs.Step.{switched}
use Rattle.rules.proofs.Ticks.{chosen, passed_over}
use Rattle.law.proofs.Picks.{found_same, byte_same}
use Rattle.law.proofs.OffMain.{Quiet, none_sets_wel, none_sets_rwel}
use Rattle.law.proofs.Tracks.{Tracks, Holds, Open, Copied, Follows, copied_at}

-- A module just made is as the rules say of no calls.
pub made_tracks : (was : Mem) → was.fit ≡ true → length was.bytes ≡ places → Tracks was [] made was
unfolding after
made_tracks was f l =
    record {
      holds =
          record {
            levels = refl;
            supply = refl;
            pulled = refl;
            counted = refl;
            wel_is = refl;
            rwel_is = refl;
            cycle = refl;
            rtcf_is = refl;
            divided = refl;
            shown = refl;
            waits = refl;
            first = refl;
            second = refl;
            fit = f;
            sized = l;
            bytes = λ p b. refl;
            life = omega arith;
          };
      follows = inl refl;
    }

-- Supply goes: all is as after making, under the levels that stand.
off_tracks : (was : Mem) (h : History) (s : State) (m : Mem) → Tracks was h s m
    → Tracks was (entry_of was (Supplied Off) h ∷ h) (switched Off s) m
unfolding after
off_tracks was h s m k =
    record {
      holds =
          record {
            levels = k.holds.levels;
            supply = refl;
            pulled = refl;
            counted = refl;
            wel_is = refl;
            rwel_is = refl;
            cycle = refl;
            rtcf_is = refl;
            divided = refl;
            shown = refl;
            waits = refl;
            first = refl;
            second = refl;
            fit = k.holds.fit;
            sized = k.holds.sized;
            bytes = k.holds.bytes;
            life = k.holds.life;
          };
      follows = inl refl;
    }

-- Battery: frame, latches, write cycle and counter go; clock, flags and memory stay.
battery_tracks : (was : Mem) (h : History) (s : State) (m : Mem) → Tracks was h s m
    → Tracks was (entry_of was (Supplied Battery) h ∷ h) (switched Battery s) m
battery_tracks was h s m k =
    record {
      holds =
          record {
            levels = k.holds.levels;
            supply = refl;
            pulled = refl;
            counted = refl;
            wel_is = refl;
            rwel_is = refl;
            cycle = refl;
            rtcf_is = k.holds.rtcf_is;
            divided = k.holds.divided;
            shown = k.holds.shown;
            waits = k.holds.waits;
            first = k.holds.first;
            second = k.holds.second;
            fit = k.holds.fit;
            sized = k.holds.sized;
            bytes = k.holds.bytes;
            life = k.holds.life;
          };
      follows = inl refl;
    }

-- The entry of main supply.
abbrev main_entry : History → Entry
main_entry h = record { event = Supplied Main; edge = Still; pulls = wires.pulls h; outcome = Idle }

-- WEL by the writes since main supply came on.
wel_main : (h : History) → Quiet h → wel h ≡ wel (main_entry h ∷ h)
wel_main h q = go (wires.on_main h) refl
  where
    go : (b : Bool) → wires.on_main h ≡ b → wel h ≡ wel (main_entry h ∷ h)
    go true e = chosen (wires.on_main h) (wel (main_entry h ∷ h)) false e
    go false e =
        passed_over (wires.on_main h) (wel (main_entry h ∷ h)) false e
        ∙ sym (ap (λ (o : Option Bool). unwrap_or o false) (none_sets_wel (wires.since_main h) (q e)))

-- RWEL likewise.
rwel_main : (h : History) → Quiet h → rwel h ≡ rwel (main_entry h ∷ h)
rwel_main h q = go (wires.on_main h) refl
  where
    go : (b : Bool) → wires.on_main h ≡ b → rwel h ≡ rwel (main_entry h ∷ h)
    go true e = chosen (wires.on_main h) (rwel (main_entry h ∷ h)) false e
    go false e =
        passed_over (wires.on_main h) (rwel (main_entry h ∷ h)) false e
        ∙ sym (ap (λ (o : Option Bool). unwrap_or o false) (none_sets_rwel (wires.since_main h) (q e)))

-- Main supply keeps all that holds.
main_holds : (was : Mem) (h : History) (s : State) (m : Mem) → Quiet h → Holds was h s m
    → Holds was (main_entry h ∷ h) (with_supply Main s) m
main_holds was h s m q k =
    record {
      levels = k.levels;
      supply = refl;
      pulled = k.pulled;
      counted = k.counted;
      wel_is = k.wel_is ∙ wel_main h q;
      rwel_is = k.rwel_is ∙ rwel_main h q;
      cycle = k.cycle;
      rtcf_is = k.rtcf_is;
      divided = k.divided;
      shown = k.shown;
      waits = k.waits;
      first = k.first;
      second = k.second;
      fit = k.fit;
      sized = k.sized;
      bytes = k.bytes;
      life = k.life;
    }

-- A bus that hears, goes on hearing.
hears_main : (h : History) → wires.hears h ≡ true → wires.hears (main_entry h ∷ h) ≡ true
hears_main h e = go (wires.on_main h) refl
  where
    go : (b : Bool) → wires.on_main h ≡ b → wires.hears (main_entry h ∷ h) ≡ true
    go true f = sym (chosen (wires.on_main h) (eqb (wires.cycle_left h) 0) false f) ∙ e
    go false f = absurd (true≢false (sym e ∙ passed_over (wires.on_main h) (eqb (wires.cycle_left h) 0) false f))

-- A frame that is open stays open.
open_main : (h : History) → Open h → Open (main_entry h ∷ h)
open_main h o = record { open_frame = o.open_frame; hearing = hears_main h o.hearing }

-- A read's copies stay.
copied_main : (was : Mem) (h : History) (s : State) → Copied was h s → Copied was (main_entry h ∷ h) (with_supply Main s)
copied_main was h s g =
    record {
      reads_area = g.reads_area;
      from = g.from;
      found = g.found;
      clock_is = g.clock_is;
      status_is = g.status_is;
      first_since = g.first_since;
      second_since = g.second_since;
    }

-- The phase goes on as it was.
main_follows : (was : Mem) (h : History) (s : State) → Quiet h → (p : Phase) → Follows was h s p
    → Follows was (main_entry h ∷ h) (with_supply Main s) p
main_follows was h s q Deaf (inl g) = inl g
main_follows was h s q Deaf (inr g) = inr (open_main h g.0, g.1)
main_follows was h s q (Receiving stage bits shift) g = (
  g.0,
  record {
    opened = open_main h g.1.opened;
    acked = g.1.acked;
    long = g.1.long;
    few = g.1.few;
    high_at_eight = g.1.high_at_eight;
    low_at_none = g.1.low_at_none;
    stage_is = g.1.stage_is;
    shift_is = g.1.shift_is;
    fresh = g.1.fresh;
    said = g.1.said;
  },
)
main_follows was h s q (Acknowledging stage byte) g = (
  g.0,
  record {
    opened = open_main h g.1.opened;
    acked = g.1.acked;
    long = g.1.long;
    taken = ap (λ (w : Bool). takes w (sampled h) g.0) (sym (wel_main h q)) ∙ g.1.taken;
    ninth_pulled = g.1.ninth_pulled;
    stage_is = g.1.stage_is;
    byte_is = g.1.byte_is;
    fresh = g.1.fresh;
    said = g.1.said;
  },
)
main_follows was h s q (Sending sent byte) g = (
  g.0,
  record {
    opened = open_main h g.1.opened;
    copied = copied_main was h s g.1.copied;
    long = g.1.long;
    few = g.1.few;
    sends = g.1.sends;
    byte_is =
        g.1.byte_is
        ∙ byte_same was h (main_entry h ∷ h) s.area (λ p. refl) refl
        (found_same (copied_at h) h (main_entry h ∷ h) (ap is_some g.1.copied.found));
  },
)
main_follows was h s q Listening g = (
  g.0,
  record {
    opened = open_main h g.1.opened;
    copied = copied_main was h s g.1.copied;
    long = g.1.long;
    answered = g.1.answered;
    asked = g.1.asked;
    low = g.1.low;
    no_status = g.1.no_status;
  },
)

-- The step of a call of supply keeps to the rules.
pub switch_tracks : (was : Mem) (h : History) (s : State) (m : Mem) (p : Supply) → Quiet h → Tracks was h s m
    → Tracks was (entry_of was (Supplied p) h ∷ h) (switched p s) m
switch_tracks was h s m Off q k = off_tracks was h s m k
switch_tracks was h s m Main q k = record { holds = main_holds was h s m q k.holds; follows = main_follows was h s q s.phase k.follows }
switch_tracks was h s m Battery q k = battery_tracks was h s m k
