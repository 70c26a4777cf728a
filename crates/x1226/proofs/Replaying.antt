-- One call more of a list that is worked.
use Rattle.std.proofs.Common.{◌≡◌, ℕ, ◌+◌, ◌<◌, ◌≢◌, List, [], ◌∷◌, reverse, length, get_or, take, drop, set, sym, refl, ap, ◌∙◌, subst, arith, get_or-set_other, get_or-set_same, below_more, add-one, length-drop, drop-cons}
use mathlib.Core.List.{reverse-append}
use Rattle.std.proofs.lemmas.List.{take_more}
use Rattle.memory.specs.Model.{Mem}
use Rattle.chip.specs.declared.calls.Answer.{Answer}
use Rattle.chip.specs.declared.calls.Call.{Call}
use Rattle.x1226.specs.declared.state.State.{State}
use Rattle.x1226.specs.State.{made}
use Rattle.x1226.specs.Step.{left, told, worked}
use Rattle.x1226.specs.Replay.{no_call, no_row, first, left_by, Replayed}

-- One call more comes first of the newest.
pub first_more : (calls : List Call) (k : ℕ) → k < length calls → first (k + 1) calls ≡ get_or calls k no_call ∷ first k calls
first_more calls k more =
    ap reverse (take_more calls k no_call more) ∙ reverse-append (take k calls) (get_or calls k no_call ∷ [])

-- The calls from call k on begin with call k.
pub record Next (calls : List Call) (k : ℕ) (call : Call) (later : List Call) : Type 0 where
  pub below : k < length calls
  pub call_is : call ≡ get_or calls k no_call
  pub later_is : later ≡ drop (k + 1) calls

pub next_of : (calls : List Call) (k : ℕ) (call : Call) (later : List Call) → drop k calls ≡ call ∷ later → Next calls k call later
next_of calls k call later is =
    let below : k < length calls = omega (arith, length-drop k calls, ap length is) in
    let first : drop k calls ≡ get_or calls k no_call ∷ drop (k + 1) calls = rw (add-one) (drop-cons calls k no_call below) in
    record { below = below; call_is = cc; later_is = cc }

-- What the first k + 1 calls leave is what call k leaves of what the first k left.
pub left_more : (was : Mem) (calls : List Call) (k : ℕ) → k < length calls → left was (first (k + 1) calls) ≡ left_by was calls k
unfolding left
left_more was calls k more = ap (left was) (first_more calls k more)

pub replayed_none : (was : Mem) (calls : List Call) (rows : List Answer) (s : State) → s ≡ made → Replayed 0 was calls rows rows s was
unfolding left
replayed_none was calls rows s is = record { state = is; mem = refl; row = λ k below. absurd (omega arith); rest = λ k above. refl }

pub replayed_more : (k : ℕ) (was : Mem) (calls : List Call) (before rows : List Answer) (s s' : State) (m m' : Mem) (row : Answer)
    → k < length calls → k < length rows
    → s' ≡ (worked (get_or calls k no_call) s m).state → m' ≡ (worked (get_or calls k no_call) s m).mem → row ≡ told (worked (get_or calls k no_call) s m)
    → Replayed k was calls before rows s m → Replayed (k + 1) was calls before (set rows k row) s' m'
replayed_more k was calls before rows s s' m m' row more room state mem answer so =
    let c = get_or calls k no_call in
    let same : worked c s m ≡ left_by was calls k = λ i. worked c (so.state i) (so.mem i) in
    let leaves : worked c s m ≡ left was (first (k + 1) calls) = same ∙ sym (left_more was calls k more) in
    record {
      state = state ∙ ap (λ l. l.state) leaves;
      mem = mem ∙ ap (λ l. l.mem) leaves;
      row = below_more (λ j. get_or (set rows k row) j no_row ≡ told (left_by was calls j)) k
          (λ j below. let other : j ≢ k = omega arith in get_or-set_other rows k j row no_row other ∙ so.row j below)
          (get_or-set_same rows k row no_row room ∙ answer ∙ ap told same);
      rest = λ j above. let other : j ≢ k = omega arith in get_or-set_other rows k j row no_row other ∙ so.rest j (omega arith);
    }

-- Where all are worked that there are calls and rows for.
pub replayed_whole : (k n : ℕ) (was : Mem) (calls : List Call) (before after : List Answer) (s : State) (m : Mem)
    → Replayed k was calls before after s m → k ≡ n → Replayed n was calls before after s m
replayed_whole k n was calls before after s m so e = subst (λ j. Replayed j was calls before after s m) e so
