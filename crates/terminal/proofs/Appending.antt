-- Lists of calls that grow at their end.
use Rattle.std.proofs.Common.{◌≡◌, ℕ, suc, ◌+◌, ◌-◌, ◌<◌, ◌≤◌, List, [], ◌∷◌, ◌++◌, length, get_or, drop, replicate, sym, ap, ◌∙◌, append_assoc, append-nil, arith}
use Rattle.std.proofs.lemmas.List.{at_drop_more, at_drop_all, replicate_more}
use Rattle.chip.specs.declared.calls.Call.{Call}
use Rattle.chip.specs.declared.calls.Call.TheVariants.{Tick}
use Rattle.terminal.specs.declared.script.Reply.TheVariants.{More, Last}
use Rattle.terminal.specs.Calls.{tick_calls, sent, all_sent, received, all_received}

-- Two parts added one after the other.
two_parts : (s a b s1 s2 : List Call) → s1 ≡ s ++ a → s2 ≡ s1 ++ b → s2 ≡ s ++ (a ++ b)
two_parts s a b s1 s2 e1 e2 = e2 ∙ (ap (λ (l : List Call). l ++ b) e1 ∙ append_assoc s a b)

-- Ticks one by one.
pub ticks_none : (s : List Call) → s ≡ s ++ tick_calls 0
unfolding tick_calls
ticks_none s = sym (append-nil s)

pub ticks_more : (s now next : List Call) (n : ℕ) → now ≡ s ++ tick_calls n → next ≡ now ++ Tick ∷ [] → next ≡ s ++ tick_calls (n + 1)
unfolding tick_calls
ticks_more s now next n e e1 =
    two_parts s (replicate n Tick) (Tick ∷ []) now next e e1 ∙ ap (λ (l : List Call). s ++ l) (replicate_more n Tick)

-- Bytes one by one: what is sent and what is still to send make the whole.
pub sending_more : (now next goal : List Call) (bs : List ℕ) (i : ℕ) → i < length bs → next ≡ now ++ sent (get_or bs i 0)
    → now ++ all_sent (drop i bs) ≡ goal → next ++ all_sent (drop (i + 1) bs) ≡ goal
unfolding all_sent
sending_more now next goal bs i low e inv =
    ap (λ (l : List Call). l ++ all_sent (drop (i + 1) bs)) e
    ∙ (append_assoc now (sent (get_or bs i 0)) (all_sent (drop (i + 1) bs))
    ∙ (ap (λ (l : List Call). now ++ l) (sym (at_drop_more all_sent bs i 0 low)) ∙ inv))

pub sending_all : (now goal : List Call) (bs : List ℕ) (i : ℕ) → length bs ≤ i → now ++ all_sent (drop i bs) ≡ goal → now ≡ goal
unfolding all_sent
sending_all now goal bs i high inv =
    sym (append-nil now) ∙ (ap (λ (l : List Call). now ++ l) (sym (at_drop_all all_sent bs i high)) ∙ inv)

-- Bytes read one by one.
one_fewer : (n k : ℕ) → k < n → n - k ≡ suc (n - (k + 1))
one_fewer n k low = omega arith

none_left : (n k : ℕ) → n ≤ k → n - k ≡ 0
none_left n k high = omega arith

pub receiving_more : (now next goal : List Call) (n k : ℕ) → k < n → next ≡ now ++ received More
    → now ++ all_received (n - k) ≡ goal → next ++ all_received (n - (k + 1)) ≡ goal
unfolding all_received
receiving_more now next goal n k low e inv =
    ap (λ (l : List Call). l ++ all_received (n - (k + 1))) e
    ∙ (append_assoc now (received More) (all_received (n - (k + 1)))
    ∙ (ap (λ m. now ++ all_received m) (sym (one_fewer n k low)) ∙ inv))

pub receiving_all : (now next goal : List Call) (n k : ℕ) → n ≤ k → now ++ all_received (n - k) ≡ goal → next ≡ now ++ received Last
    → next ≡ goal
unfolding all_received
receiving_all now next goal n k high inv e = e ∙ (ap (λ m. now ++ all_received m) (sym (none_left n k high)) ∙ inv)
