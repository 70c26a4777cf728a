-- Samples: what a rise more leaves of the bytes already heard.
use Rattle.std.proofs.Common.{◌≡◌, ℕ, zero, suc, ◌+◌, ◌*◌, ◌^◌, ◌<◌, ◌≤◌, Bool, true, false, cond, not, eqb, List, [], ◌∷◌, ◌++◌, map, length, drop, is_some, Some, None, Option, sym, refl, ap, ◌∙◌, subst, ⊎_elim, lt_of_lt_of_le, mul-le-mul_right, mul_assoc, one-mul, mul-one, arith, pow_mono}
use native.Mathlib.Nat.{pow-succ'}
use Rattle.std.proofs.lemmas.List.{get_or_append_left, drop-append-le, take-append-le, take_all, length-drop, map-append, length-map}
use Rattle.std.proofs.lemmas.Bool.{and_left, and_right, cases_eq}
use Rattle.chip.specs.Bits.{shifted}
use Rattle.chip.specs.Counter.{address_in, takes_data}
use Rattle.chip.specs.Slaves.{slave_named}
use Rattle.chip.specs.declared.slaves.Area.{Area}
use Rattle.chip.specs.declared.slaves.Slave.{Slave}
use Rattle.calendar.specs.declared.clock.Clock.{Clock}
use Rattle.chip.specs.Places.{place_of}
use Rattle.rules.specs.Past.{History}
use Rattle.rules.specs.Stored.{last_sent, place_at, steps_on, span_of}
use Rattle.x1226.specs.declared.state.Staging.{Staging}
use Rattle.x1226.specs.Stop.{address_staged}
use Rattle.law.proofs.Tracks.{Staged, Said}
use Rattle.rules.specs.Frames.{Sample, no_sample, number_from, byte_at, ninth, acknowledged, slave, area_written, address, data_byte, takes, takes_after_slave, takes_in_write}
use Rattle.rules.specs.Counter.{asked_on, sends_byte}

pub ninth_more : (k : ℕ) (xs ys : List Sample) → 9 * k + 8 < length xs → ninth k (xs ++ ys) ≡ ninth k xs
ninth_more k xs ys l = get_or_append_left xs ys no_sample (9 * k + 8) l

pub acknowledged_more : (k : ℕ) (xs ys : List Sample) → 9 * k ≤ length xs → acknowledged k (xs ++ ys) ≡ acknowledged k xs
acknowledged_more zero xs ys l = refl
acknowledged_more (suc k) xs ys l =
    let a : 9 * k ≤ length xs = omega arith in
    let b : 9 * k + 8 < length xs = omega arith in
    rw (acknowledged_more k xs ys a, ninth_more k xs ys b)

pub byte_more : (k : ℕ) (xs ys : List Sample) → 9 * k + 8 ≤ length xs → byte_at k (xs ++ ys) ≡ byte_at k xs
byte_more k xs ys l =
    let a : 9 * k ≤ length xs = omega arith in
    let b : 8 ≤ length (drop (9 * k) xs) = omega (arith, length-drop (9 * k) xs) in
    rw (drop-append-le (9 * k) xs ys a, take-append-le 8 (drop (9 * k) xs) ys b)

pub asked_more : (k : ℕ) (xs ys : List Sample) → 9 * k + 9 ≤ length xs → asked_on k (xs ++ ys) ≡ asked_on k xs
asked_more zero xs ys l = refl
asked_more (suc k) xs ys l =
    let a : 9 * k + 9 ≤ length xs = omega arith in
    let b : 9 * suc k + 8 < length xs = omega arith in
    rw (asked_more k xs ys a, ninth_more (suc k) xs ys b)

pub sends_more : (area : Area) (c : ℕ) (k : ℕ) (xs ys : List Sample) → 9 * k + 9 ≤ length xs
    → sends_byte area c (xs ++ ys) (suc k) ≡ sends_byte area c xs (suc k)
sends_more area c k xs ys l =
    let b : 9 * 0 + 8 < length xs = omega arith in
    rw (asked_more k xs ys l, ninth_more 0 xs ys b)

-- One bit more.
pub number_push : (n : ℕ) (bs : List Bool) (b : Bool) → number_from n (bs ++ b ∷ []) ≡ 2 * number_from n bs + cond b 1 0
number_push n [] b = refl
number_push n (x ∷ bs) b = number_push (2 * n + cond x 1 0) bs b

-- The bits since byte k, with one rise more.
pub bits_push : (k : ℕ) (xs : List Sample) (x : Sample) → 9 * k ≤ length xs
    → number_from 0 (map (λ s. s.level) (drop (9 * k) (xs ++ x ∷ [])))
    ≡ 2 * number_from 0 (map (λ s. s.level) (drop (9 * k) xs)) + cond x.level 1 0
bits_push k xs x l =
    rw (drop-append-le (9 * k) xs (x ∷ []) l, map-append (λ (s : Sample). s.level) (drop (9 * k) xs) (x ∷ []))
    (number_push 0 (map (λ s. s.level) (drop (9 * k) xs)) x.level)

-- Eight bits make the byte.
pub byte_whole : (k : ℕ) (xs : List Sample) → length xs ≡ 9 * k + 8
    → number_from 0 (map (λ s. s.level) (drop (9 * k) xs)) ≡ byte_at k xs
byte_whole k xs e =
    let b : length (drop (9 * k) xs) ≤ 8 = omega (arith, length-drop (9 * k) xs) in
    rw (take_all 8 (drop (9 * k) xs) b)

pub slave_more : (xs ys : List Sample) → 8 ≤ length xs → slave (xs ++ ys) ≡ slave xs
slave_more xs ys l = ap slave_named (byte_more 0 xs ys (omega arith))

pub address_more : (area : Area) (xs ys : List Sample) → 26 ≤ length xs → address area (xs ++ ys) ≡ address area xs
address_more area xs ys l =
    let a : byte_at 1 (xs ++ ys) ≡ byte_at 1 xs = byte_more 1 xs ys (omega arith) in
    let b : byte_at 2 (xs ++ ys) ≡ byte_at 2 xs = byte_more 2 xs ys (omega arith) in
    ap (λ (n : ℕ). address_in area n (byte_at 2 (xs ++ ys))) a ∙ ap (λ (n : ℕ). address_in area (byte_at 1 xs) n) b

-- Whether byte k is taken is settled by the bits up to it.
pub takes_more : (w : Bool) (k : ℕ) (xs ys : List Sample) → 9 * k + 8 ≤ length xs → takes w (xs ++ ys) k ≡ takes w xs k
takes_more w zero xs ys l = ap (λ (o : Option Slave). is_some o) (slave_more xs ys (omega arith))
takes_more w (suc k) xs ys l =
    ap (λ (o : Option Slave). takes_after_slave w (area_written o) (xs ++ ys) k) (slave_more xs ys (omega arith))
    ∙ after_more (area_written (slave xs)) k (omega arith)
  where
    write_more : (area : Area) (j : ℕ) → 9 * suc j + 8 ≤ length xs → takes_in_write w area (xs ++ ys) j ≡ takes_in_write w area xs j
    write_more area zero l = refl
    write_more area (suc zero) l = refl
    write_more area (suc (suc i)) l =
        ap (λ (a : ℕ). takes_data w area a (eqb i 0)) (address_more area xs ys (omega arith))

    after_more : (o : Option Area) (j : ℕ) → 9 * suc j + 8 ≤ length xs → takes_after_slave w o (xs ++ ys) j ≡ takes_after_slave w o xs j
    after_more None j l = refl
    after_more (Some area) j l = write_more area j l

-- j bits make a number below 2 to the j.
bit_small : (n : ℕ) (b : Bool) → suc (2 * n + cond b 1 0) ≤ suc n * 2
bit_small n true = omega arith
bit_small n false = omega arith

doubled : (n : ℕ) (b : Bool) (j : ℕ) → suc (2 * n + cond b 1 0) * 2 ^ j ≤ suc n * 2 ^ suc j
doubled n b j =
    subst (λ (x : ℕ). suc (2 * n + cond b 1 0) * 2 ^ j ≤ x)
    (mul_assoc (suc n) 2 (2 ^ j) ∙ ap (λ (x : ℕ). suc n * x) (sym (pow-succ' 2 j)))
    (mul-le-mul_right (2 ^ j) (bit_small n b))

number_bound : (n : ℕ) (bs : List Bool) → number_from n bs < suc n * 2 ^ length bs
number_bound n [] = omega (arith, mul-one (suc n))
number_bound n (b ∷ bs) = lt_of_lt_of_le (number_bound (2 * n + cond b 1 0) bs) (doubled n b (length bs))

pub number_small : (bs : List Bool) → length bs ≤ 7 → number_from 0 bs < 128
number_small bs l =
    let p : 2 ^ length bs ≤ 2 ^ 7 = pow_mono l in
    omega (arith, number_bound 0 bs, one-mul (2 ^ length bs))

-- A bit more of a byte that is not full.
pub shift_push : (k bits shift : ℕ) (xs : List Sample) (x : Sample) → length xs ≡ 9 * k + bits → bits < 8
    → shift ≡ number_from 0 (map (λ y. y.level) (drop (9 * k) xs))
    → shifted shift x.level ≡ number_from 0 (map (λ y. y.level) (drop (9 * k) (xs ++ x ∷ [])))
shift_push k bits shift xs x long few e =
    let bs : List Bool = map (λ (y : Sample). y.level) (drop (9 * k) xs) in
    let len : length bs ≤ 7 = omega (arith, length-map (drop (9 * k) xs) (λ (y : Sample). y.level), length-drop (9 * k) xs) in
    let small : shift < 128 = omega (arith, number_small bs len) in
    let p : number_from 0 (map (λ (y : Sample). y.level) (drop (9 * k) (xs ++ x ∷ []))) ≡ 2 * number_from 0 bs + cond x.level 1 0
    = bits_push k xs x (omega arith) in
    omega arith

-- What was said before byte k stays with one rise more.
pub last_sent_same : (area : Area) (a : ℕ) (d e : ℕ → ℕ) (n p : ℕ) → ((i : ℕ) → i < n → d i ≡ e i)
    → last_sent area a d n p ≡ last_sent area a e n p
last_sent_same area a d e zero p same = refl
last_sent_same area a d e (suc i) p same =
    ap (λ (b : ℕ). cond (eqb (place_at area a i) p) (Some b) (last_sent area a d i p)) (same i (omega arith))
    ∙ ap (λ (o : Option ℕ). cond (eqb (place_at area a i) p) (Some (e i)) o)
    (last_sent_same area a d e i p (λ j l. same j (omega arith)))

pub staged_more : (xs ys : List Sample) (at : Option History) (area : Area) (staging : Staging) (c : ℕ) (copy : Clock) (n : ℕ)
    → 9 * (3 + n) ≤ length xs → Staged xs at area staging c copy n → Staged (xs ++ ys) at area staging c copy n
staged_more xs ys at area staging c copy n l t =
    let ea : address area (xs ++ ys) ≡ address area xs = address_more area xs ys (omega arith) in
    record {
      address_is = t.address_is ∙ sym ea;
      wide = t.wide;
      held = λ j lj.
          t.held j lj
          ∙ last_sent_same area (address area xs) (data_byte xs) (data_byte (xs ++ ys)) n
          (place_of area (address_staged area (address area xs) j))
          (λ i li. sym (byte_more (3 + i) xs ys (omega arith)))
          ∙ ap (λ (a : ℕ). last_sent area a (data_byte (xs ++ ys)) n (place_of area (address_staged area a j))) (sym ea);
      next_is = t.next_is ∙ ap (λ (a : ℕ). steps_on (span_of area a) a n) (sym ea);
      from = t.from;
      found = t.found;
      clock_is = t.clock_is;
    }

pub said_more : (k : ℕ) (xs ys : List Sample) (at : Option History) (area : Area) (high : ℕ) (staging : Staging) (c : ℕ) (copy : Clock)
    → 9 * k ≤ length xs → Said xs at area high staging c copy k → Said (xs ++ ys) at area high staging c copy k
said_more zero xs ys at area high staging c copy l t = tt
said_more (suc zero) xs ys at area high staging c copy l t = ap area_written (slave_more xs ys (omega arith)) ∙ t
said_more (suc (suc zero)) xs ys at area high staging c copy l t =
    (ap area_written (slave_more xs ys (omega arith)) ∙ t.0, t.1 ∙ sym (byte_more 1 xs ys (omega arith)))
said_more (suc (suc (suc n))) xs ys at area high staging c copy l t =
    (ap area_written (slave_more xs ys (omega arith)) ∙ t.0, staged_more xs ys at area staging c copy n (omega arith) t.1)

-- A byte that was not acknowledged silences all after it.
pub acknowledged_stops : (k n : ℕ) (xs : List Sample) → k < n → (ninth k xs).pulled ≡ false → acknowledged n xs ≡ false
acknowledged_stops k zero xs l e = absurd (omega arith)
acknowledged_stops k (suc n) xs l e =
    ⊎_elim
    (λ eq. and_right (acknowledged n xs) (ninth n xs).pulled (subst (λ (j : ℕ). (ninth j xs).pulled ≡ false) eq e))
    (λ ne. and_left (acknowledged n xs) (ninth n xs).pulled (acknowledged_stops k n xs (omega arith) e))
    (cases_eq k n)

-- A high ninth level ends what is sent.
pub asked_stops : (k n : ℕ) (xs : List Sample) → k < n → (ninth (suc k) xs).level ≡ true → asked_on n xs ≡ false
asked_stops k zero xs l e = absurd (omega arith)
asked_stops k (suc n) xs l e =
    ⊎_elim
    (λ eq. and_right (asked_on n xs) (not (ninth (suc n) xs).level)
    (ap not (subst (λ (j : ℕ). (ninth (suc j) xs).level ≡ true) eq e)))
    (λ ne. and_left (asked_on n xs) (not (ninth (suc n) xs).level) (asked_stops k n xs (omega arith) e))
    (cases_eq k n)
