-- Texts written one after the other.
use Rattle.std.proofs.Common.{◌≡◌, ℕ, ◌+◌, ◌/◌, ◌%◌, ◌<◌, ◌≤◌, List, [], ◌∷◌, ◌++◌, length, take, drop, decimal, refl, sym, ap, ◌∙◌, subst, arith, lit<, append_assoc, length-append, length-drop}
use Rattle.std.proofs.Math.Seq.{take-append_seam}
use Rattle.std.proofs.lemmas.Fmt.{decimal_digit, decimal_step, length-decimal-le}
use Rattle.std.proofs.lemmas.List.{length-take-le}
use Rattle.std.proofs.lemmas.Slice.{drop-append-drop}
use Rattle.std.specs.List.{replace_range}
use Rattle.runlog.specs.declared.reply.Reply.{Reply}
use Rattle.runlog.specs.Reply.{Appends, field, room_left}

-- A text written right after another, in some room.
replaced_twice : (room t u : List ℕ) (n k : ℕ) → n ≤ length room → k ≡ n + length t
    → replace_range (replace_range room n k t) k (k + length u) u ≡ replace_range room n (n + length (t ++ u)) (t ++ u)
replaced_twice room t u n k within e =
    let front : List ℕ = take n room ++ t in
    let long : length front ≡ k = omega (arith, length-append (take n room) t, length-take-le n room within) in
    let first : take k (front ++ drop k room) ≡ front = ap (λ j. take j (front ++ drop k room)) (sym long) ∙ take-append_seam front (drop k room) in
    let rest : drop (k + length u) (front ++ drop k room) ≡ drop (k + length u) room =
    drop-append-drop k room front (k + length u) (omega arith) long in
    let end : k + length u ≡ n + length (t ++ u) = omega (arith, length-append t u) in
    (λ i. (first i ++ u) ++ rest i)
    ∙ (λ i. append_assoc (take n room) t u i ++ drop (end i) room)

-- One text after another.
pub appends_append : (a b c : Reply) (t u : List ℕ) → Appends a b t → Appends b c u → Appends a c (t ++ u)
appends_append a b c t u p q =
    record {
      bytes = q.bytes ∙ (λ i. replace_range (p.bytes i) (p.used i) (p.used i + length u) u)
          ∙ replaced_twice a.room.now t u a.used (a.used + length t) a.within refl;
      used = q.used ∙ omega (arith, p.used, length-append t u);
      loan = q.loan ∙ p.loan;
    }

-- A number of 16 bits has five digits at most.
pub digits_short : (n : ℕ) → n < 65536 → length (decimal n) ≤ 5
digits_short n small = length-decimal-le 5 n (lit< tt) (omega arith) (omega arith)

-- The digits before the last one of a number.
digits_before : (n : ℕ) → 10 ≤ n → n < 65536 → length (decimal n) ≡ length (decimal (n / 10)) + 1
digits_before n more small =
    ap length (decimal_step n more (omega arith)) ∙ length-append (decimal (n / 10)) ((48 + n % 10) ∷ [])

-- They have room, and leave some for the last one.
pub room_before : (a : Reply) (n : ℕ) → 10 ≤ n → n < 65536 → length (decimal n) ≤ room_left a → length (decimal (n / 10)) ≤ room_left a
room_before a n more small room = omega (arith, digits_before n more small)

-- The last digit of a number after the digits before it, if there are any.
pub last_digit : (a b c : Reply) (n : ℕ) → 10 ≤ n → n < 65536
    → Appends a b (decimal (n / 10)) → Appends b c ((48 + n % 10) ∷ []) → Appends a c (decimal n)
last_digit a b c n more small p q =
    subst (Appends a c) (sym (decimal_step n more (omega arith))) (appends_append a b c (decimal (n / 10)) ((48 + n % 10) ∷ []) p q)

pub only_digit : (a c : Reply) (n : ℕ) → n < 10 → Appends a c ((48 + n % 10) ∷ []) → Appends a c (decimal n)
only_digit a c n few p =
    let same : n % 10 ≡ n = omega arith in
    subst (Appends a c) (ap (λ d. (48 + d) ∷ []) same ∙ sym (decimal_digit n few)) p

-- A field by another name of its number.
pub field_same : (a b : Reply) (n m end : ℕ) → n ≡ m → Appends a b (field n end) → Appends a b (field m end)
field_same a b n m end e p = subst (λ k. Appends a b (field k end)) e p

-- The room does not shrink.
pub appends_room : (a b : Reply) (t : List ℕ) → Appends a b t → length a.room.now ≤ length b.room.now
appends_room a b t p =
    omega (
      arith,
      ap length p.bytes,
      length-append (take a.used a.room.now ++ t) (drop (a.used + length t) a.room.now),
      length-append (take a.used a.room.now) t,
      length-take-le a.used a.room.now a.within,
      length-drop (a.used + length t) a.room.now,
    )

-- After the digits before the last one there is room for that.
pub room_for_last : (a b : Reply) (n : ℕ) → 10 ≤ n → n < 65536 → length (decimal n) ≤ room_left a → Appends a b (decimal (n / 10)) → 1 ≤ room_left b
room_for_last a b n more small room p = omega (arith, digits_before n more small, appends_room a b (decimal (n / 10)) p, p.used)

pub room_for_only : (a : Reply) (n : ℕ) → n < 10 → length (decimal n) ≤ room_left a → 1 ≤ room_left a
room_for_only a n few room = omega (arith, ap length (decimal_digit n few))
