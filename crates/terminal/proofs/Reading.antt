-- Bytes read off the rows one by one.
use Rattle.std.proofs.Common.{◌≡◌, ℕ, ◌+◌, ◌-◌, ◌*◌, ◌/◌, List, length, drop, cond, nat_lt, length-drop, ap, ◌∙◌, arith}
use Rattle.std.proofs.lemmas.Bool.Decides.{nat_tests}
use Rattle.std.proofs.lemmas.List.{drop-drop}
use Rattle.chip.specs.declared.calls.Answer.{Answer}
use Rattle.terminal.specs.Rows.{byte_at, byte_of, byte_rows}

-- Behind a byte more.
pub behind_more : (rows left : List Answer) (k : ℕ) → left ≡ drop (byte_rows * k) rows → drop byte_rows left ≡ drop (byte_rows * (k + 1)) rows
behind_more rows left k is =
    let n : byte_rows * k + byte_rows ≡ byte_rows * (k + 1) = omega arith in
    ap (drop byte_rows) is ∙ drop-drop byte_rows (byte_rows * k) rows ∙ ap (λ m. drop m rows) n

-- What is left behind k bytes has a byte exactly where the rows have byte k.
same_test : (n k : ℕ) → nat_lt 0 ((n - byte_rows * k) / byte_rows) ≡ nat_lt k (n / byte_rows)
same_test n k = grind (arith, nat_tests)

-- The first byte of what is left behind k bytes is byte k.
pub first_of_left : (rows left : List Answer) (k : ℕ) → left ≡ drop (byte_rows * k) rows → byte_at left 0 ≡ byte_at rows k
first_of_left rows left k is =
    let long = ap length is ∙ length-drop (byte_rows * k) rows in
    (λ i. cond (nat_lt 0 (long i / byte_rows)) (byte_of (is i)) 0xFF)
    ∙ ap (λ b. cond b (byte_of (drop (byte_rows * k) rows)) 0xFF) (same_test (length rows) k)
