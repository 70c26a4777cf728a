-- A script and as many rows as it has calls: the law of the run is that of the whole script.
use Rattle.std.proofs.Common.{◌≡◌, ℕ, ◌≤◌, min, List, ◌++◌, length, take, sym, ◌∙◌, subst, arith}
use Rattle.std.proofs.lemmas.List.{take_all, take_at}
use Rattle.chip.specs.declared.calls.Answer.{Answer}
use Rattle.chip.specs.declared.calls.Call.{Call}

enough : (a b : ℕ) → a ≡ b → a ≤ min a b
enough a b e = omega arith

pub whole_script : (P : List Call → List Answer → Type 0) (calls given : List Call) (before after rest : List Answer) (n : ℕ)
    → given ≡ calls → length given ≡ length before → length after ≡ n
    → P (take (min (length given) (length before)) given) after → P calls (take n (after ++ rest))
whole_script P calls given before after rest n same even full h =
    let all = take_all (min (length given) (length before)) given (enough (length given) (length before) even) ∙ same in
    let Q : List Call → Type 0 = λ cs. P cs (take n (after ++ rest)) in
    let R : List Answer → Type 0 = λ rows. P (take (min (length given) (length before)) given) rows in
    subst Q all (subst R (sym (take_at after rest n full)) h)
