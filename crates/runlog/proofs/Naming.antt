-- The first line of a log.
use Rattle.std.proofs.Common.{◌≡◌, ℕ, suc, ◌+◌, ◌≤◌, Bool, true, false, cond, eqb, List, [], ◌∷◌, length, Some, None, sym, ap, ◌∙◌, arith}
use Rattle.std.specs.Bool.{then_some}
use Rattle.std.specs.Str.{bytes_eq}
use Rattle.std.proofs.lemmas.Bool.{cond-true, cond-false}
use Rattle.runlog.specs.declared.lines.Lines.{Lines}
use Rattle.runlog.specs.Texts.{lf, in_front, pieces, lines}
use Rattle.runlog.specs.Lines.{bytes_of, Values}
use Rattle.runlog.specs.Run.{names, named}

either_most : (b : Bool) (x n : ℕ) (ps : List (List ℕ)) → bytes_of ps ≤ n + 1 → bytes_of (cond b ([] ∷ ps) (in_front x ps)) ≤ suc n + 1
either_most true x n ps h = omega arith
either_most false x n [] h = omega arith
either_most false x n (p ∷ ps) h = omega arith

-- The lines of a text take one byte more than it at most, the LF that the last may lack.
lines_most : (t : List ℕ) → bytes_of (lines t) ≤ length t + 1
unfolding pieces
lines_most [] = omega arith
lines_most (x ∷ xs) = either_most (eqb x lf) x (length xs) (lines xs) (lines_most xs)

-- The first line is the names, or is not.
pub names_first : (log first : List ℕ) (rest : Lines) (b : Bool) → lines log ≡ first ∷ lines rest.rest.now → b ≡ bytes_eq first names
    → Values log (then_some b rest)
names_first log first rest true e is = (
  ap named e ∙ cond-true (bytes_eq first names) (Some (lines rest.rest.now)) None (sym is),
  omega (arith, lines_most log, ap bytes_of e),
)
names_first log first rest false e is = ap named e ∙ cond-false (bytes_eq first names) (Some (lines rest.rest.now)) None (sym is)
