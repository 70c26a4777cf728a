-- Texts as lists of bytes: their pieces between the places of a byte.
use Rattle.std.specs.Prelude.{◌≡◌, ℕ, Bool, true, false, cond, List, [], ◌∷◌, ◌++◌, Option, MatchOption, ◌==◌}
use Rattle.std.specs.Borrow.{Bor}

-- The bytes that part words and lines.
abbrev pub space : ℕ
space = 32

abbrev pub lf : ℕ
lf = 10

-- A text lacks a byte.
abbrev pub lacks : ℕ → List ℕ → Bool
lacks at [] = true
lacks at (b ∷ bs) = cond (b == at) false (lacks at bs)

-- One byte more in front of the first piece.
abbrev pub in_front : ℕ → List (List ℕ) → List (List ℕ)
in_front b [] = (b ∷ []) ∷ []
in_front b (p ∷ ps) = (b ∷ p) ∷ ps

-- The pieces of a text between the places of a byte. `last` is what a text leaves that ends right there.
unfoldable pub pieces : ℕ → List (List ℕ) → List ℕ → List (List ℕ)
pieces at last [] = last
pieces at last (b ∷ bs) = cond (b == at) ([] ∷ pieces at last bs) (in_front b (pieces at last bs))

-- The lines of a text: LF ends a line, and may be missing in the last.
abbrev pub lines : List ℕ → List (List ℕ)
lines text = pieces lf [] text

-- The words of a line: one space stands between two words.
abbrev pub words : List ℕ → List (List ℕ)
words text = pieces space ([] ∷ []) text

-- A text cut at the first of a byte, or a text that lacks it.
abbrev pub Cut : ℕ → List ℕ → Option (Bor (List ℕ) × Bor (List ℕ)) → Type 0
Cut at text r =
    MatchOption r (lacks at text ≡ true) (λ p. (text ≡ p.0.now ++ at ∷ p.1.now) × (lacks at p.0.now ≡ true))
