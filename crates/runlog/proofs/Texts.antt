-- Pieces of a text.
use Rattle.std.proofs.Common.{◌≡◌, ℕ, zero, suc, ◌+◌, ◌-◌, ◌<◌, ◌≤◌, Bool, true, false, cond, ◌&&◌, eqb, List, [], ◌∷◌, ◌++◌, length, get_or, take, drop, Some, None, Option, sym, refl, ap, ◌∙◌, subst, ⊎_elim, add-one, arith}
use Rattle.std.proofs.lemmas.List.{take_more, take_all, take_rest, drop_more, take-append-drop, nil_from_length}
use Rattle.std.proofs.lemmas.Bool.{false≢true, eq-eqb, eqb-true, cases_Bool, cond-false, and_right}
use Rattle.std.specs.Borrow.{Bor}
use Rattle.std.specs.List.{AllWithin}
use Rattle.std.specs.Option.{unwrap_or}
use Rattle.std.specs.Char.{is_ascii_digit}
use Rattle.std.specs.Str.{all_ascii_digits}
use Rattle.runlog.specs.Texts.{space, lf, lacks, in_front, pieces, lines, words, Cut}
use Rattle.runlog.specs.declared.calls.Name.{Name}
use Rattle.runlog.specs.Numbers.{number}
use Rattle.runlog.specs.Calls.{name_of, call_of, call_in, line_call}
use Rattle.runlog.proofs.Numerals.{not_digits}

-- A byte that is another, and then the rest.
and_then : (b r t : Bool) → (r ≡ true → t ≡ true) → cond b false r ≡ true → cond b false t ≡ true
and_then true r t f h = absurd (false≢true h)
and_then false r t f h = f h

-- One byte more that is another.
lacks_push : (at : ℕ) (xs : List ℕ) (x : ℕ) → lacks at xs ≡ true → eqb x at ≡ false → lacks at (xs ++ x ∷ []) ≡ true
lacks_push at [] x p q = rw q
lacks_push at (y ∷ ys) x p q = and_then (eqb y at) (lacks at ys) (lacks at (ys ++ x ∷ [])) (λ h. lacks_push at ys x h q) p

-- Two texts that lack it, with another byte between.
pub lacks_join : (at x : ℕ) (a b : List ℕ) → eqb x at ≡ false → lacks at a ≡ true → lacks at b ≡ true → lacks at (a ++ x ∷ b) ≡ true
lacks_join at x [] b e p q = rw e q
lacks_join at x (y ∷ ys) b e p q = and_then (eqb y at) (lacks at ys) (lacks at (ys ++ x ∷ b)) (λ h. lacks_join at x ys b e h q) p

-- The loop's step: the byte at i is another.
pub lacks_more : (at : ℕ) (xs : List ℕ) (i : ℕ) → i < length xs → lacks at (take i xs) ≡ true → eqb (get_or xs i 0) at ≡ false
    → lacks at (take (i + 1) xs) ≡ true
lacks_more at xs i l p q = rw (take_more xs i 0 l) (lacks_push at (take i xs) (get_or xs i 0) p q)

-- No byte of the first i is the one.
pub lacks_within : (at : ℕ) (xs : List ℕ) (i : ℕ) → i ≤ length xs → AllWithin (λ y. eqb y at ≡ false) xs 0 i → lacks at (take i xs) ≡ true
lacks_within at xs zero l h = refl
lacks_within at xs (suc i) l h =
    rw (← add-one)
    (lacks_more at xs i (omega arith) (lacks_within at xs i (omega arith) (λ k d a b. h k d a (omega arith)))
    (h i 0 (omega arith) (omega arith)))

pub lacks_all : (at : ℕ) (xs : List ℕ) → AllWithin (λ y. eqb y at ≡ false) xs 0 (length xs) → lacks at xs ≡ true
lacks_all at xs h =
    subst (λ t. lacks at t ≡ true) (take_all (length xs) xs (omega arith)) (lacks_within at xs (length xs) (omega arith) h)

-- A text cut at place i, in the words of two parts of a slice.
pub cut_at : (at : ℕ) (xs : List ℕ) (i : ℕ) → i < length xs → get_or xs i 0 ≡ at
    → xs ≡ take i xs ++ at ∷ take (length xs - (i + 1)) (drop (i + 1) xs)
cut_at at xs i l e =
    subst (λ t. xs ≡ take i xs ++ at ∷ t) (sym (take_rest xs (i + 1)))
    (sym (take-append-drop i xs) ∙ ap (λ t. take i xs ++ t) (drop_more xs i 0 l ∙ ap (λ b. b ∷ drop (i + 1) xs) e))

-- The first byte is another, and the rest lacks it.
lacks_parts : (b r : Bool) → cond b false r ≡ true → (b ≡ false) × (r ≡ true)
lacks_parts true r h = absurd (false≢true h)
lacks_parts false r h = (refl, h)

-- A text that is cut at a byte has its first part for its first piece.
pub pieces_cut : (at : ℕ) (last : List (List ℕ)) (a r : List ℕ) → lacks at a ≡ true → pieces at last (a ++ at ∷ r) ≡ a ∷ pieces at last r
unfolding pieces
pieces_cut at last [] r h = let same : eqb at at ≡ true = eq-eqb at at refl in rw same
pieces_cut at last (x ∷ xs) r h =
    let k = lacks_parts (eqb x at) (lacks at xs) h in
    let other : eqb x at ≡ false = k.0 in
    rw other (ap (in_front x) (pieces_cut at last xs r k.1))

-- A text that lacks the byte is one piece.
pub word_alone : (at : ℕ) (t : List ℕ) → lacks at t ≡ true → pieces at ([] ∷ []) t ≡ t ∷ []
unfolding pieces
word_alone at [] h = refl
word_alone at (x ∷ xs) h =
    let k = lacks_parts (eqb x at) (lacks at xs) h in
    let other : eqb x at ≡ false = k.0 in
    rw other (ap (in_front x) (word_alone at xs k.1))

-- So it is as the last line, unless it is empty.
pub line_alone : (at : ℕ) (t : List ℕ) → 0 < length t → lacks at t ≡ true → pieces at [] t ≡ t ∷ []
unfolding pieces
line_alone at [] l h = absurd (omega arith)
line_alone at (x ∷ []) l h = let other : eqb x at ≡ false = (lacks_parts (eqb x at) true h).0 in rw other
line_alone at (x ∷ y ∷ ys) l h =
    let k = lacks_parts (eqb x at) (lacks at (y ∷ ys)) h in
    let other : eqb x at ≡ false = k.0 in
    rw other (ap (in_front x) (line_alone at (y ∷ ys) (omega arith) k.1))

-- An empty text has no line.
pub no_line : (t : List ℕ) → 0 ≡ length t → lines t ≡ []
unfolding pieces
no_line t e = ap lines (nil_from_length t (sym e))

-- The first line of a text that is cut at its first LF, or is one line whole.
pub first_line : (t e : Bor (List ℕ)) (r : Option (Bor (List ℕ) × Bor (List ℕ))) → 0 < length t.now → e.now ≡ [] → Cut lf t.now r
    → lines t.now ≡ (unwrap_or r (t, e)).0.now ∷ lines (unwrap_or r (t, e)).1.now
unfolding pieces
first_line t e None l none k = line_alone lf t.now l k ∙ ap (λ ls. t.now ∷ ls) (sym (ap lines none))
first_line t e (Some p) l none k = ap lines k.0 ∙ pieces_cut lf [] p.0.now p.1.now k.1

-- There are two pieces, or more.
abbrev many : List (List ℕ) → Bool
many [] = false
many (p ∷ []) = false
many (p ∷ q ∷ ps) = true

many_in_front : (x : ℕ) (ps : List (List ℕ)) → many ps ≡ true → many (in_front x ps) ≡ true
many_in_front x [] h = absurd (false≢true h)
many_in_front x (p ∷ []) h = absurd (false≢true h)
many_in_front x (p ∷ q ∷ ps) h = refl

-- One piece in front of some.
abbrev pub some : List (List ℕ) → Bool
some [] = false
some (p ∷ ps) = true

some_in_front : (x : ℕ) (ps : List (List ℕ)) → some (in_front x ps) ≡ true
some_in_front x [] = refl
some_in_front x (p ∷ ps) = refl

many_more : (p : List ℕ) (ps : List (List ℕ)) → some ps ≡ true → many (p ∷ ps) ≡ true
many_more p [] h = absurd (false≢true h)
many_more p (q ∷ ps) h = refl

either_some : (b : Bool) (p : List ℕ) (x : ℕ) (ps : List (List ℕ)) → some (cond b (p ∷ ps) (in_front x ps)) ≡ true
either_some true p x ps = refl
either_some false p x ps = some_in_front x ps

pub some_words : (t : List ℕ) → some (words t) ≡ true
unfolding pieces
some_words [] = refl
some_words (x ∷ xs) = either_some (eqb x space) [] x (words xs)

either_many : (b : Bool) (x : ℕ) (r : Bool) (ps : List (List ℕ)) → some ps ≡ true → (r ≡ false → many ps ≡ true) → cond b false r ≡ false
    → many (cond b ([] ∷ ps) (in_front x ps)) ≡ true
either_many true x r ps s f h = many_more [] ps s
either_many false x r ps s f h = many_in_front x ps (f h)

-- A text with a space has two words, or more.
many_words : (t : List ℕ) → lacks space t ≡ false → many (words t) ≡ true
unfolding pieces
many_words [] h = absurd (false≢true (sym h))
many_words (x ∷ xs) h = either_many (eqb x space) x (lacks space xs) (words xs) (some_words xs) (many_words xs) h

none_of_many : (name one : List ℕ) (ps : List (List ℕ)) → many ps ≡ true → call_in (name ∷ one ∷ ps) ≡ None
none_of_many name one [] h = absurd (false≢true h)
none_of_many name one (p ∷ []) h = absurd (false≢true h)
none_of_many name one (p ∷ q ∷ ps) h = refl

none_of_none : (name : Option Name) (one : Option ℕ) → call_of name one None ≡ None
none_of_none None one = refl
none_of_none (Some name) None = refl
none_of_none (Some name) (Some one) = refl

-- A byte that is no digit.
either_digit : (at x : ℕ) (r d : Bool) → is_ascii_digit at ≡ false → (r ≡ false → d ≡ false) → cond (eqb x at) false r ≡ false
    → (is_ascii_digit x && d) ≡ false
either_digit at x r d q f h =
    ⊎_elim
    (λ e. let is : x ≡ at = eqb-true x at e in subst (λ b. (b && d) ≡ false) (sym (ap is_ascii_digit is ∙ q)) refl)
    (λ e. and_right (is_ascii_digit x) d (f (sym (cond-false (eqb x at) false r e) ∙ h)))
    (cases_Bool (eqb x at))

no_digits : (at : ℕ) (t : List ℕ) → is_ascii_digit at ≡ false → lacks at t ≡ false → all_ascii_digits t ≡ false
no_digits at [] q h = absurd (false≢true (sym h))
no_digits at (x ∷ xs) q h = either_digit at x (lacks at xs) (all_ascii_digits xs) q (no_digits at xs q) h

-- Digits lack it.
pub digits_lack : (at : ℕ) (t : List ℕ) → is_ascii_digit at ≡ false → all_ascii_digits t ≡ true → lacks at t ≡ true
digits_lack at t q h =
    ⊎_elim (λ e. e) (λ e. absurd (false≢true (sym (no_digits at t q e) ∙ h))) (cases_Bool (lacks at t))

-- The last number of a line is one word, whether that is tested first or not.
last_word : (name one two : List ℕ) → call_in (name ∷ one ∷ words two) ≡ call_of (name_of name) (number one) (number two)
last_word name one two =
    ⊎_elim
    (λ e. ap (λ ps. call_in (name ∷ one ∷ ps)) (word_alone space two e))
    (λ e.
    none_of_many name one (words two) (many_words two e) ∙ sym (none_of_none (name_of name) (number one))
    ∙ ap (call_of (name_of name) (number one)) (sym (not_digits two (no_digits space two refl e))))
    (cases_Bool (lacks space two))

-- A line with no space.
pub no_words : (t : List ℕ) → lacks space t ≡ true → line_call t ≡ None
no_words t h = ap call_in (word_alone space t h)

-- A line with one space.
pub one_word : (t name rest : List ℕ) → (t ≡ name ++ space ∷ rest) × (lacks space name ≡ true) → lacks space rest ≡ true → line_call t ≡ None
one_word t name rest e q =
    ap call_in (ap words e.0 ∙ pieces_cut space ([] ∷ []) name rest e.1 ∙ ap (λ ps. name ∷ ps) (word_alone space rest q))

-- A line with two spaces at least.
pub three_words : (t name rest one two : List ℕ) → (t ≡ name ++ space ∷ rest) × (lacks space name ≡ true)
    → (rest ≡ one ++ space ∷ two) × (lacks space one ≡ true) → line_call t ≡ call_of (name_of name) (number one) (number two)
three_words t name rest one two e f =
    ap call_in
    (ap words e.0 ∙ pieces_cut space ([] ∷ []) name rest e.1
    ∙ ap (λ ps. name ∷ ps) (ap words f.0 ∙ pieces_cut space ([] ∷ []) one two f.1))
    ∙ last_word name one two

-- What is taken from the first byte on.
pub from_first : (P : List ℕ → Type 0) (xs : List ℕ) (i : ℕ) → P (take i xs) → P (take (i - 0) xs)
from_first P xs i p = let none : i ≡ i - 0 = omega arith in subst (λ n. P (take n xs)) none p
