-- How long a line that can be read is at least, and the bytes of the lines of a text.
use Rattle.std.proofs.Common.{◌≡◌, ℕ, suc, ◌+◌, ◌<◌, ◌≤◌, Bool, true, false, cond, ◌&&◌, eqb, ltb, leb, List, [], ◌∷◌, length, is_some, Some, None, codes, Option, sym, refl, ◌∙◌, subst, arith}
use Rattle.std.specs.Str.{bytes_eq, all_ascii_digits}
use Rattle.std.proofs.lemmas.Slice.Eq.{bytes_eq-Decides}
use Rattle.std.proofs.lemmas.Bool.{false≢true, and_parts, ltb-true}
use Rattle.runlog.specs.declared.calls.Name.{Name}
use Rattle.runlog.specs.declared.calls.LineCall.{LineCall}
use Rattle.runlog.specs.Texts.{space, in_front, pieces, words}
use Rattle.runlog.specs.Numbers.{value, number, largest, most_digits}
use Rattle.runlog.specs.Calls.{name_of, call_of, call_in, line_call}
use Rattle.runlog.specs.Lines.{bytes_of}
use Rattle.runlog.proofs.Texts.{some, some_words}

-- Each byte of a line counts, and each word one more.
front_total : (x : ℕ) (ps : List (List ℕ)) → some ps ≡ true → bytes_of (in_front x ps) ≡ bytes_of ps + 1
front_total x [] h = absurd (false≢true h)
front_total x (p ∷ ps) h = omega arith

either_total : (b : Bool) (x : ℕ) (ps : List (List ℕ)) → some ps ≡ true → bytes_of (cond b ([] ∷ ps) (in_front x ps)) ≡ bytes_of ps + 1
either_total true x ps h = omega arith
either_total false x ps h = front_total x ps h

words_total : (t : List ℕ) → bytes_of (words t) ≡ length t + 1
unfolding pieces
words_total [] = refl
words_total (x ∷ xs) =
    let k : bytes_of (words xs) ≡ length xs + 1 = words_total xs in
    let e : bytes_of (words xs) + 1 ≡ suc (length xs) + 1 = omega arith in
    either_total (eqb x space) x (words xs) (some_words xs) ∙ e

-- A word that is one of the names.
same_long : (word text : List ℕ) → bytes_eq word text ≡ true → 4 ≤ length text → 4 ≤ length word
same_long word text h l = subst (λ t. 4 ≤ length t) (sym ((bytes_eq-Decides word text).0 h)) l

chosen : (P : Type 0) (b : Bool) (x y : Option Name) → (b ≡ true → P) → (is_some y ≡ true → P) → is_some (cond b x y) ≡ true → P
chosen P true x y f g h = f refl
chosen P false x y f g h = g h

name_long : (word : List ℕ) → is_some (name_of word) ≡ true → 4 ≤ length word
name_long word =
    chosen (4 ≤ length word) (bytes_eq word (codes "level")) _ _ (λ e. same_long word (codes "level") e (omega arith))
    (chosen (4 ≤ length word) (bytes_eq word (codes "tick")) _ _ (λ e. same_long word (codes "tick") e (omega arith))
    (chosen (4 ≤ length word) (bytes_eq word (codes "supply")) _ _ (λ e. same_long word (codes "supply") e (omega arith))
    (λ h. absurd (false≢true h))))

if_some : (b : Bool) (v : ℕ) → is_some (cond b (Some v) None) ≡ true → b ≡ true
if_some true v h = refl
if_some false v h = absurd (false≢true h)

number_long : (word : List ℕ) → is_some (number word) ≡ true → 0 < length word
number_long word h =
    ltb-true 0 (length word)
    (and_parts (ltb 0 (length word)) (leb (length word) most_digits && (all_ascii_digits word && leb (value word) largest))
    (if_some _ (value word) h)).0

-- All three could be read.
call_parts : (a : Option Name) (b d : Option ℕ) (c : LineCall) → call_of a b d ≡ Some c → (is_some a ≡ true) × (is_some b ≡ true) × (is_some d ≡ true)
call_parts None b d c e = let z : ◌≡◌ {A = ℕ} 0 1 = cc in absurd (omega arith)
call_parts (Some n) None d c e = let z : ◌≡◌ {A = ℕ} 0 1 = cc in absurd (omega arith)
call_parts (Some n) (Some x) None c e = let z : ◌≡◌ {A = ℕ} 0 1 = cc in absurd (omega arith)
call_parts (Some n) (Some x) (Some y) c e = (refl, refl, refl)

none_called : (c : LineCall) (n : ℕ) → ◌≡◌ {A = Option LineCall} None (Some c) → 9 ≤ n
none_called c n e = let z : ◌≡◌ {A = ℕ} 0 1 = cc in absurd (omega arith)

call_long : (ps : List (List ℕ)) (c : LineCall) → call_in ps ≡ Some c → 9 ≤ bytes_of ps
call_long [] c e = none_called c _ e
call_long (name ∷ []) c e = none_called c _ e
call_long (name ∷ one ∷ []) c e = none_called c _ e
call_long (name ∷ one ∷ two ∷ []) c e =
    let k = call_parts (name_of name) (number one) (number two) c e in
    omega (arith, name_long name k.0, number_long one k.1, number_long two k.2)
call_long (name ∷ one ∷ two ∷ more ∷ rest) c e = none_called c _ e

-- A line that can be read has eight bytes or more.
pub readable_long : (t : List ℕ) (c : LineCall) → line_call t ≡ Some c → 8 ≤ length t
readable_long t c e = omega (arith, call_long (words t) c e, words_total t)
