-- What is written is read back.
use Rattle.std.proofs.Common.{◌≡◌, ℕ, ◌<◌, ◌≤◌, true, List, [], ◌∷◌, ◌++◌, length, map, Some, Option, sym, refl, ap, ◌∙◌, decimal, append_assoc, arith}
use Rattle.std.specs.Str.{all_ascii_digits}
use Rattle.std.proofs.lemmas.Bool.Decides.{nat_tests}
use Rattle.std.proofs.lemmas.Fmt.{decimal_nonempty, digits_decimal, digits_value-decimal, length-decimal-le}
use Rattle.runlog.specs.declared.reply.Row.{Row}
use Rattle.runlog.specs.Texts.{space, lf, lacks, pieces}
use Rattle.runlog.specs.Numbers.{value, number}
use Rattle.runlog.specs.Reply.{field, row_text}
use Rattle.runlog.specs.Run.{rows_text}
use Rattle.runlog.specs.Back.{numbers_in, rows_read, columns, ReadsBack, RowsReadBack}
use Rattle.runlog.proofs.Texts.{lacks_join, digits_lack, pieces_cut, word_alone}
use Rattle.runlog.proofs.Numerals.{own}

digits_of : (n : ℕ) → n < 65536 → all_ascii_digits (decimal n) ≡ true
digits_of n small = digits_decimal own n (omega arith)

-- A number that is written is read back.
number_back : (n : ℕ) → n < 65536 → number (decimal n) ≡ Some n
number_back n small =
    let some : 0 < length (decimal n) = decimal_nonempty n (omega arith) in
    let few : length (decimal n) ≤ 5 = length-decimal-le 5 n (omega arith) (omega arith) (omega arith) in
    let is : value (decimal n) ≡ n = digits_value-decimal own n (omega arith) in
    let digits : all_ascii_digits (decimal n) ≡ true = digits_of n small in
    grind (arith, nat_tests)

-- A number and a space in front of words.
word_back : (n : ℕ) (t : List ℕ) (ns : List (Option ℕ)) → n < 65536 → numbers_in t ≡ ns → numbers_in (decimal n ++ space ∷ t) ≡ Some n ∷ ns
word_back n t ns small k =
    ap (map number) (pieces_cut space ([] ∷ []) (decimal n) t (digits_lack space (decimal n) refl (digits_of n small)))
    ∙ (λ i. number_back n small i ∷ k i)

last_back : (n : ℕ) → n < 65536 → numbers_in (decimal n) ≡ Some n ∷ []
last_back n small =
    ap (map number) (word_alone space (decimal n) (digits_lack space (decimal n) refl (digits_of n small)))
    ∙ ap (λ x. x ∷ []) (number_back n small)

-- A number and a space are within a line.
within_line : (n : ℕ) (t : List ℕ) → n < 65536 → lacks lf t ≡ true → lacks lf (decimal n ++ space ∷ t) ≡ true
within_line n t small k = lacks_join lf space (decimal n) t refl (digits_lack lf (decimal n) refl (digits_of n small)) k

-- The text of a row without its LF.
abbrev row_line : Row → List ℕ
row_line r =
    decimal r.line
    ++ space ∷ (decimal r.sda ++ space ∷ (decimal r.fault ++ space ∷ (decimal r.area ++ space ∷ decimal r.address)))

-- A field more in front of a row.
field_more : (n : ℕ) (t u rest : List ℕ) → t ++ rest ≡ u ++ lf ∷ rest → (field n space ++ t) ++ rest ≡ (decimal n ++ space ∷ u) ++ lf ∷ rest
field_more n t u rest e =
    append_assoc (field n space) t rest ∙ append_assoc (decimal n) (space ∷ []) (t ++ rest) ∙ ap (λ v. decimal n ++ space ∷ v) e
    ∙ sym (append_assoc (decimal n) (space ∷ u) (lf ∷ rest))

row_split : (r : Row) (rest : List ℕ) → row_text r ++ rest ≡ row_line r ++ lf ∷ rest
row_split r rest =
    field_more r.line _ _ rest
    (field_more r.sda _ _ rest
    (field_more r.fault _ _ rest (field_more r.area _ _ rest (append_assoc (decimal r.address) (lf ∷ []) rest))))

pub reads_back : (r : Row) → r.line < 65536 → r.sda < 65536 → r.fault < 65536 → r.area < 65536 → r.address < 65536 → ReadsBack r
reads_back r line sda fault area address rest =
    let lacks_lf : lacks lf (row_line r) ≡ true =
    within_line r.line _ line
    (within_line r.sda _ sda
    (within_line r.fault _ fault (within_line r.area _ area (digits_lack lf (decimal r.address) refl (digits_of r.address address))))) in
    let numbers : numbers_in (row_line r) ≡ columns r =
    word_back r.line _ _ line
    (word_back r.sda _ _ sda (word_back r.fault _ _ fault (word_back r.area _ _ area (last_back r.address address)))) in
    ap rows_read (row_split r rest)
    ∙ ap (map numbers_in) (pieces_cut lf [] (row_line r) rest lacks_lf)
    ∙ ap (λ ns. ns ∷ rows_read rest) numbers

-- No row, and a row in front of rows.
pub none_read_back : RowsReadBack []
unfolding pieces
none_read_back = refl

pub more_read_back : (r : Row) (rs : List Row) → ReadsBack r → RowsReadBack rs → RowsReadBack (r ∷ rs)
more_read_back r rs first rest = first (rows_text rs) ∙ ap (λ ns. columns r ∷ ns) rest
