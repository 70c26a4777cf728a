-- The figures that are written of a count. Assumes nothing.
use Rattle.std.proofs.Common.{◌≡◌, ℕ, ◌/◌, ◌%◌, List, ◌++◌, codes, decimal, sym, ap, ◌∙◌, arith}
use Rattle.calendar.specs.declared.date.Date.{Date}
use Rattle.calendar.specs.declared.digits.Digits.{Digits}
use Rattle.calendar.specs.declared.time.HourForm.{HourForm}
use Rattle.calendar.specs.declared.time.HourForm.TheVariants.{TwelveHour, TwentyFourHour}
use Rattle.calendar.specs.Digits.{AreDigits}
use Rattle.calendar.specs.Hours.{twelve}
use Rattle.calendar.specs.Text.{date_text, day_text, figures, half, time_text, two}

-- The digits of a count, which has the last two digits of n, are written as those.
pub figures_are : (n count : ℕ) (d : Digits) → count ≡ n % 100 → AreDigits count d → figures d ≡ two n
figures_are n count d same are =
    let tens-same : d.tens ≡ n / 10 % 10 = omega arith in
    let units-same : d.units ≡ n % 10 = omega arith in
    λ k. decimal (tens-same k) ++ decimal (units-same k)

-- The text of a date in each form, from its parts.
pub text_24 : (d : Date) (hour minute second : List ℕ) → d.form ≡ TwentyFourHour → hour ≡ two d.time.hour → minute ≡ two d.time.minute → second ≡ two d.time.second → day_text d.day ++ (codes " " ++ (hour ++ (codes ":" ++ (minute ++ (codes ":" ++ second))))) ≡ date_text d
text_24 d hour minute second form h m s =
    (λ k. day_text d.day ++ (codes " " ++ (h k ++ (codes ":" ++ (m k ++ (codes ":" ++ s k))))))
    ∙ sym (ap (λ (f : HourForm). day_text d.day ++ (codes " " ++ time_text d.time f)) form)

pub text_12 : (d : Date) (hour minute second noon : List ℕ) → d.form ≡ TwelveHour → hour ≡ two (twelve d.time.hour) → minute ≡ two d.time.minute → second ≡ two d.time.second → noon ≡ half d.time.hour → day_text d.day ++ (codes " " ++ (hour ++ (codes ":" ++ (minute ++ (codes ":" ++ (second ++ (codes " " ++ noon))))))) ≡ date_text d
text_12 d hour minute second noon form h m s n =
    (λ k. day_text d.day ++ (codes " " ++ (h k ++ (codes ":" ++ (m k ++ (codes ":" ++ (s k ++ (codes " " ++ n k))))))))
    ∙ sym (ap (λ (f : HourForm). day_text d.day ++ (codes " " ++ time_text d.time f)) form)
