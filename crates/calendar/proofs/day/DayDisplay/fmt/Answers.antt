-- What is written is the text of the day, since each pair of digits is that of its count.
use Rattle.std.proofs.Common.{ℕ, ◌/◌, List, ◌∷◌, ◌++◌, refl, subst, arith}
use Rattle.std.specs.Fmt.{HasWritten}
use Rattle.calendar.proofs.Figures.{figures_are}
use Rattle.calendar.proofs.day.DayDisplay.fmt.Goals as goal

pub returns-clause-writes : goal.returns-clause-writes
returns-clause-writes g c plain ok =
    let day = c.args.self.now in
    let century = figures_are (day.year / 100) _ c.of-century.result (omega arith) c.of-century.ensures in
    let year = figures_are day.year _ c.of-year.result (omega arith) c.of-year.ensures in
    let month = figures_are day.month _ c.of-month.result refl c.of-month.ensures in
    let date = figures_are day.date _ c.of-date.result refl c.of-date.ensures in
    subst (λ (text : List ℕ). HasWritten g.W.Write.write_str_gives c.args.f.now text c.write.new.self)
    (λ k. century k ++ (year k ++ (45 ∷ (month k ++ (45 ∷ date k)))))
    (c.write.ensures.writes plain ok)
