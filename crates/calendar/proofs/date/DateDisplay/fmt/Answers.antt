-- What is written is the text of the date in its form, since each pair of digits is that of its count.
use Rattle.std.proofs.Common.{ℕ, List, refl, ap, ◌∙◌, subst}
use Rattle.std.specs.Fmt.{HasWritten}
use Rattle.calendar.proofs.Figures.{figures_are, text_12, text_24}
use Rattle.calendar.specs.Text.{two}
use Rattle.calendar.proofs.date.DateDisplay.fmt.Goals as goal

pub returns-in-TwentyFourHour-clause-writes : goal.returns-in-TwentyFourHour-clause-writes
returns-in-TwentyFourHour-clause-writes g c plain ok =
    let date = c.args.self.now in
    let hour = figures_are date.time.hour _ c.of-hour.result refl c.of-hour.ensures in
    let minute = figures_are date.time.minute _ c.of-minute.result refl c.of-minute.ensures in
    let second = figures_are date.time.second _ c.of-second.result refl c.of-second.ensures in
    subst (λ (text : List ℕ). HasWritten g.W.Write.write_str_gives c.args.f.now text c.write.new.self)
    (text_24 date _ _ _ c.in-TwentyFourHour.is hour minute second)
    (c.write.ensures.writes plain ok)

pub returns-in-TwelveHour-clause-writes : goal.returns-in-TwelveHour-clause-writes
returns-in-TwelveHour-clause-writes g c plain ok =
    let date = c.args.self.now in
    let hour = figures_are c.twelve_hour.result _ c.of-hour-in-TwelveHour.result refl c.of-hour-in-TwelveHour.ensures in
    let minute = figures_are date.time.minute _ c.of-minute.result refl c.of-minute.ensures in
    let second = figures_are date.time.second _ c.of-second.result refl c.of-second.ensures in
    subst (λ (text : List ℕ). HasWritten g.W.Write.write_str_gives c.args.f.now text c.write-in-TwelveHour.new.self)
    (text_12 date _ _ _ _ c.in-TwelveHour.is (hour ∙ ap two c.twelve_hour.ensures) minute second c.half-half.ensures)
    (c.write-in-TwelveHour.ensures.writes plain ok)
