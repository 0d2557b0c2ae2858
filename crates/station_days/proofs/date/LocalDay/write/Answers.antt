use Rattle.std.proofs.Common.{◌∙◌, ap, sym, subst}
use Rattle.std.specs.Str.{IsAscii}
use Rattle.jiff_core.proofs.DateLemmas.{civil}
use Rattle.station_days.specs.Date.{day_line}
use Rattle.station_days.proofs.Ascii.{IsAscii-line}
use Rattle.station_days.proofs.DateLaws.{year_is, year_kept}
use Rattle.station_days.proofs.DateOnLaws.{date_is, day_written}
use Rattle.station_days.proofs.date.LocalDay.write.Goals as goal

pub returns-clause-text : goal.returns-clause-text
returns-clause-text c =
    let d = c.civil_date-date.result in
    let day = c.number.result in
    let year = c.unsigned_abs.ensures.value ∙ year_kept day d.year (year_is day d.year d.month d.day c.number.ensures.in_range (civil d) c.civil_date-date.ensures) in
    let date = date_is day d.year d.month d.day c.number.ensures.in_range (civil d) c.civil_date-date.ensures in
    c.date_text.ensures ∙ day_written day c.unsigned_abs.result (record { day = d.day; month = d.month }) year date ∙ ap day_line c.number.ensures.value

pub returns-clause-ascii : goal.returns-clause-ascii
returns-clause-ascii c = subst IsAscii (sym (returns-clause-text c)) (IsAscii-line c.args.self)
