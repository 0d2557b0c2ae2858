use Rattle.telegrams.proofs.Common.{IsCalendarDay, arith, length-map, sent_load, subst}
use Rattle.telegrams.proofs.KnownLines.{are_loads, IsAirport}
use Rattle.telegrams.proofs.content.parts_known.Goals as goal

pub returns : goal.returns
returns c = record {
  designator = c.write-flight.ensures.designator;
  calendar_day = subst IsCalendarDay c.on.ensures c.write-date.ensures.in_range;
  from = subst IsAirport c.letters-here.ensures.value c.letters-here.ensures.letters;
  to = subst IsAirport c.letters-unload.ensures.value c.letters-unload.ensures.letters;
  each = are_loads c.args.lines.now c.lines_known.ensures;
  few = omega (arith, length-map c.args.lines.now sent_load, c.requires.few);
}
