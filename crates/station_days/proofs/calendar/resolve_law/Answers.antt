use Rattle.station_days.proofs.DateLaws.{year_of_moment, resolved_is_nearest, none_resolved}
use Rattle.station_days.proofs.DateOnLaws.{date_names_day}
use Rattle.station_days.proofs.calendar.resolve_law.Goals as goal

pub returns-clause-year : goal.returns-clause-year
returns-clause-year c = year_of_moment

pub returns-clause-nearest : goal.returns-clause-nearest
returns-clause-nearest c = resolved_is_nearest

pub returns-clause-none : goal.returns-clause-none
returns-clause-none c = none_resolved

pub returns-clause-again : goal.returns-clause-again
returns-clause-again c = date_names_day
