-- Trail lines, and the ranges of a sent update.
use Rattle.std.specs.Prelude.{◌<◌, IsTrue, Bool}
use Rattle.fsu_text.specs.Common.{IsNumber, is_airport, IsPieces, IsBookTenths, IsCalendarDay, IsDesignator, is_name, WaybillSummary, is_line_token, SentStatus, SentUpdate}
use Rattle.fsu_text.specs.declared.sent.SentStatus.TheVariants as sent
use Rattle.fsu_text.specs.declared.status.StatusLine.{StatusLine}

-- Ranges that the types of a sent update guarantee.

abbrev pub IsSent : SentStatus → Type 0
IsSent (sent.Handled what at name) = IsCalendarDay at.date × (at.minute < 1440) × IsTrue (is_name name)
IsSent (sent.ReceivedFromFlight flight at) = IsDesignator flight × IsCalendarDay at.date × (at.minute < 1440)
IsSent (sent.Carried what flight date to) = IsDesignator flight × IsCalendarDay date × IsTrue (is_airport to)
IsSent (sent.Differs what flight at) = IsDesignator flight × IsCalendarDay at.date × (at.minute < 1440)

pub record IsDeclared (d : WaybillSummary) : Type 0 where
  pub awb : IsNumber d.awb
  pub origin : IsTrue (is_airport d.origin)
  pub destination : IsTrue (is_airport d.destination)
  pub pieces : IsPieces d.pieces
  pub tenths : IsBookTenths d.tenths

pub record IsUpdate (u : SentUpdate) : Type 0 where
  pub declared : IsDeclared u.of
  pub status : IsSent u.status
  pub here : IsTrue (is_airport u.here)
  pub pieces : IsPieces u.pieces
  pub tenths : IsBookTenths u.tenths

-- Lines of a waybill's trail.

-- the line is printable, and has at most 255 bytes
abbrev pub is_plain : StatusLine → Bool
is_plain l = is_line_token l.text
