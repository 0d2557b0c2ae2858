-- Texts of commands are ASCII.
pub use Rattle.imp_fields.proofs.Ascii.{IsAscii-airport, IsAscii-carrier, IsAscii-name, IsAscii-goods, IsAscii-flight}
pub use Rattle.station_days.proofs.Ascii.{IsAscii-day}
