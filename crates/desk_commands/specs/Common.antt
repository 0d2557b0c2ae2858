-- The words of other crates that this crate's definitions and contracts cite, passed on from one
-- place. Declares nothing.
pub use Rattle.std.specs.List.{find, join_with_byte, list_all, position_or_len, slice_split}
pub use Rattle.std.specs.Result.{result_ok}
pub use Rattle.std.specs.Str.{IsAscii, bytes_eq}
pub use Rattle.std.specs.declared.alloc.Global.{Global}
pub use Rattle.agent_stock.specs.Fields.{is_agent_code, IsRunCount, largest_count}
pub use Rattle.agent_stock.specs.declared.stock.Order.{Order}
pub use Rattle.agent_stock.specs.declared.stock.Order.TheVariants.{GiveBack, Issue, TakeIn, Void}
pub use Rattle.agent_stock.specs.declared.stock.Run.{Run}
pub use Rattle.awb_number.specs.Number.{decimal_value, is_digit, padded, IsNumber, key_of, number_of, number_text, prefix_of, serial_of}
pub use Rattle.imp_fields.specs.Fields.{airport_of, is_airport, IsPieces, IsTenths, most_message_tenths, most_pieces, Designator, IsDesignator, flight_of, flight_text, is_carrier}
pub use Rattle.imp_fields.specs.Message.{is_goods, is_name}
pub use Rattle.serde_json.specs.Data.{Data, Members, member, no_members, number, string, unsigned}
pub use Rattle.serde_json.specs.Find.{as_number, as_object, as_str, as_u64, get}
pub use Rattle.serde_json.specs.View.{view}
pub use Rattle.shipment_machine.specs.Cargo.{airline_of}
pub use Rattle.shipment_machine.specs.Book.{IsCount}
pub use Rattle.shipment_machine.specs.declared.command.DeskCommand.{DeskCommand}
pub use Rattle.shipment_machine.specs.declared.command.DeskCommand.TheVariants.{Amend, Book, CheckIn, Confirm, Deliver, Depart, Found, Manifest, Missing, Notify, Offload, Receive, Reroute, Strike, Transfer, Withdraw}
pub use Rattle.shipment_machine.specs.declared.flight.FlightDate.{FlightDate}
pub use Rattle.station_days.specs.Date.{CalendarDay, IsMomentDay, day_in_year, is_moment_day, where_true, ◌>>=◌}
pub use Rattle.desk_commands.specs.declared.command.Command.{Command}
pub use Rattle.desk_commands.specs.declared.verb.Verb.{Verb}
pub use Rattle.desk_commands.specs.declared.verb.Field.{Field}
pub use Rattle.desk_commands.specs.declared.verb.Kind.{Kind}
pub use Rattle.desk_commands.specs.declared.field_value.FieldValue.{FieldValue}
pub use Rattle.desk_commands.specs.declared.field_value.FieldValue.TheVariants.{Absent, Flight, Number, Text}
