-- The words of other crates that this crate's definitions and contracts cite, passed on from one
-- place. Declares nothing.
pub use Rattle.std.specs.List.{AllByRecursion, after_first, before_first, join_with_byte, list_all, list_any, position_or_len, prefix_len, slice_split, starts_with, suffix_len}
pub use Rattle.std.specs.Str.{bytes_eq}
pub use Rattle.std.specs.Str.Lines.{strip_carriage_return}
pub use Rattle.awb_number.specs.Number.{decimal_value, is_digit, is_letter, is_letter_or_digit, padded, has_number_shape, number_of, number_text}
pub use Rattle.awb_number.specs.declared.awb.AwbFault.{AwbFault}
pub use Rattle.station_days.specs.Date.{or_else, where_true, ◌>>=◌}
pub use Rattle.imp_fields.specs.declared.amount.WeightUnit.{WeightUnit}
pub use Rattle.imp_fields.specs.declared.amount.WeightUnit.TheVariants.{Kilograms, Pounds}
pub use Rattle.imp_fields.specs.declared.line.Token.{Token}
