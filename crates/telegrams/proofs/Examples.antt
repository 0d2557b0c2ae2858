-- Worked telegrams, computed.
use Rattle.telegrams.proofs.Common.{IsTelegram, List, None, Notice, Option, Shipment, Some, [], cargo_line, codes, normal_text, notice_text, refl, refusal_of, sent_text, telegram_fault, ℕ, ◌++◌, ◌∷◌, ◌≡◌}
use Rattle.std.specs.Option.{option_map}
use Rattle.std.specs.Fmt.{digits}
use Rattle.awb_number.specs.Number.{key_of}
use Rattle.imp_fields.specs.declared.amount.ShipmentCode.TheVariants.{Total}
use Rattle.imp_fields.specs.declared.fault.Why.TheVariants as why
use Rattle.shipment_machine.specs.declared.plans.Refusal.{Refusal}
use Rattle.shipment_machine.specs.declared.plans.Detail.TheVariants as detail
use Rattle.shipment_machine.specs.declared.notice.Notice.TheVariants as notice
use Rattle.shipment_machine.specs.declared.notice.Event.TheVariants as event
use Rattle.telegrams.specs.declared.telegram.Content.TheVariants as content

abbrev fra : List ℕ
fra = codes "FRA"

abbrev jfk : List ℕ
jfk = codes "JFK"

-- A waybill message behind two lines of an envelope, with CRLF at each line's end.

abbrev message : List (List ℕ)
message =
    codes "FWB/16" ∷ codes "020-12345675FRAJFK/T10K100MC0.5" ∷ codes "SHP" ∷ codes "/ACME TOOLS" ∷ codes "CNE"
    ∷ codes "/BROWN" ∷ codes "RTD/1/P10/K100.0" ∷ []

abbrev shipment : Shipment
shipment = record {
  awb = key_of 20 1234567;
  origin = fra;
  destination = jfk;
  quantity = record { code = Total; pieces = 10; weight = Some 1000; total = None };
  goods = [];
}

example_waybill : IsTelegram (sent_text (codes "QK FRACGXX" ∷ codes ".HAMFMXX 121000" ∷ message)) (record { text = normal_text message; content = content.Fwb (cargo_line shipment) })
example_waybill = record { lines = message; normal = refl; text = refl; kind = refl; content = (shipment, (refl, refl, refl), refl) }

-- another envelope, blanks at a line's end and empty lines at the end of the text change nothing
example_again : IsTelegram (codes "QK FRACGXX" ++ 10 ∷ codes ".MUCFMXX 121015" ++ 10 ∷ codes "FWB/16" ++ 10 ∷ codes "020-12345675FRAJFK/T10K100MC0.5  " ++ 10 ∷ codes "SHP" ++ 10 ∷ codes "/ACME TOOLS" ++ 10 ∷ codes "CNE"
    ++ 10 ∷ codes "/BROWN" ++ 10 ∷ codes "RTD/1/P10/K100.0" ++ 10 ∷ 10 ∷ 10 ∷ [])
    (record { text = normal_text message; content = content.Fwb (cargo_line shipment) })
example_again = record { lines = message; normal = refl; text = refl; kind = refl; content = (shipment, (refl, refl, refl), refl) }

-- Refusals.

abbrev refused : List ℕ → Option Refusal
refused bytes = option_map refusal_of (telegram_fault bytes)

abbrev unknown_kind : Option Refusal
unknown_kind = Some (record { number = 302; detail = detail.Nothing })

example_empty : refused [] ≡ unknown_kind
example_empty = refl

example_other_kind : refused (codes "FBL/2") ≡ unknown_kind
example_other_kind = refl

example_no_ending : refused (sent_text (codes "FFM/8" ∷ codes "1/LH0400/12JAN1030/FRA" ∷ jfk ∷ codes "020-12345675FRAJFK/T10K100.0/CARGO" ∷ []))
    ≡ Some (record { number = 301; detail = detail.Line 4 why.Ending })
example_no_ending = refl

-- Notices.

abbrev receipt : Notice
receipt = notice.Status fra (record { awb = key_of 20 1234567; origin = fra; destination = jfk; pieces = 10; tenths = 1000 })
    (event.ReceivedFromShipper (codes "ACME") (record { day = 20465; minute = 630 })) 10 1000

example_receipt : notice_text receipt ≡ sent_text (codes "FSU/12" ∷ codes "020-12345675FRAJFK/T10K100.0" ∷ codes "RCS/12JAN1030/FRA/T10K100.0/ACME" ∷ [])
unfolding digits
example_receipt = refl

abbrev departure : Notice
departure = notice.Manifest fra (record { flight = record { carrier = codes "LH"; number = 400; suffix = None }; day = 20465 }) jfk
    (record { consigned = record { awb = key_of 20 1234567; origin = fra; destination = jfk; pieces = 10; tenths = 1000 }; pieces = 4; tenths = 400; goods = codes "CARGO" } ∷ [])

example_departure : notice_text departure
    ≡ sent_text (codes "FFM/8" ∷ codes "1/LH400/12JAN/FRA" ∷ jfk ∷ codes "020-12345675FRAJFK/P4K40.0T10/CARGO" ∷ codes "LAST" ∷ [])
unfolding digits
example_departure = refl
