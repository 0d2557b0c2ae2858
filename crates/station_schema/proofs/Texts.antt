-- What the texts that make the tables mean, each under the schema that the ones before it make. Each is computed.
use Rattle.station_schema.proofs.Common.{Insert, Int, List, MOVES_AWB, Null, Schema, Term, Values, WAYBILL2, [], codes, col, lit, moves, moves_index, pos, refl, station_schema, take, waybill2, ℕ, ◌∷◌}
use Rattle.sqlite_tied.specs.Compute.{everything}
use Rattle.sqlite.specs.Listing.{understood}
use Rattle.station_schema.proofs.AnyTexts.{IsCreate, IsIndex, Means}

-- the schema of the first tables and indexes of a station
abbrev pub made : ℕ → ℕ → Schema
made tables indexes = record { tables = take tables station_schema.tables; indexes = take indexes station_schema.indexes; views = [] }

pub moves_awb_is : IsIndex MOVES_AWB.now (made 5 2) 4 moves (record moves_index { tree = 0 })
unfolding understood everything
moves_awb_is = record { command = refl; plain = (refl, refl); whole = refl; there = refl; defined = refl }

pub waybill2_is : IsCreate WAYBILL2.now (made 13 9) (record waybill2 { tree = 0 })
unfolding understood everything
waybill2_is = record { command = refl; plain = (refl, refl); whole = refl; defined = refl }

-- ---- the row of station

abbrev pub station_terms : List Term
station_terms = lit (Int (pos 1)) ∷ lit Null ∷ col 0 0 ∷ lit (Int (pos 2)) ∷ lit (Int (pos 0)) ∷ []

abbrev pub insert_station_text : List ℕ
insert_station_text = codes "INSERT INTO station (id, airport, version, confirmed) VALUES (1, ?1, 2, 0)"

pub insert_station_is : Means station_schema insert_station_text (Insert 0 (Values station_terms 5))
unfolding understood everything
insert_station_is = (refl, (refl, refl))
