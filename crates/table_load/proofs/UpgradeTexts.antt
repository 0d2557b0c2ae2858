-- What the texts mean under the schema of a station of version 2. Each is computed.
use Rattle.table_load.proofs.Common.{Delete, Eq, Insert, Int, List, Means, Null, Update, [], asks, by_column, codes, one_table, pos, refl, station_schema, ℕ, ◌∷◌}
use Rattle.sqlite.specs.Collation.TheVariants.{Binary}
use Rattle.sqlite_sql.specs.declared.ops.BinaryOp.TheVariants.{Compare}
use Rattle.sqlite.specs.Term.{Term, lit, col, op2}
use Rattle.sqlite.specs.Query.{Query}
use Rattle.sqlite.specs.Source.TheVariants as source
use Rattle.sqlite_tied.specs.Compute.{everything}
use Rattle.sqlite.specs.Listing.{understood}

abbrev pub copy_text : List ℕ
copy_text = codes "INSERT INTO waybill2 (awb, origin, destination, pieces, tenths, goods, notified, since) SELECT awb, origin, destination, pieces, tenths, goods, notified, 0 FROM waybill ORDER BY awb"

abbrev pub copy_terms : List Term
copy_terms = col 1 0 ∷ lit Null ∷ col 1 2 ∷ col 1 3 ∷ col 1 4 ∷ col 1 5 ∷ col 1 6 ∷ col 1 7 ∷ lit (Int (pos 0)) ∷ []

abbrev pub copy_query : Query
copy_query = record (one_table 1 [] copy_terms (by_column 0 ∷ [])) {
  collations = Binary ∷ Binary ∷ Binary ∷ Binary ∷ Binary ∷ Binary ∷ Binary ∷ Binary ∷ Binary ∷ [];
}

pub copy_is : Means station_schema copy_text (Insert 13 (source.Query (asks copy_query)))
unfolding understood everything
copy_is = (refl, (refl, refl))

abbrev pub clear_text : List ℕ
clear_text = codes "DELETE FROM waybill"

pub clear_is : Means station_schema clear_text (Delete 1 (asks (one_table 1 [] (col 1 0 ∷ []) [])))
unfolding understood everything
clear_is = (refl, (refl, refl))

abbrev pub raise_text : List ℕ
raise_text = codes "UPDATE station SET version = 2 WHERE id = 1"

abbrev pub station_is : List Term
station_is = op2 (Compare Eq Binary) (col 1 0) (lit (Int (pos 1))) ∷ []

abbrev pub raise_terms : List Term
raise_terms = col 1 0 ∷ col 1 0 ∷ lit Null ∷ col 1 2 ∷ lit (Int (pos 2)) ∷ col 1 4 ∷ []

pub raise_is : Means station_schema raise_text (Update 0 (asks (one_table 0 station_is raise_terms [])))
unfolding understood everything
raise_is = (refl, (refl, refl))
