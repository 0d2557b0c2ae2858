-- One row more.
use Rattle.cli_run.proofs.Common.{AreFirst, IfSome, IsReadersFault, List, None, Option, ReadRecord, Row, Some, [], ap, default_config, false, inl, inr, length, option_map, reader_fault, refl, source_of, stock_rows, strip_bom, sym, true, ℕ, ◌++◌, ◌+◌, ◌∙◌, ◌∷◌, ◌≡◌}
use Rattle.csv.specs.declared.error.ErrorKind.{ErrorKind}
use Rattle.csv.specs.declared.error.ErrorKind.TheVariants as kind
use Rattle.csv.specs.declared.parser.State.TheVariants as st
use Rattle.csv.specs.declared.reader.Reader.{Reader}
use Rattle.csv.specs.Reading.{Reached}
use Rattle.csv.proofs.ReadFacts.{rows-end, rows-more}
use Rattle.cli_run.proofs.InTurn.{length_more}
use Rattle.cli_run.proofs.Records.{all_records, first_records}

pub counted_more : (number : ℕ) (rows : List Row) (row : Row) → number ≡ length rows → number + 1 ≡ length (rows ++ row ∷ [])
counted_more number rows row counted = ap (λ k. k + 1) counted ∙ sym (length_more rows row)

-- what the reader has left of a text, after these rows
abbrev pub Known : {R : Type 0} → (R → Option (List ℕ)) → Reader R → List Row → List ℕ → Type 0
Known rem rdr rows bytes = (y : List ℕ) × (source_of rem rdr ≡ Some y) × Reached default_config st.StartRecord (strip_bom bytes) rows rdr.state y

pub known_start : {R : Type 0} (rem : R → Option (List ℕ)) (rdr : Reader R) (known : Option (List ℕ))
    → source_of rem rdr ≡ option_map strip_bom known → rdr.state ≡ st.StartRecord → IfSome known (Known rem rdr [])
unfolding Reached
known_start rem rdr None e s = tt
known_start rem rdr (Some bytes) e s = (strip_bom bytes, e, (sym s, refl))

pub known_more : {R : Type 0} (rem : R → Option (List ℕ)) (a b : Reader R) (f : List (List ℕ)) (rows : List Row) (known : Option (List ℕ))
    → a.config ≡ default_config → ReadRecord rem a b true f → IfSome known (Known rem a rows) → IfSome known (Known rem b (rows ++ f ∷ []))
known_more rem a b f rows None config r h = tt
known_more rem a b f rows (Some bytes) config r h = rows-more rem a b f default_config st.StartRecord (strip_bom bytes) h.0 rows config h.1 h.2 r

pub known_end : {R : Type 0} (rem : R → Option (List ℕ)) (a b : Reader R) (f : List (List ℕ)) (rows : List Row) (known : Option (List ℕ))
    → a.config ≡ default_config → ReadRecord rem a b false f → IfSome known (Known rem a rows) → IfSome known (λ bytes. rows ≡ stock_rows bytes)
known_end rem a b f rows None config r h = tt
known_end rem a b f rows (Some bytes) config r h =
    all_records default_config (strip_bom bytes) rows (a.state, h.0, h.2, rows-end rem a b f default_config h.0 config h.1 r)

pub known_first : {R : Type 0} (rem : R → Option (List ℕ)) (rdr : Reader R) (rows : List Row) (known : Option (List ℕ))
    → IfSome known (Known rem rdr rows) → IfSome known (AreFirst stock_rows rows)
known_first rem rdr rows None h = tt
known_first rem rdr rows (Some bytes) h = first_records default_config (strip_bom bytes) rows rdr.state h.0 h.2

pub readers_fault : (k : ErrorKind) → IsReadersFault (reader_fault k)
readers_fault (kind.Io e) = inl refl
readers_fault _ = inr refl
