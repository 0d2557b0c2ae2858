-- What the texts are that read a table whole, under any schema.
use Rattle.table_load.proofs.Common.{AreShown, AreSorts, Bool, Checked, Err, Expr, Expr-F, IsPlainSelect, IsPlainSource, IsSelect, List, None, Ok, Option, Parsed, Shown-F, Some, Sort, Source, [], ap, arith, build_columns, build_name, codes, counts_columns, counts_name, expected_columns, expected_name, false, first, flight_columns, flight_name, kept_key_columns, kept_key_name, kept_text_columns, kept_text_name, length, map, moves_columns, moves_name, old_waybill_columns, old_waybill_name, out-Core, out-Expr, out-Sort, out-Source, outbox_columns, outbox_name, part_columns, part_name, refl, station_columns, station_name, stock_columns, stock_name, trail_columns, trail_name, waybill_columns, waybill_name, ℕ, ◌<◌, ◌∷◌, ◌≡◌}
use Rattle.sqlite_tied.specs.Compute.{everything}
use Rattle.sqlite_ast.specs.Layer.{Layer, ShownLayer}
use Rattle.sqlite_ast.specs.declared.Shown.{Shown, out-Shown}
use Rattle.sqlite_ast.specs.declared.Select.{Select, out-Select}
use Rattle.sqlite_ast.specs.declared.Origin.TheVariants as origin
use Rattle.sqlite_ast.specs.declared.Statement.TheVariants as written
use Rattle.sqlite_ast.specs.declared.Statement.{Statement}

-- the column that an expression is, or that is shown without AS
abbrev column_of : Layer → Option (List ℕ)
column_of (Expr-F.Column None n) = Some n
column_of _ = None

abbrev shown_of : ShownLayer → Option (List ℕ)
shown_of (Shown-F.One e None text) = column_of (out-Expr e)
shown_of _ = None

abbrev sort_of : Sort → Option (List ℕ) × Option Bool × Bool
sort_of s = (column_of (out-Expr (out-Sort s).key), (out-Sort s).nulls_first, (out-Sort s).descending)

abbrev rising : List ℕ → Option (List ℕ) × Option Bool × Bool
rising n = (Some n, None, false)

is_column : (e : Layer) (n : List ℕ) → column_of e ≡ Some n → e ≡ Expr-F.Column None n
is_column (Expr-F.Column None m) n h = cc
is_column _ n h = absurd (cc)

is_shown : (s : ShownLayer) (n : List ℕ) → shown_of s ≡ Some n → (e : Expr) × (text : List ℕ) × (s ≡ Shown-F.One e None text) × (out-Expr e ≡ Expr-F.Column None n)
is_shown (Shown-F.One e None text) n h = (e, text, refl, is_column (out-Expr e) n h)
is_shown _ n h = absurd (cc)

are_shown : (shown : List Shown) (names : List (List ℕ)) → map (λ s. shown_of (out-Shown s)) shown ≡ map Some names → AreShown shown names
are_shown [] [] h = tt
are_shown [] (n ∷ names) h = absurd (cc)
are_shown (s ∷ shown) [] h = absurd (cc)
are_shown (s ∷ shown) (n ∷ names) h = (is_shown (out-Shown s) n (cc), are_shown shown names (cc))

are_sorts : (order : List Sort) (keys : List (List ℕ))
    → map sort_of order ≡ map rising keys → AreSorts order keys
are_sorts [] [] h = tt
are_sorts [] (n ∷ keys) h = absurd (cc)
are_sorts (s ∷ order) [] h = absurd (cc)
are_sorts (s ∷ order) (n ∷ keys) h =
    let e : sort_of s ≡ rising n = cc in
    ((is_column (out-Expr (out-Sort s).key) n (ap (λ t. t.0) e), ap (λ t. t.1) e, ap (λ t. t.2) e), are_sorts order keys (cc))

abbrev IsFrom : List ℕ → List Source → Type 0
IsFrom name (source ∷ []) = out-Source source ≡ record { is_left = false; origin = origin.Table name; alias = None; on = None; using = [] }
IsFrom name _ = ⊥

is_from : (name : List ℕ) (from : List Source) → IsFrom name from → (source : Source) × (from ≡ source ∷ []) × IsPlainSource name source
is_from name (source ∷ []) h = (source, refl, record { origin_is = ap (λ s. s.origin) h; alias_is = ap (λ s. s.alias) h; using_is = ap (λ s. s.using) h; inner_is = ap (λ s. s.is_left) h; on_is = ap (λ s. s.on) h })
is_from name _ h = absurd h

-- a parsed text that is a plain SELECT: each fact holds by `refl`
abbrev IsPlain : List ℕ → List (List ℕ) → List (List ℕ) → Select → Type 0
IsPlain name names keys sel =
    (out-Select sel ≡ record { with = []; first = (out-Select sel).first; others = []; order = (out-Select sel).order; limit = None; offset = None })
    × (out-Core (out-Select sel).first ≡ record { distinct = false; shown = (out-Core (out-Select sel).first).shown; from = (out-Core (out-Select sel).first).from; filter = None; group = []; having = None })
    × IsFrom name (out-Core (out-Select sel).first).from
    × (map (λ s. shown_of (out-Shown s)) (out-Core (out-Select sel).first).shown ≡ map Some names)
    × (map sort_of (out-Select sel).order ≡ map rising keys)

abbrev IsSelected : List ℕ → List (List ℕ) → List (List ℕ) → Statement → Type 0
IsSelected name names keys (written.Select sel) = IsPlain name names keys sel
IsSelected name names keys _ = ⊥

abbrev IsParsed : List ℕ → List (List ℕ) → List (List ℕ) → Checked Parsed → Type 0
IsParsed name names keys (Ok p) = (p.formats ≡ []) × IsSelected name names keys p.statement
IsParsed name names keys (Err e) = ⊥

is_plain : (name : List ℕ) (names keys : List (List ℕ)) (sel : Select) → IsPlain name names keys sel → IsPlainSelect name names keys sel
is_plain name names keys sel h =
    let source = is_from name _ h.2 in
    record {
      with_is = ap (λ s. s.with) h.0;
      others_is = ap (λ s. s.others) h.0;
      limit_is = ap (λ s. s.limit) h.0;
      offset_is = ap (λ s. s.offset) h.0;
      core_is = record {
        shown_is = are_shown _ _ h.3;
        source = source.0;
        from_is = source.1;
        plain_source = source.2;
        distinct_is = ap (λ c. c.distinct) h.1;
        filter_is = ap (λ c. c.filter) h.1;
        group_is = ap (λ c. c.group) h.1;
        having_is = ap (λ c. c.having) h.1;
      };
      order_is = are_sorts _ _ h.4;
    }

is_selected : (name : List ℕ) (names keys : List (List ℕ)) (s : Statement) → IsSelected name names keys s → (sel : Select) × (s ≡ written.Select sel) × IsPlainSelect name names keys sel
is_selected name names keys (written.Select sel) h = (sel, refl, is_plain name names keys sel h)
is_selected name names keys _ h = absurd h

select_is : (text name : List ℕ) (names keys : List (List ℕ)) → length names < 1000 → length keys < 1000 → (r : Checked Parsed) → first text ≡ r → IsParsed name names keys r → IsSelect text name names keys
select_is text name names keys few few_keys (Ok p) is h =
    let s = is_selected name names keys p.statement h.1 in
    record { p = p; sel = s.0; first_is = is; statement_is = s.1; formats_is = h.0; select_is = s.2; few = few; few_keys = few_keys }
select_is text name names keys few few_keys (Err e) is h = absurd h

pub station_is : IsSelect (codes "SELECT id, airport, version, confirmed FROM station ORDER BY id") station_name station_columns (codes "id" ∷ [])
unfolding everything
station_is = select_is _ _ _ _ (omega arith) (omega arith) _ refl (refl, (refl, refl, refl, refl, refl))

pub old_waybill_is : IsSelect (codes "SELECT awb, origin, destination, pieces, tenths, goods, notified FROM waybill ORDER BY awb") old_waybill_name old_waybill_columns (codes "awb" ∷ [])
unfolding everything
old_waybill_is = select_is _ _ _ _ (omega arith) (omega arith) _ refl (refl, (refl, refl, refl, refl, refl))

pub waybill_is : IsSelect (codes "SELECT awb, origin, destination, pieces, tenths, goods, notified, since FROM waybill2 ORDER BY awb") waybill_name waybill_columns (codes "awb" ∷ [])
unfolding everything
waybill_is = select_is _ _ _ _ (omega arith) (omega arith) _ refl (refl, (refl, refl, refl, refl, refl))

pub stock_is : IsSelect (codes "SELECT prefix, low, high, holder, agent FROM stock ORDER BY prefix, low") stock_name stock_columns (codes "prefix" ∷ codes "low" ∷ [])
unfolding everything
stock_is = select_is _ _ _ _ (omega arith) (omega arith) _ refl (refl, (refl, refl, refl, refl, refl))

pub flight_is : IsSelect (codes "SELECT flight, day, unload, closed FROM flight ORDER BY flight, day") flight_name flight_columns (codes "flight" ∷ codes "day" ∷ [])
unfolding everything
flight_is = select_is _ _ _ _ (omega arith) (omega arith) _ refl (refl, (refl, refl, refl, refl, refl))

pub moves_is : IsSelect (codes "SELECT number, awb, src, dst, pieces, tenths, flight, fday, day, minute FROM moves ORDER BY number") moves_name moves_columns (codes "number" ∷ [])
unfolding everything
moves_is = select_is _ _ _ _ (omega arith) (omega arith) _ refl (refl, (refl, refl, refl, refl, refl))

pub expected_is : IsSelect (codes "SELECT flight, day, awb, pieces, tenths, checked FROM expected ORDER BY flight, day, awb") expected_name expected_columns (codes "flight" ∷ codes "day" ∷ codes "awb" ∷ [])
unfolding everything
expected_is = select_is _ _ _ _ (omega arith) (omega arith) _ refl (refl, (refl, refl, refl, refl, refl))

pub part_is : IsSelect (codes "SELECT flight, day, airport, seq, body FROM part ORDER BY flight, day, airport, seq") part_name part_columns (codes "flight" ∷ codes "day" ∷ codes "airport" ∷ codes "seq" ∷ [])
unfolding everything
part_is = select_is _ _ _ _ (omega arith) (omega arith) _ refl (refl, (refl, refl, refl, refl, refl))

pub trail_is : IsSelect (codes "SELECT number, awb, line FROM trail ORDER BY number") trail_name trail_columns (codes "number" ∷ [])
unfolding everything
trail_is = select_is _ _ _ _ (omega arith) (omega arith) _ refl (refl, (refl, refl, refl, refl, refl))

pub outbox_is : IsSelect (codes "SELECT number, body FROM outbox ORDER BY number") outbox_name outbox_columns (codes "number" ∷ [])
unfolding everything
outbox_is = select_is _ _ _ _ (omega arith) (omega arith) _ refl (refl, (refl, refl, refl, refl, refl))

pub kept_key_is : IsSelect (codes "SELECT id, command, count FROM kept_key ORDER BY id") kept_key_name kept_key_columns (codes "id" ∷ [])
unfolding everything
kept_key_is = select_is _ _ _ _ (omega arith) (omega arith) _ refl (refl, (refl, refl, refl, refl, refl))

pub kept_text_is : IsSelect (codes "SELECT body, count FROM kept_text ORDER BY body") kept_text_name kept_text_columns (codes "body" ∷ [])
unfolding everything
kept_text_is = select_is _ _ _ _ (omega arith) (omega arith) _ refl (refl, (refl, refl, refl, refl, refl))

pub counts_is : IsSelect (codes "SELECT awb, place, pieces, tenths FROM counts ORDER BY awb, place") counts_name counts_columns (codes "awb" ∷ codes "place" ∷ [])
unfolding everything
counts_is = select_is _ _ _ _ (omega arith) (omega arith) _ refl (refl, (refl, refl, refl, refl, refl))

pub build_is : IsSelect (codes "SELECT flight, day, awb, pieces, tenths FROM build ORDER BY flight, day, awb") build_name build_columns (codes "flight" ∷ codes "day" ∷ codes "awb" ∷ [])
unfolding everything
build_is = select_is _ _ _ _ (omega arith) (omega arith) _ refl (refl, (refl, refl, refl, refl, refl))
