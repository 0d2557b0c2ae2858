-- A waybill is declared exactly where there is a row of it.
use Rattle.table_audits.proofs.Common.{IsSome, List, None, Option, Some, Waybill, declared_by, declared_in, get_by, has_waybill, is_some, option_map, pos, refl, true, waybill_id, ℕ, ◌≡◌}

pub some_from : {X Y : Type 0} (f : X → Y) (o : Option X) → is_some o ≡ true → IsSome (option_map f o)
some_from f (Some x) h = refl
some_from f None h = h

pub some_back : {X Y : Type 0} (f : X → Y) (o : Option X) → IsSome (option_map f o) → is_some o ≡ true
some_back f (Some x) h = refl
some_back f None h = h

pub declared_from : (rows : List Waybill) (w : ℕ) → has_waybill rows (pos w) ≡ true → IsSome (declared_in rows w)
declared_from rows w h = some_from declared_by (get_by waybill_id rows (pos w)) h

pub declared_back : (rows : List Waybill) (w : ℕ) → IsSome (declared_in rows w) → has_waybill rows (pos w) ≡ true
declared_back rows w h = some_back declared_by (get_by waybill_id rows (pos w)) h
