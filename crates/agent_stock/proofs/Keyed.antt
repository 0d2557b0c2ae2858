-- The numbers of a map in key order, each as a row of one.
use Rattle.agent_stock.proofs.Common.{AllByRecursion, AreRuns, Holder, IsRunRow, List, Some, StandFrom, StockRun, [], ap, append-nil, arith, cond, holders_by, is_among, is_at, map, nat_cmp, nat_eq, nat_le, nat_lt, nat_tests, refl, sym, ℕ, ◌&&◌, ◌++◌, ◌+◌, ◌<◌, ◌∙◌, ◌∷◌, ◌≡◌, ◌≤◌}
use Rattle.std.specs.declared.cmp.Ordering.TheVariants.{Less}
use Rattle.std.specs.List.Sorted.{IsStrictlySortedBy}
use Rattle.std.specs.Map.{keys_of, lookup}
use Rattle.std.proofs.lemmas.Map.Keys.{sorted_head, sorted_tail}
use Rattle.agent_stock.proofs.Serials.{key_is}

abbrev pub row_of : ℕ × Holder → StockRun
row_of e = record { first = e.0; count = 1; holder = e.1 }

below : (a b : ℕ) → nat_cmp a b ≡ Less → a < b
below a b h = grind (arith, nat_tests)

stand : (low : ℕ) (e : ℕ × Holder) (es : List (ℕ × Holder)) → low ≤ e.0 → IsStrictlySortedBy nat_cmp (keys_of (e ∷ es)) → StandFrom low (map row_of (e ∷ es))
stand low e [] le h = (le, tt)
stand low e (f ∷ es) le h =
    let lt = below e.0 f.0 (sorted_head nat_cmp e.0 (keys_of (f ∷ es)) h).0 in
    (le, stand (e.0 + 1) f es (omega (arith, lt)) (sorted_tail nat_cmp e.0 (keys_of (f ∷ es)) h))

each : (es : List (ℕ × Holder)) → AllByRecursion IsRunRow (map row_of es)
each [] = tt
each (e ∷ es) = (record { some = omega arith; one_prefix = omega arith }, each es)

pub rows_in_order : (es : List (ℕ × Holder)) → IsStrictlySortedBy nat_cmp (keys_of es) → AreRuns (map row_of es)
rows_in_order [] h = record { stand = tt; each = tt }
rows_in_order (e ∷ es) h = record { stand = stand 0 e es (omega arith) h; each = each (e ∷ es) }

one : (a q : ℕ) → (nat_le a q && nat_lt q (a + 1)) ≡ nat_eq q a
one a q = grind (arith, nat_tests)

pub holders_by_key : (es : List (ℕ × Holder)) (q : ℕ) → holders_by (map row_of es) q ≡ lookup (is_at (nat_cmp q)) es
holders_by_key [] q = refl
holders_by_key (e ∷ es) q =
    ap (cond (is_among e.0 1 q) (Some e.1)) (holders_by_key es q)
    ∙ ap (λ b. cond b (Some e.1) (lookup (is_at (nat_cmp q)) es)) (one e.0 q ∙ sym (key_is q e.0))

pub all_listed : (rows : List StockRun) (ahead es : List (ℕ × Holder)) → rows ++ map row_of ahead ≡ map row_of es → ahead ≡ [] → rows ≡ map row_of es
all_listed rows ahead es whole none = sym (append-nil rows) ∙ ap (λ l. rows ++ map row_of l) (sym none) ∙ whole
