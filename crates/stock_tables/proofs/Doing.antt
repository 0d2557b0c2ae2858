-- Orders by their parts, and a number that is used up.
use Rattle.stock_tables.proofs.Common.{Holder, Option, Restocked, Run, Some, Tables, Used, View, ap, arith, assigned, cond, holders_in, nat_le, nat_lt, nat_tests, using_up, ℕ, ◌&&◌, ◌+◌, ◌==◌, ◌∙◌, ◌≡◌}

-- a run of one number
one_of : (w q : ℕ) (x y : Option Holder) → cond (nat_le w q && nat_lt q (w + 1)) x y ≡ cond (q == w) x y
one_of w q x y = grind (arith, nat_tests)

pub uses_up : (v : View) (before t : Tables) (run : Run) (w : ℕ) → run ≡ record { first = w; count = 1 } → Restocked v before t (assigned (holders_in t.stock) run Used) → Restocked v before t (using_up (holders_in t.stock) w)
uses_up v before t run w is given = record {
  stock = given.stock;
  shown = given.shown;
  rows = given.rows;
  held = given.held ∙ ap (λ (r : Run). assigned (holders_in t.stock) r Used) is ∙ (λ i q. one_of w q (Some Used) (holders_in t.stock q) i);
}
