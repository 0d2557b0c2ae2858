use Rattle.stock_tables.proofs.Common.{FinMap, IsShowing, Stock, Survives, Tables, cleared, drop, inside, restocked, stock_cmp, written, ◌≡◌}
use Rattle.stock_tables.proofs.writing.clear.Given as goal

-- the rows so far are cleared
abbrev pub invariant-loop-row : goal.invariant-loop-row
invariant-loop-row g l =
    let view = g.S.TableStore.view in
    record {
      survives : Survives (view l.fn.store) (view l.store);
      so_far : (before t : Tables) → IsShowing (view l.fn.store) (inside before t) → (stock : FinMap stock_cmp Stock)
          × (IsShowing (view l.store) (inside before (restocked stock t)) × (cleared (written l.new) (drop l.row-index l.near) stock ≡ cleared (written l.new) l.near t.stock));
    }
