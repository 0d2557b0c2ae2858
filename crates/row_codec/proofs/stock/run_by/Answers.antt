use Rattle.row_codec.proofs.Common.{SFits, ap, holder_by, int_le, is_some, is_within, pos, rules, stock_meant, to_z-of_z, w64, ◌∙◌}
use Rattle.row_codec.proofs.Exact.{no_number, no_count, no_holder, all_tests}
use Rattle.row_codec.proofs.stock.run_by.Goals as goal

pub returns-in_err-first-clause-exact : goal.returns-in_err-first-clause-exact
returns-in_err-first-clause-exact c =
    let row = c.args.row.now in
    let prefix_fits : SFits w64 c.args.row.now.prefix = search rules in
    let low_fits : SFits w64 c.args.row.now.low = search rules in
    ap is_some c.from_residual.ensures
    ∙ no_number (is_within 0 999 row.prefix) (is_within 0 9_999_999 row.low) (int_le row.low row.high) (int_le row.high (pos 9_999_999)) (is_some (holder_by (stock_meant row).1)) (simp to_z-of_z at c.in_err-first.ensures.exact)

pub returns-in_err-count-clause-exact : goal.returns-in_err-count-clause-exact
returns-in_err-count-clause-exact c =
    let row = c.args.row.now in
    let low_fits : SFits w64 c.args.row.now.low = search rules in
    let high_fits : SFits w64 c.args.row.now.high = search rules in
    ap is_some c.from_residual-in_err-count.ensures
    ∙ no_count (is_within 0 999 row.prefix) (is_within 0 9_999_999 row.low) (int_le row.low row.high) (int_le row.high (pos 9_999_999)) (is_some (holder_by (stock_meant row).1)) (simp to_z-of_z at c.in_err-count.ensures.exact)

pub returns-in_err-holder-clause-exact : goal.returns-in_err-holder-clause-exact
returns-in_err-holder-clause-exact c =
    let row = c.args.row.now in
    ap is_some c.from_residual-in_err-holder.ensures
    ∙ no_holder (is_within 0 999 row.prefix) (is_within 0 9_999_999 row.low) (int_le row.low row.high) (int_le row.high (pos 9_999_999)) (is_some (holder_by (stock_meant row).1)) (ap is_some c.in_err-holder.ensures)

pub returns-clause-exact : goal.returns-clause-exact
returns-clause-exact c =
    let row = c.args.row.now in
    let prefix_fits : SFits w64 c.args.row.now.prefix = search rules in
    let low_fits : SFits w64 c.args.row.now.low = search rules in
    let high_fits : SFits w64 c.args.row.now.high = search rules in
    all_tests (is_within 0 999 row.prefix) (is_within 0 9_999_999 row.low) (int_le row.low row.high) (int_le row.high (pos 9_999_999)) (is_some (holder_by (stock_meant row).1)) (simp to_z-of_z at c.in_ok-first.ensures.exact)
    (simp to_z-of_z at c.in_ok-count.ensures.exact) (ap is_some c.in_ok-holder.ensures)
