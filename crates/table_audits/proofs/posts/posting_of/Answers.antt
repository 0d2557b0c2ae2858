use Rattle.table_audits.proofs.Common.{IsPosted, IsPostedOr, flight_entry, is_move_row, map, move_meant, subst, sym, true, true≢false, waybill_meant, ◌∙◌, ◌≡◌}
use Rattle.table_audits.proofs.PostedLaws.{read_columns, names_from, names_to, posted_row, good_fits, nowhere_from, nowhere_to}
use Rattle.table_audits.proofs.posts.posting_of.Goals as goal

pub returns-in_err-movement : goal.returns-in_err-movement
returns-in_err-movement c = λ t by.
    subst (IsPostedOr t (move_meant c.args.row.now)) (sym c.from_residual.ensures) (λ good. true≢false (sym good.within ∙ sym c.in_err-movement.ensures.exact))

pub returns-then-not-is_fit : goal.returns-then-not-is_fit
returns-then-not-is_fit c = λ t by good.
    true≢false (sym (good_fits t (map waybill_meant c.args.waybills.now) (map flight_entry c.args.flights.now) by (move_meant c.args.row.now) c.in_ok-movement.movement c.in_ok-movement.ensures.value good)
    ∙ sym (c.is_fit.ensures by.up) ∙ c.if-not-is_fit.true)

pub returns-in_err-from : goal.returns-in_err-from
returns-in_err-from c = λ t by.
    let row = move_meant c.args.row.now in
    let is = c.in_ok-movement.ensures.value in
    let within : is_move_row row ≡ true = sym c.in_ok-movement.ensures.exact in
    subst (IsPostedOr t row) (sym c.from_residual-in_err-from.ensures)
    (nowhere_from t _ _ by row _ is (c.in_err-from.ensures t _ by (read_columns t _ _ by row _ is within) (names_from t _ _ by row _ is within)))

pub returns-in_err-to : goal.returns-in_err-to
returns-in_err-to c = λ t by.
    let row = move_meant c.args.row.now in
    let is = c.in_ok-movement.ensures.value in
    let within : is_move_row row ≡ true = sym c.in_ok-movement.ensures.exact in
    subst (IsPostedOr t row) (sym c.from_residual-in_err-to.ensures)
    (nowhere_to t _ _ by row _ is (c.in_err-to.ensures t _ by (read_columns t _ _ by row _ is within) (names_to t _ _ by row _ is within)))

pub returns : goal.returns
returns c = λ t by.
    let row = move_meant c.args.row.now in
    let is = c.in_ok-movement.ensures.value in
    let within : is_move_row row ≡ true = sym c.in_ok-movement.ensures.exact in
    subst (IsPosted t row) (sym c.posted.ensures)
    (posted_row t _ _ by row _ is within (sym (c.is_fit.ensures by.up) ∙ c.if-not-is_fit.false) c.in_ok-from.from c.in_ok-to.to
    (c.in_ok-from.ensures t _ by (read_columns t _ _ by row _ is within) (names_from t _ _ by row _ is within))
    (c.in_ok-to.ensures t _ by (read_columns t _ _ by row _ is within) (names_to t _ _ by row _ is within)))
