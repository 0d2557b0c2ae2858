use Rattle.std.proofs.Common.{rules, ◌≡◌, Option, List, ℕ, is_some, unwrap_or, SFits, w64, to_z-of_z, sym, ap, ◌∙◌, true≢false}
use Rattle.row_codec.proofs.Common.{FlightDate, Hand, Place, and_from, and_parts, are_flight_columns, flight_date_of, is_day, is_within, move_meant, place_of}
use Rattle.row_codec.proofs.MoveRows.{move_is, is_row, is_no_row}
use Rattle.row_codec.proofs.moves.move_by.Goals as goal

pub returns-in_err-flight-clause-exact : goal.returns-in_err-flight-clause-exact
returns-in_err-flight-clause-exact c =
    let fday_fits : SFits w64 c.args.row.now.fday = search rules in
    ap is_some c.from_residual.ensures
    ∙ is_no_row (move_meant c.args.row.now) (λ is. true≢false (sym is.columns ∙ sym (ap (λ (text : List ℕ). are_flight_columns text c.args.row.now.fday) c.deref.ensures) ∙ sym (simp to_z-of_z at c.in_err-flight.ensures.exact)))

pub returns-in_err-awb_by-clause-exact : goal.returns-in_err-awb_by-clause-exact
returns-in_err-awb_by-clause-exact c =
    let awb_fits : SFits w64 c.args.row.now.awb = search rules in
    ap is_some c.from_residual-in_err-awb_by.ensures ∙ is_no_row (move_meant c.args.row.now) (λ is. true≢false (sym is.awb ∙ sym (simp to_z-of_z at c.in_err-awb_by.ensures.exact)))

pub returns-in_err-place_by-clause-exact : goal.returns-in_err-place_by-clause-exact
returns-in_err-place_by-clause-exact c =
    let src_fits : SFits w64 c.args.row.now.src = search rules in
    let fday_fits : SFits w64 c.args.row.now.fday = search rules in
    let flight : c.in_ok-flight.flight ≡ flight_date_of (move_meant c.args.row.now).flight c.args.row.now.fday = simp to_z-of_z at c.in_ok-flight.ensures.value ∙ ap (λ (text : List ℕ). flight_date_of text c.args.row.now.fday) c.deref.ensures in
    ap is_some c.from_residual-in_err-place_by.ensures
    ∙ is_no_row (move_meant c.args.row.now) (λ is. true≢false (sym is.from ∙ ap (λ (f : Option FlightDate). is_some (place_of c.args.row.now.src f)) (sym flight) ∙ sym (ap is_some (simp to_z-of_z at c.in_err-place_by.ensures))))

pub returns-in_err-place_by-2-clause-exact : goal.returns-in_err-place_by-2-clause-exact
returns-in_err-place_by-2-clause-exact c =
    let dst_fits : SFits w64 c.args.row.now.dst = search rules in
    let fday_fits : SFits w64 c.args.row.now.fday = search rules in
    let flight : c.in_ok-flight.flight ≡ flight_date_of (move_meant c.args.row.now).flight c.args.row.now.fday = simp to_z-of_z at c.in_ok-flight.ensures.value ∙ ap (λ (text : List ℕ). flight_date_of text c.args.row.now.fday) c.deref.ensures in
    ap is_some c.from_residual-in_err-place_by-2.ensures
    ∙ is_no_row (move_meant c.args.row.now) (λ is. true≢false (sym is.to ∙ ap (λ (f : Option FlightDate). is_some (place_of c.args.row.now.dst f)) (sym flight) ∙ sym (ap is_some (simp to_z-of_z at c.in_err-place_by-2.ensures))))

pub returns-in_err-pieces_by-clause-exact : goal.returns-in_err-pieces_by-clause-exact
returns-in_err-pieces_by-clause-exact c =
    let pieces_fits : SFits w64 c.args.row.now.pieces = search rules in
    ap is_some c.from_residual-in_err-pieces_by.ensures ∙ is_no_row (move_meant c.args.row.now) (λ is. true≢false (sym is.pieces ∙ sym (simp to_z-of_z at c.in_err-pieces_by.ensures.exact)))

pub returns-in_err-tenths_by-clause-exact : goal.returns-in_err-tenths_by-clause-exact
returns-in_err-tenths_by-clause-exact c =
    let tenths_fits : SFits w64 c.args.row.now.tenths = search rules in
    ap is_some c.from_residual-in_err-tenths_by.ensures ∙ is_no_row (move_meant c.args.row.now) (λ is. true≢false (sym is.tenths ∙ sym (simp to_z-of_z at c.in_err-tenths_by.ensures.exact)))

pub returns-in_err-moment_by-clause-exact : goal.returns-in_err-moment_by-clause-exact
returns-in_err-moment_by-clause-exact c =
    let day_fits : SFits w64 c.args.row.now.day = search rules in
    let minute_fits : SFits w64 c.args.row.now.minute = search rules in
    ap is_some c.from_residual-in_err-moment_by.ensures ∙ is_no_row (move_meant c.args.row.now) (λ is. true≢false (sym (and_from _ _ is.day is.minute) ∙ sym (simp to_z-of_z at c.in_err-moment_by.ensures.exact)))

pub returns : goal.returns
returns c =
    let awb_fits : SFits w64 c.args.row.now.awb = search rules in
    let src_fits : SFits w64 c.args.row.now.src = search rules in
    let dst_fits : SFits w64 c.args.row.now.dst = search rules in
    let pieces_fits : SFits w64 c.args.row.now.pieces = search rules in
    let tenths_fits : SFits w64 c.args.row.now.tenths = search rules in
    let fday_fits : SFits w64 c.args.row.now.fday = search rules in
    let day_fits : SFits w64 c.args.row.now.day = search rules in
    let minute_fits : SFits w64 c.args.row.now.minute = search rules in
    let flight : c.in_ok-flight.flight ≡ flight_date_of (move_meant c.args.row.now).flight c.args.row.now.fday = simp to_z-of_z at c.in_ok-flight.ensures.value ∙ ap (λ (text : List ℕ). flight_date_of text c.args.row.now.fday) c.deref.ensures in
    let moment = and_parts (is_day c.args.row.now.day) (is_within 0 1439 c.args.row.now.minute) (sym (simp to_z-of_z at c.in_ok-moment_by.ensures.exact)) in
    record {
      exact = sym (is_row (move_meant c.args.row.now) (record {
        awb = sym (simp to_z-of_z at c.in_ok-awb_by.ensures.exact);
        from = ap (λ (f : Option FlightDate). is_some (place_of c.args.row.now.src f)) (sym flight) ∙ sym (ap is_some (simp to_z-of_z at c.in_ok-place_by.ensures));
        to = ap (λ (f : Option FlightDate). is_some (place_of c.args.row.now.dst f)) (sym flight) ∙ sym (ap is_some (simp to_z-of_z at c.in_ok-place_by-2.ensures));
        pieces = sym (simp to_z-of_z at c.in_ok-pieces_by.ensures.exact);
        tenths = sym (simp to_z-of_z at c.in_ok-tenths_by.ensures.exact);
        columns = sym (ap (λ (text : List ℕ). are_flight_columns text c.args.row.now.fday) c.deref.ensures) ∙ sym (simp to_z-of_z at c.in_ok-flight.ensures.exact);
        day = moment.0;
        minute = moment.1;
      }));
      value = move_is (move_meant c.args.row.now) _ (simp to_z-of_z at c.in_ok-awb_by.ensures.value) (ap (λ (o : Option Place). unwrap_or o Hand) (simp to_z-of_z at c.in_ok-place_by.ensures)) (ap (λ (o : Option Place). unwrap_or o Hand) (simp to_z-of_z at c.in_ok-place_by-2.ensures))
          (simp to_z-of_z at c.in_ok-pieces_by.ensures.value) (simp to_z-of_z at c.in_ok-tenths_by.ensures.value) flight (simp to_z-of_z at c.in_ok-moment_by.ensures.value);
    }
