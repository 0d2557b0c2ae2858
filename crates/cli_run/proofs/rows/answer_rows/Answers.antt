use Rattle.cli_run.proofs.Common.{Err, Fits, IsReadersFault, List, None, Ok, Row, Some, [], ap, arith, call, fields_of, inl, inr, length, refl, rules, stock_rows, subst, sym, w64, ℕ, ◌++◌, ◌+◌, ◌<◌, ◌∙◌, ◌∷◌, ◌≡◌, ◌≤◌}
use Rattle.cli_run.proofs.InTurn.{answered_more, passed_items}
use Rattle.cli_run.proofs.MoreRows.{known_start, known_more, known_end, known_first, counted_more, readers_fault}
use Rattle.cli_run.proofs.rows.answer_rows.Goals as goal

pub loop-row-init : goal.loop-row-init
loop-row-init g c =
    let fr = c.from_reader-rdr.ensures in
    let start = c.into_iter-row-iterator.ensures.into_iter_gives ∙ refl in
    let rdr = c.into_byte_records-row-items.ensures.rdr in
    let left = c.into_byte_records-row-items.ensures.left in
    let flexible = c.flexible.ensures in
    let headers = c.has_headers.ensures in
    let known = known_start g.R.Read.remaining c.from_reader-rdr.result (g.R.Read.remaining c.args.reader) fr.source fr.state in
    let fits : Fits w64 c.into_iter-row-iterator.result.left = search rules in
    record {
      trim = rw (start, rdr) (rw (flexible, headers) at fr.trim ∙ c.new.ensures.trim);
      ready = rw (start, rdr) (inr (inr (rw (flexible, headers) at fr.has_headers, fr.headers)));
      left = rw (start) left;
      config = rw (start, rdr) (rw (flexible, headers) at fr.config ∙ c.new.ensures.config);
      counted = omega (arith, fits);
      rows = ([], refl, rw (start, rdr) known, (refl, refl));
    }

pub overflow_add-number : goal.overflow_add-number
overflow_add-number g c =
    let inv = c.loop-row.invariant in
    let bound : c.loop-row.number + c.loop-row.row-iterator.left ≤ 18446744073709551615 = inv.counted in
    let left : 0 < c.loop-row.row-iterator.left = inv.left in
    omega (arith, bound, left)

pub loop-row-preserved : goal.loop-row-preserved
loop-row-preserved g c =
    let inv = c.loop-row.invariant in
    let step = rw (c.in-Some.is, c.in-Ok.is) at ((c.next.ensures.steps inv.left inv.trim).0 inv.ready) in
    let rows : List Row = inv.rows.0 in
    let f : Row = fields_of c.in-Ok.row in
    let bound : c.loop-row.number + c.loop-row.row-iterator.left ≤ 18446744073709551615 = inv.counted in
    let goes = rw (c.in-Some.is) at c.next.ensures.goes.on tt in
    let fewer : c.next.new.self.left < c.loop-row.row-iterator.left = goes.2 in
    let Step = g.P.Answering.answered_row c.args.way.now in
    let mid = call c.loop-row.desk (g.W.ByteOut.taken c.loop-row.writer) c.loop-row.errors in
    let new = call c.answer_row.new.desk (g.W.ByteOut.taken c.answer_row.new.writer) c.answer_row.new.errors in
    let number_is : c.loop-row.number + 1 ≡ 1 + length rows = omega (arith, inv.rows.1) in
    let answered = subst (λ (k : ℕ). Step k f mid new (Ok c.in_ok-accepted-in-Ok.accepted)) number_is c.in_ok-accepted-in-Ok.ensures.answered in
    record {
      trim = step.0.3 ∙ inv.trim;
      ready = inl step.1;
      left = step.2;
      config = step.0.2 ∙ inv.config;
      counted = omega (arith, bound, fewer);
      rows = (
        rows ++ f ∷ [],
        counted_more c.loop-row.number rows f inv.rows.1,
        known_more g.R.Read.remaining c.loop-row.row-iterator.rdr c.next.new.self.rdr f rows (g.R.Read.remaining c.args.reader) inv.config step.0 inv.rows.2,
        answered_more Step 1 rows f (call c.args.desk.now (g.W.ByteOut.taken c.args.writer.now) c.args.errors.now) mid new c.loop-row.good c.in_ok-accepted-in-Ok.accepted inv.rows.3 answered,
      );
    }

pub returns : goal.returns
returns g c =
    let inv = c.loop-row.invariant in
    let step = rw c.in-None.is at ((c.next.ensures.steps inv.left inv.trim).0 inv.ready) in
    let all = known_end g.R.Read.remaining c.loop-row.row-iterator.rdr c.next.new.self.rdr [] inv.rows.0 (g.R.Read.remaining c.args.reader) inv.config step inv.rows.2 in
    (inv.rows.0, all, inv.rows.3)

pub returns-in-Err : goal.returns-in-Err
returns-in-Err g c =
    let inv = c.loop-row.invariant in (
      inv.rows.0,
      (
        None,
        known_first g.R.Read.remaining c.loop-row.row-iterator.rdr inv.rows.0 (g.R.Read.remaining c.args.reader) inv.rows.2,
        (subst IsReadersFault (sym c.list_fault.ensures) (readers_fault _), (c.loop-row.good, inv.rows.3)),
      ),
    )

pub returns-in_err-accepted-in-Ok : goal.returns-in_err-accepted-in-Ok
returns-in_err-accepted-in-Ok g c =
    let inv = c.loop-row.invariant in
    let rows : List Row = inv.rows.0 in
    let f : Row = fields_of c.in-Ok.row in
    let step = rw (c.in-Some.is, c.in-Ok.is) at ((c.next.ensures.steps inv.left inv.trim).0 inv.ready) in
    let known = known_more g.R.Read.remaining c.loop-row.row-iterator.rdr c.next.new.self.rdr f rows (g.R.Read.remaining c.args.reader) inv.config step.0 inv.rows.2 in
    let Step = g.P.Answering.answered_row c.args.way.now in
    let mid = call c.loop-row.desk (g.W.ByteOut.taken c.loop-row.writer) c.loop-row.errors in
    let new = call c.answer_row.new.desk (g.W.ByteOut.taken c.answer_row.new.writer) c.answer_row.new.errors in
    let e = c.in_err-accepted-in-Ok.field-0.0 in
    let number_is : c.loop-row.number + 1 ≡ length rows + 1 = omega (arith, inv.rows.1) in
    let answered = subst (λ (k : ℕ). Step k f mid new (Err e)) number_is c.in_err-accepted-in-Ok.ensures.answered in
    passed_items Step stock_rows (g.R.Read.remaining c.args.reader) (call c.args.desk.now (g.W.ByteOut.taken c.args.writer.now) c.args.errors.now) new
    c.from_residual.result e c.from_residual.ensures.1 (
      rows,
      (
        Some f,
        known_first g.R.Read.remaining c.next.new.self.rdr (rows ++ f ∷ []) (g.R.Read.remaining c.args.reader) known,
        (λ is. c.in_err-accepted-in-Ok.ensures.unread (ap Err is), (mid, (c.loop-row.good, inv.rows.3, answered))),
      ),
    )
