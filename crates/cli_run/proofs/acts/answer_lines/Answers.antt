use Rattle.cli_run.proofs.Common.{Err, List, Ok, Some, [], ap, arith, call, kept_lines, length, refl, rules, subst, sym, ℕ, ◌++◌, ◌+◌, ◌<◌, ◌∷◌, ◌≡◌}
use Rattle.cli_run.proofs.InTurn.{answered_more, length_more, passed_items}
use Rattle.cli_run.proofs.Lines.{known_start, known_more, known_end, known_first, Read}
use Rattle.cli_run.proofs.acts.answer_lines.Goals as goal

pub loop-number-init : goal.loop-number-init
loop-number-init g c = record {
  lines = ([], refl, known_start (g.R.Read.remaining c.args.reader), (refl, refl));
}

pub loop-number-preserved : goal.loop-number-preserved
loop-number-preserved g c =
    let inv = c.loop-number.invariant in
    let lines : List (List ℕ) = inv.lines.0 in
    let line : List ℕ = c.as_slice.result.now in
    let a = g.R.Read.remaining c.loop-number.reader in
    let b = g.R.Read.remaining c.kept_line.new.reader in
    let some : 0 < length line = search rules in
    let read : Read a b line = subst (Read a b) (sym c.as_slice.ensures.value) c.in-Ok.ensures.read in
    let Step = g.P.Answering.answered_line c.args.way.now in
    let mid = call c.loop-number.desk (g.W.ByteOut.taken c.loop-number.writer) c.loop-number.errors in
    let new = call c.answer_line.new.desk (g.W.ByteOut.taken c.answer_line.new.writer) c.answer_line.new.errors in
    let step = subst (λ (k : ℕ). Step k line mid new (Ok c.in_ok-accepted.accepted)) inv.lines.1 c.in_ok-accepted.ensures.answered in
    record {
      lines = (
        lines ++ line ∷ [],
        omega (arith, inv.lines.1, length_more lines line),
        known_more (g.R.Read.remaining c.args.reader) a b lines line inv.lines.2 read some,
        answered_more Step 1 lines line (call c.args.desk.now (g.W.ByteOut.taken c.args.writer.now) c.args.errors.now) mid new c.loop-number.good c.in_ok-accepted.accepted inv.lines.3 step,
      );
    }

pub returns-then-is_empty : goal.returns-then-is_empty
returns-then-is_empty g c =
    let inv = c.loop-number.invariant in
    let end = known_end (g.R.Read.remaining c.args.reader) (g.R.Read.remaining c.loop-number.reader) (g.R.Read.remaining c.kept_line.new.reader) inv.lines.0 c.in-Ok.line.items inv.lines.2 c.in-Ok.ensures.read (search rules) in
    (inv.lines.0, end, inv.lines.3)

pub returns-in_err-accepted : goal.returns-in_err-accepted
returns-in_err-accepted g c =
    let inv = c.loop-number.invariant in
    let lines : List (List ℕ) = inv.lines.0 in
    let line : List ℕ = c.as_slice.result.now in
    let a = g.R.Read.remaining c.loop-number.reader in
    let b = g.R.Read.remaining c.kept_line.new.reader in
    let some : 0 < length line = search rules in
    let read : Read a b line = subst (Read a b) (sym c.as_slice.ensures.value) c.in-Ok.ensures.read in
    let Step = g.P.Answering.answered_line c.args.way.now in
    let mid = call c.loop-number.desk (g.W.ByteOut.taken c.loop-number.writer) c.loop-number.errors in
    let new = call c.answer_line.new.desk (g.W.ByteOut.taken c.answer_line.new.writer) c.answer_line.new.errors in
    let e = c.in_err-accepted.field-0.0 in
    let number_is : c.loop-number.number ≡ length lines + 1 = omega (arith, inv.lines.1) in
    let step = subst (λ (k : ℕ). Step k line mid new (Err e)) number_is c.in_err-accepted.ensures.answered in
    let left = g.R.Read.remaining c.args.reader in
    passed_items Step kept_lines left (call c.args.desk.now (g.W.ByteOut.taken c.args.writer.now) c.args.errors.now) new c.from_residual.result e c.from_residual.ensures.1 (
      lines,
      (
        Some line,
        known_first left b (lines ++ line ∷ []) (known_more left a b lines line inv.lines.2 read some),
        (λ is. c.in_err-accepted.ensures.unread (ap Err is), (mid, (c.loop-number.good, inv.lines.3, step))),
      ),
    )
