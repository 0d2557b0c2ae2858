use Rattle.state_store.proofs.Common.{Lines, Some, ap, get_or, length, no_lines, rules, sym, take, with_line, ◌<◌, ◌∙◌, ◌≡◌}
use Rattle.std.proofs.Math.Seq.{take-length}
use Rattle.state_store.proofs.Filled.{all_filled, filled, filled_next, filled_none}
use Rattle.state_store.proofs.lines.ExpectedLines.of.Goals as goal

pub loop-row-init : goal.loop-row-init
loop-row-init c = c.new-kept.ensures ∙ sym filled_none

pub loop-row-preserved : goal.loop-row-preserved
loop-row-preserved c =
    let rows = c.args.rows.now in
    let row = c.row-item.result in
    let fits : c.loop-row.row-index < length rows = search rules in
    let read : row ≡ get_or rows c.loop-row.row-index row = search rules in
    c.in_ok-put.ensures.put ∙ ap (λ (lines : Lines). with_line lines row.flight row.awb (Some row.expected)) c.loop-row.invariant ∙ filled_next rows c.loop-row.row-index row fits read

pub returns : goal.returns
returns c = λ lines are.
    let rows = c.args.rows.now in
    let last : c.loop-row.row-index ≡ length rows = search rules in
    c.loop-row.invariant ∙ ap (λ n. filled no_lines (take n rows)) last ∙ ap (filled no_lines) (take-length rows) ∙ all_filled lines c.args.rows.now are
