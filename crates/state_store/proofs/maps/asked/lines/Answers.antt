use Rattle.state_store.proofs.Common.{ap, arith, drop, first_line, flat_map, if_line, numbered, sym, trail_in, trail_line, trail_row, ◌++◌, ◌+◌, ◌∙◌, ◌≡◌}
use Rattle.state_store.proofs.BookLists.{row_last, row_more}
use Rattle.state_store.proofs.Numbered.{ahead_mapped, length-mapped, lines_are, none_ahead_mapped}
use Rattle.state_store.proofs.maps.asked.lines.Goals as goal

pub loop-at-preserved : goal.loop-at-preserved
loop-at-preserved c =
    let query = c.args.query.now in
    let entry = c.index-trail-at.result in
    let number : c.in-Ok.number ≡ c.loop-at.at + 1 = omega arith in
    row_more (if_line query) c.loop-at.rows.items c.put_line.new.rows.items _ _ _ (trail_row (c.loop-at.at + 1) (trail_line entry)) c.loop-at.invariant
    (ahead_mapped trail_line trail_row c.args.trail.now c.loop-at.at entry (omega arith) c.index-trail-at.is)
    (c.in_ok-put_line.ensures ∙ ap (λ n. c.loop-at.rows.items ++ if_line query (trail_row n (trail_line entry))) number)

pub returns : goal.returns
returns c =
    row_last (if_line c.args.query.now) c.loop-at.rows.items _ _ c.loop-at.invariant (none_ahead_mapped trail_line trail_row c.args.trail.now c.loop-at.at (omega arith))
    ∙ ap (λ n. flat_map (if_line c.args.query.now) (numbered trail_row (first_line c.args.query.now n + 1) (drop (first_line c.args.query.now n) (trail_in c.args.trail.now)))) (sym (length-mapped trail_line c.args.trail.now))
    ∙ lines_are c.args.query.now (trail_in c.args.trail.now)
