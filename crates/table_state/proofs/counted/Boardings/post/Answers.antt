use Rattle.std.proofs.Common.{rules, ◌≡◌, ◌<◌, length, arith, to_z-of_z, ◌∙◌}
use Rattle.table_state.proofs.OneMore.{posted_more}
use Rattle.table_state.proofs.counted.Boardings.post.Goals as goal

pub loop-kept-preserved : goal.loop-kept-preserved
loop-kept-preserved c = posted_more _ _ _ _ _ _ _ c.loop-kept.invariant (search rules) c.after_move.ensures

pub returns : goal.returns
returns c = λ book known there k d short.
    let long : length c.loop-kept.kept-items ≡ 32 = search rules in
    let less : k < c.loop-kept.kept-index = let end = c.loop-kept-test.false in omega arith in
    c.loop-kept.invariant.done book known (λ other. to_z-of_z c.ranges.were ∙ there other) k less d
