use Rattle.table_audits.proofs.Common.{on_ok_weaker, posting, rules, running, to_z-of_z, w64, ◌∙◌}
use Rattle.table_audits.proofs.Posted.{moved}
use Rattle.table_audits.proofs.sums.BookSums.add.Goals as goal

pub returns : goal.returns
returns c = λ flights book m distinct are is.
    on_ok_weaker c.post_at-2.result (moved flights book m c.args.movement.now c.in-Some.gone c.post_at-2.new.self is c.in-Some.ensures.1)
    (c.post_at-2.ensures flights (posting m.awb m.from c.in-Some.gone (running book)) distinct
    (c.in_ok-post_at.ensures flights (running book) distinct are m.awb m.from (to_z-of_z w64 c.args.movement.now.awb (search rules) ∙ is.awb_is) is.from_is)
    m.awb m.to (to_z-of_z w64 c.args.movement.now.awb (search rules) ∙ is.awb_is) is.to_is)
