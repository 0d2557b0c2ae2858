use Rattle.row_codec.proofs.Common.{ap, load_said, map, sym, ◌∙◌}
use Rattle.row_codec.proofs.Loads.{load_taken, load_passed}
use Rattle.row_codec.proofs.loading.loads_in.Goals.{then-is_loaded+in_ok-load+in_ok-add, else-is_loaded}
use Rattle.row_codec.proofs.loading.loads_in.Goals as goal

pub loop-row-preserved : goal.loop-row-preserved
loop-row-preserved c = elim c.if-is_loaded.branch [
  | then-is_loaded+in_ok-load+in_ok-add w ↦ ap (λ v. map load_said v.items) w.loads-is ∙ load_taken c.args.rows.now c.loop-row.row-index c.row-item.result c.loop-row-test.true c.row-item.is c.loop-row.loads.items c.loop-row.invariant
      w.in_ok-load.load w.add.new.loads.items (sym c.is_loaded.ensures ∙ w.if-is_loaded.true) w.in_ok-load.ensures w.in_ok-add.ensures
  | else-is_loaded w ↦ ap (λ v. map load_said v.items) w.loads-is ∙ load_passed c.args.rows.now c.loop-row.row-index c.row-item.result c.loop-row-test.true c.row-item.is c.loop-row.loads.items c.loop-row.invariant
      (sym c.is_loaded.ensures ∙ w.if-is_loaded.false)
]
