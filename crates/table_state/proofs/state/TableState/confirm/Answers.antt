use Rattle.table_state.proofs.Common.{SFits, [], rules, to_z-of_z, w64, ◌<◌, ◌∙◌}
use Rattle.table_state.proofs.Changes.{confirms_on, mark_fits}
use Rattle.table_state.proofs.Lifting.{writes_so}
use Rattle.table_state.proofs.state.TableState.confirm.Goals as goal

pub returns : goal.returns
returns g c =
    let fits : SFits w64 c.from.result = search rules in
    let small : c.args.upto < 4_294_967_296 = search rules in
    writes_so g.S.TableStore.view _ _ _ _ c.in_ok-write.ensures.made.survives (λ before s shown.
    confirms_on _ _ _ _ _ before s shown c.in_ok-write.ensures.made.survives [] _ c.args.upto (to_z-of_z w64 c.from.result fits ∙ c.from.ensures) (mark_fits c.args.upto small) (c.in_ok-write.ensures.made.done _ _))
