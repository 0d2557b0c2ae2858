use Rattle.std.proofs.Common.{rules, refl, [], ◌≡◌, ◌+◌}
use Rattle.table_state.proofs.Changes.{adds_line_on}
use Rattle.table_state.proofs.Lifting.{writes_so}
use Rattle.table_state.proofs.state.TableState.add_line.Goals as goal

pub returns : goal.returns
returns g c =
    let next : c.in_ok-number.number ≡ c.args.self.now.counted.sizes.lines + 1 = search rules in
    writes_so g.S.TableStore.view _ _ _ _ c.in_ok-write.ensures.made.survives (λ before s shown.
    adds_line_on _ _ _ _ _ before s shown c.in_ok-write.ensures.made.survives [] c.in_ok-number.number c.args.awb.now c.args.line.now _ c.in_ok-row.ensures.value c.trail_row.ensures.lawful next _ refl refl refl refl refl refl (c.in_ok-write.ensures.made.done _ _))
