use Rattle.table_state.proofs.Announcing.{made_so, put_behind}
use Rattle.table_state.proofs.state.TableState.put_announced.Goals as goal

pub returns : goal.returns
returns g c = record {
  value = λ s shown sound.
      made_so c.put_row.result (put_behind s.cargo c.args.number c.in_ok-awb.awb c.in_ok-found.found c.args.rows.now.items _ (rw c.in_ok-awb.ensures.ok_part at c.of_key.ensures.value) (c.in_ok-found.ensures.value s shown sound)) c.put_row.ensures;
  rests = c.in_ok-found.ensures.rests;
  survives = c.in_ok-found.ensures.survives;
}
