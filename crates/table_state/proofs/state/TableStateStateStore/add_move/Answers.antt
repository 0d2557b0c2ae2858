use Rattle.std.proofs.Common.{rules, refl, ◌≡◌, ◌+◌, ◌∙◌, FitsSigned, w64, to_z-of_z}
use Rattle.table_state.proofs.Changes.{moves_on}
use Rattle.table_state.proofs.Lifting.{writes_so}
use Rattle.table_state.proofs.state.TableStateStateStore.add_move.Goals as goal

pub returns : goal.returns
returns g c =
    let next : c.in_ok-number.number ≡ c.args.self.now.counted.sizes.moves + 1 = search rules in
    let fits : FitsSigned w64 c.in_ok-were.were = search rules in
    writes_so g.S.TableStore.view _ _ _ _ c.in_ok-were.ensures.survives (λ before s shown.
    moves_on _ _ _ _ _ before s shown c.in_ok-were.ensures.survives c.in_ok-number.number c.args.movement.now next _ refl c.in_ok-were.were
    (λ book known there. c.post.ensures book known (λ other. to_z-of_z fits ∙ there other)) c.in_ok-were.ensures.known c.post-2.ensures refl (λ book outbox one have. record { flights = c.post-3.ensures book one have.flights; statuses = have.statuses }) (c.in_ok-were.ensures.before _ _) (c.in_ok-were.ensures.done _ _))
