use Rattle.table_state.proofs.Lifting.{commits, may_find_on, of_answer}
use Rattle.table_state.proofs.state.TableStateStateStore.commit.Goals as goal

pub returns : goal.returns
returns g c =
    let may = c.commit.ensures.survives in
    record {
      done = λ before s shown. of_answer _ c.commit.result (λ _ is. commits _ _ _ _ _ before s shown may.sound (rw is at c.commit.ensures.ok) (g.met.S.TableStore.settled c.commit.new.self));
      premise = record { clean = may.clean; still = may.still; sound = may.sound };
      leaves = λ before s shown. record { sound = may.sound; leaves = may_find_on _ _ _ _ _ before s shown may };
    }
