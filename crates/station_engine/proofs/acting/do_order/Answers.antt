use Rattle.station_engine.proofs.Common.{accepted, at_rest, kept_with, rules, with_order}
use Rattle.station_engine.proofs.Steps.{serves_by, found_after, order_step, order_lawful}
use Rattle.station_engine.proofs.acting.do_order.Goals as goal

pub returns-in_err-keep_and_commit-in-Ok : goal.returns-in_err-keep_and_commit-in-Ok
returns-in_err-keep_and_commit-in-Ok g c = λ at.
    record {
      serves = λ s shows known sound. search rules;
      premise = record {
        clean = λ clean. c.carry_out_order.ensures.survives.clean (c.keep_and_commit.ensures.premise.clean clean);
        still = λ was clean. c.keep_and_commit.ensures.premise.still (c.carry_out_order.ensures.survives.still was (c.keep_and_commit.ensures.premise.clean clean)) clean;
        sound = λ sound. c.carry_out_order.ensures.survives.sound (c.keep_and_commit.ensures.premise.sound sound);
      };
      leaves = λ s shows known sound found finds.
          let i = c.args.input.now in
          let order = c.args.order.now in
          let n = c.count_of_order-count.result in
          let carried = c.keep_and_commit.ensures.premise.sound sound in
          let none = c.in-Ok.ensures.accepted s shows carried in
          let room = g.met.S.StateStore.numbered c.args.store.now (at_rest s) shows (c.carry_out_order.ensures.survives.sound carried) in
          let is = c.requires.order s.cargo at in
          found_after s i at (accepted n) (kept_with i n (with_order order s)) found (order_step s i at order known.0 known.1 is n c.count_of_order-count.ensures none room)
          (order_lawful s i at order known.0 known.1 is n c.count_of_order-count.ensures none) (c.carry_out_order.ensures.survives.leaves carried found)
          ((c.keep_and_commit.ensures.leaves s (with_order order s) (c.in-Ok.ensures.done s shows)).leaves sound found finds);
    }

pub returns-in_ok-keep_and_commit-in-Ok : goal.returns-in_ok-keep_and_commit-in-Ok
returns-in_ok-keep_and_commit-in-Ok g c = λ at.
    record {
      serves = λ s shows known sound.
          let i = c.args.input.now in
          let order = c.args.order.now in
          let n = c.count_of_order-count.result in
          let carried = c.keep_and_commit.ensures.premise.sound sound in
          let none = c.in-Ok.ensures.accepted s shows carried in
          let room = g.met.S.StateStore.numbered c.args.store.now (at_rest s) shows (c.carry_out_order.ensures.survives.sound carried) in
          let is = c.requires.order s.cargo at in
          serves_by s i at _ (accepted n) (kept_with i n (with_order order s)) (order_step s i at order known.0 known.1 is n c.count_of_order-count.ensures none room)
          (order_lawful s i at order known.0 known.1 is n c.count_of_order-count.ensures none, c.in_ok-keep_and_commit-in-Ok.ensures.done s (with_order order s) (c.in-Ok.ensures.done s shows));
      premise = record {
        clean = λ clean. c.carry_out_order.ensures.survives.clean (c.keep_and_commit.ensures.premise.clean clean);
        still = λ was clean. c.keep_and_commit.ensures.premise.still (c.carry_out_order.ensures.survives.still was (c.keep_and_commit.ensures.premise.clean clean)) clean;
        sound = λ sound. c.carry_out_order.ensures.survives.sound (c.keep_and_commit.ensures.premise.sound sound);
      };
      leaves = λ s shows known sound found finds.
          let i = c.args.input.now in
          let order = c.args.order.now in
          let n = c.count_of_order-count.result in
          let carried = c.keep_and_commit.ensures.premise.sound sound in
          let none = c.in-Ok.ensures.accepted s shows carried in
          let room = g.met.S.StateStore.numbered c.args.store.now (at_rest s) shows (c.carry_out_order.ensures.survives.sound carried) in
          let is = c.requires.order s.cargo at in
          found_after s i at (accepted n) (kept_with i n (with_order order s)) found (order_step s i at order known.0 known.1 is n c.count_of_order-count.ensures none room)
          (order_lawful s i at order known.0 known.1 is n c.count_of_order-count.ensures none) (c.carry_out_order.ensures.survives.leaves carried found)
          ((c.keep_and_commit.ensures.leaves s (with_order order s) (c.in-Ok.ensures.done s shows)).leaves sound found finds);
    }
