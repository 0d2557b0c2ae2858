use Rattle.table_state.proofs.Common.{FlightDate, None, Option, Some, false, is_named, rules, subst, true, ◌≡◌}
use Rattle.table_state.proofs.Spans.{covered_by, same_day}
use Rattle.table_state.proofs.flight_spans.with_move.Goals as goal

pub returns-in-None : goal.returns-in-None
returns-in-None c =
    let none : c.args.movement.now.flight ≡ None = search rules in
    record {
      grows = λ d n h. c.with_place-kept-2.ensures.grows d n (c.with_place-kept.ensures.grows d n h);
      there = covered_by _ c.args.movement.now c.args.number
          (λ f same. c.with_place-kept-2.ensures.grows f.day _ (c.with_place-kept.ensures.there f same))
          c.with_place-kept-2.ensures.there
          (λ f same. absurd (let no : false ≡ true = subst (λ (o : Option FlightDate). is_named f o ≡ true) none same in cc));
    }

pub returns-in-Some : goal.returns-in-Some
returns-in-Some c =
    let some : c.args.movement.now.flight ≡ Some c.in-Some.flight = search rules in
    record {
      grows = λ d n h. c.with_flight.ensures.grows d n (c.with_place-kept-2.ensures.grows d n (c.with_place-kept.ensures.grows d n h));
      there = covered_by _ c.args.movement.now c.args.number
          (λ f same. c.with_flight.ensures.grows f.day _ (c.with_place-kept-2.ensures.grows f.day _ (c.with_place-kept.ensures.there f same)))
          (λ f same. c.with_flight.ensures.grows f.day _ (c.with_place-kept-2.ensures.there f same))
          (λ f same. same_day f c.in-Some.flight _ c.args.number c.with_flight.ensures.there (subst (λ (o : Option FlightDate). is_named f o ≡ true) some same));
    }
