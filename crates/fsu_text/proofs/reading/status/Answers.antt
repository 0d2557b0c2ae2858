use Rattle.std.proofs.Common.{sym, ◌∙◌}
use Rattle.fsu_text.proofs.Layouts.{tells_carried, tells_received, tells_differs, tells_nothing}
use Rattle.fsu_text.proofs.reading.status.Goals as goal

pub returns-in-Some-carriage : goal.returns-in-Some-carriage
returns-in-Some-carriage c =
    let read = sym c.carriage.ensures ∙ c.in-Some-carriage.is in
    c.carried.ensures c.in_ok-code.code.now read
    ∙ sym (tells_carried c.args.line.now c.in_ok-code.code.now c.in_ok-code.rest.now c.in-Some-carriage.event c.in_ok-code.ensures.some read)

pub returns-then-eq : goal.returns-then-eq
returns-then-eq c =
    c.received.ensures
    ∙ sym (tells_received c.args.line.now c.in_ok-code.code.now c.in_ok-code.rest.now c.as_slice.result.now c.in_ok-code.ensures.some c.as_slice.ensures (sym c.eq.ensures ∙ c.if-eq.true))

pub returns-then-eq-2 : goal.returns-then-eq-2
returns-then-eq-2 c =
    c.differs.ensures
    ∙ sym (tells_differs c.args.line.now c.in_ok-code.code.now c.in_ok-code.rest.now c.as_slice-2.result.now c.in_ok-code.ensures.some c.as_slice-2.ensures (sym c.eq-2.ensures ∙ c.if-eq-2.true))

pub returns : goal.returns
returns c =
    sym (tells_nothing c.args.line.now c.in_ok-code.code.now c.in_ok-code.rest.now c.as_slice.result.now c.as_slice-2.result.now c.in_ok-code.ensures.some
    (sym c.handling.ensures ∙ c.in_default.is) (sym c.carriage.ensures ∙ c.in_default-carriage.is)
    c.as_slice.ensures (sym c.eq.ensures ∙ c.if-eq.false) c.as_slice-2.ensures (sym c.eq-2.ensures ∙ c.if-eq-2.false))
