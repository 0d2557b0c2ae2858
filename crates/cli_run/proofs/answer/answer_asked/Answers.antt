use Rattle.cli_run.proofs.Common.{HasAnswered, Request, [], call, codes, is_unread, numbered, refl, subst, sym, true, ◌++◌, ◌∷◌}
use Rattle.station_core.specs.Step.{refusal_text}
use Rattle.cli_run.specs.declared.request.Request.TheVariants as asked
use Rattle.cli_run.proofs.Unanswered.{unasked}
use Rattle.cli_run.proofs.answer.answer_asked.Goals as goal

pub returns-in-Input : goal.returns-in-Input
returns-in-Input g c =
    let old = call c.args.keeper.now (g.O.ByteOut.taken c.args.writer.now) c.args.errors.now in
    let new = call c.answer_input.new.keeper (g.O.ByteOut.taken c.answer_input.new.writer) c.answer_input.new.errors in
    subst (λ (a : Request). HasAnswered g.K.Keeper.keeping c.args.at g.E.ByteOut.taken c.args.number a old new c.answer_input.result) (sym c.in-Input.is) c.answer_input.ensures

pub returns-in-Refused : goal.returns-in-Refused
returns-in-Refused g c =
    let k = g.K.Keeper.keeping in
    let old = g.O.ByteOut.taken c.args.writer.now in
    let new = g.O.ByteOut.taken c.answer_refusal.new.writer in
    subst (λ (a : Request). HasAnswered k c.args.at g.E.ByteOut.taken c.args.number a (call c.args.keeper.now old c.args.errors.now) (call c.args.keeper.now new c.answer_refusal.new.errors) c.answer_refusal.result) (sym c.in-Refused.is)
    (unasked k c.args.at g.E.ByteOut.taken c.args.number c.args.keeper.now (old, c.args.errors.now) (new, c.answer_refusal.new.errors) (asked.Refused c.in-Refused.refusal) (numbered c.args.number (refusal_text c.in-Refused.refusal ++ 10 ∷ [])) (is_unread c.in-Refused.refusal)
    (λ s. refl) (λ s. refl) (λ s. refl) refl c.answer_refusal.result (λ shut. shut) (λ s. refl) c.answer_refusal.ensures)

pub returns-in-Bad : goal.returns-in-Bad
returns-in-Bad g c =
    let k = g.K.Keeper.keeping in
    let old = g.O.ByteOut.taken c.args.writer.now in
    let new = g.O.ByteOut.taken c.answer_bad.new.writer in
    subst (λ (a : Request). HasAnswered k c.args.at g.E.ByteOut.taken c.args.number a (call c.args.keeper.now old c.args.errors.now) (call c.args.keeper.now new c.answer_bad.new.errors) c.answer_bad.result) (sym c.in-Bad.is)
    (unasked k c.args.at g.E.ByteOut.taken c.args.number c.args.keeper.now (old, c.args.errors.now) (new, c.answer_bad.new.errors) (asked.Bad c.in-Bad.verb c.in-Bad.body) (codes "body bad\n") true
    (λ s. refl) (λ s. refl) (λ s. refl) refl c.answer_bad.result (λ shut. shut) (λ s. refl) c.answer_bad.ensures)

pub returns-in-BadLine : goal.returns-in-BadLine
returns-in-BadLine g c =
    let k = g.K.Keeper.keeping in
    let old = g.O.ByteOut.taken c.args.writer.now in
    let new = g.O.ByteOut.taken c.answer_bad_line.new.writer in
    subst (λ (a : Request). HasAnswered k c.args.at g.E.ByteOut.taken c.args.number a (call c.args.keeper.now old c.args.errors.now) (call c.args.keeper.now new c.answer_bad_line.new.errors) c.answer_bad_line.result) (sym c.in-BadLine.is)
    (unasked k c.args.at g.E.ByteOut.taken c.args.number c.args.keeper.now (old, c.args.errors.now) (new, c.answer_bad_line.new.errors) (asked.BadLine c.in-BadLine.text) (numbered c.args.number (codes "bad\n")) true
    (λ s. refl) (λ s. refl) (λ s. refl) refl c.answer_bad_line.result (λ shut. shut) (λ s. refl) c.answer_bad_line.ensures)
