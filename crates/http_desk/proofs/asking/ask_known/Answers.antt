use Rattle.http_desk.proofs.Common.{IsHistoryTold, List, subst, ℕ}
use Rattle.http_desk.proofs.AskedJson.{told_history}
use Rattle.http_desk.proofs.asking.ask_known.Goals as goal

pub returns-in-Ok-clause-told : goal.returns-in-Ok-clause-told
returns-in-Ok-clause-told g c = λ s kept sound.
    told_history s c.args.number.now c.args.known.now c.in-Ok.history.items c.history_told.result
    (c.in-Ok.ensures.value s kept sound)
    (subst (λ (t : List ℕ). IsHistoryTold t c.history_told.result) c.as_slice.ensures.value c.history_told.ensures)
