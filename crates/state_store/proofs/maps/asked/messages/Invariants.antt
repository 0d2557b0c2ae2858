use Rattle.state_store.proofs.Common.{drop, message, numbered, texts_in, ◌++◌, ◌+◌, ◌≡◌}
use Rattle.state_store.proofs.maps.asked.messages.Given as goal

-- the messages so far and those ahead are all behind the mark
abbrev pub invariant-loop-at : goal.invariant-loop-at
invariant-loop-at l =
    l.rows.items ++ numbered message (l.at + 1) (drop l.at (texts_in l.outbox))
    ≡ numbered message (l.after + 1) (drop l.after (texts_in l.outbox))
