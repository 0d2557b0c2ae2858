use Rattle.ffm_text.proofs.Common.{IsScan, length, take, texts_of, ◌+◌, ◌≡◌, ◌≤◌}
use Rattle.ffm_text.proofs.cargo.cargo.Given as goal

abbrev pub invariant-loop-line : goal.invariant-loop-line
invariant-loop-line l =
    IsScan (texts_of (take l.line-index l.lines)) l.seen × (l.number ≡ l.line-index + 2) × (length l.lines ≤ 1000)
