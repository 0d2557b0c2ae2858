use Rattle.fsu_text.proofs.Common.{All, IsRead, map, take, ◌≡◌}
use Rattle.fsu_text.proofs.reading.trail.Given as goal

abbrev pub invariant-loop-text : goal.invariant-loop-text
invariant-loop-text l = record {
  texts : map (λ t. t.text) l.trail.items ≡ take l.text-index l.lines;
  read : All IsRead l.trail.items;
}
