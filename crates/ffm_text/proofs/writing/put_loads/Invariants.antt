use Rattle.ffm_text.proofs.Common.{load_line, map, sent_text, take, ◌++◌, ◌≡◌}
use Rattle.ffm_text.proofs.writing.put_loads.Given as goal

abbrev pub invariant-loop-load : goal.invariant-loop-load
invariant-loop-load l = l.out.items ≡ l.fn.out.items ++ sent_text (map load_line (take l.load-index l.loads))
