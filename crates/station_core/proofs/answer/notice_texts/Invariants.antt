use Rattle.station_core.proofs.Common.{map, notice_text, take, texts_in, ◌≡◌}
use Rattle.station_core.proofs.answer.notice_texts.Given as goal

abbrev pub invariant-loop-notice : goal.invariant-loop-notice
invariant-loop-notice l = texts_in l.texts.items ≡ map notice_text (take l.notice-index l.notices)
