use Rattle.station_core.proofs.Common.{notice_text, texts_in}
use Rattle.station_core.proofs.Mapped.{mapped}
use Rattle.station_core.proofs.answer.notice_texts.Goals as goal

pub loop-notice-preserved : goal.loop-notice-preserved
loop-notice-preserved c =
    mapped notice_text c.args.notices.now (texts_in c.loop-notice.texts.items) (texts_in c.put_text.new.texts.items) c.loop-notice.notice-index c.notice-item.result
    c.loop-notice-test.true c.notice-item.is c.loop-notice.invariant c.in_ok-put_text.ensures
