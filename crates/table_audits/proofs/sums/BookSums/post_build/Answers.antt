use Rattle.table_audits.proofs.Common.{on_ok_weaker, refl}
use Rattle.table_audits.proofs.Posted.{posted_build}
use Rattle.table_audits.proofs.sums.BookSums.post_build.Goals as goal

pub returns : goal.returns
returns c = λ flights s distinct are a f awb_is flight_is. on_ok_weaker c.post.result
    (λ told. posted_build flights c.args.self.now (record { counts = c.args.self.now.counts; builds = c.post.new.tallies }) s c.args.key c.args.by distinct are told refl a f awb_is flight_is)
    c.post.ensures
