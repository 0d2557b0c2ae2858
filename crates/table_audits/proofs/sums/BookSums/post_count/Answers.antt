use Rattle.table_audits.proofs.Common.{on_ok_weaker, refl}
use Rattle.table_audits.proofs.Posted.{posted_count}
use Rattle.table_audits.proofs.sums.BookSums.post_count.Goals as goal

pub returns : goal.returns
returns c = λ flights s are a p awb_is place_is plain. on_ok_weaker c.post.result
    (λ told. posted_count flights c.args.self.now (record { counts = c.post.new.tallies; builds = c.args.self.now.builds }) s c.args.key c.args.by are told refl a p awb_is place_is plain)
    c.post.ensures
