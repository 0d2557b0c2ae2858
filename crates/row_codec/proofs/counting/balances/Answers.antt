use Rattle.std.proofs.Common.{◌∙◌, ap, map, rules, FitsSigned, w64, to_z-of_z}
use Rattle.row_codec.proofs.Common.{count_meant, counts_for, entries, filter}
use Rattle.row_codec.proofs.Stores.{made_of}
use Rattle.row_codec.proofs.counting.balances.Goals as goal

pub returns-clause-reads : goal.returns-clause-reads
returns-clause-reads g c =
    let fits : FitsSigned w64 c.awb_key-number.result = search rules in
    made_of (g.S.TableStore.view c.args.store.now) _ _ _ c.in_ok-rows.ensures (λ x shows sound book are.
    let read = c.in_ok-rows.ensures.read x shows sound ∙ ap (λ n. filter (counts_for n) (entries x.now.counts)) (to_z-of_z fits ∙ c.awb_key-number.ensures.value) in (
      c.in_ok-balances.ensures x.now.counts book c.args.awb.now (ap (map count_meant) c.deref.ensures.value ∙ read) are,
      λ was. record { counts = c.sums_by.ensures x.now.counts book c.args.awb.now (ap (map count_meant) c.deref-2.ensures.value ∙ read) are; builds = was.builds },
    ))
