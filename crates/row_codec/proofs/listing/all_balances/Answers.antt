use Rattle.row_codec.proofs.Common.{ap, count_meant, map, ◌∙◌}
use Rattle.row_codec.proofs.Stores.{made_of}
use Rattle.row_codec.proofs.listing.all_balances.Goals as goal

pub returns : goal.returns
returns g c = made_of (g.S.TableStore.view c.args.store.now) _ _ _ c.in_ok-rows.ensures (λ x shows sound book are.
    c.in_ok-waybills_by.ensures x.now.counts book (ap (map count_meant) c.deref.ensures.value ∙ c.in_ok-rows.ensures.read x shows sound) are)
