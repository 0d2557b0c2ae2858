use Rattle.cli_call.proofs.OneFile.{have_led}
use Rattle.cli_call.proofs.laws.calls_law.Goals as goal

pub returns : goal.returns
returns g c = λ leads lies trees lists run begins runs are.
    have_led _ trees _ _ lies g.met.S.Store.settled (λ ran end. leads trees ran end lists) (λ it clean. clean) (λ it clean. clean) (λ at it found clean own. (clean, found.own clean own, lies))
    (λ last ran sound released clean. released.own clean sound.1 sound.2) (λ it s sound finds. finds.1)
    c.left_over_store.ensures c.served_over_store.ensures c.next_call_law.ensures c.retry_law.ensures.once run begins runs are
