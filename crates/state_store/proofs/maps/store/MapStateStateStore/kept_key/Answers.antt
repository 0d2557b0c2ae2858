use Rattle.std.proofs.Common.{◌≡◌, ◌∙◌, Some, ap, option_map, rules}
use Rattle.state_store.proofs.Common.{State, bytes_eq, get_by, string_bytes}
use Rattle.state_store.specs.Store.{kept_in}
use Rattle.state_store.proofs.Surviving.{reads_so}
use Rattle.state_store.proofs.maps.store.MapStateStateStore.kept_key.Goals as goal

pub returns-in_ok-clone-in-Some : goal.returns-in_ok-clone-in-Some
returns-in_ok-clone-in-Some c = reads_so c.args.self.now _ _ (λ s h.
    let k = c.args.self.now in
    let key = c.args.key.now in
    let same : string_bytes c.in_ok-clone-in-Some.field-0 ≡ string_bytes c.in-Some.kept.now.0 = search rules in
    let at : Some c.in-Some.kept.now ≡ get_by (λ v. bytes_eq key v.items) k.kept_keys = search rules in
    (λ i. Some (record { request = same i; count = c.in-Some.kept.now.1 })) ∙ ap (option_map kept_in) at ∙ ap (λ (t : State). t.kept_keys key) h.is)
