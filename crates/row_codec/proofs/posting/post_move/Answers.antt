use Rattle.std.proofs.Common.{◌∙◌, ap, subst, rules, FitsSigned, w64, to_z-of_z}
use Rattle.row_codec.proofs.Common.{AreKnown, come, posting, running}
use Rattle.row_codec.proofs.Moved.{sums_then}
use Rattle.row_codec.proofs.TotalsKept.{keeps_book, posted_book, there_before}
use Rattle.row_codec.proofs.posting.post_move.Goals as goal

pub returns-clause-done : goal.returns-clause-done
returns-clause-done g c before now shows book counts builds known =
    let view = g.S.TableStore.view in
    let first = c.in_ok-post.ensures.done before now (running book) (keeps_book (view c.args.store.now) before now book shows counts builds) known in
    posted_book (view c.post-2.new.store) before now book c.args.movement.now c.gone-gone.result c.come-come.result c.gone-gone.ensures c.come-come.ensures
    (c.in_ok-pieces.ensures.done before now _ first (c.in_ok-post.ensures.known (running book) known))

pub returns-clause-before : goal.returns-clause-before
returns-clause-before g c before now shows book counts builds known sound =
    let view = g.S.TableStore.view in
    let first = c.in_ok-post.ensures.done before now (running book) (keeps_book (view c.args.store.now) before now book shows counts builds) known in
    let fits : FitsSigned w64 c.in_ok-pieces.pieces = search rules in
    there_before book c.args.movement.now c.gone-gone.result _ (to_z-of_z fits ∙ c.in_ok-pieces.ensures.before before now _ first (c.in_ok-post.ensures.known (running book) known) sound)

pub returns-clause-known : goal.returns-clause-known
returns-clause-known g c book known =
    let m = c.args.movement.now in
    let then = ap (λ r. posting m.awb m.to r (posting m.awb m.from c.gone-gone.result (running book))) c.come-come.ensures
    ∙ ap (λ r. posting m.awb m.to (come m) (posting m.awb m.from r (running book))) c.gone-gone.ensures ∙ sums_then book m in
    subst (AreKnown c.post-2.new.known) then (c.in_ok-pieces.ensures.known _ (c.in_ok-post.ensures.known (running book) known))
