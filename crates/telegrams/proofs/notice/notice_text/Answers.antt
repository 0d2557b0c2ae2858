use Rattle.telegrams.proofs.Common.{IfOk, Notice, notice_text, subst, sym, ◌≡◌}
use Rattle.telegrams.proofs.NoticeLaws.{status_normal, status_again, flight_normal, flight_again}
use Rattle.telegrams.proofs.notice.notice_text.Goals as goal

pub returns-in-Status-clause-normal : goal.returns-in-Status-clause-normal
returns-in-Status-clause-normal c =
    let s = c.in-Status in
    status_normal c.args.notice.now s.here s.consigned s.event s.pieces s.tenths c.status_of.result s.is c.status_of.ensures c.status_text.ensures.normal

pub returns-in-Status-clause-read_again : goal.returns-in-Status-clause-read_again
returns-in-Status-clause-read_again c =
    let s = c.in-Status in
    status_again c.args.notice.now s.here s.consigned s.event s.pieces s.tenths c.status_of.result s.is c.status_of.ensures c.status_text.ensures.read_again

pub returns-in-Manifest-clause-normal : goal.returns-in-Manifest-clause-normal
returns-in-Manifest-clause-normal c =
    let m = c.in-Manifest in
    flight_normal c.args.notice.now m.here m.flight m.unload m.lines m.is c.manifest_known.ensures.normal

pub returns-in-Manifest-clause-read_again : goal.returns-in-Manifest-clause-read_again
returns-in-Manifest-clause-read_again c =
    let m = c.in-Manifest in
    flight_again c.args.notice.now m.here m.flight m.unload m.lines m.is c.manifest_known.ensures.read_again

pub returns-in-Manifest-clause-text : goal.returns-in-Manifest-clause-text
returns-in-Manifest-clause-text c =
    subst (λ (n : Notice). IfOk c.manifest_text.result (λ text. text.items ≡ notice_text n)) (sym c.in-Manifest.is) c.manifest_text.ensures
