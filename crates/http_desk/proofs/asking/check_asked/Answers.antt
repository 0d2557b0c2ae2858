use Rattle.std.proofs.Common.{string_bytes}
use Rattle.http_desk.proofs.Checked.{bad_asked, good_asked}
use Rattle.http_desk.proofs.asking.check_asked.Goals as goal

pub returns-in_ok-text-in-Some : goal.returns-in_ok-text-in-Some
returns-in_ok-text-in-Some c =
    good_asked c.args.verb c.args.bytes.now (string_bytes c.in_ok-text-in-Some.text) c.in-Some.field-0 (rw c.in-Some.is at c.in_ok-said.ensures) c.in_ok-text-in-Some.ensures

pub returns-in_ok-text-in-None : goal.returns-in_ok-text-in-None
returns-in_ok-text-in-None c =
    let told = c.in_ok-text-in-None.ensures in
    bad_asked c.args.verb c.args.bytes.now (string_bytes c.in_ok-text-in-None.text) told.0 (rw c.in-None.is at c.in_ok-said.ensures) told.1 told.2
