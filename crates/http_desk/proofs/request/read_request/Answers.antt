use Rattle.http_desk.proofs.Common.{BeginsWith, List, inr, subst, ℕ}
use Rattle.http_desk.proofs.Arrived.{begins_on, lacks_body}
use Rattle.http_desk.proofs.Heads.{ended_all, more_come, other_err}
use Rattle.http_desk.specs.declared.serve.ReadEnd.TheVariants as reading
use Rattle.http_desk.proofs.request.read_request.Goals as goal

pub returns-in-Err-read_body-clause-read : goal.returns-in-Err-read_body-clause-read
returns-in-Err-read_body-clause-read g c = λ is.
    ended_all (g.I.ByteIn.given c.args.reader.now) (g.I.ByteIn.given c.read_head.new.reader) (g.I.ByteIn.given c.read_body.new.reader) c.in-Ok.head.1
    c.in-Ok.ensures.turns c.in-Ok.ensures.calls c.in-Ok.ensures.failures c.in-Ok.ensures.idle (c.in-Err-read_body.ensures.read (other_err c.in-Err-read_body.end reading.Read is))

pub returns-in-Ok-read_body-clause-request : goal.returns-in-Ok-read_body-clause-request
returns-in-Ok-read_body-clause-request g c =
    let before : List ℕ = c.read_head.new.bytes.items in (
      begins_on before c.read_body.new.bytes.items c.in-Ok-read_body.ensures.come.part c.wants_at-wants.result.0 c.wants_at-wants.result.1 c.in-Ok.head.0.len c.in-Ok.ensures.room c.in-Ok-read_body.ensures.come.bytes
          (subst (λ (bytes : List ℕ). BeginsWith bytes c.wants_at-wants.result.0 c.wants_at-wants.result.1 c.in-Ok.head.0.len) c.as_slice.ensures.value c.wants_at-wants.ensures),
      c.in-Ok-read_body.ensures.body,
    )

pub returns-in-Err-read_body-clause-unfinished : goal.returns-in-Err-read_body-clause-unfinished
returns-in-Err-read_body-clause-unfinished g c = λ is.
    let start = g.I.ByteIn.given c.args.reader.now in
    let mid = g.I.ByteIn.given c.read_head.new.reader in
    let now = g.I.ByteIn.given c.read_body.new.reader in
    let before : List ℕ = c.read_head.new.bytes.items in
    let after : List ℕ = c.read_body.new.bytes.items in
    let told = c.in-Err-read_body.ensures.unfinished (other_err c.in-Err-read_body.end reading.Read is) in
    let begins = begins_on before after told.1.0 c.wants_at-wants.result.0 c.wants_at-wants.result.1 c.in-Ok.head.0.len c.in-Ok.ensures.room told.1.1.0
    (subst (λ (bytes : List ℕ). BeginsWith bytes c.wants_at-wants.result.0 c.wants_at-wants.result.1 c.in-Ok.head.0.len) c.as_slice.ensures.value c.wants_at-wants.ensures) in
    (inr (lacks_body after c.wants_at-wants.result.0 c.wants_at-wants.result.1 c.in-Ok.head.0.len begins told.0), more_come start mid now before after c.in-Ok.ensures.come told.1)
