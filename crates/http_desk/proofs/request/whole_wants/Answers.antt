use Rattle.http_desk.proofs.Common.{BeginsWith, HasBody, HeadWants, Wants, ap, drop, subst, take}
use Rattle.http_desk.proofs.Arrived.{now_wants, body_wants, len_of}
use Rattle.http_desk.proofs.Joining.{ok_more}
use Rattle.http_desk.proofs.request.whole_wants.Goals as goal

pub returns-in-Now : goal.returns-in-Now
returns-in-Now c =
    now_wants c.args.bytes.now c.in-Now.wanted c.args.key c.args.start (subst (λ (w : HeadWants). BeginsWith c.args.bytes.now w c.args.key c.args.start) c.in-Now.is c.requires.begins)

pub returns-in-Body : goal.returns-in-Body
returns-in-Body c =
    let bytes = c.args.bytes.now in
    ok_more c.body_wants.result _ (Wants bytes)
    (λ w told. body_wants bytes c.in-Body.post c.in-Body.len c.args.key c.args.start _ w
    (subst (λ (w : HeadWants). BeginsWith bytes w c.args.key c.args.start) c.in-Body.is c.requires.begins)
    (subst (λ (w : HeadWants). HasBody w c.args.start bytes) c.in-Body.is c.requires.body)
    (ap (λ n. take n (drop c.args.start bytes)) (len_of c.args.start c.in-Body.len)) told)
    c.body_wants.ensures
