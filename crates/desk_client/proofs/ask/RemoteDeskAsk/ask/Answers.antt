use Rattle.desk_client.proofs.Common.{ap, most_of, request_of, talk}
use Rattle.desk_client.specs.declared.ask.Until.TheVariants as until
use Rattle.desk_client.proofs.Asking.{asked}
use Rattle.desk_client.proofs.ask.RemoteDeskAsk.ask.Goals as goal

pub returns : goal.returns
returns g c =
    let done = talk g.C.Connect.tried g.C.Connect.opened g.I.ByteIn.given g.O.ByteOut.taken in
    asked (until.End (most_of c.args.question.now)) (until.End c.most_of.result) (request_of c.args.question.now) c.as_slice.result.now c.in-Ok.request.items (done c.args.self.now)
    (done c.try_thrice.new.service) c.try_thrice.result (ap until.End c.most_of.ensures) c.as_slice.ensures.value c.in-Ok.ensures c.try_thrice.ensures
