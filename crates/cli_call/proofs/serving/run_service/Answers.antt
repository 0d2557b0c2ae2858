use Rattle.std.proofs.Common.{◌≤◌, ap, refl, arith, ℕ, Option, Some, None, Err, []}
use Rattle.std.specs.Prelude.{MatchOption, ⊤}
use Rattle.cli_call.specs.declared.ended.DeskFault.TheVariants as fault
use Rattle.cli_call.proofs.serving.run_service.Goals as goal

none_served : (count : Option ℕ) → MatchOption count ⊤ (λ most. 0 ≤ most)
none_served None = tt
none_served (Some most) = omega arith

pub returns-in-Err : goal.returns-in-Err
returns-in-Err g c = (
  [],
  record {
    served = refl;
    most = none_served c.args.service.now.count;
    good = tt;
    goes = tt;
    sent = c.in-Err.ensures.sent;
    heard = λ _. (refl, ap (λ why. Err (fault.Run why)) c.in-Err.ensures.why);
  },
)
