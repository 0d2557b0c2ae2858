use Rattle.station_files.proofs.Common.{inl, inr, rules, ◌≡◌}
use Rattle.sqlite_store.specs.declared.error.OpenError.TheVariants.{Refused}
use Rattle.station_files.proofs.made.open_made.Goals as goal

pub returns-in-Err : goal.returns-in-Err
returns-in-Err g c = record { opened = tt; spared = inl c.in-Err.ensures.spared }

pub returns-in-Err-refused-clause-opened : goal.returns-in-Err-refused-clause-opened
returns-in-Err-refused-clause-opened g c =
    let e = c.in-Err-Refused-default.ensures in
    let is : c.in-Err-Refused-default.field-0-0 ≡ Refused = search rules in
    (c.in-Err-Refused-default.left, c.in-Err-refused.ensures.last, inl (e.spared, e.others is))

pub returns-then-not-may_be_used-2-clause-spared : goal.returns-then-not-may_be_used-2-clause-spared
returns-then-not-may_be_used-2-clause-spared g c =
    let again = c.in-Ok-refused.again in
    inr (again, c.in-Ok-refused.ensures.again c.args.files _ c.in-Err-Refused-default.ensures.spared, λ clean. (clean, λ image may. may))

pub returns-in-Ok-open_beside-clause-opened : goal.returns-in-Ok-open_beside-clause-opened
returns-in-Ok-open_beside-clause-opened g c =
    let e = c.in-Ok-open_beside.ensures in
    let is : c.in-Err-Refused-default.field-0-0 ≡ Refused = search rules in (
      c.in-Ok-refused.again,
      c.in-Ok-refused.ensures.again c.args.files _ c.in-Err-Refused-default.ensures.spared,
      λ clean. c.in-Err-Refused-default.ensures.others is (c.in-Ok-refused.ensures.clean clean),
      record { fresh = e.fresh; opened = e.opened; found = e.found; plain = e.plain; guarded = e.guarded },
    )

pub returns-in-Err-Refused-default-open_beside-clause-opened : goal.returns-in-Err-Refused-default-open_beside-clause-opened
returns-in-Err-Refused-default-open_beside-clause-opened g c =
    let is : c.in-Err-Refused-default.field-0-0 ≡ Refused = search rules in (
      c.in-Err-Refused-default-open_beside.left,
      c.into_files.ensures,
      inr (
        c.in-Ok-refused.again,
        c.in-Ok-refused.ensures.again c.args.files _ c.in-Err-Refused-default.ensures.spared,
        λ clean. c.in-Err-Refused-default.ensures.others is (c.in-Ok-refused.ensures.clean clean),
        c.in-Err-Refused-default-open_beside.ensures.spared,
      ),
    )

pub returns-in-Err-open_beside : goal.returns-in-Err-open_beside
returns-in-Err-open_beside g c = record {
  opened = tt;
  spared = inr (c.in-Ok-refused.again, c.in-Ok-refused.ensures.again c.args.files _ c.in-Err-Refused-default.ensures.spared, c.in-Err-open_beside.ensures.spared);
}
