use Rattle.station_tables.proofs.Common.{opening, rules}
use Rattle.station_tables.proofs.Made.{made_or_before, opened_lawful}
use Rattle.station_tables.proofs.attaching.create.Goals as goal

pub returns-in-Ok : goal.returns-in-Ok
returns-in-Ok g c = record {
  free = search rules;
  declared = search rules;
  works = search rules;
  sound = rw c.over-in-Ok.ensures (λ sound. c.in-Ok.ensures.sound (c.over.ensures.sound sound));
  keeps_opening = rw c.over-in-Ok.ensures (c.over.ensures.keeps (opening c.args.here) (opened_lawful c.args.here) c.in-Ok.ensures.shows);
  inside = search rules;
  occupied = search rules;
  taken = tt;
  faults = tt;
  leaves = tt;
  step = tt;
  step_at_ok = rw (c.over-in-Ok.ensures, c.over.ensures.same) c.in-Ok.ensures.step_at_ok;
  undone = search rules;
  survives = tt;
}

pub returns-in-Err-default-Occupied : goal.returns-in-Err-default-Occupied
returns-in-Err-default-Occupied g c = record {
  free = search rules;
  declared = tt;
  works = tt;
  sound = tt;
  keeps_opening = tt;
  inside = search rules;
  occupied = search rules;
  taken = search rules;
  faults = search rules;
  leaves = λ vacant sound found finds. made_or_before _ _ c.args.here _ (opened_lawful c.args.here) (λ f left. c.in-Err-default-Occupied.ensures.leaves vacant sound f left) found finds;
  step = search rules;
  step_at_ok = tt;
  undone = search rules;
  survives = search rules;
}

pub returns-in-Err-default-Store : goal.returns-in-Err-default-Store
returns-in-Err-default-Store g c = record {
  free = search rules;
  declared = tt;
  works = tt;
  sound = tt;
  keeps_opening = tt;
  inside = search rules;
  occupied = search rules;
  taken = search rules;
  faults = search rules;
  leaves = λ vacant sound found finds. made_or_before _ _ c.args.here _ (opened_lawful c.args.here) (λ f left. c.in-Err-default-Store.ensures.leaves vacant sound f left) found finds;
  step = search rules;
  step_at_ok = tt;
  undone = search rules;
  survives = search rules;
}
