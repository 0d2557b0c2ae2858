use Rattle.station_files.proofs.Common.{inl, inr}
use Rattle.station_files.proofs.laws.openings_find.Goals as goal

pub returns : goal.returns
returns g c = record {
  whole = λ files objects conn it clean. ((it.opened clean).0, (it.found clean, (it.opened clean).1));
  beside = λ files objects conn settled it clean. elim it [
    | inl at ↦ (
      (at.3.opened clean).0,
      (record { now = at.0; behind = inr (settled, at.1); finds = at.3.found clean }, (at.3.opened clean).1),
    )
    | inr never ↦ absurd never.2
  ];
}
