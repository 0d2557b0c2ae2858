use Rattle.std.proofs.Common.{◌≡◌, ℕ, Bool, Option, Result, Err, [], refl, subst, sym}
use Rattle.sqlite.specs.Held.{Held}
use Rattle.sqlite_trees.specs.declared.store.Store as trees
use Rattle.station_core.specs.Given.{Given}
use Rattle.station_core.specs.Keeping.{Keeping}
use Rattle.station_tables.specs.declared.attaching.AttachFault.{AttachFault}
use Rattle.station_tables.specs.declared.station.Station.{Station}
use Rattle.cli_run.specs.Ends.{reached}
use Rattle.cli_call.specs.Ended.{HasNoStation}
use Rattle.cli_call.specs.Ran.{HasEndedService}
use Rattle.cli_call.proofs.serving.serve_opened.Goals as goal

module _ {S W E : Type 0} {g : trees.Ghosts S} (k : Keeping (Station S g)) (e : (W → Given) × (E → Given)) (count : Option ℕ) (is_declared : Bool) where
  unserved : (opened : Result (Station S g) (Held S × AttachFault)) (none : Held S × AttachFault) (moved : (W × E) × (W × E)) (result : ℕ × Held S)
      → opened ≡ Err none → HasNoStation e.1 none (reached (tt {0}) moved.0.0 moved.0.1) (reached (tt {0}) moved.1.0 moved.1.1) result
      → HasEndedService k e count [] is_declared opened moved result
  unserved opened none moved result is has = subst (λ o. HasEndedService k e count [] is_declared o moved result) (sym is) (refl, has)

pub returns-in-Err : goal.returns-in-Err
returns-in-Err g c = (
  [],
  unserved _ (g.W.ByteOut.taken, g.E.ByteOut.taken) c.args.service.now.count c.args.is_declared c.args.opened c.in-Err.none
      ((c.args.output.now, c.args.errors.now), (c.refuse_line.new._output, c.refuse_line.new.errors)) c.refuse_line.result
      c.in-Err.is c.refuse_line.ensures,
)
