use Rattle.std.proofs.Common.{◌≡◌, ◌∙◌, rules, sym, false}
use Rattle.cli_run.proofs.Reported.{reported, report_fault, report_told, stops_writing}
use Rattle.cli_run.proofs.report.run_report.Goals as goal

pub returns : goal.returns
returns g c =
    let k = g.K.Keeper.keeping in
    let works = k.is_broken c.args.keeper.now ≡ false in
    let old = g.W.ByteOut.taken c.args.writer.now in
    let new = g.W.ByteOut.taken c.write_listing.new.writer in
    let ended = c.write_listing.result in
    record {
      reads = search rules;
      reopen = search rules;
      fault = λ s keeps sound open_station is.
          report_fault works k.may_fail s c.args.form c.args.listing.now old new ended (c.write_listing.ensures.ended s keeps sound) open_station (sym c.run_ended.ensures ∙ is);
      writes = rw c.run_ended.ensures (stops_writing old new ended c.write_listing.ensures.writes);
      told = λ s keeps sound.
          rw c.run_ended.ensures (report_told works k.may_fail s c.args.form c.args.listing.now old new ended (c.write_listing.ensures.ended s keeps sound));
      each = λ s keeps sound text is.
          rw c.run_ended.ensures (reported works k.may_fail text old new ended ((c.write_listing.ensures.each s keeps sound).text text is));
    }
