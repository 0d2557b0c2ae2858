use Rattle.cli_call.proofs.serving.serve_station.Goals as goal

pub returns : goal.returns
returns g c = (
  c.serve_kept-status.ensures.0,
  record {
    warned = c.warn.new.errors;
    quiet = c.warn.ensures.quiet;
    warns = c.warn.ensures.warns;
    filled = c.fill_lists.new.keeper;
    reads = c.fill_lists.ensures;
    last = c.serve_kept-status.new.keeper;
    ran = c.serve_kept-status.ensures.1;
    released = c.release.ensures;
  },
)
