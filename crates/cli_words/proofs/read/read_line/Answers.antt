use Rattle.std.proofs.Common.{◌≡◌, ◌∙◌, Bool, true, subst, option_map, IsSome}
use Rattle.cli_words.specs.Line.{IsCalled}
use Rattle.cli_words.proofs.Services.{asked_port, no_own}
use Rattle.cli_words.proofs.read.read_line.Goals as goal

pub returns-in-Ok-clause-whole : goal.returns-in-Ok-clause-whole
returns-in-Ok-clause-whole c =
    let asked = c.in-Ok.ensures.asked in (
      subst (λ (b : Bool). IsCalled c.in-Ok.command (IsSome c.args.words.options.db) (b ≡ true)) c.is_some-2.ensures c.in-Ok.ensures.called,
      asked_port c.in_ok-at.at (option_map (λ text. text.now) c.args.words.options.at) c.in_ok-at.ensures (λ is.
          let own = no_own (λ text. text.now) c.args.words.options.db c.args.words.options.station c.args.words.options.zone c.in_ok-station.station (asked (c.is_some.ensures ∙ is)).1 c.in_ok-station.ensures in
          record { no_file = own.0; no_airport = own.1; asked = (asked (c.is_some.ensures ∙ is)).0 }),
    )
