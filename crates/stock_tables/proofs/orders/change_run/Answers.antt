use Rattle.stock_tables.proofs.Common.{ap, at_rest, holders_in, refused_by, sym, ◌∙◌}
use Rattle.stock_tables.proofs.Restocking.{near_stand, near_held}
use Rattle.stock_tables.proofs.Showing.{survives_goes_on}
use Rattle.stock_tables.proofs.orders.change_run.Goals as goal

pub returns-in-Some : goal.returns-in-Some
returns-in-Some g c = record {
  accepted = λ _ _ _ _. tt;
  done = λ _ _ _. tt;
  refused = λ t showing stocked read.
      let run = c.args.terms.now.run in
      let near = c.deref.result.now in
      let are = c.deref.ensures.value ∙ c.in-Ok.ensures.read (at_rest t) showing read stocked in
      let lowest = c.lowest_of.ensures (holders_in t.stock) (near_stand run c.requires t stocked near are) (near_held run c.requires t stocked near are) in
      ap (λ lowest. refused_by lowest c.args.terms.now.refusal) (sym lowest ∙ c.in-Some.is);
  same = λ t showing. c.in-Ok.ensures.same (at_rest t) showing;
  was_open = tt;
  open_at_refusal = λ _. c.in-Ok.ensures.was_open;
  survives = c.in-Ok.ensures.survives;
}

pub returns-in-Ok-begin_giving : goal.returns-in-Ok-begin_giving
returns-in-Ok-begin_giving g c = record {
  accepted = λ t showing stocked sound.
      let run = c.args.terms.now.run in
      let near = c.deref.result.now in
      let read = c.begin_giving.ensures.survives.sound sound in
      let are = c.deref.ensures.value ∙ c.in-Ok.ensures.read (at_rest t) showing read stocked in
      let lowest = c.lowest_of.ensures (holders_in t.stock) (near_stand run c.requires t stocked near are) (near_held run c.requires t stocked near are) in
      ap (λ lowest. refused_by lowest c.args.terms.now.refusal) (sym lowest ∙ c.in-None.is);
  done = λ t showing stocked.
      c.in-Ok-begin_giving.ensures.done t (c.in-Ok.ensures.same (at_rest t) showing) stocked
      (λ read. c.deref-in-None.ensures.value ∙ c.in-Ok.ensures.read (at_rest t) showing read stocked);
  refused = λ _ _ _ _. tt;
  same = λ _ _. tt;
  was_open = λ sound. c.in-Ok.ensures.was_open (c.begin_giving.ensures.survives.sound sound);
  open_at_refusal = λ _. tt;
  survives = survives_goes_on _ _ _ c.in-Ok.ensures.survives c.begin_giving.ensures.survives;
}
