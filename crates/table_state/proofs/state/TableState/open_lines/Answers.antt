use Rattle.table_state.proofs.Common.{AreExpectations, HasOpen, Lines, Some, rules, subst, told_so, ◌≡◌}
use Rattle.table_state.proofs.state.TableState.open_lines.Goals as goal

pub returns-in-Some : goal.returns-in-Some
returns-in-Some g c = record {
  value = λ s shown sound.
      let was : c.args.self.now.counted.open_lines.kept ≡ Some c.in-Some.kept = search rules in
      told_so _ _ c.listed.result (λ rows are. subst (λ (lines : Lines). AreExpectations lines rows.items) (subst (λ o. HasOpen o s.cargo.expected) was (shown sound).kept.open_lines) are) c.listed.ensures;
  rests = λ s shown. shown;
  survives = record { clean = λ clean. clean; still = λ was _. was; sound = λ sound. sound; leaves = λ _ found finds. finds };
}
