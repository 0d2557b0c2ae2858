use Rattle.table_audits.proofs.Common.{ap, is_lawful_build, list_all, sym, true≢false, ◌∙◌}
use Rattle.table_audits.proofs.Balanced.{lawful_counts, lawful_builds, lawful_balances, room_at}
use Rattle.table_audits.proofs.balances.are_balances_lawful.Goals as goal

pub returns-then-not-are_counts_lawful : goal.returns-then-not-are_counts_lawful
returns-then-not-are_counts_lawful c = record {
  exact = λ t listed range is of are. (
    λ h. absurd (true≢false (sym h)),
    λ law. absurd (true≢false (sym (lawful_counts t listed of c.args.sums.now are law c.if-not-are_counts_lawful.ensures.ordered) ∙ sym c.if-not-are_counts_lawful.ensures.each)),
  );
}

pub returns-then-not-are_builds_lawful : goal.returns-then-not-are_builds_lawful
returns-then-not-are_builds_lawful c = record {
  exact = λ t listed range is of are. (
    λ h. absurd (true≢false (sym h)),
    λ law. absurd (true≢false (sym (lawful_builds t listed of c.args.sums.now are c.if-not-are_builds_lawful.ensures.ordered law)
        ∙ ap (λ rows. list_all (is_lawful_build rows) c.args.sums.now.builds.entries) is ∙ sym c.if-not-are_builds_lawful.ensures.each)),
  );
}

pub returns : goal.returns
returns c = record {
  exact = λ t listed range is of are. (
    λ h. lawful_balances t listed of c.args.sums.now are c.if-not-are_builds_lawful.ensures.ordered (record {
      counts = sym c.if-not-are_counts_lawful.ensures.each;
      builds = ap (λ rows. list_all (is_lawful_build rows) c.args.sums.now.builds.entries) is ∙ sym c.if-not-are_builds_lawful.ensures.each;
      room = c.is_room_kept.ensures.0 h;
    }),
    λ law. c.is_room_kept.ensures.1 (room_at t listed of c.args.sums.now are c.if-not-are_builds_lawful.ensures.ordered law),
  );
}
