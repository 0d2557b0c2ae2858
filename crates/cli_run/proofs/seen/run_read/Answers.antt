use Rattle.cli_run.proofs.Common.{IsSeen, List, has_reason, rules, string_bytes, subst, ℕ}
use Rattle.cli_run.proofs.Looks.{all_seen, part_seen}
use Rattle.cli_run.proofs.seen.run_read.Goals as goal

pub returns-in-Ok-clause-seen : goal.returns-in-Ok-clause-seen
returns-in-Ok-clause-seen g c =
    let seen = c.in-Ok.seen in
    all_seen _ _ _ _ g.E.ByteOut.taken _ _ c.in_ok-bytes.bytes.items (string_bytes seen.text) seen.good (has_reason seen.refusal) c.write_seen.result
    c.in_ok-bytes.ensures.come (subst (λ (bytes : List ℕ). IsSeen bytes (string_bytes seen.text) seen.good (has_reason seen.refusal)) c.as_slice.ensures.value c.in-Ok.ensures)
    c.write_seen.ensures.good c.write_seen.ensures.written c.write_seen.ensures.reason

pub returns-in-Ok-clause-stopped : goal.returns-in-Ok-clause-stopped
returns-in-Ok-clause-stopped g c =
    let seen = c.in-Ok.seen in
    part_seen _ _ _ _ c.in_ok-bytes.bytes.items (string_bytes seen.text) seen.good (has_reason seen.refusal) c.write_seen.result
    c.in_ok-bytes.ensures.come (subst (λ (bytes : List ℕ). IsSeen bytes (string_bytes seen.text) seen.good (has_reason seen.refusal)) c.as_slice.ensures.value c.in-Ok.ensures)
    c.write_seen.ensures.why c.write_seen.ensures.part

pub returns-in-Ok-clause-writing : goal.returns-in-Ok-clause-writing
returns-in-Ok-clause-writing g c = record {
  cause = search rules;
  told = search rules;
  untroubled = search rules;
}
