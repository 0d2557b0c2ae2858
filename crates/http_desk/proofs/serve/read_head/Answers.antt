use Rattle.http_desk.proofs.Common.{Err, HasHead, HasNoHeadYet, List, ap, arith, length, refl, rules, subst, sym, ℕ, ◌++◌, ◌<◌, ◌∙◌, ◌≡◌, ◌≤◌}
use Rattle.http_desk.proofs.Heads.{full, over, come_more, none_of_nothing, none_found, passed_read}
use Rattle.http_desk.proofs.serve.read_head.Goals as goal

pub returns-then-len-ge-HEAD_ROOM-clause-none : goal.returns-then-len-ge-HEAD_ROOM-clause-none
returns-then-len-ge-HEAD_ROOM-clause-none g c = λ _.
    let bytes : List ℕ = c.read_more.new.bytes.items in
    let none = rw (c.as_slice.ensures.value, c.in-Ok-Partial.field-0-is) at c.in-Ok-Partial.ensures.partial in
    let come = come_more (g.I.ByteIn.given c.args.reader.now) (g.I.ByteIn.given c.loop-turn.reader) (g.I.ByteIn.given c.read_more.new.reader) c.loop-turn.bytes.items bytes c.loop-turn.invariant.come c.in_ok-read_more.ensures.come in
    let ge : 16_384 ≤ length bytes = omega arith in
    (full bytes c.in_ok-read_more.ensures.room ge none, come)

pub returns-in-Err-clause-none : goal.returns-in-Err-clause-none
returns-in-Err-clause-none g c = λ _.
    let bytes : List ℕ = c.read_more.new.bytes.items in
    let none = rw (c.as_slice.ensures.value, c.loop-turn.invariant.headers) at c.in-Err.ensures.no_room in
    let come = come_more (g.I.ByteIn.given c.args.reader.now) (g.I.ByteIn.given c.loop-turn.reader) (g.I.ByteIn.given c.read_more.new.reader) c.loop-turn.bytes.items bytes c.loop-turn.invariant.come c.in_ok-read_more.ensures.come in
    (over bytes c.in_ok-read_more.ensures.room none, come)

pub loop-turn-init : goal.loop-turn-init
loop-turn-init g c = record {
  come = search rules;
  room = rw c.requires.empty (omega arith);
  calls = search rules;
  failures = refl;
  idle = refl;
  headers = c.requires.room;
  none = λ h has. none_of_nothing h (subst (λ (b : List ℕ). HasHead b h) c.requires.empty has);
}

-- the read that failed brought nothing
pub returns-in_err-read_more-clause-unfinished : goal.returns-in_err-read_more-clause-unfinished
returns-in_err-read_more-clause-unfinished g c = λ is.
    let start = g.I.ByteIn.given c.args.reader.now in
    let now = g.I.ByteIn.given c.read_more.new.reader in
    let inv = c.loop-turn.invariant in
    passed_read c.from_residual.result c.in_err-read_more.field-0.0 (HasNoHeadYet c.read_more.new.bytes.items × (now.bytes ≡ start.bytes ++ c.read_more.new.bytes.items)) c.from_residual.ensures.1
    (λ read.
    let still = c.in_err-read_more.ensures.still (ap Err read) in (
      (
        λ h has. inv.none h (subst (λ (b : List ℕ). HasHead b h) still.0 has),
        subst (λ (b : List ℕ). length b < 16_384) (sym still.0) inv.room,
      ),
      still.1 ∙ inv.come ∙ ap (λ (b : List ℕ). start.bytes ++ b) (sym still.0),
    )) is

pub loop-turn-preserved : goal.loop-turn-preserved
loop-turn-preserved g c =
    let bytes : List ℕ = c.read_more.new.bytes.items in
    record {
      come = come_more (g.I.ByteIn.given c.args.reader.now) (g.I.ByteIn.given c.loop-turn.reader) (g.I.ByteIn.given c.read_more.new.reader) c.loop-turn.bytes.items bytes c.loop-turn.invariant.come c.in_ok-read_more.ensures.come;
      room = omega arith;
      calls = search rules;
      failures = search rules;
      idle = search rules;
      headers = search rules;
      none = none_found bytes c.in_ok-read_more.ensures.room (rw (c.as_slice.ensures.value, c.in-Ok-Partial.field-0-is) at c.in-Ok-Partial.ensures.partial);
    }
