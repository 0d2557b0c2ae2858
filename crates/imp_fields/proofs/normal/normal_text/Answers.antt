use Rattle.imp_fields.proofs.NormalLaws.{whole_of, bad_line_told, unknown_kind, found, found_tokens}
use Rattle.imp_fields.proofs.normal.normal_text.Goals as goal

pub returns-in-Some-clause-lines : goal.returns-in-Some-clause-lines
returns-in-Some-clause-lines c =
    bad_line_told c.args.bytes.now c.in-Ok.scan c.in-Some.fault (whole_of c.args.bytes.now c.in-Ok.scan c.in-Ok.ensures) c.if-bytes-gt-MOST_BYTES.false c.if-scan-gt-MOST_LINES.false c.in-Some.is

pub returns-in_default-kind-clause-lines : goal.returns-in_default-kind-clause-lines
returns-in_default-kind-clause-lines c =
    unknown_kind c.args.bytes.now c.in-Ok.scan c.fault_at-in_default-kind.result c.in-Ok.ensures c.if-bytes-gt-MOST_BYTES.false c.if-scan-gt-MOST_LINES.false c.in_default-fault.is c.in_default-kind.is
    c.fault_at-in_default-kind.ensures

pub overflow_sub-scan : goal.overflow_sub-scan
overflow_sub-scan c =
    (found c.args.bytes.now c.in-Ok.scan c.in-Some-kind.kind (whole_of c.args.bytes.now c.in-Ok.scan c.in-Ok.ensures) c.if-bytes-gt-MOST_BYTES.false c.if-scan-gt-MOST_LINES.false c.in_default-fault.is c.in-Some-kind.is).0

pub invariant_of-result : goal.invariant_of-result
invariant_of-result c =
    let h = found_tokens c.args.bytes.now c.in-Ok.scan c.in-Some-kind.kind c.truncate.new.self.items c.in-Ok.ensures c.if-bytes-gt-MOST_BYTES.false c.if-scan-gt-MOST_LINES.false c.in_default-fault.is c.in-Some-kind.is c.truncate.ensures.items in
    record { few = h.few; printable = h.printable }

pub returns-clause-lines : goal.returns-clause-lines
returns-clause-lines c =
    (found_tokens c.args.bytes.now c.in-Ok.scan c.in-Some-kind.kind c.truncate.new.self.items c.in-Ok.ensures c.if-bytes-gt-MOST_BYTES.false c.if-scan-gt-MOST_LINES.false c.in_default-fault.is c.in-Some-kind.is c.truncate.ensures.items).lines

pub returns-clause-spans : goal.returns-clause-spans
returns-clause-spans c =
    (found_tokens c.args.bytes.now c.in-Ok.scan c.in-Some-kind.kind c.truncate.new.self.items c.in-Ok.ensures c.if-bytes-gt-MOST_BYTES.false c.if-scan-gt-MOST_LINES.false c.in_default-fault.is c.in-Some-kind.is c.truncate.ensures.items).slices

pub returns-clause-starts : goal.returns-clause-starts
returns-clause-starts c =
    (found_tokens c.args.bytes.now c.in-Ok.scan c.in-Some-kind.kind c.truncate.new.self.items c.in-Ok.ensures c.if-bytes-gt-MOST_BYTES.false c.if-scan-gt-MOST_LINES.false c.in_default-fault.is c.in-Some-kind.is c.truncate.ensures.items).starts

pub returns-clause-kind : goal.returns-clause-kind
returns-clause-kind c =
    (found_tokens c.args.bytes.now c.in-Ok.scan c.in-Some-kind.kind c.truncate.new.self.items c.in-Ok.ensures c.if-bytes-gt-MOST_BYTES.false c.if-scan-gt-MOST_LINES.false c.in_default-fault.is c.in-Some-kind.is c.truncate.ensures.items).first
