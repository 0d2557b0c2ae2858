use Rattle.http_desk.proofs.Common.{ap, key_of, ◌∙◌}
use Rattle.http_desk.proofs.Heads.{begins}
use Rattle.http_desk.proofs.request.wants_at.Goals as goal

pub returns : goal.returns
returns c =
    let bytes = c.args.bytes.now in
    let h = c.requires.head.0 in
    let at = c.requires.head.1 in
    record {
      head = h;
      has = begins bytes c.args.headers.now c.args.spans.now h c.requires.room c.requires.few c.requires.within at;
      wants = c.head_wants-wants.ensures h at;
      key_is = c.key_of.ensures ∙ ap key_of at.fields;
      start_is = at.len;
    }
