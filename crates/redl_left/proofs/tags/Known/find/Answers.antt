-- What begins with the text of a known tag begins with the tag.
use Rattle.redl_reading.proofs.Words.{behind_takes}
use Rattle.redl_left.proofs.PieceLaws.{tag_stands}
use Rattle.redl_left.proofs.tags.Known.find.Goals as goal

pub returns : goal.returns
returns c = λ table. λ known.
    let tag = c.in_ok-tag.tag in
    let k = c.in_ok-tag.ensures table known in
    let t = c.args.bytes.now in
    let rest = c.in_ok-rest.rest.now in
    record {
      tag = k.tag;
      stands = tag_stands t tag.text.now rest k.tag k.text (behind_takes tag.text.now t rest c.in_ok-rest.ensures);
      finds = k.finds;
    }
