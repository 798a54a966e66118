use Rattle.std.proofs.Common.{◌∙◌, sym, ap}
use Rattle.redl_index.proofs.AgainLaws.{revisions-numbered}
use Rattle.redl_index.specs.Revisions.{revisions_of}
use Rattle.redl_rules.specs.Attributes.{has_id, declares, broken_rule}
use Rattle.redl_stamp.specs.Attribute.{attribute_value}
use Rattle.redl_tree.proofs.Revisions.NumberLaws.{numbered-indexed, broken-numbered}
use Rattle.redl_inputs.proofs.AdmissionLaws.{starts}
use Rattle.redl_inputs.proofs.sessions.start.Goals as goal

pub start-requires : goal.start-requires
start-requires c =
    let is = c.in_ok-numbered.ensures.nodes in
    record {
      numbered = rw is (numbered-indexed attribute_value c.args.pkg);
      index = c.in_ok-numbered.ensures.index ∙ sym (revisions-numbered c.args.pkg) ∙ ap revisions_of (sym is);
      sound = ap broken_rule is ∙ broken-numbered attribute_value has_id declares c.args.pkg ∙ c.requires;
    }

pub returns : goal.returns
returns c =
    starts c.args.bytes.now c.args.pkg c.args.locks.now c.in_ok-numbered.numbered.pkg c.in_ok-numbered.numbered.index c.new-locks.result c.start.result c.new.result c.new-2.result c.in_ok-idle.idle.items c.new-3.result.items c.count-count.result
    c.start.ensures c.in_ok-numbered.ensures.nodes c.in_ok-numbered.ensures.index (c.new-locks.ensures ∙ c.in_ok-copy_locks.ensures)
    c.new.ensures c.new-2.ensures c.in_ok-idle.ensures c.new-3.ensures.items (c.count-count.ensures ∙ c.in_ok-numbered.ensures.count)
