use Rattle.std.proofs.Common.{◌∙◌, sym, ap}
use Rattle.redl_index.proofs.AgainLaws.{revisions-numbered}
use Rattle.redl_index.specs.Revisions.{revisions_of}
use Rattle.redl_rules.specs.Attributes.{has_id, declares, broken_rule}
use Rattle.redl_stamp.specs.Attribute.{attribute_value}
use Rattle.redl_tree.proofs.Revisions.NumberLaws.{numbered-indexed, broken-numbered}
use Rattle.redl_index.proofs.RootLaws.{roots-numbered}
use Rattle.redl_commands_sample.proofs.sample.begin.Goals as goal

pub start-requires : goal.start-requires
start-requires c =
    let is = c.in_ok-numbered.ensures.nodes in
    record {
      numbered = rw is (numbered-indexed attribute_value c.args.pkg);
      index = c.in_ok-numbered.ensures.index ∙ sym (revisions-numbered c.args.pkg) ∙ ap revisions_of (sym is);
      sound = ap broken_rule is ∙ broken-numbered attribute_value has_id declares c.args.pkg ∙ c.requires.sound;
      plain = rw is (roots-numbered attribute_value c.args.pkg c.requires.unlabelled);
    }
