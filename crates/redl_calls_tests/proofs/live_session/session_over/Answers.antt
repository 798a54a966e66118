use Rattle.std.proofs.Common.{◌∙◌, ap}
use Rattle.redl_index.specs.Numbers.{numbered_package}
use Rattle.redl_rules.specs.Attributes.{broken_rule}
use Rattle.redl_calls_tests.proofs.Starts.{numbered_again, revisions_again, rules_again, unbroken}
use Rattle.redl_stamp.specs.Attribute.{attribute_value}
use Rattle.redl_index.proofs.RootLaws.{roots-numbered}
use Rattle.redl_tree.specs.Model.View.{nodes_of}
use Rattle.redl_xml.proofs.Unlabelled.{reading-unlabelled}
use Rattle.redl_calls_tests.proofs.live_session.session_over.Goals as goal

pub start-requires-clause-numbered : goal.start-requires-clause-numbered
start-requires-clause-numbered c = numbered_again c.in_ok-pkg.pkg c.build.new.pkg c.in_ok-index.ensures.nodes

pub start-requires-clause-index : goal.start-requires-clause-index
start-requires-clause-index c = c.in_ok-index.ensures.index ∙ revisions_again c.in_ok-pkg.pkg c.build.new.pkg c.in_ok-index.ensures.nodes

pub start-requires-clause-sound : goal.start-requires-clause-sound
start-requires-clause-sound c =
    rules_again c.in_ok-pkg.pkg c.build.new.pkg c.in_ok-index.ensures.nodes (unbroken (broken_rule c.in_ok-pkg.pkg) c.in_ok-check.ensures)

pub start-requires-clause-plain : goal.start-requires-clause-plain
start-requires-clause-plain c =
    let nodes = nodes_of c.in_ok-read.field-0.items in
    let is = c.in_ok-index.ensures.nodes ∙ ap numbered_package c.in_ok-pkg.ensures.nodes in
    rw is (roots-numbered attribute_value nodes (reading-unlabelled c.args.text.now nodes c.in_ok-read.ensures.found))
