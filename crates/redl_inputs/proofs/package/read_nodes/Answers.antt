use Rattle.redl_inputs.proofs.PackageLaws.{tree_read, tree_fails, failed_as}
use Rattle.redl_inputs.specs.Packages.{tree_in}
use Rattle.redl_tree.specs.Model.View.{nodes_of}
use Rattle.redl_xml.proofs.Unlabelled.{reading-unlabelled}
use Rattle.redl_inputs.proofs.package.read_nodes.Goals as goal

pub returns-clause-read : goal.returns-clause-read
returns-clause-read c = record {
  as_due = λ reader is. tree_read reader c.args.bytes.now (nodes_of c.in_ok-read.field-0.items) is c.in_ok-read.ensures.found
      c.in_ok-read.ensures.within.0 c.in_ok-read.ensures.within.1;
  of_no_file = tt;
}

pub returns-clause-unlabelled : goal.returns-clause-unlabelled
returns-clause-unlabelled c = reading-unlabelled c.args.bytes.now (nodes_of c.in_ok-read.field-0.items) c.in_ok-read.ensures.found

pub returns-in_err-read-clause-read : goal.returns-in_err-read-clause-read
returns-in_err-read-clause-read c =
    failed_as (λ nodes. nodes_of nodes.items) c.from_residual.result _ (λ reader. tree_in (reader.tree c.args.bytes.now)) c.from_residual.ensures.1
    (tree_fails c.args.bytes.now c.in_err-read.field-0.0 c.in_err-read.ensures.unreadable c.in_err-read.ensures.too_deep c.in_err-read.ensures.too_many)
