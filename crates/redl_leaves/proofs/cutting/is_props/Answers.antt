use Rattle.std.proofs.Common.{sym, ap, ◌∙◌}
use Rattle.redl_tables.specs.Owners.{name_of}
use Rattle.redl_tree.specs.Model.View.{tag_of}
use Rattle.redl_tree.specs.Roles.Names.{is}
use Rattle.redl_leaves.proofs.cutting.is_props.Goals as goal

pub returns-in-Mark : goal.returns-in-Mark
returns-in-Mark c = c.is_word.ensures ∙ sym (ap (λ owner. is (name_of owner) (tag_of c.args.elem.now)) c.in-Mark.is)

pub returns-in-Row : goal.returns-in-Row
returns-in-Row c = c.is_word-in-Row.ensures ∙ sym (ap (λ owner. is (name_of owner) (tag_of c.args.elem.now)) c.in-Row.is)

pub returns-in-Cell : goal.returns-in-Cell
returns-in-Cell c = c.is_word-in-Cell.ensures ∙ sym (ap (λ owner. is (name_of owner) (tag_of c.args.elem.now)) c.in-Cell.is)
