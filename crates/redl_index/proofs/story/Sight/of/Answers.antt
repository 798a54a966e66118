use Rattle.std.proofs.Common.{sym, subst}
use Rattle.redl_tree.specs.Model.View.{tag_of}
use Rattle.redl_index.proofs.KindLaws.{IsNamed, named-role_in}
use Rattle.redl_index.proofs.story.Sight.of.Goals as goal

pub returns-clause-named : goal.returns-clause-named
returns-clause-named c = subst IsNamed (sym c.role-kind.ensures.by_answers) (named-role_in c.args.around (tag_of c.args.elem.now))
