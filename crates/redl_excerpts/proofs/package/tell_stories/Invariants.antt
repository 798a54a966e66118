use Rattle.std.specs.List.{flat_map}
use Rattle.redl_opc.specs.Stories.{stories_from}
use Rattle.redl_tree.specs.Model.View.{Element}
use Rattle.redl_excerpts.specs.Excerpts.{is_moved, package_mentions}
use Rattle.redl_excerpts.specs.Mentions.{mentions, outside}
use Rattle.redl_excerpts.proofs.MemberLaws.{TellsSoFar}
use Rattle.redl_excerpts.proofs.package.tell_stories.Given as goal

-- the excerpts are told of the stories of the parts so far
abbrev pub invariant-loop-part : goal.invariant-loop-part
invariant-loop-part l =
    TellsSoFar l.initial.excerpts.items l.excerpts.items (λ v. package_mentions (is_moved l.revisions v) v l.pkg)
    (λ v. flat_map (λ (story : Element). mentions (is_moved l.revisions v) v outside story.kids) (stories_from l.part l.pkg))
