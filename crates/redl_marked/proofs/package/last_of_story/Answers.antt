use Rattle.std.proofs.Common.{[], ◌∷◌, ap, ◌∙◌}
use Rattle.redl_tree.specs.Model.View.{tag_of, kids_of, nodes_of}
use Rattle.redl_marked.specs.MarkedText.{heading, marked_in}
use Rattle.redl_marked.specs.Inside.Walks.{last_of}
use Rattle.redl_marked.proofs.LastLaws.{story_last, story_last_none}
use Rattle.redl_marked.proofs.StoryLaws.{story_text}
use Rattle.redl_marked.proofs.package.last_of_story.Goals as goal

pub returns-in-Some : goal.returns-in-Some
returns-in-Some c = λ name.
    let tag = tag_of c.args.root.now in
    let kids = kids_of c.args.root.now in
    story_last c.args.before (heading c.args.before name) (marked_in (tag ∷ []) kids) c.in-Some.last
    (c.in-Some.ensures ∙ ap last_of (story_text tag kids c.in_root.result (nodes_of c.kids.result.now) c.in_root.ensures c.kids.ensures.kids))

pub returns-in-None : goal.returns-in-None
returns-in-None c = λ name.
    let tag = tag_of c.args.root.now in
    let kids = kids_of c.args.root.now in
    story_last_none c.args.before (heading c.args.before name) (marked_in (tag ∷ []) kids) c.after_heading.result
    (c.in-None.ensures ∙ ap last_of (story_text tag kids c.in_root.result (nodes_of c.kids.result.now) c.in_root.ensures c.kids.ensures.kids))
    (c.after_heading.ensures name)
