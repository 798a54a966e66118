-- Laws of the stories that a change takes.
use Rattle.std.proofs.Common.{◌<◌, ◌+◌, ℕ, List, [], ◌∷◌, ◌++◌, length, drop, get_or, ap, subst, ◌∙◌}
use Rattle.std.proofs.lemmas.List.{drop_more}
use Rattle.redl_tree.specs.Model.Nodes.{Tag, Nodes}
use Rattle.redl_tree.specs.Model.View.{Element}
use Rattle.redl_tree.specs.Model.View.{item_of, nodes_of}
use Rattle.redl_tree.specs.Decisions.Packages.{stories_in, StoryRule, left_after}
use Rattle.redl_tree.specs.Decisions.StoryWalk.{item_stories}
use Rattle.redl_tree.specs.Decisions.Taken.{TakesAll, TakesAt}
use Rattle.redl_tree.specs.declared.level.Level.{Level}
use Rattle.redl_tree.specs.declared.node.Node.{Node}
use Rattle.redl_tree.proofs.Decisions.StoryLaws.{stories_in-in_front}

module _ {S : Type 0} (rule : StoryRule S) (Takes : S → Tag → Nodes → Type 0) where
  -- some stories, and those after them
  pub takes-append : (given : S) (xs ys : List Element) → TakesAll rule Takes given (xs ++ ys)
      → TakesAll rule Takes given xs × TakesAll rule Takes (left_after rule given xs) ys
  takes-append given [] ys taken = (tt, taken)
  takes-append given (story ∷ xs) ys taken =
      let more = takes-append (rule.left given story.tag story.kids) xs ys taken.1 in
      ((taken.0, more.0), more.1)

  -- a change that takes every story takes these
  pub takes-every : ((given : S) (tag : Tag) (kids : Nodes) → Takes given tag kids) → (given : S) (xs : List Element) → TakesAll rule Takes given xs
  takes-every each given [] = tt
  takes-every each given (story ∷ xs) = (each given story.tag story.kids, takes-every each (rule.left given story.tag story.kids) xs)

  -- those in the node at a place, where it takes those of the nodes from the place on
  pub takes_here : (given : S) (level : Level) (xs : List Node) (i : ℕ) (d : Node) → i < length xs
      → TakesAt rule Takes given level (λ ancestors. stories_in ancestors (nodes_of (drop i xs)))
      → TakesAt rule Takes given level (λ ancestors. item_stories ancestors (item_of (get_or xs i d)))
  takes_here given level xs i d within taken =
      let ancestors = taken.ancestors in
      let item = item_of (get_or xs i d) in
      let more = nodes_of (drop (i + 1) xs) in
      let here = ap (λ ns. stories_in ancestors (nodes_of ns)) (drop_more xs i d within) ∙ stories_in-in_front ancestors item more in
      record {
        ancestors = ancestors;
        is_level = taken.is_level;
        takes = (takes-append given (item_stories ancestors item) (stories_in ancestors more) (subst (TakesAll rule Takes given) here taken.takes)).0;
      }
