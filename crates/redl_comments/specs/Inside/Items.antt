-- What is read of one node of a list.
use Rattle.std.specs.Prelude.{ℕ, List, [], ◌∷◌, codes, map, filter, if◌then◌else◌}
use Rattle.redl_relations.specs.Values.{value_in}
use Rattle.redl_tree.specs.Model.Nodes.{Item, bytes_item, element_item, idle_item}
use Rattle.redl_tree.specs.Model.View.{Element}
use Rattle.redl_tree.specs.Roles.Names.{is}
use Rattle.redl_comments.specs.Comments.{comment_of, is_comment, is_state, state_of, states_among}
use Rattle.redl_comments.specs.declared.comment.Comment.{Comment}
use Rattle.redl_comments.specs.declared.state.State.{State}

-- the comment that an element is, if it is one
abbrev pub comments_if : Element → List Comment
comments_if e = map comment_of (filter is_comment (e ∷ []))

abbrev pub states_if : Element → List State
states_if e = map state_of (filter is_state (e ∷ []))

-- no idle element is a comment, a state or a paragraph
abbrev pub item_comments : Item → List Comment
item_comments (bytes_item b) = []
item_comments (element_item tag kids) = comments_if (record { tag = tag; kids = kids })
item_comments (idle_item t) = []

abbrev pub item_states : Item → List State
item_states (bytes_item b) = []
item_states (element_item tag kids) = states_if (record { tag = tag; kids = kids })
item_states (idle_item t) = []

abbrev pub item_root_states : Item → List State
item_root_states (bytes_item b) = []
item_root_states (element_item tag kids) = states_among kids
item_root_states (idle_item t) = []

abbrev pub item_last_paragraph : List ℕ → Item → List ℕ
item_last_paragraph id (bytes_item b) = id
item_last_paragraph id (element_item tag kids) = if is "p" tag then value_in tag.tail (codes "paraId") else id
item_last_paragraph id (idle_item t) = id
