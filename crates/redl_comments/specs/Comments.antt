-- The comments of a package, and what is said of their state (ECMA-376 Part 1, 17.13.4; the extensions of comments for `commentEx`; which
-- parts they are in is our own rule).
use Rattle.std.specs.Prelude.{ℕ, true, false, Bool, List, [], map, filter, codes, Option, Some, None, option_and_then, if◌then◌else◌}
use Rattle.std.specs.List.{flat_map}
use Rattle.redl_said.specs.Phrases.{heard, kept_text, nothing_heard}
use Rattle.redl_said.specs.Said.{said}
use Rattle.redl_opc.specs.Elements.{elements_of}
use Rattle.redl_opc.specs.Parts.{story}
use Rattle.redl_order.specs.References.{is_on}
use Rattle.redl_relations.specs.Relations.{document_part, has_local, part_by_type, xml_data}
use Rattle.redl_relations.specs.Values.{value_in}
use Rattle.redl_stamp.specs.Stamp.{author_of, seconds_of}
use Rattle.redl_tree.specs.Model.Nodes.{Nodes, no_nodes, bytes, element}
use Rattle.redl_tree.specs.Model.View.{Element}
use Rattle.redl_tree.specs.Roles.Names.{is}
use Rattle.redl_comments.specs.declared.comment.Comment.{Comment}
use Rattle.redl_comments.specs.declared.state.State.{State}

-- ---- one comment

-- the id of the last paragraph among nodes, or this one if there is none
abbrev pub last_paragraph_or : List ℕ → Nodes → List ℕ
last_paragraph_or id no_nodes = id
last_paragraph_or id (bytes b rest) = last_paragraph_or id rest
last_paragraph_or id (element tag kids rest) = last_paragraph_or (if is "p" tag then value_in tag.tail (codes "paraId") else id) rest

-- the beginning of what nodes say, as a listing shows it: there is room for 200 characters
abbrev pub beginning : Nodes → List ℕ
beginning kids = kept_text (heard (nothing_heard 200 true) (said false false kids))

abbrev pub comment_of : Element → Comment
comment_of e = record {
  id = value_in e.tag.tail (codes "id");
  author = author_of e.tag.tail;
  seconds = seconds_of e.tag.tail;
  text = beginning e.kids;
  last_paragraph = last_paragraph_or [] e.kids;
}

-- the state of the comment whose last paragraph has this id
abbrev pub state_of : Element → State
state_of e = record {
  paragraph = value_in e.tag.tail (codes "paraId");
  parent = value_in e.tag.tail (codes "paraIdParent");
  is_done = is_on (value_in e.tag.tail (codes "done"));
}

-- ---- those of a package

-- the part to which the relationship of the document with such a type leads
abbrev pub led_to : Nodes → List ℕ → Option ℕ → Option ℕ
led_to nodes ending None = None
led_to nodes ending (Some document) = part_by_type nodes document ending

abbrev pub part_with_type : Nodes → List ℕ → Option ℕ
part_with_type nodes ending = led_to nodes ending (document_part nodes)

abbrev pub kids_if_any : Option Element → Nodes
kids_if_any None = no_nodes
kids_if_any (Some e) = e.kids

abbrev pub is_comment : Element → Bool
is_comment e = is "comment" e.tag

abbrev pub is_state : Element → Bool
is_state e = has_local (codes "commentEx") e.tag

abbrev pub comments_among : Nodes → List Comment
comments_among kids = map comment_of (filter is_comment (elements_of kids))

abbrev pub states_among : Nodes → List State
states_among kids = map state_of (filter is_state (elements_of kids))

-- those in roots that are among nodes
abbrev pub root_states : Nodes → List State
root_states nodes = flat_map (λ root. states_among root.kids) (elements_of nodes)

-- the story of the comments part, and what the part of their states holds
abbrev pub comments_story : Nodes → Option Element
comments_story nodes = option_and_then (story nodes) (part_with_type nodes (codes "/comments"))

abbrev pub states_data : Nodes → Option Element
states_data nodes = option_and_then (xml_data nodes) (part_with_type nodes (codes "/commentsExtended"))

-- in the order of their part
abbrev pub comments_of : Nodes → List Comment
comments_of nodes = comments_among (kids_if_any (comments_story nodes))

abbrev pub states_of : Nodes → List State
states_of nodes = root_states (kids_if_any (states_data nodes))
