-- The element of the page for each member of a revision (our own rule): it has the number of the revision and its author. What was
-- inserted is an `ins` and what was deleted a `del`; a move is both.
use Prim.Native.String.{String}
use Rattle.std.specs.Prelude.{ℕ, zero, suc, ◌==◌, Bool, true, false, ◌&&◌, ◌||◌, List, [], ◌∷◌, ◌++◌, Option, Some, None, slice_get, decimal, codes, if◌then◌else◌}
use Rattle.redl_tree.specs.Model.Nodes.{Tag, Nodes, no_nodes, bytes, element}
use Rattle.redl_tree.specs.Roles.Names.{is}
use Rattle.redl_tree.specs.declared.kinds.Trace.{Trace}
use Rattle.redl_tree.specs.declared.kinds.Trace.TheVariants.{Ins, Del, From, To}
use Rattle.redl_tree.specs.declared.kinds.Prop.{Prop}
use Rattle.redl_tree.specs.declared.kinds.Prop.TheVariants as props
use Rattle.redl_tree.specs.declared.kinds.Kind.{Kind}
use Rattle.redl_tree.specs.declared.kinds.Kind.TheVariants.{Plain, Content, Mark, Row, Cell, Change, Marker}
use Rattle.redl_index.specs.declared.revision.Revision.{Revision}
use Rattle.redl_html.specs.Escaping.{escaped}
use Rattle.redl_html.specs.Pieces.{HtmlPiece, own, number, outside, ends_in, has_number}

abbrev pub author_in : Option Revision → List ℕ
author_in None = []
author_in (Some revision) = revision.author

-- the author of the revision with this number
abbrev pub author_at : List Revision → ℕ → List ℕ
author_at revisions zero = []
author_at revisions (suc place) = author_in (slice_get revisions place)

-- ---- what comes before the number

abbrev pub content_before_author : Trace → String
content_before_author Ins = "<ins class=\"text\" data-revision=\""
content_before_author Del = "<del class=\"text\" data-revision=\""
content_before_author To = "<ins class=\"text move\" data-revision=\""
content_before_author From = "<del class=\"text move\" data-revision=\""

abbrev pub mark_before_author : Trace → String
mark_before_author Ins = "<ins class=\"mark\" data-revision=\""
mark_before_author Del = "<del class=\"mark\" data-revision=\""
mark_before_author To = "<ins class=\"mark move\" data-revision=\""
mark_before_author From = "<del class=\"mark move\" data-revision=\""

abbrev pub row_before_author : Trace → String
row_before_author Ins = "<td class=\"edge\"><ins class=\"row\" data-revision=\""
row_before_author Del = "<td class=\"edge\"><del class=\"row\" data-revision=\""
row_before_author To = "<td class=\"edge\"><ins class=\"row move\" data-revision=\""
row_before_author From = "<td class=\"edge\"><del class=\"row move\" data-revision=\""

abbrev pub cell_before_author : Trace → String
cell_before_author Ins = "<ins class=\"cell\" data-revision=\""
cell_before_author Del = "<del class=\"cell\" data-revision=\""
cell_before_author To = "<ins class=\"cell move\" data-revision=\""
cell_before_author From = "<del class=\"cell move\" data-revision=\""

-- a change of a row's properties stands in a cell of its own, and one of a table's in its caption
abbrev pub change_before_author : Prop → String
change_before_author props.Run = "<span class=\"props\" data-revision=\""
change_before_author props.Para = "<span class=\"props\" data-revision=\""
change_before_author props.Sect = "<span class=\"props\" data-revision=\""
change_before_author props.Table = "<caption><span class=\"props\" data-revision=\""
change_before_author props.Except = "<td class=\"edge\"><span class=\"props\" data-revision=\""
change_before_author props.Row = "<td class=\"edge\"><span class=\"props\" data-revision=\""
change_before_author props.Cell = "<span class=\"props\" data-revision=\""

abbrev pub before : Kind → String
before Plain = ""
before (Content trace) = content_before_author trace
before (Mark trace) = mark_before_author trace
before (Row trace) = row_before_author trace
before (Cell trace) = cell_before_author trace
before (Change prop) = change_before_author prop
before Marker = ""

-- ---- what comes after the author

abbrev pub mark_after_author : Trace → String
mark_after_author Ins = "\">&para;</ins>"
mark_after_author Del = "\">&para;</del>"
mark_after_author To = "\">&para;</ins>"
mark_after_author From = "\">&para;</del>"

abbrev pub row_after_author : Trace → String
row_after_author Ins = "\">row</ins></td>"
row_after_author Del = "\">row</del></td>"
row_after_author To = "\">row</ins></td>"
row_after_author From = "\">row</del></td>"

abbrev pub cell_after_author : Trace → String
cell_after_author Ins = "\">cell</ins>"
cell_after_author Del = "\">cell</del>"
cell_after_author To = "\">cell</ins>"
cell_after_author From = "\">cell</del>"

abbrev pub change_after_author : Prop → String
change_after_author props.Run = "\">run-props</span>"
change_after_author props.Para = "\">para-props</span>"
change_after_author props.Sect = "\">sect-props</span>"
change_after_author props.Table = "\">table-props</span></caption>"
change_after_author props.Except = "\">except-props</span></td>"
change_after_author props.Row = "\">row-props</span></td>"
change_after_author props.Cell = "\">cell-props</span>"

-- the element of run content stays open for what it holds
abbrev pub after : Kind → String
after Plain = ""
after (Content trace) = "\">"
after (Mark trace) = mark_after_author trace
after (Row trace) = row_after_author trace
after (Cell trace) = cell_after_author trace
after (Change prop) = change_after_author prop
after Marker = ""

-- what ends the element of run content
abbrev pub content_end : Trace → String
content_end Ins = "</ins>"
content_end Del = "</del>"
content_end To = "</ins>"
content_end From = "</del>"

-- ---- the elements

-- an element with the number and the author of this revision, between these texts
abbrev pub sign : List Revision → String → ℕ → String → List HtmlPiece
sign revisions before rev after = own before ∷ number rev ∷ own "\" data-author=\"" ∷ outside (author_at revisions rev) ∷ own after ∷ []

-- what is written of it
abbrev pub sign_text : List Revision → List ℕ → ℕ → List ℕ → List ℕ
sign_text revisions before rev after = before ++ (decimal rev ++ (codes "\" data-author=\"" ++ (escaped (author_at revisions rev) ++ after)))

-- the element of a member of this kind
abbrev pub member : List Revision → Kind → ℕ → List HtmlPiece
member revisions kind rev = sign revisions (before kind) rev (after kind)

-- where the source or the target of a paired move starts: each leads to the other
abbrev pub edge : List Revision → Tag → List HtmlPiece
edge revisions tag =
    if is "moveFromRangeStart" tag then own "<a id=\"from-" ∷ number tag.rev ∷ own "\" href=\"#to-" ∷ number tag.rev ∷ sign revisions "\" data-revision=\"" tag.rev "\">moved away</a>"
    else if is "moveToRangeStart" tag then own "<a id=\"to-" ∷ number tag.rev ∷ own "\" href=\"#from-" ∷ number tag.rev ∷ sign revisions "\" data-revision=\"" tag.rev "\">moved here</a>"
    else []

-- ---- members

-- an element of this kind is a member of its revision
abbrev pub is_member : Kind → Bool
is_member Plain = false
is_member (Content trace) = true
is_member (Mark trace) = true
is_member (Row trace) = true
is_member (Cell trace) = true
is_member (Change prop) = true
is_member Marker = false

-- a member of this revision is among these nodes, at some depth
abbrev pub has_member : ℕ → Nodes → Bool
has_member rev no_nodes = false
has_member rev (bytes b rest) = has_member rev rest
has_member rev (element tag kids rest) = (is_member tag.kind && tag.rev == rev) || has_member rev kids || has_member rev rest

-- ---- elements with a number

-- the number of a revision comes next, as the value of the attribute `data-revision`
abbrev pub opens_number : HtmlPiece → Bool
opens_number (own text) = ends_in (codes " data-revision=\"") (codes text)
opens_number (number n) = false
opens_number (outside text) = false

-- some element of the document has the number of this revision
abbrev pub has_element : ℕ → List HtmlPiece → Bool
has_element rev pieces = has_number opens_number rev pieces
