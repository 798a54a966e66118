-- The signs of revisions in a marked text (our own rule; ECMA-376 Part 1, 17.13.5 for the revisions). Each sign has the number
-- of its revision.
use Rattle.std.specs.Prelude.{ℕ, List, [], ◌∷◌, ◌++◌, codes, decimal, if◌then◌else◌}
use Rattle.redl_tree.specs.Model.Nodes.{Nodes, no_nodes, bytes, element}
use Rattle.redl_tree.specs.Roles.Names.{is}
use Rattle.redl_tree.specs.declared.kinds.Trace.{Trace}
use Rattle.redl_tree.specs.declared.kinds.Trace.TheVariants.{Ins, Del, From, To}
use Rattle.redl_tree.specs.declared.kinds.Prop.{Prop}
use Rattle.redl_tree.specs.declared.kinds.Kind.{Kind}
use Rattle.redl_tree.specs.declared.kinds.Kind.TheVariants.{Content, Mark, Row, Cell, Change}
use Rattle.redl_kinds.specs.KindNames.{kind_name}
use Rattle.redl_kinds.specs.declared.rev_kind.RevKind.TheVariants.{Change as RevChange}

-- how a sign begins and ends: curly where something came, square where something went, and a tilde where it was moved
abbrev pub sign_begin : Trace → List ℕ
sign_begin Ins = codes "{+"
sign_begin Del = codes "[-"
sign_begin From = codes "[~"
sign_begin To = codes "{~"

abbrev pub sign_end : Trace → List ℕ
sign_end Ins = codes "+}"
sign_end Del = codes "-]"
sign_end From = codes "~]"
sign_end To = codes "~}"

-- the sign before the content of the revision with this number
abbrev pub opening : Trace → ℕ → List ℕ
opening trace number = sign_begin trace ++ (decimal number ++ codes " ")

-- the sign of a paragraph's end, a row or a cell, which has this word
abbrev pub word_sign : Trace → ℕ → List ℕ → List ℕ
word_sign trace number word = opening trace number ++ (word ++ sign_end trace)

-- the sign of a change of properties, with the name that its kind has in listings
abbrev pub change_sign : Prop → ℕ → List ℕ
change_sign prop number = codes "{=" ++ (decimal number ++ (codes " " ++ (kind_name (RevChange prop) ++ codes "=}")))

-- the UTF-8 of U+00B6, the sign of a paragraph's end
abbrev pub pilcrow : List ℕ
pilcrow = 194 ∷ 182 ∷ []

-- The sign at the start tag of an element of this kind: before content, and the whole sign of a row, a cell or a change.
-- Members of a paragraph's mark have theirs at the end of the paragraph, and markers of moves have none.
abbrev pub start_sign : Kind → ℕ → List ℕ
start_sign (Content trace) number = opening trace number
start_sign (Row trace) number = word_sign trace number (codes "row")
start_sign (Cell trace) number = word_sign trace number (codes "cell")
start_sign (Change prop) number = change_sign prop number
start_sign _ number = []

-- the sign at its end tag, behind content
abbrev pub end_sign : Kind → List ℕ
end_sign (Content trace) = sign_end trace
end_sign _ = []

-- the sign of a member of a paragraph's mark
abbrev pub mark_sign : Kind → ℕ → List ℕ
mark_sign (Mark trace) number = word_sign trace number pilcrow
mark_sign _ number = []

-- the signs of the members of a mark among these nodes
abbrev pub mark_signs : Nodes → List ℕ
mark_signs no_nodes = []
mark_signs (bytes b rest) = mark_signs rest
mark_signs (element tag kids rest) = mark_sign tag.kind tag.rev ++ mark_signs rest

-- the signs in the `rPr` among these nodes, the properties of a paragraph's mark
abbrev pub run_signs : Nodes → List ℕ
run_signs no_nodes = []
run_signs (bytes b rest) = run_signs rest
run_signs (element tag kids rest) = (if is "rPr" tag then mark_signs kids else []) ++ run_signs rest

-- the signs at the end of a paragraph with these kids
abbrev pub para_signs : Nodes → List ℕ
para_signs no_nodes = []
para_signs (bytes b rest) = para_signs rest
para_signs (element tag kids rest) = (if is "pPr" tag then run_signs kids else []) ++ para_signs rest
