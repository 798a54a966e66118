-- Worked rows of the definitions.
use Rattle.std.proofs.Common.{◌≡◌, List, [], ◌∷◌, ℕ, refl, codes, true, false}
use Rattle.redl_tree.specs.Model.Nodes.{no_nodes, element}
use Rattle.redl_tree.specs.Roles.Names.{of_w}
use Rattle.redl_tree.specs.declared.kinds.Kind.TheVariants.{Content, Marker}
use Rattle.redl_tree.specs.declared.kinds.Trace.TheVariants as traces
use Rattle.redl_grammar.specs.ScanTags.{attribute_in}
use Rattle.redl_markup.specs.Attributes.{attributes_of}
use Rattle.redl_left.specs.declared.fact.Fact.TheVariants.{Ins, CommentMark}
use Rattle.redl_left.specs.declared.name.Name.TheVariants as names
use Rattle.redl_left.specs.declared.row.Where.TheVariants.{Word}
use Rattle.redl_left.specs.declared.row.When.TheVariants.{Always}
use Rattle.redl_left.specs.declared.row.Value.TheVariants.{Nothing}
use Rattle.redl_left.specs.declared.row.Row.{Row}
use Rattle.redl_left.specs.declared.line.Line.{Line}
use Rattle.redl_left.specs.Finds.{Find, Table, rows_table, finds, found, lead_from}
use Rattle.redl_left.specs.Lines.{noted}
use Rattle.redl_left.specs.Search.{is_bare}

part : List ℕ
part = codes "/a"

find : List ℕ → Find
find value = record { fact = CommentMark; part = part; value = value }

line : List ℕ → ℕ → Line
line value count = record { fact = CommentMark; part = part; value = value; count = count }

table : List Row → Table
table rows = rows_table rows true (λ fact value. false)

rows : List Row
rows = record { fact = CommentMark; place = Word names.CommentReference; when = Always; value = Nothing } ∷ []

-- an element that a row asks for, below one that none does
asked : finds (table rows) part [] (element (of_w (codes "r")) (element (of_w (codes "commentReference")) no_nodes no_nodes) no_nodes) ≡ find [] ∷ []
unfolding table rows part find attributes_of attribute_in
asked = refl

-- a member of a revision, whatever the rows
member : found (table []) part [] (record (of_w (codes "ins")) { kind = Content traces.Ins }) no_nodes ≡ record { fact = Ins; part = part; value = [] } ∷ []
unfolding table part attributes_of attribute_in
member = refl

-- the marker of a paired move is none
marker : found (table rows) part [] (record (of_w (codes "commentReference")) { kind = Marker }) no_nodes ≡ []
unfolding table rows part attributes_of attribute_in
marker = refl

-- two finds of which the same is told, and two of which other things are told
twice : noted (noted [] (find (codes "b"))) (find (codes "b")) ≡ line (codes "b") 2 ∷ []
unfolding part find line
twice = refl

apart : noted (noted [] (find (codes "b"))) (find (codes "c")) ≡ line (codes "b") 1 ∷ line (codes "c") 1 ∷ []
unfolding part find line
apart = refl

-- where a relationship leads, from its part's name
beside : lead_from (codes "/word/_rels/document.xml.rels") (codes "embeddings/a.bin") ≡ codes "/word/embeddings/a.bin"
beside = refl

up : lead_from (codes "/word/_rels/document.xml.rels") (codes "../customXml/item1.xml") ≡ codes "/customXml/item1.xml"
up = refl

of_package : lead_from (codes "/_rels/.rels") (codes "customXml/item1.xml") ≡ codes "/customXml/item1.xml"
of_package = refl

rooted : lead_from (codes "/word/_rels/document.xml.rels") (codes "/a.bin") ≡ codes "/a.bin"
rooted = refl

-- an element of one letter without an attribute, one with an attribute, and one of two letters
bare : is_bare (codes "p") [] ≡ true
bare = refl

with_attribute : is_bare (codes "p") (codes " rsidR='0'") ≡ false
with_attribute = refl

of_two : is_bare (codes "tr") [] ≡ false
of_two = refl
