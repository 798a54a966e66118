-- Documents for worked rows, and the results of the definitions for them.
use Prim.Native.String.{String}
use Rattle.std.proofs.Common.{ℕ, List, replicate, Option, codes, []}
use Rattle.redl_tree.specs.Model.Nodes.{Tag, Nodes, no_nodes, bytes, element, ◌⊕◌}
use Rattle.redl_tree.specs.Model.View.{Element}
use Rattle.redl_tree.specs.Model.Text.{text}
use Rattle.redl_tree.specs.Decisions.Packages.{pass_package}
use Rattle.redl_tree.specs.Revisions.Numbers.{numbered_package_by, package_revisions_by}
use Rattle.redl_tree.specs.Rules.Sound.{tests, broken}
use Rattle.redl_tree.specs.Decisions.Survivors.{text_pieces, survivors}
use Rattle.redl_tree.specs.declared.kinds.Say.{Say}
use Rattle.redl_tree.specs.declared.kinds.Space.TheVariants.{W, Pkg, Other}
use Rattle.redl_tree.specs.Model.Nodes.{Empty, End}
use Rattle.redl_tree.proofs.Model.Build.{tag_in, one}
use Rattle.redl_laws.proofs.Rows.Tails.{value, has_id, declares}

-- an element with kids, with attributes and kids, with neither, and with attributes alone
abbrev pub w : String → Nodes → Nodes
w name kids = one (tag_in W "w" name "" (End [])) kids

abbrev pub wa : String → String → Nodes → Nodes
wa name tail kids = one (tag_in W "w" name tail (End [])) kids

abbrev pub e : String → Nodes
e name = one (tag_in W "w" name "" Empty) no_nodes

abbrev pub ea : String → String → Nodes
ea name tail = one (tag_in W "w" name tail Empty) no_nodes

-- text
abbrev pub s : String → Nodes
s words = bytes (codes words) no_nodes

abbrev pub attr_A : String
attr_A = " w:id=\"1\" w:author=\"Ann\" w:date=\"2024-05-06T07:08:09Z\""

abbrev pub attr_B : String
attr_B = " w:id=\"2\" w:author=\"Bob\" w:date=\"2024-05-06T09:08:10+02:00\""

abbrev pub attr_C : String
attr_C = " w:id=\"3\" w:author=\"Cy &amp; Co\""

abbrev pub pkg : String → String → Nodes → Nodes
pkg name tail kids = one (tag_in Pkg "pkg" name tail (End [])) kids

-- a package with this body
abbrev pub package_of : Nodes → Nodes
package_of body =
    s "<?xml version=\"1.0\" encoding=\"UTF-8\"?>"
    ⊕ pkg "package" " xmlns:pkg=\"http://schemas.microsoft.com/office/2006/xmlPackage\""
    (pkg "part" " pkg:name=\"/word/document.xml\" pkg:contentType=\"application/vnd.openxmlformats-officedocument.wordprocessingml.document.main+xml\""
    (pkg "xmlData" ""
    (wa "document" " xmlns:w=\"http://schemas.openxmlformats.org/wordprocessingml/2006/main\""
    (w "body" body))))

-- the kids of the first element
abbrev pub below : Nodes → Nodes
below no_nodes = no_nodes
below (bytes b rest) = below rest
below (element tag kids rest) = kids

abbrev pub body_of : Nodes → Nodes
body_of nodes = below (below (below (below (below nodes))))

abbrev pub indexed : Nodes → Nodes
indexed body = numbered_package_by value (package_of body)

abbrev pub revision_numbers : Nodes → ℕ
revision_numbers body = package_revisions_by value (package_of body)

abbrev pub written : List Say → Nodes → List ℕ
written says body = text (body_of (pass_package says (indexed body)))

abbrev pub settled : Say → Nodes → List ℕ
settled say body = written (replicate (revision_numbers body) say) body

abbrev pub broken_rule : Nodes → Option ℕ
broken_rule body = broken (tests has_id declares) (package_of body)

-- the story of an indexed document
abbrev pub root : Tag
root = tag_in W "w" "document" "" (End [])

abbrev pub story : Nodes → Element
story package_ = record { tag = root; kids = below (below (below (below package_))) }

abbrev pub says_of : Say → Nodes → List Say
says_of say body = replicate (revision_numbers body) say

abbrev pub survivors_of : Say → Nodes → List (List ℕ)
survivors_of say body = survivors (says_of say body) (story (indexed body))

abbrev pub passed_pieces : Say → Nodes → List (List ℕ)
passed_pieces say body = text_pieces (story (pass_package (says_of say body) (indexed body)))

abbrev pub text_pieces_of : Nodes → List (List ℕ)
text_pieces_of body = text_pieces (story (indexed body))

-- the rule that the written package breaks
abbrev pub broken_after : Say → Nodes → Option ℕ
broken_after say body = broken (tests has_id declares) (pass_package (says_of say body) (indexed body))

-- an element outside W and M
abbrev pub o : String → Nodes → Nodes
o name kids = one (tag_in Other "o" name "" (End [])) kids
