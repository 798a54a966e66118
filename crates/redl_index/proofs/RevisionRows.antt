-- A worked row of revisions. What attributes say is worked out in redl_stamp, and moves in redl_tree.
use Prim.Native.String.{String}
use Rattle.std.proofs.Common.{◌≡◌, ℕ, List, [], ◌∷◌, map, refl}
use Rattle.redl_tree.specs.Model.Nodes.{Nodes, no_nodes, End, ◌⊕◌}
use Rattle.redl_tree.specs.declared.kinds.Prop.TheVariants.{Run}
use Rattle.redl_tree.specs.declared.kinds.Space.TheVariants.{Pkg}
use Rattle.redl_tree.specs.declared.kinds.Trace.TheVariants.{Ins, Del}
use Rattle.redl_tree.proofs.Model.Build.{tag_in, one, opened, words}
use Rattle.redl_kinds.specs.declared.rev_kind.RevKind.{RevKind}
use Rattle.redl_kinds.specs.declared.rev_kind.RevKind.TheVariants.{Content, Mark, Change}
use Rattle.redl_index.specs.declared.revision.Revision.{Revision}
use Rattle.redl_index.specs.Revisions.{revisions_of}

abbrev named : String → Nodes → Nodes
named name kids = one (tag_in Pkg "pkg" name "" (End [])) kids

abbrev part : String → Nodes → Nodes
part root kids = named "part" (named "xmlData" (opened root kids))

-- the number, the kind and the part of each revision
abbrev told : Nodes → List (ℕ × RevKind × ℕ)
told nodes = map (λ (revision : Revision). (revision.number, revision.kind, revision.part)) (revisions_of nodes)

-- a revision in the second part and two in the fourth; the others are no stories
numbers_kinds_and_parts :
    told
    (words "<?mso?>" ⊕ named "package"
    (part "styles" (opened "ins" no_nodes)
    ⊕ words "\n"
    ⊕ part "document" (opened "p" (opened "pPr" (opened "rPr" (opened "ins" no_nodes))))
    ⊕ part "theme" no_nodes
    ⊕ part "hdr" (opened "del" (opened "r" (opened "rPr" (opened "rPrChange" no_nodes))))))
    ≡ (1, Mark Ins, 1) ∷ (2, Content Del, 3) ∷ (3, Change Run, 3) ∷ []
numbers_kinds_and_parts = refl
