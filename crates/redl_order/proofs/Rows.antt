-- Worked rows: the order of headers and notes, by computing.
use Prim.Native.String.{String}
use Rattle.std.proofs.Common.{◌≡◌, ℕ, List, [], ◌∷◌, ◌++◌, codes, map, refl}
use Rattle.redl_tree.specs.Model.Nodes.{Nodes, no_nodes, Empty, End, ◌⊕◌}
use Rattle.redl_tree.specs.declared.kinds.Space.TheVariants.{W, Pkg, Other}
use Rattle.redl_tree.proofs.Model.Build.{tag_in, one, opened, closed}
use Rattle.redl_markup.specs.Attributes.{attributes_of}
use Rattle.redl_grammar.specs.Characters.{is_name_start, is_name_character, is_space}
use Rattle.redl_grammar.specs.Names.{may_start, may_follow}
use Rattle.redl_grammar.specs.ScanNames.{name_at, word_at, char_at, name_end, name_step}
use Rattle.redl_grammar.specs.ScanTags.{attribute_in, attribute_at, equated_at, quoted_at, quote_at, is_value}
use Rattle.redl_reading.specs.Lists.{field_at}
use Rattle.redl_order.specs.References.{id_in}
use Rattle.redl_order.specs.Order.{ordered}

-- a package of parts with these roots
part : String → Nodes → Nodes
part name kids = one (tag_in Pkg "pkg" "part" "" (End [])) (one (tag_in Pkg "pkg" "xmlData" "" (End [])) (opened name kids))

-- a note with this id
note : String → String → Nodes
note name tail = one (tag_in W "w" name tail (End [])) (opened "p" no_nodes)

-- each story and note that comes, by its local name and its id
abbrev order : Nodes → List (List ℕ)
order parts = map (λ e. e.tag.local ++ id_in e.tag.tail) (ordered (one (tag_in Pkg "pkg" "package" "" (End [])) parts))

-- notes come in the order of their references, each once, and those that nothing names are left out, whatever order the parts have
notes : order (part "footnotes" (note "footnote" " w:id=\"1\"" ⊕ note "footnote" " w:id=\"2\"" ⊕ note "footnote" " w:id=\"3\"")
    ⊕ part "ftr" (opened "p" no_nodes)
    ⊕ part "endnotes" (note "endnote" " w:id=\"2\"")
    ⊕ part "document" (opened "body" (opened "p" (opened "r" (closed "footnoteReference" " w:id=\"3\"" ⊕ closed "endnoteReference" " w:id=\"2\"")
    ⊕ opened "r" (closed "footnoteReference" " w:id=\"1\"" ⊕ closed "footnoteReference" " w:id=\"3\""))))
    ⊕ part "hdr" (opened "p" no_nodes) ⊕ part "comments" no_nodes)
    ≡ codes "document" ∷ codes "hdr" ∷ codes "ftr" ∷ codes "footnote3" ∷ codes "footnote1" ∷ codes "endnote2" ∷ []
unfolding part note attributes_of attribute_in attribute_at name_at word_at char_at name_end name_step may_start may_follow is_name_start is_name_character is_space equated_at quoted_at field_at quote_at is_value
notes = refl

-- ---- headers

named_part : String → Nodes → Nodes
named_part name root = one (tag_in Pkg "pkg" "part" name (End [])) (one (tag_in Pkg "pkg" "xmlData" "" (End [])) root)

lead : String → Nodes
lead tail = one (tag_in Other "" "Relationship" tail Empty) no_nodes

-- headers come in the order of their references, each once, and those that nothing names behind them
headers : order (named_part " name=\"/a/h1\"" (closed "hdr" " id=\"1\"") ⊕ named_part " name=\"/a/h2\"" (closed "hdr" " id=\"2\"") ⊕ named_part " name=\"/a/h3\"" (closed "hdr" " id=\"3\"")
    ⊕ named_part " name=\"/a/_rels/d.rels\"" (one (tag_in Other "" "Relationships" "" (End [])) (lead " Id=\"r1\" Target=\"h3\"" ⊕ lead " Id=\"r2\" Target=\"/a/h1\""))
    ⊕ named_part " name=\"/a/d\"" (opened "document" (closed "headerReference" " r:id=\"r1\"" ⊕ closed "headerReference" " r:id=\"r2\"" ⊕ closed "headerReference" " r:id=\"r1\"")))
    ≡ codes "document" ∷ codes "hdr3" ∷ codes "hdr1" ∷ codes "hdr2" ∷ []
unfolding named_part lead attributes_of attribute_in attribute_at name_at word_at char_at name_end name_step may_start may_follow is_name_start is_name_character is_space equated_at quoted_at field_at quote_at is_value
headers = refl
