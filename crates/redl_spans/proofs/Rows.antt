-- Worked rows: what members hold, and where comments are, by computing (ECMA-376 Part 1, 17.13.4 and 17.13.5).
use Rattle.std.proofs.Common.{◌≡◌, ℕ, List, [], ◌∷◌, codes, true, false, refl}
use Rattle.redl_tree.specs.Model.Nodes.{Nodes, no_nodes, Empty, ◌⊕◌}
use Rattle.redl_tree.specs.declared.kinds.Kind.TheVariants.{Row, Cell, Mark, Change}
use Rattle.redl_tree.specs.declared.kinds.Prop.TheVariants.{Run, Para, Sect}
use Rattle.redl_tree.specs.declared.kinds.Trace.TheVariants.{Ins, Del}
use Rattle.redl_tree.proofs.Model.Build.{opened, closed, member, content, run, deleted_run}
use Rattle.redl_markup.specs.Attributes.{attributes_of}
use Rattle.redl_grammar.specs.Characters.{is_name_start, is_name_character, is_space}
use Rattle.redl_grammar.specs.Names.{may_start, may_follow}
use Rattle.redl_grammar.specs.ScanNames.{name_at, word_at, char_at, name_end, name_step}
use Rattle.redl_grammar.specs.ScanTags.{attribute_in, attribute_at, equated_at, quoted_at, quote_at, is_value}
use Rattle.redl_reading.specs.Lists.{field_at}
use Rattle.redl_spans.specs.Stories.{nothing_walked}
use Rattle.redl_spans.specs.Walks.{walked}
use Rattle.redl_spans.specs.declared.place.Anchor.TheVariants.{Start, End, Reference}
use Rattle.redl_spans.specs.declared.place.CommentPlace.{CommentPlace}
use Rattle.redl_spans.specs.declared.span.Span.{Span}

spans_in : Nodes → List Span
spans_in body = (walked false body nothing_walked).spans

span : ℕ → ℕ → ℕ → Span
span v from to = record { revision = v; from = from; to = to }

-- ---- what members hold

-- content holds its bytes, and a mark the end of its paragraph
abbrev inserted_mark : ℕ → Nodes
inserted_mark v = opened "pPr" (opened "rPr" (member (Mark Ins) v "ins" "" Empty no_nodes))

in_paragraph : spans_in (opened "p" (inserted_mark 1 ⊕ run "ab" ⊕ content Ins 2 "ins" "" (run "cde") ⊕ content Del 3 "del" "" (deleted_run "f"))) ≡ span 2 2 5 ∷ span 3 5 6 ∷ span 1 6 7 ∷ []
unfolding spans_in span
in_paragraph = refl

-- content inside other content
inside_content : spans_in (opened "p" (content Ins 1 "ins" "" (run "a" ⊕ content Del 2 "del" "" (run "b")))) ≡ span 2 1 2 ∷ span 1 0 2 ∷ []
unfolding spans_in span
inside_content = refl

-- a change holds its run, its paragraph with the mark, or no more than the mark, and one of a section nothing
abbrev changed : Nodes
changed = member (Change Run) 1 "rPrChange" "" Empty no_nodes

of_changes : spans_in (opened "p" (opened "pPr" (opened "rPr" changed ⊕ member (Change Para) 2 "pPrChange" "" Empty no_nodes ⊕ opened "sectPr" (member (Change Sect) 3 "sectPrChange" "" Empty no_nodes))
    ⊕ opened "r" (opened "rPr" changed ⊕ closed "tab" ""))) ≡ span 1 0 1 ∷ span 1 1 2 ∷ span 2 0 2 ∷ []
unfolding spans_in span
of_changes = refl

-- a row and a cell hold their edge, though nothing is in them
row_and_cell : spans_in (opened "tr" (opened "trPr" (member (Row Del) 1 "del" "" Empty no_nodes) ⊕ opened "tc" (opened "tcPr" (member (Cell Ins) 2 "cellIns" "" Empty no_nodes)))) ≡ span 2 1 2 ∷ span 1 0 2 ∷ []
unfolding spans_in span
row_and_cell = refl

-- what holds nothing has no span
nothing_held : spans_in (opened "p" (content Ins 1 "ins" "" no_nodes)) ≡ []
unfolding spans_in
nothing_held = refl

-- ---- where comments are

places_in : Nodes → List CommentPlace
places_in body = (walked false body nothing_walked).places

-- their ids, and whether the unit before is one of the same paragraph
beside_units : places_in (opened "p" (closed "commentRangeStart" " w:id=\"0\"" ⊕ run "a" ⊕ closed "commentRangeEnd" " w:id=\"0\"" ⊕ opened "r" (closed "commentReference" " w:id=\"0\""))) ≡
    record { anchor = Start; id = codes "0"; story = 0; at = record { count = 0; near = false } }
    ∷ record { anchor = End; id = codes "0"; story = 0; at = record { count = 1; near = true } }
    ∷ record { anchor = Reference; id = codes "0"; story = 0; at = record { count = 1; near = true } } ∷ []
unfolding places_in attributes_of attribute_in attribute_at name_at word_at char_at name_end name_step may_start may_follow is_name_start is_name_character is_space equated_at quoted_at field_at quote_at is_value
beside_units = refl

-- behind a mark no unit is near
behind_a_mark : places_in (opened "p" (run "a") ⊕ closed "commentRangeEnd" " w:id=\"0\"" ⊕ opened "p" (closed "commentRangeEnd" " w:id=\"1\"")) ≡
    record { anchor = End; id = codes "0"; story = 0; at = record { count = 2; near = false } }
    ∷ record { anchor = End; id = codes "1"; story = 0; at = record { count = 2; near = false } } ∷ []
unfolding places_in attributes_of attribute_in attribute_at name_at word_at char_at name_end name_step may_start may_follow is_name_start is_name_character is_space equated_at quoted_at field_at quote_at is_value
behind_a_mark = refl

-- none is in properties
in_properties : places_in (opened "r" (opened "rPr" (closed "commentReference" " w:id=\"0\""))) ≡ []
unfolding places_in
in_properties = refl
