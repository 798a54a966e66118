-- Worked rows: the marked text, by computing.
use Prim.Native.String.{String}
use Rattle.std.proofs.Common.{◌≡◌, ℕ, List, [], ◌∷◌, ◌++◌, codes, None, refl}
use Rattle.std.specs.Fmt.{digits}
use Rattle.redl_tree.specs.Model.Nodes.{Nodes, no_nodes, Empty, End, ◌⊕◌}
use Rattle.redl_tree.specs.Model.View.{Element}
use Rattle.redl_tree.specs.declared.kinds.Kind.{Kind}
use Rattle.redl_tree.specs.declared.kinds.Kind.TheVariants.{Mark, Row, Cell, Change}
use Rattle.redl_tree.specs.declared.kinds.Trace.TheVariants.{Ins, Del, From, To}
use Rattle.redl_tree.specs.declared.kinds.Space.TheVariants.{W}
use Rattle.redl_tree.specs.declared.kinds.Prop.TheVariants.{Run, Sect}
use Rattle.redl_tree.proofs.Model.Build.{tag_in, opened, closed, member, content, words, run, deleted_run}
use Rattle.redl_grammar.specs.References.{reference_at, named_at, number_at}
use Rattle.redl_grammar.specs.Characters.{is_character}
use Rattle.redl_marked.specs.Signs.{pilcrow}
use Rattle.redl_marked.specs.MarkedText.{NamedStory, story_marked, stories_marked}
use lib.Utf8.{encode}

-- the story with this root and this body
abbrev story : String → Nodes → Element
story root body = record { tag = tag_in W "w" root "" (End []); kids = body }

-- what the document with this body shows
abbrev marked : Nodes → List ℕ
marked body = story_marked (story "document" (opened "body" body))

-- a member without content
abbrev mark : Kind → ℕ → String → Nodes
mark kind number name = member kind number name "" Empty no_nodes

-- a paragraph with these members in the properties of its mark
abbrev para : Nodes → Nodes → Nodes
para members kids = opened "p" (opened "pPr" (opened "rPr" members) ⊕ kids)

inserted : marked (opened "p" (content Ins 1 "ins" "" (run "a"))) ≡ codes "{+1 a+}\n"
unfolding digits
inserted = refl

deleted : marked (opened "p" (run "a" ⊕ content Del 12 "del" "" (deleted_run " b "))) ≡ codes "a[-12  b -]\n"
unfolding digits
deleted = refl

-- the words of an example: text in the place of other text
replaced : marked (opened "p" (run "The Buyer pays " ⊕ content Del 32 "del" "" (deleted_run "within 30 days") ⊕ content Ins 33 "ins" "" (run "within 14 days") ⊕ run " of delivery."))
    ≡ codes "The Buyer pays [-32 within 30 days-]{+33 within 14 days+} of delivery.\n"
unfolding digits
replaced = refl

-- inserted and deleted again
nested : marked (opened "p" (content Ins 1 "ins" "" (run "a" ⊕ content Del 2 "del" "" (deleted_run "b")))) ≡ codes "{+1 a[-2 b-]+}\n"
unfolding digits
nested = refl

-- a move of a whole paragraph: both halves have its number
moved : marked (para (mark (Mark From) 1 "moveFrom") (content From 1 "moveFrom" "" (run "x"))
    ⊕ para (mark (Mark To) 1 "moveTo") (content To 1 "moveTo" "" (run "x")))
    ≡ codes "[~1 x~][~1 " ++ pilcrow ++ codes "~]\n{~1 x~}{~1 " ++ pilcrow ++ codes "~}\n"
unfolding digits
moved = refl

-- a half of a move that has no other half
half_moved : marked (opened "p" (content To 4 "moveTo" "" (run "x"))) ≡ codes "{~4 x~}\n"
unfolding digits
half_moved = refl

-- a mark that was inserted and deleted again
marks : marked (para (mark (Mark Ins) 3 "ins" ⊕ mark (Mark Del) 4 "del") (run "a"))
    ≡ codes "a{+3 " ++ pilcrow ++ codes "+}[-4 " ++ pilcrow ++ codes "-]\n"
unfolding digits
marks = refl

row_deleted : marked (opened "tbl" (opened "tr" (opened "trPr" (mark (Row Del) 13 "del")
    ⊕ opened "tc" (para (mark (Mark Del) 14 "del") (content Del 15 "del" "" (deleted_run "Rope"))))))
    ≡ codes "[-13 row-][-15 Rope-][-14 " ++ pilcrow ++ codes "-]\n"
unfolding digits
row_deleted = refl

cell_inserted : marked (opened "tbl" (opened "tr" (opened "tc" (opened "tcPr" (mark (Cell Ins) 28 "cellIns") ⊕ opened "p" (run "free")))))
    ≡ codes "{+28 cell+}free\n"
unfolding digits
cell_inserted = refl

props_changed : marked (opened "p" (opened "r" (opened "rPr" (mark (Change Run) 1 "rPrChange") ⊕ opened "t" (words "Supply agreement"))))
    ≡ codes "{=1 run-props=}Supply agreement\n"
unfolding digits
props_changed = refl

-- a text in properties, and the instructions of a field, are no text of the document
unshown : marked (opened "p" (opened "pPr" (run "no") ⊕ opened "r" (opened "delInstrText" (words "PAGE") ⊕ opened "instrText" (words "PAGE") ⊕ words "no")))
    ≡ codes "\n"
unshown = refl

characters : marked (opened "p" (opened "r" (opened "t" (words "x &lt; y<!-- n -->") ⊕ closed "tab" "" ⊕ opened "t" (words "co") ⊕ closed "noBreakHyphen" "" ⊕ opened "t" (words "op") ⊕ closed "br" "")))
    ≡ codes "x < y\tco" ++ (226 ∷ 128 ∷ 145 ∷ []) ++ codes "op\n\n"
unfolding reference_at named_at number_at is_character encode
characters = refl

-- ---- stories

main_story : Nodes → NamedStory
main_story body = record { name = codes "/word/document.xml"; story = story "document" (opened "body" body) }

notes : Nodes → NamedStory
notes body = record { name = codes "/word/footnotes.xml"; story = story "footnotes" (opened "footnote" body) }

-- later stories begin with a line of their own
two_stories : stories_marked None (main_story (opened "p" (run "a")) ∷ notes (opened "p" (run "b")) ∷ []) ≡ codes "a\n== /word/footnotes.xml\nb\n"
unfolding main_story notes
two_stories = refl

-- a text that doesn't end a line gets a newline before that line
unended : stories_marked None (main_story (opened "p" (run "a") ⊕ opened "sectPr" (mark (Change Sect) 5 "sectPrChange")) ∷ notes (opened "p" (run "b")) ∷ [])
    ≡ codes "a\n{=5 sect-props=}\n== /word/footnotes.xml\nb\n"
unfolding main_story notes digits
unended = refl

-- what stands before the first text has no line, and a story without text behind it has one
textless : stories_marked None (notes no_nodes ∷ main_story (opened "p" (run "a")) ∷ notes no_nodes ∷ []) ≡ codes "a\n== /word/footnotes.xml\n"
unfolding main_story notes
textless = refl
