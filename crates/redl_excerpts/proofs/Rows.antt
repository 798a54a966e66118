-- Worked rows: the excerpts of small bodies, by computing.
use Prim.Native.String.{String}
use Rattle.std.proofs.Common.{◌≡◌, ℕ, [], ◌∷◌, codes, refl}
use Rattle.redl_tree.specs.Model.Nodes.{Nodes, no_nodes, Empty, ◌⊕◌}
use Rattle.redl_tree.specs.declared.kinds.Trace.TheVariants.{Ins, Del, From, To}
use Rattle.redl_tree.specs.declared.kinds.Kind.TheVariants.{Mark, Row, Change}
use Rattle.redl_tree.specs.declared.kinds.Prop.TheVariants as prop
use Rattle.redl_kinds.specs.declared.rev_kind.RevKind.{RevKind}
use Rattle.redl_kinds.specs.declared.rev_kind.RevKind.TheVariants as kind
use Rattle.redl_tree.proofs.Model.Build.{opened, member, content, words, run, deleted_run}
use Rattle.redl_excerpts.specs.declared.excerpt.Excerpt.{Excerpt}
use Rattle.redl_excerpts.specs.Excerpts.{is_move, nothing_told, told_all}
use Rattle.redl_excerpts.specs.Mentions.{mentions, outside}
use Rattle.redl_said.specs.Phrases.{begun, heard_byte, kept_text, paused}
use Rattle.redl_said.specs.Lines.{passed}

-- what a body tells of the revision with this kind and number
abbrev told_of : RevKind → ℕ → Nodes → Excerpt
told_of kind v body = told_all (nothing_told kind) (mentions (is_move kind) v outside body)

-- it has these words, and this stands before and behind
abbrev Tells : RevKind → ℕ → Nodes → String → String → String → Type 0
Tells kind v body before text behind =
    ((told_of kind v body).before ≡ codes before) × (kept_text (told_of kind v body).words ≡ codes text) × ((told_of kind v body).behind ≡ codes behind)

-- a word in place of another
replaced : Nodes
replaced = opened "p" (run " Pay in  " ⊕ content Del 1 "del" "" (deleted_run "thirty") ⊕ content Ins 2 "ins" "" (run "ten") ⊕ run " days.")

row_deleted : Tells (kind.Content Del) 1 replaced "Pay in " "thirty" "ten days."
unfolding replaced heard_byte begun paused passed
row_deleted = (refl, refl, refl)

row_inserted : Tells (kind.Content Ins) 2 replaced "Pay in thirty" "ten" " days."
unfolding replaced heard_byte begun paused passed
row_inserted = (refl, refl, refl)

-- a deleted row: a space parts its cells, and nothing stands round it
deleted_row : Nodes
deleted_row =
    opened "tr" (opened "trPr" (member (Row Del) 1 "del" "" Empty no_nodes)
    ⊕ opened "tc" (opened "p" (run "Rope")) ⊕ opened "tc" (opened "p" (run "metre")))

row_row : Tells (kind.Row Del) 1 deleted_row "" "Rope metre" ""
unfolding deleted_row heard_byte begun paused passed
row_row = (refl, refl, refl)

-- the end of a paragraph
ended : Nodes
ended = opened "p" (opened "pPr" (opened "rPr" (member (Mark Ins) 1 "ins" "" Empty no_nodes)) ⊕ run "The goods") ⊕ opened "p" (run "come.")

row_mark : ((told_of (kind.Mark Ins) 1 ended).before ≡ codes "The goods") × (kept_text (told_of (kind.Mark Ins) 1 ended).words ≡ 194 ∷ 182 ∷ []) × ((told_of (kind.Mark Ins) 1 ended).behind ≡ [])
unfolding ended heard_byte begun paused passed
row_mark = (refl, refl, refl)

-- former properties of a run: the run
bold : Nodes
bold = opened "p" (run "a " ⊕ opened "r" (opened "rPr" (member (Change prop.Run) 1 "rPrChange" "" Empty no_nodes) ⊕ opened "t" (words "b c")) ⊕ run " d")

row_bold : Tells (kind.Change prop.Run) 1 bold "a " "b c" " d"
unfolding bold heard_byte begun paused passed
row_bold = (refl, refl, refl)

-- a move: its source tells
moved : Nodes
moved = opened "p" (opened "pPr" (opened "rPr" (member (Mark From) 1 "moveFrom" "" Empty no_nodes)) ⊕ content From 1 "moveFrom" "" (run "It")) ⊕ opened "p" (run "So " ⊕ content To 1 "moveTo" "" (run "it") ⊕ run " is")

row_moved : Tells kind.Move 1 moved "" "It" ""
unfolding moved heard_byte begun paused passed
row_moved = (refl, refl, refl)

-- a single target has words of its own
row_target : Tells (kind.Content To) 1 (opened "p" (run "So " ⊕ content To 1 "moveTo" "" (run "it") ⊕ run " is")) "So " "it" " is"
unfolding heard_byte begun paused passed
row_target = (refl, refl, refl)
