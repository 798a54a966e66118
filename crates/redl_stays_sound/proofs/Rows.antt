-- Paragraphs by hand: which marks stay.
use Rattle.std.proofs.Common.{◌≡◌, refl, List, [], ◌∷◌, map, Bool, true, false, codes, inl, inr}
use Rattle.redl_stays_sound.specs.Decided.{decided}
use Rattle.redl_stays_sound.specs.Kept.{kept_marks, marks}
use Rattle.redl_stays_sound.specs.Settled.{has_no_role}
use Rattle.redl_stays_sound.specs.Staying.{HasKept, stands}
use Rattle.redl_tree.proofs.Model.Build.{content, deleted_run, opened, run, tag_in}
use Rattle.redl_tree.specs.Decisions.Pass.{pass}
use Rattle.redl_tree.specs.Model.Nodes.{End, Nodes, Tag, element, no_nodes, ◌⊕◌}
use Rattle.redl_tree.specs.Model.View.{Element}
use Rattle.redl_tree.specs.Roles.Names.{of_w}
use Rattle.redl_tree.specs.Rules.Tests.{everywhere}
use Rattle.redl_tree.specs.declared.kinds.Kind.TheVariants.{Change, Content, Mark}
use Rattle.redl_tree.specs.declared.kinds.Prop.TheVariants.{Run}
use Rattle.redl_tree.specs.declared.kinds.Say.{Say}
use Rattle.redl_tree.specs.declared.kinds.Say.TheVariants.{Accept, Keep, Reject}
use Rattle.redl_tree.specs.declared.kinds.Space.TheVariants.{W}
use Rattle.redl_tree.specs.declared.kinds.Trace.TheVariants.{Del, Ins}

-- the root of a story
abbrev root : Tag
root = tag_in W "w" "document" "" (End [])

abbrev story : Nodes → Element
story kids = record { tag = root; kids = kids }

-- an insertion that holds a deletion, and a deletion beside it
abbrev text_of : Nodes
text_of = opened "body" (opened "p" (content Ins 1 "ins" "" (run "a" ⊕ content Del 2 "del" "" (deleted_run "b")) ⊕ content Del 3 "del" "" (deleted_run "c")))

abbrev insertion : Tag
insertion = record (tag_in W "w" "ins" "" (End [])) { kind = Content Ins; rev = 1 }

abbrev inner : Tag
inner = record (tag_in W "w" "del" "" (End [])) { kind = Content Del; rev = 2 }

abbrev deletion : Tag
deletion = record (tag_in W "w" "del" "" (End [])) { kind = Content Del; rev = 3 }

-- what stays marked of the story, and what is marked in what a pass leaves of it
abbrev both : List Say → List Tag → Type 0
both says tags = (kept_marks says (story text_of) ≡ tags) × (marks (story (pass says (root ∷ []) text_of)) ≡ tags)

row_open : both [] (insertion ∷ inner ∷ deletion ∷ [])
row_open = (refl, refl)

-- an open deletion in an insertion that is accepted stays; in one that is rejected it goes
row_freed : both (Accept ∷ Keep ∷ Reject ∷ []) (inner ∷ [])
row_freed = (refl, refl)

row_gone : both (Reject ∷ Keep ∷ Keep ∷ []) (deletion ∷ [])
row_gone = (refl, refl)

row_settled : both (Accept ∷ Accept ∷ Accept ∷ []) []
row_settled = (refl, refl)

-- what is decided of the story, and that none of it is in what a pass leaves
abbrev gone : List Say → List Tag → Type 0
gone says tags = (map (λ one. one.tag) (decided says (story text_of)) ≡ tags) × (decided says (story (pass says (root ∷ []) text_of)) ≡ [])

row_none : gone [] []
row_none = (refl, refl)

row_two : gone (Accept ∷ Keep ∷ Reject ∷ []) (insertion ∷ deletion ∷ [])
row_two = (refl, refl)

row_all : gone (Reject ∷ Accept ∷ Accept ∷ []) (insertion ∷ inner ∷ deletion ∷ [])
row_all = (refl, refl)

-- a paragraph whose end is deleted, with a change of the properties of its mark
abbrev end_deleted : Tag
end_deleted = record (of_w (codes "del")) { kind = Mark Del; rev = 1 }

abbrev mark_changed : Tag
mark_changed = record (of_w (codes "rPrChange")) { kind = Change Run; rev = 2 }

abbrev mark_props : Nodes
mark_props = element (of_w (codes "rPr")) (element end_deleted no_nodes (element mark_changed no_nodes no_nodes)) no_nodes

abbrev para_props : Nodes
para_props = element (of_w (codes "pPr")) mark_props no_nodes

abbrev paragraph : Nodes
paragraph = element (of_w (codes "p")) para_props no_nodes

-- whether the root and what a pass leaves of the paragraph in it have no roles
abbrev roles_are_gone : List Say → Bool
roles_are_gone says = everywhere has_no_role [] (element (of_w (codes "body")) (pass says (of_w (codes "body") ∷ []) paragraph) no_nodes)

row_both_rejected : roles_are_gone (Reject ∷ Reject ∷ []) ≡ true
row_both_rejected = refl

row_both_accepted : roles_are_gone (Accept ∷ Accept ∷ []) ≡ true
row_both_accepted = refl

row_one_open : roles_are_gone (Keep ∷ Accept ∷ []) ≡ false
row_one_open = refl

-- the paragraph, and the body round it
abbrev round_props : List Element
round_props = record { tag = of_w (codes "p"); kids = para_props } ∷ record { tag = of_w (codes "body"); kids = paragraph } ∷ []

-- where the end of the paragraph is open, the change of its mark's properties stands; where it is deleted, the properties do not stand
row_open_end : HasKept (Keep ∷ Keep ∷ []) (record { tag = of_w (codes "body"); kids = paragraph } ∷ []) paragraph mark_changed
row_open_end = inl (refl, inr (inl (refl, inr (inl (refl, inr (inr (inl (refl, inl (refl, refl)))))))))

row_cut_end : stands (Accept ∷ Keep ∷ []) round_props (record { tag = of_w (codes "pPr"); kids = mark_props }) ≡ false
row_cut_end = refl
