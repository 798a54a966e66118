-- The marked text with a summary of the ancestors is that with their list, and both go over a list node by node.
use Rattle.std.proofs.Common.{◌≡◌, true, List, [], ◌∷◌, ◌++◌, refl, sym, ap, ◌∙◌, append_assoc, if◌then◌else◌}
use Rattle.redl_tree.specs.Model.Nodes.{Tag, Nodes, no_nodes, bytes, element, Item, bytes_item, element_item, idle_item, in_front, ◌⊕◌}
use Rattle.redl_tree.specs.Model.IdleTexts.{idle_nodes}
use Rattle.redl_tree.specs.Roles.Names.{is}
use Rattle.redl_shown.specs.Shown.{shown}
use Rattle.redl_marked.specs.declared.summary.MarkedSummary.{MarkedSummary}
use Rattle.redl_marked.specs.Signs.{mark_signs, run_signs, para_signs}
use Rattle.redl_marked.specs.MarkedText.{in_text, open_end, start_marked, end_marked, marked_in}
use Rattle.redl_marked.specs.Inside.Walks.{summary_of, inside, start_of, end_of, marked, item_marked, item_mark, item_run, item_para}
use Rattle.redl_marked.proofs.IdleLaws.{mark_idle, run_idle, para_idle}

pub marked-summary : (ancestors : List Tag) (nodes : Nodes) → marked_in ancestors nodes ≡ marked (summary_of ancestors) nodes
marked-summary ancestors no_nodes = refl
marked-summary ancestors (bytes b rest) = ap (λ t. (if in_text ancestors then shown b else []) ++ t) (marked-summary ancestors rest)
marked-summary ancestors (element tag kids rest) =
    ap (λ t. (start_marked ancestors tag ++ (t ++ end_marked ancestors tag kids)) ++ marked_in ancestors rest) (marked-summary (tag ∷ ancestors) kids)
    ∙ ap (λ t. item_marked (summary_of ancestors) (element_item tag kids) ++ t) (marked-summary ancestors rest)

pub marked-⊕ : (above : MarkedSummary) (xs ys : Nodes) → marked above (xs ⊕ ys) ≡ marked above xs ++ marked above ys
marked-⊕ above no_nodes ys = refl
marked-⊕ above (bytes b rest) ys =
    ap (λ t. (if above.text then shown b else []) ++ t) (marked-⊕ above rest ys)
    ∙ sym (append_assoc (if above.text then shown b else []) (marked above rest) (marked above ys))
marked-⊕ above (element tag kids rest) ys =
    ap (λ t. item_marked above (element_item tag kids) ++ t) (marked-⊕ above rest ys)
    ∙ sym (append_assoc (item_marked above (element_item tag kids)) (marked above rest) (marked above ys))

pub marked-in_front : (above : MarkedSummary) (x : Item) (rest : Nodes) → marked above (in_front x rest) ≡ item_marked above x ++ marked above rest
marked-in_front above (bytes_item b) rest = refl
marked-in_front above (element_item tag kids) rest = refl
marked-in_front above (idle_item t) rest = marked-⊕ above (idle_nodes t) rest

pub mark_signs-in_front : (x : Item) (rest : Nodes) → mark_signs (in_front x rest) ≡ item_mark x ++ mark_signs rest
mark_signs-in_front (bytes_item b) rest = refl
mark_signs-in_front (element_item tag kids) rest = refl
mark_signs-in_front (idle_item t) rest = mark_idle t rest

pub run_signs-in_front : (x : Item) (rest : Nodes) → run_signs (in_front x rest) ≡ item_run x ++ run_signs rest
run_signs-in_front (bytes_item b) rest = refl
run_signs-in_front (element_item tag kids) rest = refl
run_signs-in_front (idle_item t) rest = run_idle t rest

pub para_signs-in_front : (x : Item) (rest : Nodes) → para_signs (in_front x rest) ≡ item_para x ++ para_signs rest
para_signs-in_front (bytes_item b) rest = refl
para_signs-in_front (element_item tag kids) rest = refl
para_signs-in_front (idle_item t) rest = para_idle t rest

-- an element's text, with its kids as the code reads them
pub elem_text : (above inner : MarkedSummary) (tag : Tag) (kids read : Nodes) → inner ≡ inside tag above → read ≡ kids
    → start_of above tag ++ (marked (inside tag above) kids ++ end_of above tag kids) ≡ start_of above tag ++ (marked inner read ++ end_of above tag kids)
elem_text above inner tag kids read e f =
    ap (λ i. start_of above tag ++ (marked i kids ++ end_of above tag kids)) (sym e)
    ∙ ap (λ n. start_of above tag ++ (marked inner n ++ end_of above tag kids)) (sym f)

pub para_text : (tag : Tag) (kids read : Nodes) → is "p" tag ≡ true → read ≡ kids → open_end tag kids ≡ para_signs read ++ (10 ∷ [])
para_text tag kids read e f = rw (e, f) refl
