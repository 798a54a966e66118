-- Each field is what the element says.
use Rattle.std.proofs.Common.{◌∙◌, ap, codes, Bool, List, ℕ}
use Rattle.redl_order.specs.References.{is_on}
use Rattle.redl_relations.specs.Values.{value_in}
use Rattle.redl_tree.specs.Model.View.{tag_of}
use Rattle.redl_comments.specs.declared.state.State.{State}
use Rattle.redl_comments.proofs.state.State.read.Goals as goal

abbrev state : List ℕ → List ℕ → Bool → State
state paragraph parent done = record { paragraph = paragraph; parent = parent; is_done = done }

pub returns : goal.returns
returns c =
    let tail = (tag_of c.args.elem.now).tail in
    let paragraph = c.in_ok-paragraph.ensures ∙ c.value_in.ensures ∙ ap (λ (t : List ℕ). value_in t (codes "paraId")) c.tail.ensures in
    let parent = c.in_ok-parent.ensures ∙ c.value_in-2.ensures ∙ ap (λ (t : List ℕ). value_in t (codes "paraIdParent")) c.tail-2.ensures in
    let done = c.is_on.ensures ∙ ap is_on (c.value_in-3.ensures ∙ ap (λ (t : List ℕ). value_in t (codes "done")) c.tail-3.ensures) in
    ap (λ (p : List ℕ). state p c.in_ok-parent.parent c.is_on.result) paragraph
    ∙ ap (λ (p : List ℕ). state (value_in tail (codes "paraId")) p c.is_on.result) parent
    ∙ ap (λ (b : Bool). state (value_in tail (codes "paraId")) (value_in tail (codes "paraIdParent")) b) done
