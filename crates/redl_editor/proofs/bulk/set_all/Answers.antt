-- Where no say changes nothing is made, and where memory runs out the says are put back. It is long because the call returns in three ways.
use Rattle.std.proofs.Common.{◌≡◌, List, [], length, map, sym, subst, ap, ◌∙◌, arith}
use Rattle.std.proofs.lemmas.Bool.{eqb-true}
use Rattle.std.proofs.lemmas.List.{nil_from_length}
use Rattle.std.specs.Vec.{vec_len}
use Rattle.redl_tree.specs.Leaves.Settings.{set_each}
use Rattle.redl_tree.specs.declared.kinds.Say.{Say}
use Rattle.redl_editor.proofs.CountLaws.{all-counted, none-counted}
use Rattle.redl_editor.proofs.FormerLaws.{former-none, former-undone}
use Rattle.redl_editor.proofs.KeptLaws.{changes-made, differ-listed}
use Rattle.redl_editor.specs.Changes.{setting_of, is_changed, former_of}
use Rattle.redl_editor.specs.Kept.{AreUnheld}
use Rattle.redl_editor.proofs.bulk.set_all.Goals as goal

pub returns-then-is_empty-clause-says : goal.returns-then-is_empty-clause-says
returns-then-is_empty-clause-says g c =
    let former = c.in_ok-former.former.items in
    let empty = eqb-true (vec_len c.in_ok-former.former) 0 (sym c.is_empty.ensures ∙ c.if-is_empty.true) in
    let count : length former ≡ 0 = omega (arith, empty) in
    let none : former ≡ [] = nil_from_length former count in
    sym (former-none c.args.says.now (map setting_of c.args.changes.now) (sym c.in_ok-former.ensures.former ∙ ap (map setting_of) none))

pub returns-in-Ok-clause-kept : goal.returns-in-Ok-clause-kept
returns-in-Ok-clause-kept g c = λ parts unheld kept.
    let old = c.args.says.now in
    let now = c.put_says.new.says in
    let settings = map setting_of c.args.changes.now in
    let made = c.in-Ok.ensures.made in
    let before : map setting_of c.deref.result.now ≡ former_of old settings = ap (map setting_of) c.deref.ensures.value ∙ c.in_ok-former.ensures.former in
    let are = changes-made old now settings (map setting_of c.deref.result.now) made.revs before c.put_says.ensures made.listed in
    c.set_stories.ensures parts c.args.tables.now (is_changed old now) old made.revs are
    (subst (λ (s : List Say). AreUnheld (is_changed old s) parts) (sym c.put_says.ensures) unheld) made.ready kept

pub returns-then-is_empty-clause-counted : goal.returns-then-is_empty-clause-counted
returns-then-is_empty-clause-counted g c = λ parts unheld kept. none-counted c.args.says.now _ _ parts

pub returns-in-Ok-clause-counted : goal.returns-in-Ok-clause-counted
returns-in-Ok-clause-counted g c = λ parts unheld kept.
    let old = c.args.says.now in
    let now = c.put_says.new.says in
    let settings = map setting_of c.args.changes.now in
    let made = c.in-Ok.ensures.made in
    let before : map setting_of c.deref.result.now ≡ former_of old settings = ap (map setting_of) c.deref.ensures.value ∙ c.in_ok-former.ensures.former in
    let are = changes-made old now settings (map setting_of c.deref.result.now) made.revs before c.put_says.ensures made.listed in
    all-counted now old (is_changed old now) made.revs are _ _ parts _ _ _ unheld kept made.ready made.count c.in-Ok.ensures.counted

pub returns-in-Ok-clause-steps : goal.returns-in-Ok-clause-steps
returns-in-Ok-clause-steps g c = λ parts kept.
    let old = c.args.says.now in
    let settings = map setting_of c.args.changes.now in
    let before : map setting_of c.deref.result.now ≡ former_of old settings = ap (map setting_of) c.deref.ensures.value ∙ c.in_ok-former.ensures.former in
    c.in-Ok.ensures.steps parts old kept (is_changed old (set_each old settings))
    (differ-listed old c.put_says.new.says settings (map setting_of c.deref.result.now) before c.put_says.ensures)

pub returns-clause-said : goal.returns-clause-said
returns-clause-said g c =
    let old = c.args.says.now in
    let settings = map setting_of c.args.changes.now in
    c.put_says-in-Err.ensures
    ∙ ap (λ cs. set_each c.put_says.new.says (map setting_of cs)) c.deref-in-Err.ensures.value
    ∙ ap (set_each c.put_says.new.says) c.in_ok-former.ensures.former
    ∙ ap (λ (s : List Say). set_each s (former_of old settings)) c.put_says.ensures
    ∙ former-undone old settings

pub returns-clause-steps : goal.returns-clause-steps
returns-clause-steps g c = λ parts kept.
    let old = c.args.says.now in
    let settings = map setting_of c.args.changes.now in
    let before : map setting_of c.deref.result.now ≡ former_of old settings = ap (map setting_of) c.deref.ensures.value ∙ c.in_ok-former.ensures.former in
    c.in-Err.ensures.steps parts old kept (is_changed old (set_each old settings))
    (differ-listed old c.put_says.new.says settings (map setting_of c.deref.result.now) before c.put_says.ensures)
