-- An element tells the excerpt at the place before its number.
use Rattle.std.proofs.Common.{◌<◌, ◌≤◌, ◌-◌, ℕ, length, inl, inr, refl, sym, ap, subst, ◌∙◌, arith}
use Rattle.std.proofs.Math.ListN.{set}
use Rattle.std.proofs.lemmas.Option.{slice_get_read}
use Rattle.redl_tree.specs.Model.View.{tag_of, kids_of}
use Rattle.redl_excerpts.specs.Excerpts.{TellsEach, is_moved, told_if_made}
use Rattle.redl_excerpts.specs.Mentions.{told_by}
use Rattle.redl_excerpts.specs.Inside.Views.{where_of}
use Rattle.redl_excerpts.proofs.TellLaws.{tells-at, tells-none, where_it_is}
use Rattle.redl_excerpts.proofs.members.tell_member.Goals as goal

pub returns-then-number-eq0-clause-told : goal.returns-then-number-eq0-clause-told
returns-then-number-eq0-clause-told c =
    let tag = tag_of c.args.elem.now in
    tells-none c.args.excerpts.now.items tag.rev (λ v. told_by (is_moved c.args.revisions.now v) (where_of c.args.here c.args.place) tag.kind tag (kids_of c.args.elem.now))
    (inl (sym c.rev-number.ensures ∙ c.if-number-eq0.true))

pub returns-then-len-number-clause-told : goal.returns-then-len-number-clause-told
returns-then-len-number-clause-told c =
    let tag = tag_of c.args.elem.now in
    tells-none c.args.excerpts.now.items tag.rev (λ v. told_by (is_moved c.args.revisions.now v) (where_of c.args.here c.args.place) tag.kind tag (kids_of c.args.elem.now))
    (inr (omega (arith, c.rev-number.ensures, c.if-len-number.true, c.len.ensures, c.args.excerpts.now.ok.0)))

pub returns-clause-told : goal.returns-clause-told
returns-clause-told c =
    let old = c.args.excerpts.now.items in
    let number = c.rev-number.result in
    let tag = tag_of c.args.elem.now in
    let mentions_of = λ (v : ℕ). told_by (is_moved c.args.revisions.now v) (where_of c.args.here c.args.place) tag.kind tag (kids_of c.args.elem.now) in
    let pos : 0 < number = omega (arith, c.if-number-eq0.false) in
    let within : number ≤ length old = omega (arith, c.if-len-number.false, c.len.ensures, c.args.excerpts.now.ok.0) in
    let before : number - 1 < length old = omega (arith, pos, within) in
    let at = slice_get_read old (length old) (number - 1) c.index_mut.result.now refl before c.index_mut.ensures.value in
    let is = c.in_ok-end.ensures.told ∙ ap (λ b. told_if_made (told_by b (where_of c.args.here c.args.place) tag.kind tag (kids_of c.args.elem.now)) c.index_mut.result.now) c.is_moved-moved.ensures in
    subst (λ n. TellsEach old (set old (number - 1) c.tell_if_made.new.excerpt) (λ v. where_it_is n v (mentions_of v))) c.rev-number.ensures
    (tells-at old number c.index_mut.result.now mentions_of c.tell_if_made.new.excerpt pos within at is)
