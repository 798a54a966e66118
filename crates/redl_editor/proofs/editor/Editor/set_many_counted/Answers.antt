-- After setting many says the editor holds the same package under them. It is long because its invariant is stated field by field.
use Rattle.std.proofs.Common.{◌≡◌, ◌∙◌, List, All, length, map, refl, sym, subst, ap, arith}
use Rattle.std.proofs.lemmas.List.{with_items_is}
use Rattle.std.specs.List.Sorted.{IsNonDecreasingBy}
use Rattle.std.specs.Result.{OnOk}
use Rattle.std.specs.Vec.{vec_len, with_items}
use Rattle.redl_tree.specs.Decisions.Packages.{stories}
use Rattle.redl_tree.specs.Leaves.Settings.{set_each}
use Rattle.redl_tree.specs.declared.kinds.Say.{Say}
use Rattle.redl_editor.proofs.CountLaws.{on-ok}
use Rattle.redl_editor.proofs.DocumentLaws.{numbered-unheld, set-either, set-document}
use Rattle.redl_editor.proofs.KeptLaws.{kept-rises, kept-tables}
use Rattle.redl_editor.specs.Changes.{is_changed, setting_of}
use Rattle.redl_editor.specs.Costs.{AreCounted}
use Rattle.redl_editor.specs.Documents.{Document, IsConsistent}
use Rattle.redl_editor.specs.Stories.{original_package}
use Rattle.redl_editor.specs.declared.story.Story.{Story}
use Rattle.redl_editor.specs.declared.table.Table.{Table}
use Rattle.redl_editor.proofs.editor.Editor.set_many_counted.Goals as goal

pub set_all-requires-clause-rises : goal.set_all-requires-clause-rises
set_all-requires-clause-rises g c =
    let whole = original_package c.self.inside.nodes.items c.self.inside.stories.items in
    subst (λ (tables : List Table). All (λ (table : Table). IsNonDecreasingBy (λ one. one.rev) table.held.items) tables) (sym c.deref.ensures.value)
    (kept-rises c.self.inside.says.items (stories whole) c.self.inside.stories.items c.self.inside.tables.items c.self.invariant.kept)

pub set_all-requires-clause-as_many : goal.set_all-requires-clause-as_many
set_all-requires-clause-as_many g c =
    let whole = original_package c.self.inside.nodes.items c.self.inside.stories.items in
    ap (λ (tables : List Table). length tables) c.deref.ensures.value
    ∙ kept-tables c.self.inside.says.items (stories whole) c.self.inside.stories.items c.self.inside.tables.items c.self.invariant.kept
    ∙ sym (ap (λ (kept : List Story). length kept) c.deref_mut.ensures.value)

pub invariant_of-self : goal.invariant_of-self
invariant_of-self g c =
    let nodes = c.self.inside.nodes.items in
    let kept = c.self.inside.stories in
    let tables = c.self.inside.tables.items in
    let says = c.self.inside.says in
    let many : length c.set_all.new.stories ≡ vec_len kept = omega (arith, c.set_all.auto.stories, c.deref_mut.ensures.len) in
    let long : length c.set_all.new.says ≡ vec_len says = omega (arith, c.set_all.auto.says, c.deref_mut-2.ensures.len) in
    let kept_is : (with_items kept c.set_all.new.stories).items ≡ c.set_all.new.stories = with_items_is kept c.set_all.new.stories many in
    let says_is : (with_items says c.set_all.new.says).items ≡ c.set_all.new.says = with_items_is says c.set_all.new.says long in
    let said = rw c.deref_mut-2.ensures.value at c.set_all.ensures.says in
    let keeps = rw (c.deref_mut.ensures.value, c.deref.ensures.value, c.deref_mut-2.ensures.value) at c.set_all.ensures.kept in
    let stays = rw c.deref_mut-2.ensures.value at c.set_all.ensures.said in
    let untouched = rw c.deref_mut.ensures.value at c.set_all.ensures.untouched in
    let numbers = c.self.inside.parts.items in
    subst (λ (s : List Story). IsConsistent nodes s tables (with_items says c.set_all.new.says).items numbers) (sym kept_is)
    (subst (λ (s : List Say). IsConsistent nodes c.set_all.new.stories tables s numbers) (sym says_is)
    (set-either nodes kept.items c.set_all.new.stories tables says.items c.set_all.new.says (map setting_of c.args.changes.now) c.set_all.result c.self.invariant said keeps stays untouched))

pub returns-clause-says : goal.returns-clause-says
returns-clause-says g c =
    let nodes = c.self.inside.nodes.items in
    let kept = c.self.inside.stories in
    let tables = c.self.inside.tables.items in
    let says = c.self.inside.says in
    let settings = map setting_of c.args.changes.now in
    let many : length c.set_all.new.stories ≡ vec_len kept = omega (arith, c.set_all.auto.stories, c.deref_mut.ensures.len) in
    let long : length c.set_all.new.says ≡ vec_len says = omega (arith, c.set_all.auto.says, c.deref_mut-2.ensures.len) in
    let kept_is : (with_items kept c.set_all.new.stories).items ≡ c.set_all.new.stories = with_items_is kept c.set_all.new.stories many in
    let says_is : (with_items says c.set_all.new.says).items ≡ c.set_all.new.says = with_items_is says c.set_all.new.says long in
    let said = rw c.deref_mut-2.ensures.value at c.set_all.ensures.says in
    let keeps = rw (c.deref_mut.ensures.value, c.deref.ensures.value, c.deref_mut-2.ensures.value) at c.set_all.ensures.kept in
    let document = set-document nodes kept.items c.set_all.new.stories tables says.items c.set_all.new.says settings c.set_all.result c.self.invariant said keeps in
    subst (λ (d : Document). OnOk c.set_all.result (◌≡◌ {A = Document}
    (record { nodes = original_package nodes (with_items kept c.set_all.new.stories).items; says = (with_items says c.set_all.new.says).items })
    (record { nodes = d.nodes; says = set_each d.says settings }))) c.self.view_is
    (subst (λ (s : List Story). OnOk c.set_all.result (◌≡◌ {A = Document} (record { nodes = original_package nodes s; says = (with_items says c.set_all.new.says).items })
    (record { nodes = original_package nodes kept.items; says = set_each says.items settings }))) (sym kept_is)
    (subst (λ (s : List Say). OnOk c.set_all.result (◌≡◌ {A = Document} (record { nodes = original_package nodes c.set_all.new.stories; says = s })
    (record { nodes = original_package nodes kept.items; says = set_each says.items settings }))) (sym says_is) document))

pub returns-clause-counted : goal.returns-clause-counted
returns-clause-counted g c =
    let whole = original_package c.self.inside.nodes.items c.self.inside.stories.items in
    let says = c.self.inside.says in
    let now = c.set_all.new.says in
    let long : length now ≡ vec_len says = omega (arith, c.set_all.auto.says, c.deref_mut-2.ensures.len) in
    let says_is : (with_items says now).items ≡ now = with_items_is says now long in
    let counted = rw (c.deref_mut.ensures.value, c.deref.ensures.value, c.deref_mut-2.ensures.value) at c.set_all.ensures.counted in
    let unheld = numbered-unheld whole c.self.invariant.numbered (is_changed says.items now) refl in
    subst (λ (d : Document). OnOk c.set_all.result (AreCounted (is_changed d.says (with_items says now).items) (with_items says now).items c.args.steps.now c.set_all.new.steps (stories d.nodes))) c.self.view_is
    (subst (λ (s : List Say). OnOk c.set_all.result (AreCounted (is_changed says.items s) s c.args.steps.now c.set_all.new.steps (stories whole))) (sym says_is)
    (on-ok c.set_all.result (λ all. all (stories whole) unheld c.self.invariant.kept) counted))
