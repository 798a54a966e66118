-- What the element is, and then the names in its tail.
use Rattle.std.proofs.Common.{ap, sym, ◌∙◌, ℕ, List}
use Rattle.std.proofs.lemmas.Result.{on_ok_weaker}
use Rattle.redl_tree.specs.Model.View.{tag_of, kids_of}
use Rattle.redl_left.proofs.NotedLaws.{noted-append}
use Rattle.redl_left.specs.Finds.{found_by, found_names, kind_in}
use Rattle.redl_left.specs.Lines.{noted_all}
use Rattle.redl_left.specs.Search.{table_of}
use Rattle.redl_left.specs.Seen.{tables_of}
use Rattle.redl_left.specs.declared.line.Line.{Line}
use Rattle.redl_left.proofs.walk.note_elem.Goals as goal

pub returns : goal.returns
returns c =
    let table = table_of c.args.below.search.now in
    let part = c.args.below.part.now in
    let tag = tag_of c.args.elem.now in
    let old = tables_of c.args.seen.now in
    let own = found_by (kind_in table tag.kind) table part c.args.parent.now tag.space tag.local tag.tail (kids_of c.args.elem.now) in
    on_ok_weaker c.note_names.result (λ e. e
    ∙ ap (λ (s : List (List Line)). noted_all s (found_names table part c.tail.result.now)) c.in_ok-note_own.ensures
    ∙ ap (λ (tail : List ℕ). noted_all (noted_all old own) (found_names table part tail)) c.tail.ensures
    ∙ sym (noted-append old own (found_names table part tag.tail))) c.note_names.ensures
