use Rattle.std.proofs.Common.{sym, ◌∙◌, ap, ◌++◌, codes}
use Rattle.std.specs.Prelude.{decimal}
use Rattle.redl_tree.specs.Model.View.{tag_of}
use Rattle.redl_page_stories.specs.Signs.{sign_text}
use Rattle.redl_html.proofs.PieceLaws.{puts_is}
use Rattle.redl_page_stories.proofs.NodeLaws.{edge-from, edge-to}
use Rattle.redl_page_stories.proofs.sign.put_edge.Goals as goal

pub returns-then-is_word : goal.returns-then-is_word
returns-then-is_word g c =
    puts_is (
    edge-from c.args.index.now (tag_of c.args.elem.now) (sym c.is_word.ensures ∙ c.if-is_word.true)
    ∙ ap (λ n. codes "<a id=\"from-" ++ (decimal n ++ (codes "\" href=\"#to-" ++ (decimal n ++ sign_text c.args.index.now (codes "\" data-revision=\"") n (codes "\">moved away</a>"))))) (sym c.rev.ensures)
    ) c.put_link.ensures

pub returns-then-is_word-2 : goal.returns-then-is_word-2
returns-then-is_word-2 g c =
    puts_is (
    edge-to c.args.index.now (tag_of c.args.elem.now) (sym c.is_word.ensures ∙ c.if-is_word.false) (sym (c.is_word-2).ensures ∙ (c.if-is_word-2).true)
    ∙ ap (λ n. codes "<a id=\"to-" ++ (decimal n ++ (codes "\" href=\"#from-" ++ (decimal n ++ sign_text c.args.index.now (codes "\" data-revision=\"") n (codes "\">moved here</a>"))))) (sym (c.rev-then-is_word-2).ensures)
    ) (c.put_link-then-is_word-2).ensures
