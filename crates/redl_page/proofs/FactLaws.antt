-- What is put of the facts of a package is what is said of the package.
use Rattle.std.proofs.Common.{◌≡◌, ◌∙◌, ap, sym, subst, All}
use Rattle.redl_tree.specs.Model.Nodes.{Nodes}
use Rattle.redl_comments.specs.Comments.{comments_of}
use Rattle.redl_page_numbers.specs.Pieces.{lists_of, numbers_pieces}
use Rattle.redl_page_remarks.specs.Remarks.{IsDated, remarks, package_remarks}
use Rattle.redl_page_remarks.proofs.DateLaws.{comments-dated}
use Rattle.redl_page.specs.PageViews.{AreFacts}
use Rattle.redl_page.specs.declared.facts.PageFacts.{PageFacts}

pub remarks-are : (facts : PageFacts) (nodes : Nodes) → AreFacts facts nodes → package_remarks nodes ≡ remarks facts.comments.items facts.threads
remarks-are facts nodes known = sym (ap (λ cs. remarks cs facts.threads) known.comments ∙ ap (remarks (comments_of nodes)) known.threads)

pub numbers-are : (facts : PageFacts) (nodes : Nodes) → AreFacts facts nodes → numbers_pieces nodes ≡ lists_of facts.numbers
numbers-are facts nodes known = ap lists_of (sym known.numbers)

pub facts-dated : (facts : PageFacts) (nodes : Nodes) → AreFacts facts nodes → All IsDated facts.comments.items
facts-dated facts nodes known = subst (All IsDated) (sym known.comments) (comments-dated nodes)
