-- Worked rows: comments and their threads in a page, by computing.
use Rattle.std.proofs.Common.{◌≡◌, ℕ, List, [], ◌∷◌, ◌++◌, codes, Some, None, true, false, refl}
use Rattle.redl_comments.specs.Threads.{Threads}
use Rattle.redl_comments.specs.declared.comment.Comment.{Comment}
use Rattle.redl_html.specs.Pieces.{pieces_text}
use Rattle.redl_page_remarks.specs.Remarks.{remarks}

abbrev by : List ℕ → List ℕ → List ℕ → Comment
by id author text = record { id = id; author = author; seconds = None; text = text; last_paragraph = [] }

-- a question and the reply that says it is done
abbrev threads : Threads
threads = record { parents = None ∷ Some 0 ∷ []; done = true ∷ false ∷ [] }

none : pieces_text (remarks [] threads) ≡ codes "<ul class=\"remarks\" hidden>\n</ul>\n"
none = refl

-- a reply to a done comment is done, and texts are written escaped
two : pieces_text (remarks (by (codes "1") (codes "Ada") (codes "5 < 6?") ∷ by (codes "2") (codes "Bo & Co") (codes "Yes.") ∷ []) threads)
    ≡ codes "<ul class=\"remarks\" hidden>\n"
    ++ (codes "<li data-remark=\"1\" data-author=\"Ada\" data-date=\"\" data-done=\"yes\">5 &lt; 6?</li>\n"
    ++ (codes "<li data-remark=\"2\" data-author=\"Bo &amp; Co\" data-date=\"\" data-reply=\"1\" data-done=\"yes\">Yes.</li>\n"
    ++ codes "</ul>\n"))
two = refl
