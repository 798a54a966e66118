-- What is written of the page, part by part.
use Rattle.std.proofs.Common.{◌≡◌, ℕ, List, [], ◌∷◌, ◌++◌, Bool, length, Option, ap, ◌∙◌, codes, append_assoc, append-nil}
use Rattle.redl_journal.specs.declared.entry.Entry.{Entry}
use Rattle.redl_tree.specs.Model.Nodes.{Nodes}
use Rattle.redl_shown.specs.Shown.{shown}
use Rattle.redl_page.specs.Changes.{changes, reviewers}
use Rattle.redl_page_stories.specs.Document.{document_pieces}
use Rattle.redl_page_remarks.specs.Remarks.{package_remarks}
use Rattle.redl_page_numbers.specs.Pieces.{numbers_pieces}
use Rattle.redl_page.specs.Page.{Heading, Shown, Skin, before_changes, before_policy, body, body_head, body_start, fact_lists, head_text, heading_attributes, lists, picture_list, rank_attribute, reviewer_list, title_attribute, title_piece}
use Rattle.redl_html.specs.Pieces.{HtmlPiece, own, piece_text, pieces_text}
use Rattle.redl_html.proofs.PieceLaws.{pieces_text-append}

pub head-text : (skin : Skin) (title : Option (List ℕ)) → head_text skin title
    ≡ (pieces_text before_policy ++ (skin.policy ++ (codes "\">\n<meta name=\"viewport\" content=\"width=device-width, initial-scale=1\">\n<title>" ++ [])))
    ++ (piece_text (title_piece title) ++ (codes "</title>\n<style>" ++ (skin.style ++ [])))
head-text skin title =
    parts (pieces_text before_policy) skin.policy (codes "\">\n<meta name=\"viewport\" content=\"width=device-width, initial-scale=1\">\n<title>") (piece_text (title_piece title))
    (codes "</title>\n<style>") skin.style where
      parts : (start policy before title after style : List ℕ) → start ++ (policy ++ ((before ++ (title ++ (after ++ []))) ++ style))
          ≡ (start ++ (policy ++ (before ++ []))) ++ (title ++ (after ++ (style ++ [])))
      parts start policy before title after style = simp (append_assoc, append-nil)

pub body_head-text : (digest : List ℕ) (count : ℕ) (heading : Heading) → pieces_text (body_head digest count heading)
    ≡ pieces_text (body_start digest count) ++ (pieces_text (heading_attributes heading) ++ codes "\">\n<main lang=\"\">\n")
body_head-text digest count heading =
    let end : List HtmlPiece = own "\">\n<main lang=\"\">\n" ∷ [] in
    pieces_text-append (body_start digest count) (heading_attributes heading ++ end)
    ∙ ap (λ l. pieces_text (body_start digest count) ++ l) (pieces_text-append (heading_attributes heading) end)

pub heading-text : (heading : Heading) → pieces_text (heading_attributes heading) ≡ pieces_text (title_attribute heading.title) ++ pieces_text (rank_attribute heading.rank)
heading-text heading = pieces_text-append (title_attribute heading.title) (rank_attribute heading.rank)

pub reviewer_list-text : (book : List Entry) → pieces_text (reviewer_list book) ≡ codes "</ol>\n<ul>\n" ++ (pieces_text (reviewers book) ++ codes "</ul>\n")
reviewer_list-text book = ap (λ l. codes "</ol>\n<ul>\n" ++ l) (pieces_text-append (reviewers book) _)

pub lists-text : (page : Shown) → pieces_text (lists page)
    ≡ codes before_changes
    ++ (pieces_text (changes page.book page.revisions page.locked page.said) ++ (pieces_text (reviewer_list page.book) ++ pieces_text (fact_lists page.heading.pictures page.nodes)))
lists-text page =
    let items = changes page.book page.revisions page.locked page.said in
    let facts = fact_lists page.heading.pictures page.nodes in
    ap (λ l. codes before_changes ++ l) (
    pieces_text-append items (reviewer_list page.book ++ facts) ∙ ap (λ l. pieces_text items ++ l) (pieces_text-append (reviewer_list page.book) facts))

pub facts-text : (pictures : Bool) (nodes : Nodes) → pieces_text (fact_lists pictures nodes)
    ≡ pieces_text (package_remarks nodes) ++ (pieces_text (numbers_pieces nodes) ++ (pieces_text (picture_list pictures nodes) ++ codes "</aside>\n<script>"))
facts-text pictures nodes =
    let end : List HtmlPiece = own "</aside>\n<script>" ∷ [] in
    let after_numbers = picture_list pictures nodes ++ end in
    pieces_text-append (package_remarks nodes) (numbers_pieces nodes ++ after_numbers)
    ∙ ap (λ l. pieces_text (package_remarks nodes) ++ l) (
    pieces_text-append (numbers_pieces nodes) after_numbers
    ∙ ap (λ l. pieces_text (numbers_pieces nodes) ++ l) (pieces_text-append (picture_list pictures nodes) end))

pub body-text : (page : Shown) → pieces_text (body page)
    ≡ pieces_text (body_head page.digest (length page.revisions) page.heading) ++ (pieces_text (document_pieces shown page.revisions page.nodes) ++ pieces_text (lists page))
body-text page =
    pieces_text-append (body_head page.digest (length page.revisions) page.heading) (document_pieces shown page.revisions page.nodes ++ lists page)
    ∙ ap (λ l. pieces_text (body_head page.digest (length page.revisions) page.heading) ++ l) (pieces_text-append (document_pieces shown page.revisions page.nodes) (lists page))
