-- The page: one document of HTML (the living standard) that shows a package with its changes. It is a function of the package, of the
-- book, of what is locked, of the digest, of what the sender gives, and of the skin: the program's own policy, style and script.
use Prim.Native.String.{String}
use Rattle.std.specs.Prelude.{ℕ, List, [], ◌∷◌, ◌++◌, Bool, true, false, Option, Some, None, length}
use Rattle.hex.specs.Hex.{encode_lower}
use Rattle.redl_tree.specs.Model.Nodes.{Nodes}
use Rattle.redl_index.specs.declared.revision.Revision.{Revision}
use Rattle.redl_journal.specs.declared.entry.Entry.{Entry}
use Rattle.redl_shown.specs.Shown.{shown}
use Rattle.redl_html.specs.Pieces.{HtmlPiece, own, number, outside, pieces_text}
use Rattle.redl_page_stories.specs.Document.{document_pieces}
use Rattle.redl_page_remarks.specs.Remarks.{package_remarks}
use Rattle.redl_page_numbers.specs.Pieces.{numbers_pieces}
use Rattle.redl_page_pictures.specs.List.{package_list}
use Rattle.redl_page.specs.Changes.{changes, reviewers}
use Rattle.redl_page.specs.declared.item.ItemWords.{ItemWords}

-- what stands as it is in the page: the content security policy, the style and the script
pub record Skin : Type 0 where
  pub policy : List ℕ
  pub style : List ℕ
  pub script : List ℕ

-- what the sender of a page gives: a title of the document, a rank for what is decided on the page, and whether it has the pictures
pub record Heading : Type 0 where
  pub title : Option (List ℕ)
  pub rank : Option ℕ
  pub pictures : Bool

abbrev pub heading_with : Option (List ℕ) → Option ℕ → Bool → Heading
heading_with title rank pictures = record { title = title; rank = rank; pictures = pictures }

-- a package with its revisions, which of these are locked, what is said of each of them, the book of its journals, its digest,
-- and what the sender gives
pub record Shown : Type 0 where
  pub nodes : Nodes
  pub revisions : List Revision
  pub locked : List Bool
  pub said : List ItemWords
  pub book : List Entry
  pub digest : List ℕ
  pub heading : Heading

-- before the policy, and between policy and style
abbrev pub before_policy : List HtmlPiece
before_policy =
    own "<!DOCTYPE html>\n<html lang=\"en\">\n<head>\n<meta charset=\"utf-8\">\n<meta http-equiv=\"Content-Security-Policy\" content=\"" ∷ []

-- the title, or the program's own
abbrev pub title_piece : Option (List ℕ) → HtmlPiece
title_piece None = own "Redline: changes to decide"
title_piece (Some title) = outside title

abbrev pub before_style : Option (List ℕ) → List HtmlPiece
before_style title =
    own "\">\n<meta name=\"viewport\" content=\"width=device-width, initial-scale=1\">\n<title>" ∷ title_piece title ∷ own "</title>\n<style>" ∷ []

-- the body has the digest and the number of revisions, and the title and the rank where they are given
abbrev pub title_attribute : Option (List ℕ) → List HtmlPiece
title_attribute None = []
title_attribute (Some title) = own "\" data-title=\"" ∷ outside title ∷ []

abbrev pub rank_attribute : Option ℕ → List HtmlPiece
rank_attribute None = []
rank_attribute (Some rank) = own "\" data-rank=\"" ∷ number rank ∷ []

abbrev pub body_start : List ℕ → ℕ → List HtmlPiece
body_start digest count =
    own "</style>\n</head>\n<body data-document=\"" ∷ outside (encode_lower digest) ∷ own "\" data-revisions=\"" ∷ number count ∷ []

abbrev pub heading_attributes : Heading → List HtmlPiece
heading_attributes heading = title_attribute heading.title ++ rank_attribute heading.rank

abbrev pub body_head : List ℕ → ℕ → Heading → List HtmlPiece
body_head digest count heading = body_start digest count ++ (heading_attributes heading ++ (own "\">\n<main lang=\"\">\n" ∷ []))

abbrev pub reviewer_list : List Entry → List HtmlPiece
reviewer_list book = own "</ol>\n<ul>\n" ∷ (reviewers book ++ (own "</ul>\n" ∷ []))

abbrev pub picture_list : Bool → Nodes → List HtmlPiece
picture_list false nodes = []
picture_list true nodes = package_list nodes

-- what the script shows beside the text: the comments, the numbers of paragraphs, and the pictures
abbrev pub fact_lists : Bool → Nodes → List HtmlPiece
fact_lists pictures nodes = package_remarks nodes ++ (numbers_pieces nodes ++ (picture_list pictures nodes ++ (own "</aside>\n<script>" ∷ [])))

-- before the list of changes: without its script a page says so
abbrev pub before_changes : String
before_changes =
    "</main>\n<aside aria-label=\"Changes\">\n<noscript><p>Deciding needs the script of this page, which does not run here. The words below are what the journals say.</p></noscript>\n<ol>\n"

abbrev pub lists : Shown → List HtmlPiece
lists page =
    own before_changes
    ∷ (changes page.book page.revisions page.locked page.said ++ (reviewer_list page.book ++ fact_lists page.heading.pictures page.nodes))

-- the document, the list of changes, the reviewers, and what is shown beside the text
abbrev pub body : Shown → List HtmlPiece
body page =
    body_head page.digest (length page.revisions) page.heading ++ (document_pieces shown page.revisions page.nodes ++ lists page)

abbrev pub after_script : List HtmlPiece
after_script = own "</script>\n</body>\n</html>\n" ∷ []

-- what comes before the body's pieces under this title, and after them
abbrev pub head_text : Skin → Option (List ℕ) → List ℕ
head_text skin title = pieces_text before_policy ++ (skin.policy ++ (pieces_text (before_style title) ++ skin.style))

abbrev pub end_text : Skin → List ℕ
end_text skin = skin.script ++ pieces_text after_script

-- the whole page: its head, its body and its end
abbrev pub page_text : Skin → Shown → List ℕ
page_text skin page = head_text skin page.heading.title ++ (pieces_text (body page) ++ end_text skin)
