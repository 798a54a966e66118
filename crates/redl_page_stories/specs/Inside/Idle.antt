-- What idle elements show that a list keeps as text. They are in no revision, and none of them is a block.
use Rattle.std.specs.Prelude.{ℕ, List, ◌∷◌, Bool, ◌&&◌, not, codes, if◌then◌else◌}
use Rattle.redl_tree.specs.Model.Nodes.{Nodes}
use Rattle.redl_tree.specs.Roles.Names.{is, of_w}
use Rattle.redl_idle.specs.Shows.{ShowRule, shows}
use Rattle.redl_shown.specs.Shown.{shown}
use Rattle.redl_page_stories.specs.declared.idle.Within.{Within}
use Rattle.redl_page_stories.specs.declared.place.PageSummary.{PageSummary}
use Rattle.redl_page_stories.specs.declared.shape.Shape.{Shape}
use Rattle.redl_page_stories.specs.declared.shape.Shape.TheVariants.{Nothing}
use Rattle.redl_page_stories.specs.Document.{bytes_pieces}
use Rattle.redl_html.specs.Pieces.{HtmlPiece, own, pieces_text}
use Rattle.redl_hidden.specs.Styles.{HiddenStyles}
use Rattle.redl_places.specs.Places.{Signs}
use Rattle.redl_page_stories.specs.Facts.{Facts}
use Rattle.redl_page_stories.specs.Shapes.{behind_alone, closing, inline_shape, opening, reference_shape, run_shape}
use Rattle.redl_page_stories.specs.Views.{facts_of}

-- what an idle element with this local name and these kids is shown as, by its name, in a paragraph that hides its runs or not
abbrev pub idle_named : HiddenStyles → Bool → List ℕ → Nodes → Shape
idle_named hidden paragraph local kids =
    if is "r" (of_w local) then run_shape hidden paragraph kids
    else inline_shape (reference_shape (of_w local)) (of_w local)

-- the same where no ancestor holds properties, and else nothing
abbrev pub idle_shape : HiddenStyles → PageSummary → List ℕ → Nodes → Shape
idle_shape hidden place local kids = if place.loud then idle_named hidden place.hides local kids else Nothing

-- what comes before its kids, where the element has this tail; no drawing in it says what it shows
abbrev pub idle_start : Signs → Shape → List ℕ → List HtmlPiece
idle_start signs shape tail = own (opening shape) ∷ behind_alone signs shape tail

-- the place of its kids: it is no paragraph
abbrev pub idle_place : PageSummary → List ℕ → PageSummary
idle_place place local = record {
  loud = place.loud && not (is "rPr" (of_w local));
  shows = place.loud && is "t" (of_w local);
  hides = place.hides;
}

abbrev pub facts_in : Within → Facts
facts_in within = facts_of within.facts.now

abbrev pub idle_within : Within → List ℕ → Nodes → Within
idle_within within local kids = record within {
  place = idle_place within.place local;
  shape = idle_shape (facts_in within).hidden within.place local kids;
}

abbrev pub page_rule : ShowRule Within
page_rule = record {
  bytes = λ within b. pieces_text (bytes_pieces shown within.place b);
  start = λ within local tail kids. pieces_text (idle_start (facts_in within).signs (idle_shape (facts_in within).hidden within.place local kids) tail);
  inside = λ within local tail kids. idle_within within local kids;
  end = λ within. codes (closing within.shape);
}

-- idle nodes that stand so
abbrev pub idle_text : Within → Nodes → List ℕ
idle_text within nodes = shows page_rule within nodes
