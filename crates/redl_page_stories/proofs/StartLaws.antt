-- What is written behind the opening of a paragraph, of a cell and of a structure of an equation.
use Prim.Native.String.{String}
use Rattle.std.proofs.Common.{◌≡◌, ℕ, List, [], ◌∷◌, ◌++◌, Option, None, Some, option_map, Bor, refl, ap, sym, ◌∙◌, codes}
use Rattle.redl_reading.specs.Steps.{Gives}
use Rattle.redl_tree.specs.Model.Nodes.{Nodes}
use Rattle.redl_html.specs.Pieces.{own, piece_text, pieces_text}
use Rattle.redl_html.proofs.PieceLaws.{pieces_text-append}
use Rattle.redl_page_stories.specs.Starts.{cell_pieces, description_pieces, direction_pieces, embed_pieces, empty_remark, merge_pieces, paragraph_pieces, picture_pieces, remark_pieces, sign_piece, sign_text, span_pieces, style_pieces}
use Rattle.redl_page_stories.specs.Values.{value_of}
use Rattle.redl_page_stories.specs.declared.values.Property.TheVariants.{Style, Direction, Span, Merge}

-- a value that was found, as plain data
pub found_is : (found : Option (Bor (List ℕ))) (value : Option (List ℕ)) → Gives (λ v. v.now) found value → option_map (λ v. v.now) found ≡ value
found_is None value gives = sym gives
found_is (Some x) value gives = sym gives

pub paragraph-text : (kids : Nodes) → pieces_text (paragraph_pieces kids)
    ≡ pieces_text (direction_pieces (value_of Direction kids)) ++ pieces_text (style_pieces (value_of Style kids))
paragraph-text kids = pieces_text-append (direction_pieces (value_of Direction kids)) (style_pieces (value_of Style kids))

pub cell-text : (kids : Nodes) → pieces_text (cell_pieces kids)
    ≡ pieces_text (span_pieces (value_of Span kids)) ++ (pieces_text (merge_pieces (value_of Merge kids)) ++ codes ">")
cell-text kids =
    pieces_text-append (span_pieces (value_of Span kids)) _
    ∙ ap (λ l. pieces_text (span_pieces (value_of Span kids)) ++ l) (pieces_text-append (merge_pieces (value_of Merge kids)) (own ">" ∷ []))

-- a sign of an equation as it is written
pub sign-written : (usual : String) (sign : Option (List ℕ)) → piece_text (sign_piece usual sign) ≡ sign_text (codes usual) sign
sign-written usual None = refl
sign-written usual (Some sign) = refl

pub picture-text : (embed description : Option (List ℕ)) → pieces_text (picture_pieces embed description) ≡ pieces_text (embed_pieces embed) ++ pieces_text (description_pieces description)
picture-text embed description = pieces_text-append (embed_pieces embed) (description_pieces description)

pub remark-text : (id : Option (List ℕ)) → pieces_text (empty_remark id) ≡ pieces_text (remark_pieces id) ++ codes "</span>"
remark-text id = pieces_text-append (remark_pieces id) (own "</span>" ∷ [])
