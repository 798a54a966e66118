-- What is written of the list of pictures, part by part.
use Rattle.std.proofs.Common.{◌≡◌, ◌∙◌, ℕ, ◌<◌, ◌≤◌, List, [], ◌∷◌, ◌++◌, Bool, true, false, ap, sym, refl, codes, length, filter, arith, if◌then◌else◌, append_assoc, append-nil}
use Rattle.std.specs.List.{flat_map}
use Rattle.redl_reading.specs.Lists.{front, after}
use Rattle.redl_html.specs.Escaping.{escaped}
use Rattle.redl_html.specs.Pieces.{HtmlPiece, own, pieces_text}
use Rattle.redl_html.proofs.EscapingLaws.{escaped-append}
use Rattle.redl_html.proofs.PieceLaws.{pieces_text-append}
use Rattle.redl_page_pictures.specs.List.{image_end, image_item, image_start, is_base64, lead_item, pictures}
use Rattle.redl_page_pictures.specs.Pictures.{Image, Pictures}
use Rattle.redl_page_pictures.specs.declared.lead.PictureLead.{PictureLead}

two_parts : (a n b k : List ℕ) → a ++ (n ++ (b ++ (k ++ []))) ≡ (a ++ n) ++ (b ++ k)
two_parts a n b k = simp (append_assoc, append-nil)

pub start-text : (image : Image) → pieces_text (image_start image)
    ≡ (codes "<li data-image=\"" ++ escaped image.name) ++ (codes "\"><img alt=\"\" src=\"data:" ++ escaped image.kind)
start-text image = two_parts (codes "<li data-image=\"") (escaped image.name) (codes "\"><img alt=\"\" src=\"data:") (escaped image.kind)

pub image-text : (image : Image) → pieces_text (image_item image) ≡ pieces_text (image_start image) ++ pieces_text (image_end image)
image-text image = pieces_text-append (image_start image) (image_end image)

lead_parts : (a s b i c t end : List ℕ) → a ++ (s ++ (b ++ (i ++ (c ++ (t ++ end))))) ≡ (a ++ s) ++ ((b ++ i) ++ ((c ++ t) ++ end))
lead_parts a s b i c t end = simp (append_assoc)

pub lead-text : (lead : PictureLead) → pieces_text (lead_item lead)
    ≡ (codes "<li data-part=\"" ++ escaped lead.source) ++ ((codes "\" data-embed=\"" ++ escaped lead.id) ++ ((codes "\" data-image=\"" ++ escaped lead.image) ++ codes "\"></li>\n"))
lead-text lead =
    lead_parts (codes "<li data-part=\"") (escaped lead.source) (codes "\" data-embed=\"") (escaped lead.id) (codes "\" data-image=\"") (escaped lead.image) (codes "\"></li>\n")

pub images-more : (image : Image) (images : List Image) → pieces_text (flat_map image_item (image ∷ images)) ≡ pieces_text (image_item image) ++ pieces_text (flat_map image_item images)
images-more image images = pieces_text-append (image_item image) (flat_map image_item images)

pub leads-more : (lead : PictureLead) (leads : List PictureLead) → pieces_text (flat_map lead_item (lead ∷ leads)) ≡ pieces_text (lead_item lead) ++ pieces_text (flat_map lead_item leads)
leads-more lead leads = pieces_text-append (lead_item lead) (flat_map lead_item leads)

pub pictures-text : (found : Pictures) → pieces_text (pictures found)
    ≡ codes "<ul class=\"pictures\" hidden>\n" ++ (pieces_text (flat_map image_item found.images) ++ (pieces_text (flat_map lead_item found.leads) ++ codes "</ul>\n"))
pictures-text found =
    let images = flat_map image_item found.images in
    let leads = flat_map lead_item found.leads in
    ap (λ l. codes "<ul class=\"pictures\" hidden>\n" ++ l) (
    pieces_text-append images (leads ++ (own "</ul>\n" ∷ []))
    ∙ ap (λ l. pieces_text images ++ l) (pieces_text-append leads (own "</ul>\n" ∷ [])))

-- ---- base64

-- what is kept of data of which this is the first byte
pub kept-next : (left : List ℕ) (b : ℕ) (bs : List ℕ) → left ≡ b ∷ bs → escaped (filter is_base64 left) ≡ escaped (if is_base64 b then b ∷ [] else []) ++ escaped (filter is_base64 bs)
kept-next left b bs e = ap (λ l. escaped (filter is_base64 l)) e ∙ by (is_base64 b)
  where
    by : (t : Bool) → escaped (if t then b ∷ filter is_base64 bs else filter is_base64 bs) ≡ escaped (if t then b ∷ [] else []) ++ escaped (filter is_base64 bs)
    by true = escaped-append (b ∷ []) (filter is_base64 bs)
    by false = refl

kept-front : (bs : List ℕ) → filter is_base64 bs ≡ front is_base64 bs ++ filter is_base64 (after is_base64 bs)
kept-front [] = refl
kept-front (b ∷ bs) = by (is_base64 b) refl (kept-front bs)
  where
    by : (t : Bool) → is_base64 b ≡ t → filter is_base64 bs ≡ front is_base64 bs ++ filter is_base64 (after is_base64 bs)
        → (if t then b ∷ filter is_base64 bs else filter is_base64 bs) ≡ (if t then b ∷ front is_base64 bs else []) ++ filter is_base64 (if t then after is_base64 bs else b ∷ bs)
    by true e h = ap (λ l. b ∷ l) h
    by false e h = sym (ap (λ t. if t then b ∷ filter is_base64 bs else filter is_base64 bs) e)

-- and of data that begins with a run of the alphabet
pub kept-run : (bs rest : List ℕ) → rest ≡ after is_base64 bs → escaped (filter is_base64 bs) ≡ escaped (front is_base64 bs) ++ escaped (filter is_base64 rest)
kept-run bs rest r =
    ap escaped (kept-front bs) ∙ escaped-append (front is_base64 bs) (filter is_base64 (after is_base64 bs))
    ∙ ap (λ l. escaped (front is_base64 bs) ++ escaped (filter is_base64 l)) (sym r)

after_short : (bs : List ℕ) → length (after is_base64 bs) ≤ length bs
after_short [] = omega arith
after_short (b ∷ bs) = by (is_base64 b) (after_short bs) where
  by : (t : Bool) → length (after is_base64 bs) ≤ length bs → length (if t then after is_base64 bs else b ∷ bs) ≤ length (b ∷ bs)
  by true h = omega arith
  by false h = omega arith

pub shorter : (left : List ℕ) (b : ℕ) (bs rest : List ℕ) → left ≡ b ∷ bs → rest ≡ after is_base64 bs → length rest < length left
shorter left b bs rest e r = rw (r, e) (omega (arith, after_short bs))
