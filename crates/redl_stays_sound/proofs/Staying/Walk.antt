-- The walk over a story: each member and marker that is kept, and that stands with all around it, is in what a pass leaves.
use Rattle.std.proofs.Common.{◌≡◌, ℕ, List, [], ◌∷◌, Bool, true, false, ◌&&◌, inl, inr, map, refl, sym, ap, subst, true≢false, if◌then◌else◌}
use Rattle.redl_laws.proofs.Soundness.AllRules.{nine}
use Rattle.redl_laws.proofs.Soundness.Walk.{Ground, Stands, p_made}
use Rattle.redl_laws.proofs.Survival.Indexed.{indexed_stories, passed, stories-pass}
use Rattle.redl_stays_sound.proofs.Settled.Ground.{AreGrounded, grounded}
use Rattle.redl_stays_sound.proofs.Staying.Elements.{ElementHas, Has, InnerHas, IsStanding, OnPath, StaysHas, inner-has, inner-of, inside-has, kept-parts, own-has, standing}
use Rattle.redl_stays_sound.proofs.Staying.Lists.{HasBeside, HasIf, PieceHas, PiecesHave, PiecesHaveIf, is_beside}
use Rattle.redl_stays_sound.proofs.Staying.Names.{member-name}
use Rattle.redl_stays_sound.proofs.Staying.Properties.{made-has}
use Rattle.redl_stays_sound.specs.Kept.{is_kept}
use Rattle.redl_stays_sound.specs.Staying.{AllKeptStay, HasKept, HasTag, StayIn, tags_of}
use Rattle.redl_tree.proofs.Decisions.PassLaws.{block_p}
use Rattle.redl_tree.specs.Decisions.Fates.{fate_of, renamed}
use Rattle.redl_tree.specs.Decisions.Groups.{GroupPiece, para, thick, thin}
use Rattle.redl_tree.specs.Decisions.Packages.{stories}
use Rattle.redl_tree.specs.Decisions.Pass.{element_pass, is_block_para, kept_kids, pass, pieces}
use Rattle.redl_tree.specs.Decisions.Tables.{para_is_cut}
use Rattle.redl_tree.specs.Model.Nodes.{Nodes, Tag, bytes, element, no_nodes}
use Rattle.redl_tree.specs.Model.View.{Element}
use Rattle.redl_tree.specs.Revisions.Markers.{Value}
use Rattle.redl_tree.specs.Roles.Kinds.{is_leave}
use Rattle.redl_tree.specs.Roles.Lists.{in_blocks, is_thick}
use Rattle.redl_tree.specs.Roles.Names.{is}
use Rattle.redl_tree.specs.Rules.Sound.{test_8}
use Rattle.redl_tree.specs.declared.kinds.Say.{Say}

third-false : (a b c : Bool) → (a && (b && c)) ≡ false → a ≡ true → b ≡ true → c ≡ false
third-false true true c e p q = e
third-false true false c e p q = absurd (true≢false (sym q))
third-false false b c e p q = absurd (true≢false (sym p))

module _ (says : List Say) (t : Tag) where
  -- ---- one piece more

  if-more : (names : Tag → Bool) (x : GroupPiece) (ps : List GroupPiece) → PiecesHaveIf names t ps → PiecesHaveIf names t (x ∷ ps)
  if-more names (para own cut kids) ps h = h
  if-more names (thin nodes) ps h = inr h
  if-more names (thick nodes) ps h = inr h

  has-more : (above : List Element) (own : Tag) (x : GroupPiece) (ps : List GroupPiece) → Has says t above own ps → Has says t above own (x ∷ ps)
  has-more above own x ps (inl h) = inl (h.0, inr h.1)
  has-more above own x ps (inr (inl h)) = inr (inl (h.0, if-more is_beside x ps h.1))
  has-more above own x ps (inr (inr h)) = inr (inr (λ names e. if-more names x ps (h names e)))

  -- ---- the piece of an element

  abbrev piece_by : Bool → Bool → List Tag → Tag → Nodes → Nodes → GroupPiece
  piece_by is_para heavy old own kids passed =
      if is_para then para (renamed says old own) (para_is_cut says kids) (kept_kids says old own kids passed)
      else if heavy then thick (element_pass says old own kids passed) else thin (element_pass says old own kids passed)

  piece-if : (names : Tag → Bool) (old : List Tag) (own : Tag) (kids passed : Nodes) (ps : List GroupPiece) (p heavy : Bool) → p ≡ false
      → HasIf names t (element_pass says old own kids passed) → PiecesHaveIf names t (piece_by p heavy old own kids passed ∷ ps)
  piece-if names old own kids passed ps true heavy e h = absurd (true≢false e)
  piece-if names old own kids passed ps false true e h = inl h
  piece-if names old own kids passed ps false false e h = inl h

  piece-para : (old : List Tag) (own : Tag) (kids passed : Nodes) (ps : List GroupPiece) (p heavy : Bool) → p ≡ true
      → PieceHas t (para (renamed says old own) (para_is_cut says kids) (kept_kids says old own kids passed)) → PiecesHave t (piece_by p heavy old own kids passed ∷ ps)
  piece-para old own kids passed ps true heavy e h = inl h
  piece-para old own kids passed ps false heavy e h = absurd (true≢false (sym e))

  stays-if : (names : Tag → Bool) (old : List Tag) (own : Tag) (kids passed : Nodes) → names (renamed says old own) ≡ true → StaysHas says t old own kids passed
      → HasIf names t (element_pass says old own kids passed)
  stays-if names old own kids passed e h = subst (λ (n : Nodes). HasIf names t n) (sym h.1) (inl (e, h.2))

  -- ---- an element of a list

  module _ (parent : Element) (above : List Element) (own : Tag) (kids rest : Nodes) (stand : Stands test_8 (tags_of (parent ∷ above)) own kids)
      (ground : Ground test_8 (own ∷ tags_of (parent ∷ above)) kids) (stays : IsStanding says (parent ∷ above) own kids) where
    abbrev old : List Tag
    old = tags_of (parent ∷ above)

    abbrev inner_nodes : Nodes
    inner_nodes = pass says (own ∷ tags_of (parent ∷ above)) kids

    abbrev later : List GroupPiece
    later = pieces says (tags_of (parent ∷ above)) rest

    own-path : own ≡ t → is_kept says own ≡ true → OnPath says t (parent ∷ above) (element own kids rest)
    own-path found kept =
        let name = member-name old own stand.fits (kept-parts says own kept).0 in
        let other : is_block_para says old own ≡ false = ap (λ b. b && in_blocks old && is_leave (fate_of says own)) name.2 in
        record {
          tag = own;
          kids = kids;
          stand = stand;
          below = ground;
          stays = stays;
          own = inl (found, kept);
          among = inl refl;
          has = inr (inr (λ names e. piece-if names old own kids inner_nodes later (is_block_para says old own) (is_thick own) other
              (stays-if names old own kids inner_nodes e (own-has says t (parent ∷ above) own kids stand.fits stays found kept inner_nodes))));
        }

    module _ (kept : HasKept says (record { tag = own; kids = kids } ∷ (parent ∷ above)) kids t) (path : OnPath says t (record { tag = own; kids = kids } ∷ (parent ∷ above)) kids) where
      inner : InnerHas says t (record { tag = own; kids = kids } ∷ (parent ∷ above)) kids
      inner = inner-of says t (record { tag = own; kids = kids } ∷ (parent ∷ above)) kids path

      made : HasTag t (kept_kids says (tags_of (parent ∷ above)) own kids (pass says (own ∷ tags_of (parent ∷ above)) kids))
      made = made-has says t (parent ∷ above) own kids ground stand.rules.rule_4 path inner

      para-has : is_block_para says old own ≡ true → InnerHas says t (record { tag = own; kids = kids } ∷ (parent ∷ above)) kids
          → PieceHas t (para (renamed says old own) (para_is_cut says kids) (kept_kids says old own kids inner_nodes))
      para-has e (inl h) = inl (subst (λ (n : Nodes). HasBeside t n) (sym (p_made test_8 says old own kids (block_p says old own e) ground)) h)
      para-has e (inr props) = inr (
        third-false (is "pPr" props.tag) (is_block_para says old own) (para_is_cut says kids) props.uncut props.is_pPr e,
        subst (λ (n : Nodes). HasTag t n) (sym (p_made test_8 says old own kids (block_p says old own e) ground)) props.has,
      )

      other-has : is_block_para says old own ≡ false → ElementHas says t old own kids inner_nodes
          → Has says t (parent ∷ above) own (pieces says old (element own kids rest))
      other-has e (inl h) = inr (inr (λ names n. piece-if names old own kids inner_nodes later (is_block_para says old own) (is_thick own) e (stays-if names old own kids inner_nodes n h)))
      other-has e (inr h) = inr (inl (h.0, piece-if is_beside old own kids inner_nodes later (is_block_para says old own) (is_thick own) e h.1))

      has : (b : Bool) → is_block_para says old own ≡ b → Has says t (parent ∷ above) own (pieces says old (element own kids rest))
      has true e = inl (e, piece-para old own kids inner_nodes later (is_block_para says old own) (is_thick own) e (para-has e inner))
      has false e = other-has e (inside-has says t (parent ∷ above) own kids stand ground stays kept inner made)

      inside-path : OnPath says t (parent ∷ above) (element own kids rest)
      inside-path = record {
        tag = own;
        kids = kids;
        stand = stand;
        below = ground;
        stays = stays;
        own = inr kept;
        among = inl refl;
        has = has (is_block_para says old own) refl;
      }

  -- ---- a list

  pub path : (parent : Element) (above : List Element) (nodes : Nodes) → Ground test_8 (tags_of (parent ∷ above)) nodes → HasKept says (parent ∷ above) nodes t
      → OnPath says t (parent ∷ above) nodes
  path parent above no_nodes g h = absurd h
  path parent above (bytes b rest) g h =
      let p = path parent above rest g h in
      record {
        tag = p.tag;
        kids = p.kids;
        stand = p.stand;
        below = p.below;
        stays = p.stays;
        own = p.own;
        among = p.among;
        has = has-more (parent ∷ above) p.tag (thin (bytes b no_nodes)) (pieces says (tags_of (parent ∷ above)) rest) p.has;
      }
  path parent above (element own kids rest) g (inl (stand, inl found)) =
      own-path parent above own kids rest g.0 g.1 (standing says parent above own kids stand) found.0 found.1
  path parent above (element own kids rest) g (inl (stand, inr kept)) =
      inside-path parent above own kids rest g.0 g.1 (standing says parent above own kids stand) kept (path (record { tag = own; kids = kids }) (parent ∷ above) kids g.1 kept)
  path parent above (element own kids rest) g (inr h) =
      let p = path parent above rest g.2 h in
      record {
        tag = p.tag;
        kids = p.kids;
        stand = p.stand;
        below = p.below;
        stays = p.stays;
        own = p.own;
        among = inr p.among;
        has = has-more (parent ∷ above) p.tag
            (piece_by (is_block_para says (tags_of (parent ∷ above)) own) (is_thick own) (tags_of (parent ∷ above)) own kids (pass says (own ∷ tags_of (parent ∷ above)) kids))
            (pieces says (tags_of (parent ∷ above)) rest) p.has;
      }

-- ---- stories

stay-in : (says : List Say) (xs : List Element) → AreGrounded xs → StayIn says xs (map (passed says) xs)
stay-in says [] ground = tt
stay-in says (x ∷ xs) ground = (
  λ tag kept. inner-has says tag (x ∷ []) x.kids (inner-of says tag (x ∷ []) x.kids (path says tag x [] x.kids ground.1 kept)),
  stay-in says xs ground.2,
)

-- a revision without a decision stays
pub kept-stay : (value : Value) (has_id declares : List ℕ → Bool) → AllKeptStay value has_id declares
kept-stay value has_id declares says nodes indexed sound =
    subst (λ (news : List Element). StayIn says (stories nodes) news) (sym (stories-pass says nodes))
    (stay-in says (stories nodes) (grounded has_id declares (stories nodes) (indexed_stories value nodes indexed) (nine has_id declares nodes sound)))
