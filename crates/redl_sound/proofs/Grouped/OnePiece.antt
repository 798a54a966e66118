-- The walk over the pieces puts a whole group together.
use Rattle.std.proofs.Common.{◌≡◌, ◌∙◌, refl, ap, sym, List, [], ◌∷◌, ◌++◌, Bool, true, false, ◌&&◌, ◌||◌, true≢false, Option, Some, None}
use Rattle.std.specs.Cmp.{first_so, second_so}
use Rattle.std.proofs.lemmas.Bool.{and_from}
use Rattle.redl_sound.specs.Groups.{BeginsGroup, are_before_last, bare_content, content, one_para, own_tag}
use Rattle.redl_tree.specs.Decisions.Groups.{GroupPiece, para, thin, thick, paragraph_next, has_thick, joins, given, held_by, grouped_from, grouped, unjoined_para, joined_tag, joined_kids}
use Rattle.redl_tree.specs.Model.Kids.{only, without}
use Rattle.redl_tree.specs.Model.Nodes.{Tag, Nodes, ◌⊕◌}
use Rattle.redl_tree.specs.Roles.Names.{is}
use Rattle.redl_tree.proofs.Model.Laws.{⊕_assoc, ⊕-no_nodes}

-- ---- tests

-- ---- one group

module _ (tag : Tag) (cut : Bool) (kids : Nodes) (rest : List GroupPiece) where
  -- behind the pieces before it the last paragraph comes next
  paragraph-next : (between : List GroupPiece) → are_before_last between ≡ true → paragraph_next (between ++ para tag cut kids ∷ rest) ≡ true
  paragraph-next [] before = refl
  paragraph-next (para t c k ∷ more) before = refl
  paragraph-next (thin nodes ∷ more) before = paragraph-next more before
  paragraph-next (thick nodes ∷ more) before = absurd (true≢false (sym before))

  module _ (followed : Bool) (ends : joins (para tag cut kids) rest ≡ false) where
    abbrev whole : Nodes → Nodes
    whole held =
        unjoined_para (cut && (has_thick rest || followed)) (own_tag tag) (only (is "pPr") kids ⊕ (held ⊕ without (is "pPr") kids)) ⊕ grouped followed rest

    last-piece : (held : Option Nodes) → grouped_from followed held (para tag cut kids ∷ rest)
        ≡ unjoined_para (cut && (has_thick rest || followed)) (joined_tag held tag) (joined_kids held kids) ⊕ grouped followed rest
    last-piece held =
        ap (λ b. given (para tag cut kids) held b (has_thick rest || followed) ⊕ grouped_from followed (held_by (para tag cut kids) held b) rest) ends

    -- a piece more is held
    one-more : (held : Nodes) (piece : GroupPiece) (more : List GroupPiece) → whole ((held ⊕ without (is "pPr") (content piece)) ⊕ bare_content more) ≡ whole (held ⊕ bare_content (piece ∷ more))
    one-more held piece more = ap whole (⊕_assoc held (without (is "pPr") (content piece)) (bare_content more))

    held-so-far : (held : Nodes) (between : List GroupPiece) → are_before_last between ≡ true
        → grouped_from followed (Some held) (between ++ para tag cut kids ∷ rest) ≡ whole (held ⊕ bare_content between)
    held-so-far held [] before = last-piece (Some held) ∙ ap whole (sym (⊕-no_nodes held))
    held-so-far held (para t c k ∷ more) before =
        let is_cut = first_so c (are_before_last more) before in
        let after = second_so c (are_before_last more) before in
        let behind = more ++ para tag cut kids ∷ rest in
        ap (λ b. given (para t c k) (Some held) b (has_thick behind || followed) ⊕ grouped_from followed (held_by (para t c k) (Some held) b) behind)
        (and_from c (paragraph_next behind) is_cut (paragraph-next more after))
        ∙ held-so-far (held ⊕ without (is "pPr") k) more after ∙ one-more held (para t c k) more
    held-so-far held (thin nodes ∷ more) before = held-so-far (held ⊕ without (is "pPr") nodes) more before ∙ one-more held (thin nodes) more
    held-so-far held (thick nodes ∷ more) before = absurd (true≢false (sym before))

    pub several-are-one : (first : Tag) (first_kids : Nodes) (between : List GroupPiece) → are_before_last between ≡ true
        → grouped followed (para first true first_kids ∷ (between ++ para tag cut kids ∷ rest))
        ≡ unjoined_para (cut && (has_thick rest || followed)) (own_tag tag) (one_para (para first true first_kids ∷ between) kids) ⊕ grouped followed rest
    several-are-one first first_kids between before =
        let behind = between ++ para tag cut kids ∷ rest in
        ap (λ b. given (para first true first_kids) None b (has_thick behind || followed) ⊕ grouped_from followed (held_by (para first true first_kids) None b) behind)
        (paragraph-next between before)
        ∙ held-so-far (without (is "pPr") first_kids) between before

    pub one-is-alone : grouped followed (para tag cut kids ∷ rest) ≡ unjoined_para (cut && (has_thick rest || followed)) tag kids ⊕ grouped followed rest
    one-is-alone = last-piece None

-- ---- where a group begins

record IsRun (pieces : List GroupPiece) : Type 0 where
  pub between : List GroupPiece
  pub last : Tag
  pub last_cut : Bool
  pub last_kids : Nodes
  pub later : List GroupPiece
  pub splits : pieces ≡ between ++ para last last_cut last_kids ∷ later
  pub are_before : are_before_last between ≡ true
  pub is_last : joins (para last last_cut last_kids) later ≡ false

run-of : (pieces : List GroupPiece) → paragraph_next pieces ≡ true → IsRun pieces
run-of [] next = absurd (true≢false (sym next))
run-of (para t c k ∷ more) next = by (joins (para t c k) more) refl (run-of more)
  where
    by : (b : Bool) → (c && paragraph_next more) ≡ b → (paragraph_next more ≡ true → IsRun more) → IsRun (para t c k ∷ more)
    by false e ih = record { between = []; last = t; last_cut = c; last_kids = k; later = more; splits = refl; are_before = refl; is_last = e }
    by true e ih =
        let run = ih (second_so c (paragraph_next more) e) in
        record {
          between = para t c k ∷ run.between;
          last = run.last;
          last_cut = run.last_cut;
          last_kids = run.last_kids;
          later = run.later;
          splits = ap (λ ps. para t c k ∷ ps) run.splits;
          are_before = and_from c (are_before_last run.between) (first_so c (paragraph_next more) e) run.are_before;
          is_last = run.is_last;
        }
run-of (thin nodes ∷ more) next =
    let run = run-of more next in
    record {
      between = thin nodes ∷ run.between;
      last = run.last;
      last_cut = run.last_cut;
      last_kids = run.last_kids;
      later = run.later;
      splits = ap (λ ps. thin nodes ∷ ps) run.splits;
      are_before = run.are_before;
      is_last = run.is_last;
    }
run-of (thick nodes ∷ more) next = absurd (true≢false (sym next))

pub begins-group : (tag : Tag) (cut : Bool) (kids : Nodes) (rest : List GroupPiece) → joins (para tag cut kids) rest ≡ true → BeginsGroup cut rest
begins-group tag cut kids rest e =
    let run = run-of rest (second_so cut (paragraph_next rest) e) in
    record {
      is_cut = first_so cut (paragraph_next rest) e;
      between = run.between;
      last = run.last;
      last_cut = run.last_cut;
      last_kids = run.last_kids;
      later = run.later;
      splits = run.splits;
      are_before = run.are_before;
      is_last = run.is_last;
    }
