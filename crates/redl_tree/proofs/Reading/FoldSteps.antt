-- The turns in which a text of one space is read.
use Rattle.std.proofs.Common.{◌≡◌, ℕ, List, [], ◌∷◌, ◌<◌, length, Option, Some, None, refl, ap, ◌∙◌, arith}
use Rattle.redl_tree.specs.declared.kinds.Space.{Space}
use Rattle.redl_grammar.specs.declared.section.Section.TheVariants.{InElement}
use Rattle.redl_reading.specs.Steps.{done, next}
use Rattle.redl_grammar.specs.Pieces.{Piece}
use Rattle.redl_grammar.specs.ScanPieces.{piece_at}
use Rattle.redl_grammar.proofs.Pieces.{piece_shorter}
use Rattle.redl_tree.specs.Model.Folds.{Level, Spot, put, from_level, from_read, level_step_at, level_step}

-- each turn leaves less
abbrev pub left : Spot → ℕ
left p = length p.0

-- no piece is read where there is nothing
not_short : (x : Piece × List ℕ) → piece_at InElement [] ≡ Some x → ⊥
not_short x e = let h = piece_shorter InElement [] x e in absurd (omega (arith, h))

at_piece : (space : Space) (s : Level) (bs : List ℕ) (x : Piece × List ℕ) → piece_at InElement bs ≡ Some x → level_step_at space s bs ≡ from_level x.1 (put space x.0 s)
at_piece space s [] x e = absurd (not_short x e)
at_piece space s (b ∷ bs) x e = ap (from_read space s) e

pub level_placed : (space : Space) (bs : List ℕ) (s : Level) (x : Piece × List ℕ) → piece_at InElement bs ≡ Some x → level_step space (bs, s) ≡ from_level x.1 (put space x.0 s)
unfolding level_step
level_placed space bs s x e = at_piece space s bs x e

pub level_goes : (space : Space) (bs : List ℕ) (s s' : Level) (x : Piece × List ℕ) → piece_at InElement bs ≡ Some x → put space x.0 s ≡ Some s' → level_step space (bs, s) ≡ next (x.1, s')
level_goes space bs s s' x e p = level_placed space bs s x e ∙ ap (from_level x.1) p

pub level_ends : (space : Space) (s : Level) → level_step space ([], s) ≡ level_step_at space s []
unfolding level_step
level_ends space s = refl

pub level_fails : (space : Space) (s : Level) (b : ℕ) (bs : List ℕ) → piece_at InElement (b ∷ bs) ≡ None → level_step space (b ∷ bs, s) ≡ done None
unfolding level_step
level_fails space s b bs e = ap (from_read space s) e

pub level_refuses : (space : Space) (s : Level) (bs : List ℕ) (x : Piece × List ℕ) → piece_at InElement bs ≡ Some x → put space x.0 s ≡ None → level_step space (bs, s) ≡ done None
level_refuses space s bs x e p = level_placed space bs s x e ∙ ap (from_level x.1) p

-- ---- each turn takes some bytes

put_shrinks : (rest : List ℕ) (o : Option Level) (p : Spot) (n : ℕ) → from_level rest o ≡ next p → length rest < n → left p < n
put_shrinks rest None p n e lt = absurd cc
put_shrinks rest (Some s) p n e lt = let same : (rest, s) ≡ p = cc in omega (arith, ap (λ (q : Spot). length q.0) same, lt)

read_shrinks : (space : Space) (bs : List ℕ) (s : Level) (o : Option (Piece × List ℕ)) (p : Spot) → piece_at InElement bs ≡ o → from_read space s o ≡ next p → left p < length bs
read_shrinks space bs s None p g e = absurd cc
read_shrinks space bs s (Some x) p g e = put_shrinks x.1 (put space x.0 s) p (length bs) e (piece_shorter InElement bs x g)

step_shrinks : (space : Space) (s : Level) (bs : List ℕ) (p : Spot) → level_step_at space s bs ≡ next p → left p < length bs
step_shrinks space s [] p e = absurd cc
step_shrinks space s (b ∷ bs) p e = read_shrinks space (b ∷ bs) s (piece_at InElement (b ∷ bs)) p refl e

pub level_shrinks : (space : Space) (p p' : Spot) → level_step space p ≡ next p' → left p' < left p
unfolding level_step
level_shrinks space p p' e = step_shrinks space p.1 p.0 p' e
