-- The turns of the loop that reads one element.
use Rattle.std.proofs.Common.{◌≡◌, ℕ, List, ◌<◌, length, Option, Some, None, refl, sym, ap, ◌∙◌, arith}
use Rattle.redl_markup.specs.declared.error.MarkupError.{MarkupError}
use Rattle.redl_markup.specs.declared.error.MarkupError.TheVariants.{Unreadable, NoMemory}
use Rattle.redl_grammar.specs.declared.section.Section.TheVariants.{InElement}
use Rattle.redl_markup.specs.Reading.{Fails}
use Rattle.redl_reading.specs.Steps.{done, next}
use Rattle.redl_grammar.specs.Pieces.{Piece}
use Rattle.redl_grammar.specs.ScanPieces.{piece_at}
use Rattle.redl_grammar.proofs.Pieces.{piece_shorter}
use Rattle.redl_reading.proofs.Turns.{Going, begins, goes_on, ends}
use Rattle.redl_tree.specs.Model.Nodes.{Nodes}
use Rattle.redl_xml.specs.Inside.Elements.{State, placed, finished, nothing_yet, Point, from_nodes, from_state, from_piece, element_step, element_at}

-- each turn leaves less
abbrev pub size : Point → ℕ
size p = length p.0

pub step_of : (bs : List ℕ) (s : State) (o : Option (Piece × List ℕ)) → piece_at InElement bs ≡ o → element_step (bs, s) ≡ from_piece s o
unfolding element_step
step_of bs s o e = ap (from_piece s) e

pub step_placed : (bs : List ℕ) (s s' : State) (x : Piece × List ℕ) → piece_at InElement bs ≡ Some x → placed x.0 s ≡ Some s' → element_step (bs, s) ≡ from_nodes x.1 s' (finished s')
step_placed bs s s' x e p = step_of bs s (Some x) e ∙ ap (from_state x.1) p

pub step_goes : (bs : List ℕ) (s s' : State) (x : Piece × List ℕ) → piece_at InElement bs ≡ Some x → placed x.0 s ≡ Some s' → finished s' ≡ None → element_step (bs, s) ≡ next (x.1, s')
step_goes bs s s' x e p f = step_placed bs s s' x e p ∙ ap (from_nodes x.1 s') f

pub step_ends : (bs : List ℕ) (s s' : State) (x : Piece × List ℕ) (u : Nodes) → piece_at InElement bs ≡ Some x → placed x.0 s ≡ Some s' → finished s' ≡ Some u → element_step (bs, s) ≡ done (Some (u, x.1))
step_ends bs s s' x u e p f = step_placed bs s s' x e p ∙ ap (from_nodes x.1 s') f

pub step_fails : (bs : List ℕ) (s : State) → piece_at InElement bs ≡ None → element_step (bs, s) ≡ done None
step_fails bs s e = step_of bs s None e

pub step_refuses : (bs : List ℕ) (s : State) (x : Piece × List ℕ) → piece_at InElement bs ≡ Some x → placed x.0 s ≡ None → element_step (bs, s) ≡ done None
step_refuses bs s x e p = step_of bs s (Some x) e ∙ ap (from_state x.1) p

-- ---- the loop of the code

abbrev pub Loop : Point → List ℕ → Type 0
Loop p bs = Going element_step size p (element_at bs)

pub loop_begins : (bs : List ℕ) → Loop (bs, nothing_yet) bs
unfolding element_at
loop_begins bs = begins element_step size (bs, nothing_yet)

pub loop_goes : (rest : List ℕ) (s s' : State) (bs : List ℕ) (x : Piece × List ℕ) → Loop (rest, s) bs → piece_at InElement rest ≡ Some x → placed x.0 s ≡ Some s' → finished s' ≡ None → Loop (x.1, s') bs
loop_goes rest s s' bs x g e p f =
    goes_on element_step size (rest, s) (x.1, s') (element_at bs) g (step_goes rest s s' x e p f) (piece_shorter InElement rest x e)

pub loop_ends : (rest : List ℕ) (s s' : State) (bs : List ℕ) (x : Piece × List ℕ) (u : Nodes) → Loop (rest, s) bs → piece_at InElement rest ≡ Some x → placed x.0 s ≡ Some s' → finished s' ≡ Some u → element_at bs ≡ Some (u, x.1)
loop_ends rest s s' bs x u g e p f = ends element_step size (rest, s) (Some (u, x.1)) (element_at bs) g (step_ends rest s s' x u e p f)

loop_fails : (rest : List ℕ) (s : State) (bs : List ℕ) → Loop (rest, s) bs → piece_at InElement rest ≡ None → element_at bs ≡ None
loop_fails rest s bs g e = ends element_step size (rest, s) None (element_at bs) g (step_fails rest s e)

loop_refuses : (rest : List ℕ) (s : State) (bs : List ℕ) (x : Piece × List ℕ) → Loop (rest, s) bs → piece_at InElement rest ≡ Some x → placed x.0 s ≡ None → element_at bs ≡ None
loop_refuses rest s bs x g e p = ends element_step size (rest, s) None (element_at bs) g (step_refuses rest s x e p)

pub fails_through : (rest : List ℕ) (s : State) (bs : List ℕ) (e : MarkupError) → Loop (rest, s) bs → Fails e (piece_at InElement rest) → Fails e (element_at bs)
fails_through rest s bs Unreadable g e = loop_fails rest s bs g e
fails_through rest s bs NoMemory g e = tt

pub refuses_through : (rest : List ℕ) (s : State) (bs : List ℕ) (x : Piece × List ℕ) (e : MarkupError) → Loop (rest, s) bs → piece_at InElement rest ≡ Some x → (e ≡ Unreadable → placed x.0 s ≡ None) → Fails e (element_at bs)
refuses_through rest s bs x Unreadable g e p = loop_refuses rest s bs x g e (p refl)
refuses_through rest s bs x NoMemory g e p = tt

-- ---- each turn takes some bytes

result_shrinks : (bs rest : List ℕ) (s : State) (o : Option Nodes) (p' : Point) → from_nodes rest s o ≡ next p' → length rest < length bs → size p' < length bs
result_shrinks bs rest s (Some r) p' e lt = absurd cc
result_shrinks bs rest s None p' e lt = let same : (rest, s) ≡ p' = cc in omega (arith, ap (λ (q : Point). length q.0) same)

state_shrinks : (bs rest : List ℕ) (o : Option State) (p' : Point) → from_state rest o ≡ next p' → length rest < length bs → size p' < length bs
state_shrinks bs rest None p' e lt = absurd cc
state_shrinks bs rest (Some s) p' e lt = result_shrinks bs rest s (finished s) p' e lt

piece_shrinks : (bs : List ℕ) (s : State) (o : Option (Piece × List ℕ)) (p' : Point) → piece_at InElement bs ≡ o → from_piece s o ≡ next p' → size p' < length bs
piece_shrinks bs s None p' g e = absurd cc
piece_shrinks bs s (Some x) p' g e = state_shrinks bs x.1 (placed x.0 s) p' e (piece_shorter InElement bs x g)

pub shrinks : (p p' : Point) → element_step p ≡ next p' → size p' < size p
shrinks p p' e = piece_shrinks p.0 p.1 (piece_at InElement p.0) p' refl (sym (step_of p.0 p.1 (piece_at InElement p.0) refl) ∙ e)
