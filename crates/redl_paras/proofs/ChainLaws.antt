-- What a chain is put together from, a piece at a time.
use Rattle.std.proofs.Common.{◌≡◌, ◌≤◌, Bool, true, false, List, [], ◌∷◌, length, refl, sym, ap, ◌∙◌, arith, not, ◌||◌, ◌&&◌, nat_lt, Option, if◌then◌else◌}
use Rattle.redl_tree.proofs.Model.Laws.{in_front-⊕}
use Rattle.redl_tree.proofs.Decisions.PassLaws.{without-⊕}
use Rattle.redl_tree.specs.Decisions.Groups.{paragraph_next, has_thick, joins, given, held_by, grouped_from}
use Rattle.redl_tree.specs.Model.Kids.{without, has_element, some_element}
use Rattle.redl_tree.specs.Model.Nodes.{Tag, Nodes, no_nodes, bytes, element, Item, in_front, ◌⊕◌}
use Rattle.redl_paras.specs.Pieces.{piece_of, pieces_of, is_cut, paras_of}
use Rattle.redl_paras.specs.declared.piece.ChainPiece.{ChainPiece}
use Rattle.redl_paras.specs.declared.piece.ChainPiece.TheVariants.{Para, Thin}

pub without-in_front : (test : Tag → Bool) (x : Item) (xs : Nodes) → without test (in_front x xs) ≡ without test (in_front x no_nodes) ⊕ without test xs
without-in_front test x xs = ap (without test) (sym (in_front-⊕ x no_nodes xs)) ∙ without-⊕ test (in_front x no_nodes) xs

pub some_besides : (test : Tag → Bool) (xs : Nodes) → has_element (without test xs) ≡ some_element (λ tag. not (test tag)) xs
some_besides test no_nodes = refl
some_besides test (bytes b rest) = some_besides test rest
some_besides test (element tag kids rest) = at (test tag) (some_besides test rest)
  where
    at : (b : Bool) → has_element (without test rest) ≡ some_element (λ t. not (test t)) rest
        → has_element (if b then without test rest else element tag kids (without test rest)) ≡ not b || some_element (λ t. not (test t)) rest
    at true same = same
    at false same = refl

-- ---- the paragraphs of a chain

pub paras-few : (chain : List ChainPiece) → paras_of chain ≤ length chain
paras-few [] = omega arith
paras-few (Para elem cut ∷ rest) = omega (arith, paras-few rest)
paras-few (Thin node ∷ rest) = omega (arith, paras-few rest)

pub next-is : (chain : List ChainPiece) → paragraph_next (pieces_of chain) ≡ nat_lt 0 (paras_of chain)
next-is [] = refl
next-is (Para elem cut ∷ rest) = grind arith
next-is (Thin node ∷ rest) = next-is rest ∙ ap (λ n. nat_lt 0 n) (omega arith)

pub thick-is : (chain : List ChainPiece) → has_thick (pieces_of chain) ≡ nat_lt 0 (paras_of chain)
thick-is [] = refl
thick-is (Para elem cut ∷ rest) = grind arith
thick-is (Thin node ∷ rest) = thick-is rest ∙ ap (λ n. nat_lt 0 n) (omega arith)

joins-is : (piece : ChainPiece) (rest : List ChainPiece) → joins (piece_of piece) (pieces_of rest) ≡ is_cut (piece_of piece) && paragraph_next (pieces_of rest)
joins-is (Para elem cut) rest = refl
joins-is (Thin node) rest = refl

-- a piece at the front, where it is known whether a paragraph comes later
pub grouped-more : (followed : Bool) (held : Option Nodes) (piece : ChainPiece) (rest : List ChainPiece) (more : Bool) → more ≡ nat_lt 0 (paras_of rest)
    → grouped_from followed held (pieces_of (piece ∷ rest))
    ≡ given (piece_of piece) held (is_cut (piece_of piece) && more) (more || followed)
    ⊕ grouped_from followed (held_by (piece_of piece) held (is_cut (piece_of piece) && more)) (pieces_of rest)
grouped-more followed held piece rest more e =
    let p = piece_of piece in
    let ps = pieces_of rest in
    ap (λ j. given p held j (has_thick ps || followed) ⊕ grouped_from followed (held_by p held j) ps)
    (joins-is piece rest ∙ ap (λ n. is_cut p && n) (next-is rest ∙ sym e))
    ∙ ap (λ t. given p held (is_cut p && more) (t || followed) ⊕ grouped_from followed (held_by p held (is_cut p && more)) ps) (thick-is rest ∙ sym e)
