-- The last byte of a text of two parts, and of the nodes of a list, from the end.
use Rattle.std.proofs.Common.{◌≡◌, ◌==◌, ◌<◌, ◌+◌, ◌-◌, ℕ, Bool, true, false, not, List, [], ◌∷◌, ◌++◌, length, take, get_or, Option, Some, None, refl, sym, ap, ◌∙◌, append-nil, codes, decimal, if◌then◌else◌}
use Rattle.std.specs.Option.{option_or}
use Rattle.std.specs.List.{last_or}
use Rattle.std.proofs.lemmas.List.{take_more}
use Rattle.redl_tree.specs.Model.Nodes.{Tag, Nodes, no_nodes, in_front}
use Rattle.redl_tree.specs.Roles.Names.{is}
use Rattle.redl_tree.specs.declared.kinds.Trace.{Trace}
use Rattle.redl_tree.specs.declared.kinds.Trace.TheVariants.{Ins, Del, From, To}
use Rattle.redl_tree.specs.declared.kinds.Prop.{Prop}
use Rattle.redl_kinds.specs.KindNames.{kind_name}
use Rattle.redl_kinds.specs.declared.rev_kind.RevKind.TheVariants.{Change as RevChange}
use Rattle.redl_tree.specs.Model.View.{nodes_of, item_of}
use Rattle.redl_tree.specs.declared.node.Node.{Node}
use Rattle.redl_tree.proofs.Model.Laws.{nodes_of-append}
use Rattle.redl_marked.specs.declared.summary.MarkedSummary.{MarkedSummary}
use Rattle.redl_marked.specs.Signs.{sign_begin, sign_end, opening, word_sign, change_sign, para_signs}
use Rattle.redl_marked.specs.MarkedText.{open_end, heading}
use Rattle.redl_marked.specs.Inside.Walks.{inside, marked, item_marked, last_of}
use Rattle.redl_marked.proofs.WalkLaws.{marked-⊕, marked-in_front}

pub last_or-append : (before : Option ℕ) (xs ys : List ℕ) → last_or before (xs ++ ys) ≡ last_or (last_or before xs) ys
last_or-append before [] ys = refl
last_or-append before (x ∷ xs) ys = last_or-append (Some x) xs ys

some_last : (x : ℕ) (xs : List ℕ) (o : Option ℕ) → option_or (last_or (Some x) xs) o ≡ last_or (Some x) xs
some_last x [] o = refl
some_last x (y ∷ ys) o = some_last y ys o

pub last_or-of : (before : Option ℕ) (xs : List ℕ) → last_or before xs ≡ option_or (last_of xs) before
last_or-of before [] = refl
last_or-of before (x ∷ xs) = sym (some_last x xs before)

pub last_of-append : (xs ys : List ℕ) → last_of (xs ++ ys) ≡ option_or (last_of ys) (last_of xs)
last_of-append xs ys = last_or-append None xs ys ∙ last_or-of (last_of xs) ys

-- of a list with one node more
pub last_of-more : (above : MarkedSummary) (xs : List Node) (i : ℕ) (x : Node) → i < length xs → x ≡ get_or xs i x
    → last_of (marked above (nodes_of (take (i + 1) xs))) ≡ option_or (last_of (item_marked above (item_of x))) (last_of (marked above (nodes_of (take i xs))))
last_of-more above xs i x within is =
    let taken : take (i + 1) xs ≡ take i xs ++ (x ∷ []) = take_more xs i x within ∙ ap (λ y. take i xs ++ (y ∷ [])) (sym is) in
    let one : marked above (in_front (item_of x) no_nodes) ≡ item_marked above (item_of x) = marked-in_front above (item_of x) no_nodes ∙ append-nil (item_marked above (item_of x)) in
    ap (λ ys. last_of (marked above (nodes_of ys))) taken
    ∙ ap (λ n. last_of (marked above n)) (nodes_of-append (take i xs) (x ∷ []))
    ∙ ap last_of (marked-⊕ above (nodes_of (take i xs)) (in_front (item_of x) no_nodes))
    ∙ ap (λ t. last_of (marked above (nodes_of (take i xs)) ++ t)) one
    ∙ last_of-append (marked above (nodes_of (take i xs))) (item_marked above (item_of x))

-- the same where the list is gone over from its end
pub from_end : (above : MarkedSummary) (nodes : List Node) (i k : ℕ) (x : Node) (r whole : Option ℕ) → k + 1 ≡ length nodes - i → k < length nodes → x ≡ get_or nodes k x
    → r ≡ last_of (item_marked above (item_of x)) → last_of (marked above (nodes_of (take (length nodes - i) nodes))) ≡ whole
    → option_or r (last_of (marked above (nodes_of (take k nodes)))) ≡ whole
from_end above nodes i k x r whole next within is e inv =
    ap (λ o. option_or o (last_of (marked above (nodes_of (take k nodes))))) e ∙ sym (last_of-more above nodes k x within is)
    ∙ ap (λ n. last_of (marked above (nodes_of (take n nodes)))) next ∙ inv

-- ---- the parts of one element

ends_in : (xs ys : List ℕ) (b : ℕ) → last_of ys ≡ Some b → last_of (xs ++ ys) ≡ Some b
ends_in xs ys b e = last_of-append xs ys ∙ ap (λ o. option_or o (last_of xs)) e

pub content_last : (trace : Trace) (number : ℕ) → last_of (opening trace number) ≡ Some 32
content_last trace number = ends_in (sign_begin trace) (decimal number ++ codes " ") 32 (ends_in (decimal number) (codes " ") 32 refl)

pub change_last : (prop : Prop) (number : ℕ) → last_of (change_sign prop number) ≡ Some 125
change_last prop number =
    let name = kind_name (RevChange prop) in
    ends_in (codes "{=") (decimal number ++ (codes " " ++ (name ++ codes "=}"))) 125
    (ends_in (decimal number) (codes " " ++ (name ++ codes "=}")) 125 (ends_in (codes " ") (name ++ codes "=}") 125 (ends_in name (codes "=}") 125 refl)))

pub word_last : (trace : Trace) (number : ℕ) (word : List ℕ) → last_of (word_sign trace number word) ≡ last_of (sign_end trace)
word_last Ins number word = ends_in (opening Ins number) (word ++ codes "+}") 125 (ends_in word (codes "+}") 125 refl)
word_last Del number word = ends_in (opening Del number) (word ++ codes "-]") 93 (ends_in word (codes "-]") 93 refl)
word_last From number word = ends_in (opening From number) (word ++ codes "~]") 93 (ends_in word (codes "~]") 93 refl)
word_last To number word = ends_in (opening To number) (word ++ codes "~}") 125 (ends_in word (codes "~}") 125 refl)

pub open_end_last : (quiet : Bool) (tag : Tag) (kids : Nodes) → quiet ≡ false → is "p" tag ≡ true → last_of (if not quiet then open_end tag kids else []) ≡ Some 10
open_end_last quiet tag kids e f = rw (e, f) (ends_in (para_signs kids) (10 ∷ []) 10 refl)

-- of a text of two parts, from those of the parts
pub last_two : (xs ys : List ℕ) (x y r : Option ℕ) → x ≡ last_of xs → y ≡ last_of ys → r ≡ option_or y x → r ≡ last_of (xs ++ ys)
last_two xs ys x y r e f h = h ∙ ap (option_or y) e ∙ ap (λ o. option_or o (last_of xs)) f ∙ sym (last_of-append xs ys)

-- the last part of three shows something
pub last_end : (xs ys zs : List ℕ) (b : ℕ) → Some b ≡ last_of zs → Some b ≡ last_of (xs ++ (ys ++ zs))
last_end xs ys zs b e = sym (ends_in xs (ys ++ zs) b (ends_in ys zs b (sym e)))

-- the last part shows nothing
pub last_inner : (xs ys zs : List ℕ) (x y r : Option ℕ) → x ≡ last_of xs → y ≡ last_of ys → None ≡ last_of zs → r ≡ option_or y x → r ≡ last_of (xs ++ (ys ++ zs))
last_inner xs ys zs x y r e f n h =
    last_two xs (ys ++ zs) x y r e (last_two ys zs y None y f n refl) h

-- the kids of an element as the code reads them
pub inner_last : (above inner : MarkedSummary) (tag : Tag) (kids read : Nodes) (r : Option ℕ) → inner ≡ inside tag above → read ≡ kids
    → r ≡ last_of (marked inner read) → r ≡ last_of (marked (inside tag above) kids)
inner_last above inner tag kids read r e f h = h ∙ ap (λ i. last_of (marked i read)) e ∙ ap (λ n. last_of (marked (inside tag above) n)) f

-- a story with its line, where the story shows something or nothing
pub story_last : (before : Option ℕ) (head text : List ℕ) (b : ℕ) → Some b ≡ last_of text → Some b ≡ last_or before (head ++ text)
story_last before head text b e =
    sym (last_or-append before head text ∙ last_or-of (last_or before head) text ∙ ap (λ o. option_or o (last_or before head)) (sym e))

pub story_last_none : (before : Option ℕ) (head text : List ℕ) (r : Option ℕ) → None ≡ last_of text → r ≡ last_or before head → r ≡ last_or before (head ++ text)
story_last_none before head text r e f =
    f ∙ sym (last_or-append before head text ∙ last_or-of (last_or before head) text ∙ ap (λ o. option_or o (last_or before head)) (sym e))

pub heading_last : (last : ℕ) (name : List ℕ) (before : Option ℕ) → last_or before (heading (Some last) name) ≡ Some 10
heading_last last name before =
    let first = if last == 10 then [] else 10 ∷ [] in
    last_or-of before (heading (Some last) name)
    ∙ ap (λ o. option_or o before) (ends_in first (codes "== " ++ (name ++ (10 ∷ []))) 10 (ends_in (codes "== ") (name ++ (10 ∷ [])) 10 (ends_in name (10 ∷ []) 10 refl)))
