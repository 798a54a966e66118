-- What a push or a pop on nodes and on the open elements is, as plain data.
use Rattle.std.proofs.Common.{◌≡◌, ℕ, suc, true, List, [], ◌∷◌, ◌++◌, length, drop, map, reverse, Option, Some, None, unwrap_or, option_to_list, refl, sym, ap, ◌∙◌}
use Rattle.std.specs.Option.{MatchOption}
use Rattle.std.specs.Global.{Vec}
use Rattle.std.proofs.lemmas.List.{append-nil, reverse-append, length-reverse, nil_from_length}
use Rattle.redl_tree.specs.declared.kinds.Space.{Space}
use Rattle.redl_tree.specs.Model.Nodes.{Empty, End}
use Rattle.redl_tree.specs.declared.kinds.Kind.{Kind}
use Rattle.redl_tree.specs.declared.kinds.Kind.TheVariants.{Plain}
use Rattle.redl_tree.specs.Model.Starts.{Start}
use Rattle.redl_tree.specs.Model.Nodes.{Close, Tag, Nodes, no_nodes, bytes, Item, element_item, in_front, ◌⊕◌}
use Rattle.redl_tree.specs.Model.View.{tagged, kids_of, item_of, nodes_of}
use Rattle.redl_tree.specs.Model.View as tree
use Rattle.redl_tree.specs.declared.node.Node.{Node}
use Rattle.redl_tree.specs.declared.node.Node.TheVariants as node
use Rattle.redl_tree.specs.declared.node.Elem.{Elem}
use Rattle.redl_tree.proofs.Model.Laws.{nodes_of-push, item_of-Elem}
use Rattle.redl_grammar.specs.Names.{Name, name_eq}
use Rattle.redl_grammar.specs.Pieces.{empty_tag}
use Rattle.redl_xml.specs.declared.open_element.OpenElement.{OpenElement}
use Rattle.redl_xml.specs.Scopes.{Scope}
use Rattle.redl_xml.specs.Inside.Elements.{Frame, State, plain_start, plain_tag, one_element, entered, declared_in, bare, closed, stretched, placed}
use Rattle.redl_xml.specs.Inside.Buildings.{frame_view, frames}
use Rattle.redl_xml.proofs.Scoping.{left_entered}

pub pushed : (old now : List Node) (n : Node) (i : Item) → now ≡ old ++ n ∷ [] → item_of n ≡ i → nodes_of now ≡ nodes_of old ⊕ in_front i no_nodes
pushed old now n i e h = ap nodes_of e ∙ nodes_of-push old n ∙ ap (λ (j : Item). nodes_of old ⊕ in_front j no_nodes) h

-- an element with this start tag, which is in no revision
pub elem_is : (e : Elem) (start : Start) (close : Close) (kids : Nodes) (name : Name) (space : Space) (tail : List ℕ) → tree.tag_of e ≡ tagged start close → kids_of e ≡ kids → start ≡ plain_start name space tail → item_of (node.Elem e) ≡ element_item (plain_tag name space tail close) kids
elem_is e start close kids name space tail t k p =
    item_of-Elem e ∙ ap (λ (x : Tag). element_item x (kids_of e)) (t ∙ ap (λ (x : Start). tagged x close) p) ∙ ap (element_item (plain_tag name space tail close)) k

pub is_plain_start : (s : Start) → s.kind ≡ Plain → s.rev ≡ 0 → s ≡ plain_start (record { prefix = s.prefix; local = s.local }) s.space s.tail
is_plain_start s k r =
    ap (λ (kind : Kind). made kind s.rev) k ∙ ap (made Plain) r where
      made : Kind → ℕ → Start
      made kind rev = record { prefix = s.prefix; local = s.local; space = s.space; tail = s.tail; kind = kind; rev = rev }

abbrev pub state : List Frame → Nodes → Scope → State
state fs kids scope = record { open_elements = fs; kids = kids; scope = scope }

-- ---- the open elements, the innermost last in the code

pub length-frames : (fs : List OpenElement) (bs : List (Vec Node)) → length (frames fs bs) ≡ length fs
length-frames [] bs = refl
length-frames (f ∷ fs) [] = ap (λ (n : ℕ). suc n) (length-frames fs [])
length-frames (f ∷ fs) (b ∷ bs) = ap (λ (n : ℕ). suc n) (length-frames fs bs)

pub length-open : (fs : List OpenElement) (bs : List (Vec Node)) → length (frames (reverse fs) (reverse bs)) ≡ length fs
length-open fs bs = length-frames (reverse fs) (reverse bs) ∙ length-reverse fs

reverse-push : {A : Type 0} (xs : List A) (x : A) → reverse (xs ++ x ∷ []) ≡ x ∷ reverse xs
reverse-push xs x = reverse-append xs (x ∷ [])

pub frames-push : (fs : List OpenElement) (bs : List (Vec Node)) (f : OpenElement) (b : Vec Node) → frames (reverse (fs ++ f ∷ [])) (reverse (bs ++ b ∷ [])) ≡ frame_view f (nodes_of b.items) ∷ frames (reverse fs) (reverse bs)
frames-push fs bs f b = ap (λ (gs : List OpenElement). frames gs (reverse (bs ++ b ∷ []))) (reverse-push fs f) ∙ ap (frames (f ∷ reverse fs)) (reverse-push bs b)

-- the innermost element, and the list before it, or none where nodes were dropped
pub frames-pop : (fs rest : List OpenElement) (f : OpenElement) (bs left : List (Vec Node)) (o : Option (Vec Node)) (d : Vec Node) (n m : ℕ) (P : Vec Node → Type 0) → fs ≡ rest ++ f ∷ [] → bs ≡ left ++ option_to_list o
    → MatchOption o ((n ≡ 0) × (m ≡ 0)) P → length left ≡ m → d.items ≡ [] → frames (reverse fs) (reverse bs) ≡ frame_view f (nodes_of (unwrap_or o d).items) ∷ frames (reverse rest) (reverse left)
frames-pop fs rest f bs left None d n m P e h none size empty =
    let gone : left ≡ [] = nil_from_length left (size ∙ none.1) in
    ap (λ (gs : List OpenElement). frames (reverse gs) (reverse bs)) e ∙ ap (λ (gs : List OpenElement). frames gs (reverse bs)) (reverse-push rest f)
    ∙ ap (λ (l : List (Vec Node)). frames (f ∷ reverse rest) (reverse l)) (h ∙ append-nil left ∙ gone)
    ∙ ap (λ (l : List (Vec Node)). frame_view f no_nodes ∷ frames (reverse rest) (reverse l)) (sym gone)
    ∙ ap (λ (ns : List Node). frame_view f (nodes_of ns) ∷ frames (reverse rest) (reverse left)) (sym empty)
frames-pop fs rest f bs left (Some b) d n m P e h some size empty =
    ap (λ (gs : List OpenElement). frames (reverse gs) (reverse bs)) e ∙ ap (λ (l : List (Vec Node)). frames (reverse (rest ++ f ∷ [])) (reverse l)) h ∙ frames-push rest left f b

-- without the lists, nothing is before an open element
pub frames-bare : (fs : List OpenElement) (bs : List (Vec Node)) → map bare (frames fs []) ≡ map bare (frames fs bs)
frames-bare [] bs = refl
frames-bare (f ∷ fs) [] = refl
frames-bare (f ∷ fs) (b ∷ bs) = ap (λ (gs : List Frame). frame_view f no_nodes ∷ gs) (frames-bare fs bs)

-- ---- what a piece makes of a state

pub stretched_at : (fs : List Frame) (s : State) (b : List ℕ) (kids : Nodes) → (length fs ≡ 0 → ⊥) → kids ≡ s.kids ⊕ bytes b no_nodes → stretched fs s b ≡ Some (state s.open_elements kids s.scope)
stretched_at [] s b kids some e = absurd (some refl)
stretched_at (f ∷ fs) s b kids some e = ap (λ (k : Nodes). Some (state s.open_elements k s.scope)) (sym e)

pub empty_at : (s : State) (name : Name) (tail : List ℕ) (x : Space × Scope) (kids : Nodes) (scope : Scope) → entered s.scope name tail ≡ Some x → kids ≡ s.kids ⊕ one_element name x.0 tail Empty no_nodes → scope ≡ drop (declared_in tail) x.1 → placed (empty_tag name tail) s ≡ Some (state s.open_elements kids scope)
empty_at s name tail x kids scope e k l =
    let same : s.scope ≡ scope = sym (l ∙ left_entered s.scope name tail x e) in
    rw e (ap (λ (n : Nodes). Some (state s.open_elements n s.scope)) (sym k) ∙ ap (λ (sc : Scope). Some (state s.open_elements kids sc)) same)

pub closed_at : (fs rest : List Frame) (f : Frame) (kids : Nodes) (scope : Scope) (name : Name) (space : List ℕ) → fs ≡ f ∷ rest → name_eq f.name name ≡ true
    → closed fs kids scope name space ≡ Some (state rest (f.before ⊕ one_element f.name f.space f.tail (End space) kids) (drop f.declared scope))
closed_at fs rest f kids scope name space e same =
    ap (λ (gs : List Frame). closed gs kids scope name space) e ∙ rw same refl
