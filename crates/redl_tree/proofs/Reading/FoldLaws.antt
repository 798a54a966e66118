-- A text of one space is the text of its nodes; what is the text of such nodes is read as them; two texts, one after the other.
use Rattle.std.proofs.Common.{◌≡◌, ◌≢◌, ℕ, zero, suc, Bool, true, false, eqb, List, [], ◌∷◌, ◌++◌, length, Option, Some, None, refl, sym, ap, subst, ◌∙◌, arith}
use Rattle.std.specs.List.{list_all}
use Rattle.std.proofs.lemmas.Bool.{and_parts, and_from, not-true, both_ways}
use Rattle.std.proofs.lemmas.List.{append-nil}
use Rattle.std.proofs.lemmas.Option.{same_Some, cond_some, none-some}
use Rattle.std.proofs.Math.Bool.{and-false}
use Rattle.redl_tree.specs.Model.Nodes.{Tag, Nodes, no_nodes, bytes, element, ◌⊕◌}
use Rattle.redl_tree.specs.Model.Nodes.{Close, Empty, End}
use Rattle.redl_tree.specs.Model.Text.{text}
use Rattle.redl_tree.specs.declared.kinds.Space.{Space}
use Rattle.redl_tree.specs.declared.kinds.Space.TheVariants.{W}
use Rattle.redl_tree.specs.declared.kinds.Kind.{Kind}
use Rattle.redl_tree.specs.declared.kinds.Kind.TheVariants.{Plain}
use Rattle.redl_tree.proofs.Model.Laws.{⊕-no_nodes, ⊕_assoc}
use Rattle.redl_grammar.specs.declared.section.Section.TheVariants.{InElement}
use Rattle.redl_reading.specs.Lists.{is_other}
use Rattle.redl_reading.specs.Steps.{or_same, turns}
use Rattle.redl_reading.proofs.Turns.{enough}
use Rattle.redl_grammar.specs.References.{is_there}
use Rattle.redl_grammar.specs.Names.{Name, name_text, name_eq, IsName}
use Rattle.redl_grammar.specs.Tails.{IsTail}
use Rattle.redl_grammar.specs.Stretches.{Item, items_then, Head, head_then, IsStretch, begins_item, ends_stretch}
use Rattle.redl_grammar.specs.Pieces.{Piece, start_tag, empty_tag, end_tag, stretch, piece_then, IsPiece, Follows}
use Rattle.redl_grammar.specs.ScanPieces.{piece_at}
use Rattle.redl_grammar.proofs.Items.{item_begins}
use Rattle.redl_grammar.proofs.Stretches.{whole_then}
use Rattle.redl_grammar.proofs.Pieces.{piece_takes, piece_again, start_ends_stretch, end_ends_stretch}
use Rattle.redl_tree.specs.Model.Shapes.{begins_with_bytes}
use Rattle.redl_tree.specs.Model.Laid.{name_of, ClosesBy}
use Rattle.redl_tree.specs.Model.Folds.{plain_tag, one_element}
use Rattle.redl_tree.specs.Model.Folds.{Open, Level, level, shut, put, all_shut, Spot, level_step, nodes_at, nodes_in, Reads}
use Rattle.redl_tree.specs.Model.Laid.{last_is_bytes, ends_with_bytes, Fits}
use Rattle.redl_tree.specs.Model.Laid.{IsLaidTag, AreLaid}
use Rattle.redl_tree.proofs.Reading.FoldSteps.{left, level_goes, level_ends, level_fails, level_refuses, level_shrinks}
use Rattle.redl_tree.proofs.Reading.SameBytes.{same_name}
use Rattle.redl_tree.proofs.Model.TreeTexts.{close_then, tree_then, tree-then, tree_then-⊕}
use Rattle.redl_tree.proofs.Reading.SameBytes.{bytes_same}

-- ---- the text so far

abbrev pub opens_then : List Open → List ℕ → List ℕ
opens_then [] y = y
opens_then (f ∷ fs) y = opens_then fs (tree_then f.before (60 ∷ (name_text f.name ++ (f.tail ++ (62 ∷ y)))))

-- the text of all that was read so far, in front of what follows it
abbrev pub level_then : Level → List ℕ → List ℕ
level_then s y = opens_then s.open_elements (tree_then s.kids y)

-- an end tag that closes an element has its name, and the element becomes the last sibling
pub shut_some : (space : Space) (f : Open) (fs : List Open) (kids : Nodes) (name : Name) (white : List ℕ) (s' : Level) → shut space (f ∷ fs) kids name white ≡ Some s' → (f.name ≡ name) × (level fs (f.before ⊕ one_element f.name space f.tail (End white) kids) ≡ s')
shut_some space f fs kids name white s' e =
    let c = cond_some (name_eq f.name name) (level fs (f.before ⊕ one_element f.name space f.tail (End white) kids)) s' e in
    (same_name f.name name c.0, c.1)

shut_text : (space : Space) (fs : List Open) (kids : Nodes) (name : Name) (white : List ℕ) (s' : Level) (rest : List ℕ) → shut space fs kids name white ≡ Some s' → level_then s' rest ≡ opens_then fs (tree_then kids (piece_then (end_tag name white) rest))
shut_text space [] kids name white s' rest e = absurd (none-some s' e)
shut_text space (f ∷ fs) kids name white s' rest e =
    let c = shut_some space f fs kids name white s' e in
    let P : Level → Type 0 = λ s. level_then s rest ≡ opens_then (f ∷ fs) (tree_then kids (piece_then (end_tag name white) rest)) in
    let Q : Name → Type 0 = λ n. opens_then fs (tree_then (f.before ⊕ one_element f.name space f.tail (End white) kids) rest) ≡ opens_then (f ∷ fs) (tree_then kids (piece_then (end_tag n white) rest)) in
    subst P c.1 (subst Q c.0 (ap (opens_then fs) (tree_then-⊕ f.before (one_element f.name space f.tail (End white) kids) rest)))

-- reading one more piece moves its text from what follows to what was read, and changes no text
pub put_text : (space : Space) (p : Piece) (s s' : Level) (rest : List ℕ) → put space p s ≡ Some s' → level_then s' rest ≡ level_then s (piece_then p rest)
put_text space (start_tag name tail) s s' rest e =
    ap (λ (t : Level). level_then t rest) (sym (same_Some (level (record { name = name; tail = tail; before = s.kids } ∷ s.open_elements) no_nodes) s' e))
put_text space (empty_tag name tail) s s' rest e =
    ap (λ (t : Level). level_then t rest) (sym (same_Some (level s.open_elements (s.kids ⊕ one_element name space tail Empty no_nodes)) s' e))
    ∙ ap (opens_then s.open_elements) (tree_then-⊕ s.kids (one_element name space tail Empty no_nodes) rest)
put_text space (stretch b) s s' rest e =
    ap (λ (t : Level). level_then t rest) (sym (same_Some (level s.open_elements (s.kids ⊕ bytes b no_nodes)) s' e))
    ∙ ap (opens_then s.open_elements) (tree_then-⊕ s.kids (bytes b no_nodes) rest)
put_text space (end_tag name white) s s' rest e = shut_text space s.open_elements s.kids name white s' rest e

-- ---- what was read so far is laid

pub laid-⊕ : (space : Space) (x y : Nodes) → AreLaid space x → AreLaid space y → (ends_with_bytes x ≡ true → begins_with_bytes y ≡ false) → AreLaid space (x ⊕ y)
laid-⊕ space no_nodes y hx hy apart = hy
laid-⊕ space (bytes b no_nodes) y hx hy apart = (hx.0, apart refl, hy)
laid-⊕ space (bytes b (bytes c rest)) y hx hy apart = absurd (let h = hx.1 in cc)
laid-⊕ space (bytes b (element tag kids rest)) y hx hy apart = (hx.0, refl, laid-⊕ space (element tag kids rest) y hx.2 hy apart)
laid-⊕ space (element tag kids rest) y hx hy apart = (hx.0, hx.1, hx.2, laid-⊕ space rest y hx.3 hy apart)

ends-⊕_element : (t : Bool) (x : Nodes) (tag : Tag) (kids : Nodes) → last_is_bytes t (x ⊕ element tag kids no_nodes) ≡ false
ends-⊕_element t no_nodes tag kids = refl
ends-⊕_element t (bytes b rest) tag kids = ends-⊕_element true rest tag kids
ends-⊕_element t (element other xs rest) tag kids = ends-⊕_element false rest tag kids

pub record IsLaidOpen (space : Space) (f : Open) : Type 0 where
  pub name : IsName f.name
  pub tail : IsTail f.tail
  pub before : AreLaid space f.before

-- each open element has a name and a tail as they are read, and the nodes before it are as they are read
abbrev pub AreLaidOpen : Space → List Open → Type 0
AreLaidOpen space [] = Unit {0}
AreLaidOpen space (f ∷ fs) = IsLaidOpen space f × AreLaidOpen space fs

-- all so far is laid, and a stretch at its end is as long as it can be
pub record IsLaidAt (space : Space) (s : Level) (rest : List ℕ) : Type 0 where
  pub opens_laid : AreLaidOpen space s.open_elements
  pub kids_laid : AreLaid space s.kids
  pub follows : ends_with_bytes s.kids ≡ true → ends_stretch rest ≡ true

item_goes_on : (bs : List ℕ) → begins_item bs ≡ true → ends_stretch bs ≡ false
item_goes_on [] e = absurd cc
item_goes_on (b ∷ bs) e = rw e (and-false (eqb b 60))

content_goes_on : (first : List ℕ) (more : List (Item × List ℕ)) (rest : List ℕ) → list_all (is_other 60) first ≡ true → (first ++ items_then more [] ≢ []) → ends_stretch (first ++ items_then more rest) ≡ false
content_goes_on [] [] rest h filled = absurd (filled refl)
content_goes_on [] (i ∷ more) rest h filled = item_goes_on (items_then (i ∷ more) rest) (item_begins i.0 (i.1 ++ items_then more rest))
content_goes_on (b ∷ bs) more rest h filled = rw (not-true (eqb b 60) (and_parts (is_other 60 b) (list_all (is_other 60) bs) h).0) refl

pub stretch_goes_on : (b rest : List ℕ) → IsStretch InElement b → ends_stretch (b ++ rest) ≡ false
stretch_goes_on b rest h =
    let headless : (x : List ℕ) → head_then h.head x ≡ x = λ x. ap (λ (d : Head). head_then d x) h.is_head in
    let whole : b ++ rest ≡ h.first ++ items_then h.more rest = ap (λ (z : List ℕ). z ++ rest) h.whole ∙ whole_then h.head h.first h.more rest ∙ headless (h.first ++ items_then h.more rest) in
    ap ends_stretch whole ∙ content_goes_on h.first h.more rest h.first_run.no_tag (λ e. h.filled (h.whole ∙ headless (h.first ++ items_then h.more []) ∙ e))

-- one more element among the kids
put_element : (space : Space) (fs : List Open) (before : Nodes) (name : Name) (tail : List ℕ) (close : Close) (kids : Nodes) (rest : List ℕ) → AreLaidOpen space fs → AreLaid space before → IsName name → IsTail tail → ClosesBy close kids → AreLaid space kids → IsLaidAt space (level fs (before ⊕ one_element name space tail close kids)) rest
put_element space fs before name tail close kids rest opens b n t c k = record {
  opens_laid = opens;
  kids_laid = laid-⊕ space before (one_element name space tail close kids) b (record { name = n; tail = t; of_space = refl; kind = refl; rev = refl }, c, k, tt) (λ e. refl);
  follows = λ h. absurd (both_ways _ (ends-⊕_element false before (plain_tag name space tail close) kids) h);
}

shut_laid : (space : Space) (fs : List Open) (kids : Nodes) (name : Name) (white : List ℕ) (s' : Level) (rest : List ℕ) → shut space fs kids name white ≡ Some s' → AreLaidOpen space fs → AreLaid space kids → ClosesBy (End white) kids → IsLaidAt space s' rest
shut_laid space [] kids name white s' rest e hf hk c = absurd (none-some s' e)
shut_laid space (f ∷ fs) kids name white s' rest e hf hk c =
    let r = shut_some space f fs kids name white s' e in
    let P : Level → Type 0 = λ s. IsLaidAt space s rest in
    let o = hf.0 in
    subst P r.1 (put_element space fs f.before f.name f.tail (End white) kids rest hf.1 o.before o.name o.tail c hk)

-- reading one more piece leaves all that was read in the form in which nodes are read
pub put_laid : (space : Space) (p : Piece) (s s' : Level) (rest : List ℕ) → put space p s ≡ Some s' → IsPiece InElement p → Follows p rest → IsLaidAt space s (piece_then p rest) → IsLaidAt space s' rest
put_laid space (start_tag name tail) s s' rest e h f laid =
    let P : Level → Type 0 = λ t. IsLaidAt space t rest in
    subst P (same_Some (level (record { name = name; tail = tail; before = s.kids } ∷ s.open_elements) no_nodes) s' e) (record {
      opens_laid = (record { name = h.0; tail = h.1; before = laid.kids_laid }, laid.opens_laid);
      kids_laid = tt;
      follows = λ e. absurd cc;
    })
put_laid space (empty_tag name tail) s s' rest e h f laid =
    let P : Level → Type 0 = λ t. IsLaidAt space t rest in
    subst P (same_Some (level s.open_elements (s.kids ⊕ one_element name space tail Empty no_nodes)) s' e)
    (put_element space s.open_elements s.kids name tail Empty no_nodes rest laid.opens_laid laid.kids_laid h.0 h.1 refl tt)
put_laid space (stretch b) s s' rest e h f laid =
    let apart : ends_with_bytes s.kids ≡ true → ⊥ = λ yes. both_ways _ (stretch_goes_on b rest h) (laid.follows yes) in
    let P : Level → Type 0 = λ t. IsLaidAt space t rest in
    subst P (same_Some (level s.open_elements (s.kids ⊕ bytes b no_nodes)) s' e) (record {
      opens_laid = laid.opens_laid;
      kids_laid = laid-⊕ space s.kids (bytes b no_nodes) laid.kids_laid (h, refl, tt) (λ yes. absurd (apart yes));
      follows = λ _. f;
    })
put_laid space (end_tag name white) s s' rest e h f laid = shut_laid space s.open_elements s.kids name white s' rest e laid.opens_laid laid.kids_laid h.1

-- ---- what is read is the text

pub record IsRead (space : Space) (s : Level) (bs : List ℕ) (u : Nodes) : Type 0 where
  pub whole : tree_then u [] ≡ level_then s bs
  pub laid : AreLaid space u

end_read : (space : Space) (fs : List Open) (kids u : Nodes) → all_shut fs kids ≡ Some u → AreLaid space kids → IsRead space (level fs kids) [] u
end_read space (f ∷ fs) kids u e l = absurd (none-some u e)
end_read space [] kids u e l =
    let P : Nodes → Type 0 = λ v. IsRead space (level [] kids) [] v in
    subst P (same_Some kids u e) (record { whole = refl; laid = l })

read_turns : (n : ℕ) (space : Space) (bs : List ℕ) (s : Level) (u : Nodes) → turns (level_step space) n (bs, s) ≡ Some u → IsLaidAt space s bs → IsRead space s bs u
read_turns zero space bs s u e l = absurd (none-some u e)
read_turns (suc n) space [] s u e l = end_read space s.open_elements s.kids u (rw (level_ends space s) at e) l.kids_laid
read_turns (suc n) space (b ∷ bs) s u e l = by_piece (piece_at InElement (b ∷ bs)) refl (λ cs t. read_turns n space cs t u) where
  by_put : (x : Piece × List ℕ) → piece_at InElement (b ∷ bs) ≡ Some x → (o : Option Level) → put space x.0 s ≡ o → ((cs : List ℕ) (t : Level) → turns (level_step space) n (cs, t) ≡ Some u → IsLaidAt space t cs → IsRead space t cs u) → IsRead space s (b ∷ bs) u
  by_put x g None p go = absurd (none-some u (rw (level_refuses space s (b ∷ bs) x g p) at e))
  by_put x g (Some s') p go =
      let k = piece_takes InElement (b ∷ bs) x g in
      let P : List ℕ → Type 0 = λ cs. IsLaidAt space s cs in
      let laid = put_laid space x.0 s s' x.1 p k.legal k.follows (subst P k.whole l) in
      let more = go x.1 s' (rw (level_goes space (b ∷ bs) s s' x g p) at e) laid in
      record { whole = more.whole ∙ put_text space x.0 s s' x.1 p ∙ ap (level_then s) (sym k.whole); laid = more.laid }

  by_piece : (o : Option (Piece × List ℕ)) → piece_at InElement (b ∷ bs) ≡ o → ((cs : List ℕ) (t : Level) → turns (level_step space) n (cs, t) ≡ Some u → IsLaidAt space t cs → IsRead space t cs u) → IsRead space s (b ∷ bs) u
  by_piece None g go = absurd (none-some u (rw (level_fails space s b bs g) at e))
  by_piece (Some x) g go = by_put x g (put space x.0 s) refl go

pub nodes_sound : (space : Space) (t : List ℕ) (u : Nodes) → nodes_at space t ≡ Some u → IsRead space (level [] no_nodes) t u
unfolding nodes_at
nodes_sound space t u e = read_turns (suc (length t)) space t (level [] no_nodes) u e (record { opens_laid = tt; kids_laid = tt; follows = λ e. absurd cc })

-- the text of nodes is what they put in front of nothing
pub tree-text : (u : Nodes) → text u ≡ tree_then u []
tree-text u = sym (append-nil (text u)) ∙ tree-then u []

-- a text that is read is that of its nodes
pub text_of_nodes : (space : Space) (t : List ℕ) (u : Nodes) → nodes_at space t ≡ Some u → text u ≡ t
text_of_nodes space t u e = tree-text u ∙ (nodes_sound space t u e).whole

-- ---- what is the text of such nodes is read as them

-- the turns from a point give these nodes, in some number
record Gets (space : Space) (p : Spot) (u : Nodes) : Type 0 where
  turns_taken : ℕ
  gets : turns (level_step space) turns_taken p ≡ Some u

-- a piece with which the bytes begin is put
one_more : (space : Space) (p : Piece) (y : List ℕ) (s s' : Level) (u : Nodes) → IsPiece InElement p → Follows p y → put space p s ≡ Some s' → Gets space (y, s') u → Gets space (piece_then p y, s) u
one_more space p y s s' u h f e g = record {
  turns_taken = suc g.turns_taken;
  gets = rw (level_goes space (piece_then p y) s s' (p, y) (piece_again InElement p y h f) e) g.gets;
}

no_more : (space : Space) (u : Nodes) → Gets space ([], level [] u) u
no_more space u = record { turns_taken = 1; gets = rw (level_ends space (level [] u)) refl }

abbrev tag_by : List ℕ → List ℕ → Space → List ℕ → Close → Kind → ℕ → Tag
tag_by prefix local space tail close kind rev = record { prefix = prefix; local = local; space = space; tail = tail; close = close; kind = kind; rev = rev }

-- a tag that was read is the plain tag of its parts
pub tag_is : (space : Space) (tag : Tag) (close : Close) → IsLaidTag space tag → tag.close ≡ close → tag ≡ plain_tag (name_of tag) space tag.tail close
tag_is space tag close h e =
    ap (λ (x : Space). tag_by tag.prefix tag.local x tag.tail tag.close tag.kind tag.rev) h.of_space
    ∙ ap (λ (x : Close). tag_by tag.prefix tag.local space tag.tail x tag.kind tag.rev) e
    ∙ ap (λ (x : Kind). tag_by tag.prefix tag.local space tag.tail close x tag.rev) h.kind
    ∙ ap (tag_by tag.prefix tag.local space tag.tail close Plain) h.rev

name_same : (n : Name) → name_eq n n ≡ true
name_same n = and_from _ _ (bytes_same n.prefix) (bytes_same n.local)

put_end : (space : Space) (tag : Tag) (kids : Nodes) (white : List ℕ) (fs : List Open) (before : Nodes) → IsLaidTag space tag → tag.close ≡ End white → put space (end_tag (name_of tag) white) (level (record { name = name_of tag; tail = tag.tail; before = before } ∷ fs) kids) ≡ Some (level fs (before ⊕ element tag kids no_nodes))
put_end space tag kids white fs before h e =
    rw (name_same (name_of tag)) (ap (λ (t : Tag). Some (level fs (before ⊕ element t kids no_nodes))) (sym (tag_is space tag (End white) h e)))

put_empty : (space : Space) (tag : Tag) (kids : Nodes) (fs : List Open) (before : Nodes) → IsLaidTag space tag → tag.close ≡ Empty → kids ≡ no_nodes → put space (empty_tag (name_of tag) tag.tail) (level fs before) ≡ Some (level fs (before ⊕ element tag kids no_nodes))
put_empty space tag kids fs before h e none =
    ap (λ (t : Tag). Some (level fs (before ⊕ element t no_nodes no_nodes))) (sym (tag_is space tag Empty h e))
    ∙ ap (λ (k : Nodes). Some (level fs (before ⊕ element tag k no_nodes))) (sym none)

-- a stretch may end where nodes that do not begin with one follow
pub laid_end_stretch : (space : Space) (x : Nodes) (y : List ℕ) → AreLaid space x → begins_with_bytes x ≡ false → Fits (bytes [] x) y → ends_stretch (tree_then x y) ≡ true
laid_end_stretch space no_nodes y h first end = end refl
laid_end_stretch space (bytes b rest) y h first end = absurd cc
laid_end_stretch space (element tag kids rest) y h first end = start_ends_stretch (name_of tag) (tag.tail ++ close_then tag tag.close (tree_then kids) (tree_then rest y)) h.0.name

element_gets : (space : Space) (tag : Tag) (kids : Nodes) (z : List ℕ) (fs : List Open) (before u : Nodes) (close : Close) → tag.close ≡ close → IsLaidTag space tag → ClosesBy close kids
    → ((y : List ℕ) (gs : List Open) → Fits kids y → Gets space (y, level gs kids) u → Gets space (tree_then kids y, level gs no_nodes) u)
    → Gets space (z, level fs (before ⊕ element tag kids no_nodes)) u
    → Gets space (60 ∷ (name_text (name_of tag) ++ (tag.tail ++ close_then tag close (tree_then kids) z)), level fs before) u
element_gets space tag kids z fs before u Empty e h fits inside_gets more =
    one_more space (empty_tag (name_of tag) tag.tail) z (level fs before) (level fs (before ⊕ element tag kids no_nodes)) u (h.name, h.tail) tt (put_empty space tag kids fs before h e fits) more
element_gets space tag kids z fs before u (End white) e h fits inside_gets more =
    let open_one : Open = record { name = name_of tag; tail = tag.tail; before = before } in
    let behind : List ℕ = piece_then (end_tag (name_of tag) white) z in
    let ended = one_more space (end_tag (name_of tag) white) z (level (open_one ∷ fs) kids) (level fs (before ⊕ element tag kids no_nodes)) u (h.name, fits) tt (put_end space tag kids white fs before h e) more in
    let kids_got = inside_gets behind (open_one ∷ fs) (λ yes. end_ends_stretch (name_text (name_of tag) ++ (white ++ (62 ∷ z)))) ended in
    one_more space (start_tag (name_of tag) tag.tail) (tree_then kids behind) (level fs before) (level (open_one ∷ fs) no_nodes) u (h.name, h.tail) tt refl kids_got

nodes_get : (space : Space) (x : Nodes) (y : List ℕ) (fs : List Open) (before u : Nodes) → AreLaid space x → Fits x y → Gets space (y, level fs (before ⊕ x)) u → Gets space (tree_then x y, level fs before) u
nodes_get space no_nodes y fs before u h end g = let P : Nodes → Type 0 = λ k. Gets space (y, level fs k) u in subst P (⊕-no_nodes before) g
nodes_get space (bytes b more) y fs before u h end g =
    let P : Nodes → Type 0 = λ k. Gets space (y, level fs k) u in
    let after : Fits more y = later more h.1 end in
    let next_gets = nodes_get space more y fs (before ⊕ bytes b no_nodes) u h.2 after (subst P (sym (⊕_assoc before (bytes b no_nodes) more)) g) in
    one_more space (stretch b) (tree_then more y) (level fs before) (level fs (before ⊕ bytes b no_nodes)) u h.0 (laid_end_stretch space more y h.2 h.1 end) refl next_gets where
      later : (more : Nodes) → begins_with_bytes more ≡ false → Fits (bytes b more) y → Fits more y
      later no_nodes first end = λ no. end refl
      later (bytes c rest) first end = absurd cc
      later (element tag kids rest) first end = end
nodes_get space (element tag kids more) y fs before u h end g =
    let P : Nodes → Type 0 = λ k. Gets space (y, level fs k) u in
    let next_gets = nodes_get space more y fs (before ⊕ element tag kids no_nodes) u h.3 end (subst P (sym (⊕_assoc before (element tag kids no_nodes) more)) g) in
    element_gets space tag kids (tree_then more y) fs before u tag.close refl h.0 h.1 (λ z gs. nodes_get space kids z gs no_nodes u h.2) next_gets

-- the text of nodes that are laid is read as them
pub nodes_again : (space : Space) (u : Nodes) → AreLaid space u → nodes_at space (tree_then u []) ≡ Some u
unfolding nodes_at
nodes_again space u h =
    let g = nodes_get space u [] [] no_nodes u h (λ e. refl) (no_more space u) in
    enough (level_step space) left (level_shrinks space) g.turns_taken (suc (length (tree_then u []))) (tree_then u [], level [] no_nodes) u g.gets (omega arith)

-- ---- two texts, one after the other

begins_apart : (space : Space) (v : Nodes) → AreLaid space v → ends_stretch (tree_then v []) ≡ true → begins_with_bytes v ≡ false
begins_apart space no_nodes h e = refl
begins_apart space (bytes b rest) h e = absurd (both_ways _ (stretch_goes_on b (tree_then rest []) h.0) e)
begins_apart space (element tag kids rest) h e = refl

-- two texts, one after the other, have the nodes of the one and of the other, unless a stretch would go on
pub nodes_of_both : (space : Space) (a b : List ℕ) (u v : Nodes) → nodes_at space a ≡ Some u → nodes_at space b ≡ Some v → Fits u b → nodes_at space (a ++ b) ≡ Some (u ⊕ v)
nodes_of_both space a b u v ea eb fits =
    let ra = nodes_sound space a u ea in
    let rb = nodes_sound space b v eb in
    let ends_b : ends_with_bytes u ≡ true → begins_with_bytes v ≡ false = λ yes. begins_apart space v rb.laid (ap ends_stretch rb.whole ∙ fits yes) in
    let laid = laid-⊕ space u v ra.laid rb.laid ends_b in
    let whole : tree_then (u ⊕ v) [] ≡ a ++ b = tree_then-⊕ u v [] ∙ ap (tree_then u) rb.whole ∙ sym (tree-then u b) ∙ ap (λ (z : List ℕ). z ++ b) (text_of_nodes space a u ea) in
    ap (nodes_at space) (sym whole) ∙ nodes_again space (u ⊕ v) laid

-- ---- the nodes of a text that can be read to its end

there : {A : Type 0} (o : Option A) → is_there o ≡ true → (x : A) × (o ≡ Some x)
there None h = absurd cc
there (Some x) h = (x, refl)

pub nodes_are : (space : Space) (t : List ℕ) → Reads space t → nodes_at space t ≡ Some (nodes_in space t)
nodes_are space t h =
    let x = there (nodes_at space t) h in
    x.1 ∙ ap (λ (o : Option Nodes). Some (or_same o no_nodes)) (sym x.1)

-- the nodes that a text is read as have this text
pub text_of_nodes_in : (space : Space) (t : List ℕ) → Reads space t → text (nodes_in space t) ≡ t
text_of_nodes_in space t h = text_of_nodes space t (nodes_in space t) (nodes_are space t h)

-- the nodes that a text is read as have the form in which nodes are read
pub nodes_are_laid : (space : Space) (t : List ℕ) → Reads space t → AreLaid space (nodes_in space t)
nodes_are_laid space t h = (nodes_sound space t (nodes_in space t) (nodes_are space t h)).laid

-- where a text can't be read, it is read as no nodes
pub always_laid : (space : Space) (t : List ℕ) → AreLaid space (nodes_in space t)
always_laid space t = by (nodes_at space t) refl where
  by : (o : Option Nodes) → nodes_at space t ≡ o → AreLaid space (nodes_in space t)
  by None e = subst (AreLaid space) (sym (ap (λ o. or_same o no_nodes) e)) tt
  by (Some ns) e = nodes_are_laid space t (ap is_there e)

pub nodes_in_both : (space : Space) (a b : List ℕ) → Reads space a → Reads space b → Fits (nodes_in space a) b → Reads space (a ++ b) × (nodes_in space (a ++ b) ≡ nodes_in space a ⊕ nodes_in space b)
nodes_in_both space a b ha hb fits =
    let e = nodes_of_both space a b (nodes_in space a) (nodes_in space b) (nodes_are space a ha) (nodes_are space b hb) fits in
    (ap is_there e, ap (λ (o : Option Nodes). or_same o no_nodes) e)

-- an empty text is read as no nodes
pub nothing_in : (t : List ℕ) → length t ≡ 0 → nodes_in W t ≡ no_nodes
unfolding level_step nodes_at
nothing_in [] none = refl
nothing_in (b ∷ bs) none = absurd (omega (arith, none))

-- an empty text reads as no nodes
pub nothing_reads : Reads W []
unfolding level_step nodes_at
nothing_reads = refl
