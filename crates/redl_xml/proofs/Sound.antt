-- An element that is read is legal, and the bytes are its text.
use Rattle.std.proofs.Common.{◌≡◌, ◌≢◌, ℕ, zero, suc, Bool, true, false, eqb, List, [], ◌∷◌, ◌++◌, length, drop, Option, Some, None, refl, sym, ap, subst, ◌∙◌}
use Rattle.std.specs.List.{list_all}
use Rattle.std.proofs.lemmas.Option.{same_Some, cond_some, some_pair_parts, none-some}
use Rattle.redl_tree.specs.Model.Nodes.{Tag, Nodes, no_nodes, bytes, element, ◌⊕◌}
use Rattle.redl_tree.specs.declared.kinds.Space.{Space}
use Rattle.redl_tree.specs.Model.Nodes.{Close, Empty, End}
use Rattle.redl_grammar.specs.declared.section.Section.TheVariants.{InElement}
use Rattle.redl_reading.specs.Lists.{is_other}
use Rattle.redl_reading.specs.Steps.{turn, turns}
use Rattle.redl_grammar.specs.Names.{Name, name_text, name_eq, IsName}
use Rattle.redl_grammar.specs.Tails.{IsTail}
use Rattle.redl_grammar.specs.Stretches.{Item, items_then, Head, head_then, IsStretch, begins_item, ends_stretch}
use Rattle.redl_grammar.specs.Pieces.{Piece, start_tag, empty_tag, end_tag, stretch, piece_then, IsPiece, Follows}
use Rattle.redl_grammar.specs.ScanPieces.{piece_at}
use Rattle.std.proofs.lemmas.Bool.{and_parts, not-true, both_ways}
use Rattle.std.proofs.Math.Bool.{and-false}
use Rattle.redl_reading.proofs.Steps.{bind_some}
use Rattle.redl_grammar.proofs.Items.{item_begins}
use Rattle.redl_grammar.proofs.Stretches.{whole_then}
use Rattle.redl_grammar.proofs.Pieces.{piece_takes}
use Rattle.redl_xml.specs.Shapes.{begins_with_bytes}
use Rattle.redl_xml.specs.Scopes.{Scope}
use Rattle.redl_xml.specs.Readings.{IsTag, ClosesBy, AreLegal}
use Rattle.redl_xml.specs.Inside.Elements.{entered, declared_in, Frame, State, plain_tag, one_element, added, opened, closed, stretched, placed, finished_by, finished, nothing_yet, element_step, element_at}
use Rattle.redl_tree.specs.Model.Laid.{last_is_bytes, ends_with_bytes}
use Rattle.redl_xml.proofs.Scoping.{MayEnter, inside, entered_takes, left_entered}
use Rattle.redl_xml.proofs.Buildings.{state}
use Rattle.redl_xml.proofs.Loops.{step_goes, step_ends, step_fails, step_refuses}
use Rattle.redl_tree.proofs.Model.TreeTexts.{tree_then, tree_then-⊕}
use Rattle.redl_tree.proofs.Reading.SameBytes.{same_name}

-- ---- the text so far

abbrev pub frames_then : List Frame → List ℕ → List ℕ
frames_then [] y = y
frames_then (f ∷ fs) y = frames_then fs (tree_then f.before (60 ∷ (name_text f.name ++ (f.tail ++ (62 ∷ y)))))

abbrev pub so_far_then : State → List ℕ → List ℕ
so_far_then s y = frames_then s.open_elements (tree_then s.kids y)

pub closed_some : (f : Frame) (fs : List Frame) (kids : Nodes) (scope : Scope) (name : Name) (space : List ℕ) (s' : State) → closed (f ∷ fs) kids scope name space ≡ Some s' → (f.name ≡ name) × (state fs (f.before ⊕ one_element f.name f.space f.tail (End space) kids) (drop f.declared scope) ≡ s')
closed_some f fs kids scope name space s' e =
    let c = cond_some (name_eq f.name name) (state fs (f.before ⊕ one_element f.name f.space f.tail (End space) kids) (drop f.declared scope)) s' e in
    (same_name f.name name c.0, c.1)

closed_text : (fs : List Frame) (kids : Nodes) (scope : Scope) (name : Name) (space : List ℕ) (s' : State) (rest : List ℕ) → closed fs kids scope name space ≡ Some s' → so_far_then s' rest ≡ frames_then fs (tree_then kids (piece_then (end_tag name space) rest))
closed_text [] kids scope name space s' rest e = absurd (none-some s' e)
closed_text (f ∷ fs) kids scope name space s' rest e =
    let c = closed_some f fs kids scope name space s' e in
    let P : State → Type 0 = λ s. so_far_then s rest ≡ frames_then (f ∷ fs) (tree_then kids (piece_then (end_tag name space) rest)) in
    let Q : Name → Type 0 = λ n. frames_then fs (tree_then (f.before ⊕ one_element f.name f.space f.tail (End space) kids) rest) ≡ frames_then (f ∷ fs) (tree_then kids (piece_then (end_tag n space) rest)) in
    subst P c.1 (subst Q c.0 (ap (frames_then fs) (tree_then-⊕ f.before (one_element f.name f.space f.tail (End space) kids) rest)))

added_text : (s : State) (x : Nodes) (rest : List ℕ) → so_far_then (added s x) rest ≡ so_far_then s (tree_then x rest)
added_text s x rest = ap (frames_then s.open_elements) (tree_then-⊕ s.kids x rest)

stretched_some : (fs : List Frame) (s s' : State) (b : List ℕ) → stretched fs s b ≡ Some s' → added s (bytes b no_nodes) ≡ s'
stretched_some [] s s' b e = absurd (none-some s' e)
stretched_some (f ∷ fs) s s' b e = same_Some (added s (bytes b no_nodes)) s' e

placed_text : (p : Piece) (s s' : State) (rest : List ℕ) → placed p s ≡ Some s' → so_far_then s' rest ≡ so_far_then s (piece_then p rest)
placed_text (start_tag name tail) s s' rest e =
    let r = bind_some (entered s.scope name tail) (λ x. Some (opened name tail s x)) s' e in
    ap (λ (t : State). so_far_then t rest) (sym (same_Some (opened name tail s r.0) s' r.2))
placed_text (empty_tag name tail) s s' rest e =
    let r = bind_some (entered s.scope name tail) (λ x. Some (added s (one_element name x.0 tail Empty no_nodes))) s' e in
    ap (λ (t : State). so_far_then t rest) (sym (same_Some (added s (one_element name r.0.0 tail Empty no_nodes)) s' r.2)) ∙ added_text s (one_element name r.0.0 tail Empty no_nodes) rest
placed_text (stretch b) s s' rest e =
    ap (λ (t : State). so_far_then t rest) (sym (stretched_some s.open_elements s s' b e)) ∙ added_text s (bytes b no_nodes) rest
placed_text (end_tag name space) s s' rest e = closed_text s.open_elements s.kids s.scope name space s' rest e

-- ---- what was built so far is legal

legal-⊕ : (scope : Scope) (x y : Nodes) → AreLegal scope x → AreLegal scope y → (ends_with_bytes x ≡ true → begins_with_bytes y ≡ false) → AreLegal scope (x ⊕ y)
legal-⊕ scope no_nodes y hx hy apart = hy
legal-⊕ scope (bytes b no_nodes) y hx hy apart = (hx.0, apart refl, hy)
legal-⊕ scope (bytes b (bytes c rest)) y hx hy apart = absurd (let h = hx.1 in cc)
legal-⊕ scope (bytes b (element tag kids rest)) y hx hy apart = (hx.0, refl, legal-⊕ scope (element tag kids rest) y hx.2 hy apart)
legal-⊕ scope (element tag kids rest) y hx hy apart = (hx.0, hx.1, hx.2, legal-⊕ scope rest y hx.3 hy apart)

ends-⊕_element : (t : Bool) (x : Nodes) (tag : Tag) (kids : Nodes) → last_is_bytes t (x ⊕ element tag kids no_nodes) ≡ false
ends-⊕_element t no_nodes tag kids = refl
ends-⊕_element t (bytes b rest) tag kids = ends-⊕_element true rest tag kids
ends-⊕_element t (element other xs rest) tag kids = ends-⊕_element false rest tag kids

-- the frame's tag is legal in the scope around it
record OpensIn (outer : Scope) (f : Frame) (inner : Scope) : Type 0 where
  name : IsName f.name
  tail : IsTail f.tail
  may : MayEnter outer f.name f.tail
  is : inside outer f.name f.tail ≡ (f.space, inner)

abbrev AreLegalFrames : List Frame → Scope → Type 0
AreLegalFrames [] scope = scope ≡ []
AreLegalFrames (f ∷ fs) scope = OpensIn (drop f.declared scope) f scope × AreLegal (drop f.declared scope) f.before × AreLegalFrames fs (drop f.declared scope)

-- the state is legal, and a stretch at its end is as long as it can be
record IsLegalAt (s : State) (rest : List ℕ) : Type 0 where
  frames_legal : AreLegalFrames s.open_elements s.scope
  kids_legal : AreLegal s.scope s.kids
  follows : ends_with_bytes s.kids ≡ true → ends_stretch rest ≡ true

item_goes_on : (bs : List ℕ) → begins_item bs ≡ true → ends_stretch bs ≡ false
item_goes_on [] e = absurd cc
item_goes_on (b ∷ bs) e = rw e (and-false (eqb b 60))

-- where a stretch is, none ends
content_goes_on : (first : List ℕ) (more : List (Item × List ℕ)) (rest : List ℕ) → list_all (is_other 60) first ≡ true → (first ++ items_then more [] ≢ []) → ends_stretch (first ++ items_then more rest) ≡ false
content_goes_on [] [] rest h filled = absurd (filled refl)
content_goes_on [] (i ∷ more) rest h filled = item_goes_on (items_then (i ∷ more) rest) (item_begins i.0 (i.1 ++ items_then more rest))
content_goes_on (b ∷ bs) more rest h filled = rw (not-true (eqb b 60) (and_parts (is_other 60 b) (list_all (is_other 60) bs) h).0) refl

stretch_goes_on : (b rest : List ℕ) → IsStretch InElement b → ends_stretch (b ++ rest) ≡ false
stretch_goes_on b rest h =
    let headless : (x : List ℕ) → head_then h.head x ≡ x = λ x. ap (λ (d : Head). head_then d x) h.is_head in
    let whole : b ++ rest ≡ h.first ++ items_then h.more rest = ap (λ (z : List ℕ). z ++ rest) h.whole ∙ whole_then h.head h.first h.more rest ∙ headless (h.first ++ items_then h.more rest) in
    ap ends_stretch whole ∙ content_goes_on h.first h.more rest h.first_run.no_tag (λ e. h.filled (h.whole ∙ headless (h.first ++ items_then h.more []) ∙ e))

is_tag : (scope : Scope) (name : Name) (tail : List ℕ) (close : Close) (x : Space × Scope) → IsName name → IsTail tail → MayEnter scope name tail → inside scope name tail ≡ x → IsTag scope (plain_tag name x.0 tail close)
is_tag scope name tail close x n t m e = record {
  name = n;
  tail = t;
  declarations = m.declarations;
  prefix = m.prefix;
  prefixes = m.prefixes;
  space = ap (λ (y : Space × Scope). y.0) (sym e);
  kind = refl;
  rev = refl;
}

-- one more element among the kids
add_element : (fs : List Frame) (scope : Scope) (before : Nodes) (name : Name) (tail : List ℕ) (close : Close) (kids : Nodes) (x : Space × Scope) (rest : List ℕ) → AreLegalFrames fs scope → AreLegal scope before → IsName name → IsTail tail → MayEnter scope name tail → inside scope name tail ≡ x → ClosesBy close kids → AreLegal x.1 kids
    → IsLegalAt (state fs (before ⊕ one_element name x.0 tail close kids) scope) rest
add_element fs scope before name tail close kids x rest frames b n t m e c k =
    let P : Space × Scope → Type 0 = λ y. AreLegal y.1 kids in
    record {
      frames_legal = frames;
      kids_legal = legal-⊕ scope before (one_element name x.0 tail close kids) b (is_tag scope name tail close x n t m e, c, subst P (sym e) k, tt) (λ e. refl);
      follows = λ h. absurd (both_ways _ (ends-⊕_element false before (plain_tag name x.0 tail close) kids) h);
    }

closed_legal : (fs : List Frame) (kids : Nodes) (scope : Scope) (name : Name) (space : List ℕ) (s' : State) (rest : List ℕ) → closed fs kids scope name space ≡ Some s' → AreLegalFrames fs scope → AreLegal scope kids → ClosesBy (End space) kids → IsLegalAt s' rest
closed_legal [] kids scope name space s' rest e hf hk c = absurd (none-some s' e)
closed_legal (f ∷ fs) kids scope name space s' rest e hf hk c =
    let r = closed_some f fs kids scope name space s' e in
    let P : State → Type 0 = λ s. IsLegalAt s rest in
    let o = hf.0 in
    subst P r.1 (add_element fs (drop f.declared scope) f.before f.name f.tail (End space) kids (f.space, scope) rest hf.2 hf.1 o.name o.tail o.may o.is c hk)

placed_legal : (p : Piece) (s s' : State) (rest : List ℕ) → placed p s ≡ Some s' → IsPiece InElement p → Follows p rest → IsLegalAt s (piece_then p rest) → IsLegalAt s' rest
placed_legal (start_tag name tail) s s' rest e h f legal =
    let r = bind_some (entered s.scope name tail) (λ x. Some (opened name tail s x)) s' e in
    let t = entered_takes s.scope name tail r.0 r.1 in
    let frame : Frame = record { name = name; tail = tail; declared = declared_in tail; space = r.0.0; before = s.kids } in
    let Q : Scope → Type 0 = λ sc. OpensIn sc frame r.0.1 × AreLegal sc s.kids × AreLegalFrames s.open_elements sc in
    let P : State → Type 0 = λ t. IsLegalAt t rest in
    subst P (same_Some (opened name tail s r.0) s' r.2) (record {
      frames_legal = subst Q (sym (left_entered s.scope name tail r.0 r.1)) (record { name = h.0; tail = h.1; may = t.0; is = t.1 }, legal.kids_legal, legal.frames_legal);
      kids_legal = tt;
      follows = λ e. absurd cc;
    })
placed_legal (empty_tag name tail) s s' rest e h f legal =
    let r = bind_some (entered s.scope name tail) (λ x. Some (added s (one_element name x.0 tail Empty no_nodes))) s' e in
    let t = entered_takes s.scope name tail r.0 r.1 in
    let P : State → Type 0 = λ t. IsLegalAt t rest in
    subst P (same_Some (added s (one_element name r.0.0 tail Empty no_nodes)) s' r.2)
    (add_element s.open_elements s.scope s.kids name tail Empty no_nodes r.0 rest legal.frames_legal legal.kids_legal h.0 h.1 t.0 t.1 refl tt)
placed_legal (stretch b) s s' rest e h f legal =
    let apart : ends_with_bytes s.kids ≡ true → ⊥ = λ yes. both_ways _ (stretch_goes_on b rest h) (legal.follows yes) in
    let P : State → Type 0 = λ t. IsLegalAt t rest in
    subst P (stretched_some s.open_elements s s' b e) (record {
      frames_legal = legal.frames_legal;
      kids_legal = legal-⊕ s.scope s.kids (bytes b no_nodes) legal.kids_legal (h, refl, tt) (λ yes. absurd (apart yes));
      follows = λ _. f;
    })
placed_legal (end_tag name space) s s' rest e h f legal = closed_legal s.open_elements s.kids s.scope name space s' rest e legal.frames_legal legal.kids_legal h.1

-- ---- what is finished is one element

abbrev top : List Frame → Nodes → Nodes
top [] kids = kids
top (f ∷ fs) kids = top fs f.before

abbrev top_of : State → Nodes
top_of s = top s.open_elements s.kids

pub record IsOne (u : Nodes) : Type 0 where
  pub tag : Tag
  pub kids : Nodes
  pub whole : u ≡ element tag kids no_nodes

-- either the element is finished, or nothing comes before the outermost one yet
abbrev Holds : State → Type 0
Holds s = by_frames s.open_elements s.kids where
  by_frames : List Frame → Nodes → Type 0
  by_frames [] kids = IsOne kids
  by_frames (f ∷ fs) kids = top (f ∷ fs) kids ≡ no_nodes

one_after : (before : Nodes) (tag : Tag) (kids : Nodes) → before ≡ no_nodes → IsOne (before ⊕ element tag kids no_nodes)
one_after before tag kids e = record { tag = tag; kids = kids; whole = ap (λ (b : Nodes). b ⊕ element tag kids no_nodes) e }

added_holds : (fs : List Frame) (before : Nodes) (tag : Tag) (kids : Nodes) (scope : Scope) → top fs before ≡ no_nodes → Holds (state fs (before ⊕ element tag kids no_nodes) scope)
added_holds [] before tag kids scope e = one_after before tag kids e
added_holds (f ∷ fs) before tag kids scope e = e

closed_holds : (fs : List Frame) (kids : Nodes) (scope : Scope) (name : Name) (space : List ℕ) (s' : State) → closed fs kids scope name space ≡ Some s' → top fs kids ≡ no_nodes → Holds s'
closed_holds [] kids scope name space s' e t = absurd (none-some s' e)
closed_holds (f ∷ fs) kids scope name space s' e t =
    let r = closed_some f fs kids scope name space s' e in
    let P : State → Type 0 = Holds in
    subst P r.1 (added_holds fs f.before (plain_tag f.name f.space f.tail (End space)) kids (drop f.declared scope) t)

stretched_holds : (fs : List Frame) (kids : Nodes) (scope : Scope) (s' : State) (b : List ℕ) → stretched fs (state fs kids scope) b ≡ Some s' → top fs kids ≡ no_nodes → Holds s'
stretched_holds [] kids scope s' b e t = absurd (none-some s' e)
stretched_holds (f ∷ fs) kids scope s' b e t = let P : State → Type 0 = Holds in subst P (same_Some _ s' e) t

placed_holds : (p : Piece) (s s' : State) → placed p s ≡ Some s' → top_of s ≡ no_nodes → Holds s'
placed_holds (start_tag name tail) s s' e t =
    let r = bind_some (entered s.scope name tail) (λ x. Some (opened name tail s x)) s' e in
    let P : State → Type 0 = Holds in
    subst P (same_Some (opened name tail s r.0) s' r.2) t
placed_holds (empty_tag name tail) s s' e t =
    let r = bind_some (entered s.scope name tail) (λ x. Some (added s (one_element name x.0 tail Empty no_nodes))) s' e in
    let P : State → Type 0 = Holds in
    subst P (same_Some (added s (one_element name r.0.0 tail Empty no_nodes)) s' r.2) (added_holds s.open_elements s.kids (plain_tag name r.0.0 tail Empty) no_nodes s.scope t)
placed_holds (stretch b) s s' e t = stretched_holds s.open_elements s.kids s.scope s' b e t
placed_holds (end_tag name space) s s' e t = closed_holds s.open_elements s.kids s.scope name space s' e t

-- ---- what is read is the text

pub record IsSound (s : State) (bs : List ℕ) (u : Nodes) (rest : List ℕ) : Type 0 where
  pub whole : tree_then u rest ≡ so_far_then s bs
  pub legal : AreLegal [] u
  pub one : IsOne u

finish_sound : (fs : List Frame) (kids : Nodes) (scope : Scope) (u : Nodes) (rest : List ℕ) → finished_by fs kids ≡ Some u → IsLegalAt (state fs kids scope) rest → Holds (state fs kids scope) → IsSound (state fs kids scope) rest u rest
finish_sound (f ∷ fs) kids scope u rest e l h = absurd (none-some u e)
finish_sound [] kids scope u rest e l h =
    let P : Nodes → Type 0 = λ v. IsSound (state [] kids scope) rest v rest in
    let Q : Scope → Type 0 = λ sc. AreLegal sc kids in
    subst P (same_Some kids u e) (record { whole = refl; legal = subst Q l.frames_legal l.kids_legal; one = h })

unfinished_top : (fs : List Frame) (kids : Nodes) (scope : Scope) → finished_by fs kids ≡ None → Holds (state fs kids scope) → top fs kids ≡ no_nodes
unfinished_top [] kids scope e h = absurd (none-some kids (sym e))
unfinished_top (f ∷ fs) kids scope e h = h

sound_turns : (n : ℕ) (bs : List ℕ) (s : State) (u : Nodes) (rest : List ℕ) → turns element_step n (bs, s) ≡ Some (u, rest) → IsLegalAt s bs → top_of s ≡ no_nodes → IsSound s bs u rest
sound_turns zero bs s u rest e l t = absurd (none-some (u, rest) e)
sound_turns (suc n) bs s u rest e l t = by_piece n bs s u rest (piece_at InElement bs) refl e l t (sound_turns n) where
  by_finish : (n : ℕ) (bs : List ℕ) (s s' : State) (u : Nodes) (rest : List ℕ) (x : Piece × List ℕ) → piece_at InElement bs ≡ Some x → placed x.0 s ≡ Some s' → (o : Option Nodes) → finished s' ≡ o → turn (element_step (bs, s)) (turns element_step n) ≡ Some (u, rest) → IsLegalAt s bs → top_of s ≡ no_nodes
      → ((cs : List ℕ) (t : State) (v : Nodes) (r : List ℕ) → turns element_step n (cs, t) ≡ Some (v, r) → IsLegalAt t cs → top_of t ≡ no_nodes → IsSound t cs v r) → IsSound s bs u rest
  by_finish n bs s s' u rest x g p None f e l t go =
      let k = piece_takes InElement bs x g in
      let P : List ℕ → Type 0 = λ cs. IsLegalAt s cs in
      let legal = placed_legal x.0 s s' x.1 p k.legal k.follows (subst P k.whole l) in
      let more = go x.1 s' u rest (rw (step_goes bs s s' x g p f) at e) legal (unfinished_top s'.open_elements s'.kids s'.scope f (placed_holds x.0 s s' p t)) in
      record { whole = more.whole ∙ placed_text x.0 s s' x.1 p ∙ ap (so_far_then s) (sym k.whole); legal = more.legal; one = more.one }
  by_finish n bs s s' u rest x g p (Some v) f e l t go =
      let k = piece_takes InElement bs x g in
      let P : List ℕ → Type 0 = λ cs. IsLegalAt s cs in
      let legal = placed_legal x.0 s s' x.1 p k.legal k.follows (subst P k.whole l) in
      let same = some_pair_parts v u x.1 rest (rw (step_ends bs s s' x v g p f) at e) in
      let made = finish_sound s'.open_elements s'.kids s'.scope v x.1 f legal (placed_holds x.0 s s' p t) in
      let Q : Nodes → Type 0 = λ w. IsSound s bs w x.1 in
      let R : List ℕ → Type 0 = λ r. IsSound s bs u r in
      let here : IsSound s bs v x.1 = record { whole = made.whole ∙ placed_text x.0 s s' x.1 p ∙ ap (so_far_then s) (sym k.whole); legal = made.legal; one = made.one } in
      subst R same.1 (subst Q same.0 here)

  by_place : (n : ℕ) (bs : List ℕ) (s : State) (u : Nodes) (rest : List ℕ) (x : Piece × List ℕ) → piece_at InElement bs ≡ Some x → (o : Option State) → placed x.0 s ≡ o → turn (element_step (bs, s)) (turns element_step n) ≡ Some (u, rest) → IsLegalAt s bs → top_of s ≡ no_nodes
      → ((cs : List ℕ) (t : State) (v : Nodes) (r : List ℕ) → turns element_step n (cs, t) ≡ Some (v, r) → IsLegalAt t cs → top_of t ≡ no_nodes → IsSound t cs v r) → IsSound s bs u rest
  by_place n bs s u rest x g None p e l t go = absurd (none-some (u, rest) (rw (step_refuses bs s x g p) at e))
  by_place n bs s u rest x g (Some s') p e l t go = by_finish n bs s s' u rest x g p (finished s') refl e l t go

  by_piece : (n : ℕ) (bs : List ℕ) (s : State) (u : Nodes) (rest : List ℕ) → (o : Option (Piece × List ℕ)) → piece_at InElement bs ≡ o → turn (element_step (bs, s)) (turns element_step n) ≡ Some (u, rest) → IsLegalAt s bs → top_of s ≡ no_nodes
      → ((cs : List ℕ) (t : State) (v : Nodes) (r : List ℕ) → turns element_step n (cs, t) ≡ Some (v, r) → IsLegalAt t cs → top_of t ≡ no_nodes → IsSound t cs v r) → IsSound s bs u rest
  by_piece n bs s u rest None g e l t go = absurd (none-some (u, rest) (rw (step_fails bs s g) at e))
  by_piece n bs s u rest (Some x) g e l t go = by_place n bs s u rest x g (placed x.0 s) refl e l t go

-- the element that is read is legal, and the bytes begin with it
pub element_sound : (bs : List ℕ) (u : Nodes) (rest : List ℕ) → element_at bs ≡ Some (u, rest) → IsSound nothing_yet bs u rest
unfolding element_at
element_sound bs u rest e = sound_turns (suc (length bs)) bs nothing_yet u rest e (record { frames_legal = refl; kids_legal = tt; follows = λ e. absurd cc }) refl
