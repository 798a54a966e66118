-- What is handed down to an element tells the same of it as its ancestors do.
use Rattle.std.proofs.Common.{◌≡◌, ◌∙◌, refl, ap, sym, subst, ℕ, ◌+◌, List, [], ◌∷◌, ◌++◌, Bool, true, false, is_some, drop, get_or, Option, option_map, if◌then◌else◌, ◌&&◌, true≢false, find, Some, None}
use Rattle.std.proofs.Math.Bool.{or-false}
use Rattle.std.specs.Cmp.{first_so, second_so}
use Rattle.redl_tree.specs.Model.Nodes.{Tag, Nodes}
use Rattle.redl_tree.specs.Roles.Names.{is}
use Rattle.redl_tree.specs.Roles.Arounds.{around_of, around_inside, role_in}
use Rattle.redl_tree.specs.Decisions.Packages.{is_story_root}
use Rattle.redl_tree.specs.Revisions.Moves.{Marking, pairs, Pair, is_of_pair}
use Rattle.redl_tree.specs.Revisions.Markers.{move_of_marker, move_of, whole_role, own_role, mark_end, move_of_member, either}
use Rattle.redl_tree.specs.Model.Seen.{Spot, spot, Seen, seen_one, root_spots, tags, tags_of}
use Rattle.redl_tree.specs.declared.around.Around.{Around}
use Rattle.redl_tree.specs.declared.kinds.Kind.{Kind}
use Rattle.redl_tree.specs.declared.kinds.Kind.TheVariants.{Marker, Content, Mark, Row, Cell, Change, Plain}
use Rattle.redl_tree.proofs.Roles.AroundLaws.{around_of-∷, role-in}
use Rattle.redl_stamp.specs.Attribute.{attribute_value}
use Rattle.redl_moves.specs.Starts.{start_in}
use Rattle.redl_moves.specs.declared.start.Start.{Start}
use Rattle.redl_index.specs.Markers.Ends.{one_end}
use Rattle.redl_index.specs.Inside.Markers.Free.{IsFree}
use Rattle.redl_index.specs.Inside.Sights.{para_end, IsApartAs, is_marker_by, marker_start, member_start, sight_at, next_end, ends_after, move_by}
use Rattle.redl_index.specs.declared.story.Sight.{Sight}
use Rattle.redl_tree.specs.Roles.Places.{is_open, within, role, placed, first_role, change_at, in_mark_props, in_row_props, in_cell_props, in_props, trace_of, row_trace_of, cell_trace_of, prop_of}
use Rattle.redl_tree.specs.declared.kinds.Trace.{Trace}
use Rattle.redl_tree.specs.declared.kinds.Prop.{Prop}
use Rattle.redl_tree.proofs.Roles.NameLaws.{is-other, is_any-apart}
use Rattle.redl_moves.specs.Standing.{IsApart}
use Rattle.redl_index.proofs.MarkerLaws.Free.{content-apart, mark-apart}

-- ---- a mark is at the end of the nearest paragraph

mark-end : (start : ℕ) (ancestors : List Spot) → in_mark_props (tags_of ancestors) ≡ true → mark_end start ancestors ≡ para_end ancestors
mark-end start [] e = absurd (true≢false (sym e))
mark-end start (r ∷ []) e = absurd (true≢false (sym (second_so (is "rPr" r.tag) false e)))
mark-end start (r ∷ q ∷ []) e =
    absurd (true≢false (sym (second_so (is "pPr" q.tag) false (second_so (is "rPr" r.tag) (is "pPr" q.tag && false) e))))
mark-end start (r ∷ q ∷ p ∷ ancestors) e =
    let below = within ("pPr" ∷ "p" ∷ []) (q.tag ∷ p.tag ∷ tags_of ancestors) in
    let last = within ("p" ∷ []) (p.tag ∷ tags_of ancestors) in
    let in_q = second_so (is "rPr" r.tag) below e in
    let in_p = second_so (is "pPr" q.tag) last in_q in
    sym (ap (λ b. if b then r.end else para_end (q ∷ p ∷ ancestors)) (is-other "rPr" "p" r.tag (first_so (is "rPr" r.tag) below e) refl)
    ∙ ap (λ b. if b then q.end else para_end (p ∷ ancestors)) (is-other "pPr" "p" q.tag (first_so (is "pPr" q.tag) last in_q) refl)
    ∙ ap (λ b. if b then p.end else para_end ancestors) (first_so (is "p" p.tag) (is_open (tags_of ancestors)) in_p))

-- what holds of each kind of role, and of a mark's where its properties are, holds of the role of an element
module _ (P : Kind → Type 0) (ancestors : List Tag) (tag : Tag) (plain : P Plain) (content : (t : Trace) → P (Content t)) (mark : in_mark_props ancestors ≡ true → (t : Trace) → P (Mark t))
    (row : (t : Trace) → P (Row t)) (cell : (t : Trace) → P (Cell t)) (change : (p : Prop) → P (Change p)) where
  first-holds : (holds : Bool) (k : Option Kind) (ks : List (Option Kind)) → (holds ≡ true → (x : Kind) → k ≡ Some x → P x) → P (first_role ks) → P (first_role (placed holds k ∷ ks))
  first-holds false k ks own rest = rest
  first-holds true None ks own rest = rest
  first-holds true (Some x) ks own rest = own refl x refl

  mapped : (f : Trace → Kind) → ((t : Trace) → P (f t)) → (t : Option Trace) (x : Kind) → option_map f t ≡ Some x → P x
  mapped f own None x e = absurd (cc)
  mapped f own (Some t) x e = let is : f t ≡ x = cc in subst P is (own t)

  changes : (prop : Option Prop) → P (first_role (change_at ancestors prop ∷ []))
  changes None = plain
  changes (Some p) = first-holds (in_props p ancestors) (Some (Change p)) [] (λ h x e. let is : Change p ≡ x = cc in subst P is (change p)) plain

  role-holds : P (role ancestors tag)
  role-holds =
      first-holds (is_open ancestors) (option_map Content (trace_of tag)) _ (λ h. mapped Content content (trace_of tag))
      (first-holds (in_mark_props ancestors) (option_map Mark (trace_of tag)) _ (λ h. mapped Mark (mark h) (trace_of tag))
      (first-holds (in_row_props ancestors) (option_map Row (row_trace_of tag)) _ (λ h. mapped Row row (row_trace_of tag))
      (first-holds (in_cell_props ancestors) (option_map Cell (cell_trace_of tag)) _ (λ h. mapped Cell cell (cell_trace_of tag))
      (changes (prop_of tag)))))

member-by : (moves : List Pair) (kind : Kind) (x : Seen) → move_of_member moves kind x ≡ move_by moves kind x.own.start (mark_end x.own.start x.ancestors)
member-by moves Plain x = refl
member-by moves (Content trace) x = refl
member-by moves (Mark trace) x = refl
member-by moves (Row trace) x = refl
member-by moves (Cell trace) x = refl
member-by moves (Change prop) x = refl
member-by moves Marker x = refl

-- the move of a member, by where the nearest paragraph ends
member-here : (moves : List Pair) (x : Seen) → move_of_member moves (own_role x) x ≡ move_by moves (own_role x) x.own.start (para_end x.ancestors)
member-here moves x =
    member-by moves (own_role x) x
    ∙ role-holds (λ k. move_by moves k x.own.start (mark_end x.own.start x.ancestors) ≡ move_by moves k x.own.start (para_end x.ancestors)) (tags_of x.ancestors) x.own.tag
    refl (λ t. refl) (λ in_mark t. ap (λ n. move_by moves (Mark t) x.own.start n) (mark-end x.own.start x.ancestors in_mark)) (λ t. refl) (λ t. refl) (λ p. refl)

-- no marker is where an element with a role is
apart-here : (marks : List Marking) (x : Seen) → IsFree marks x → IsApartAs marks (own_role x) x.own.start (para_end x.ancestors)
apart-here marks x free =
    role-holds (λ k. own_role x ≡ k → IsApartAs marks k x.own.start (para_end x.ancestors)) (tags_of x.ancestors) x.own.tag
    (λ e. tt) (λ t e. content-apart marks x free t e)
    (λ in_mark t e. let P : ℕ → Type 0 = λ n. IsApart n marks in subst P (mark-end x.own.start x.ancestors in_mark) (mark-apart marks x free t e))
    (λ t e. tt) (λ t e. tt) (λ p e. tt) refl

-- ---- the move of a marker

find_no : (xs : List Pair) → find (λ x. false) xs ≡ None
find_no [] = refl
find_no (x ∷ xs) = find_no xs

find-and : (b : Bool) (f : Pair → Bool) (xs : List Pair) → find (λ x. b && f x) xs ≡ (if b then find f xs else None)
find-and true f xs = refl
find-and false f xs = find_no xs

marker-here : (moves : List Pair) (ancestors : List Spot) (at : ℕ) (tag : Tag) (kids : Nodes) (around : Around) (b : Bool) → b ≡ is_marker_by around tag →
    around ≡ around_of (tags_of ancestors) →
    (if b then find (is_of_pair at) moves else None) ≡ move_of_marker attribute_value moves (seen_one ancestors at tag kids)
marker-here moves ancestors at tag kids around b is here =
    ap (λ b. if b then find (is_of_pair at) moves else None) (is ∙ ap (λ a. is_marker_by a tag) here)
    ∙ sym (find-and (is_marker_by (around_of (tags_of ancestors)) tag) (is_of_pair at) moves)

-- ---- the kind and the move of an element

is_some-map : (marks : List Marking) (m : Option Pair) → is_some (option_map (start_in marks) m) ≡ is_some m
is_some-map marks None = refl
is_some-map marks (Some pair) = refl

either-none : (m other : Option Pair) → is_some m ≡ false → either m other ≡ other
either-none None other e = refl
either-none (Some pair) other e = absurd (true≢false e)

either-some : (m other : Option Pair) → is_some m ≡ true → either m other ≡ m
either-some None other e = absurd (true≢false (sym e))
either-some (Some pair) other e = refl

module _ (marks : List Marking) (x : Seen) (found : Option Start) (is : found ≡ option_map (start_in marks) (move_of_marker attribute_value (pairs marks) x)) where
  -- an element that is a marker of a move
  marker-kind : is_some found ≡ true → Marker ≡ whole_role attribute_value (pairs marks) x
  marker-kind e = ap (λ b. if b then Marker else own_role x) (sym e ∙ ap is_some is ∙ is_some-map marks (move_of_marker attribute_value (pairs marks) x))

  marker-move : is_some found ≡ true → found ≡ option_map (start_in marks) (move_of attribute_value (pairs marks) x)
  marker-move e =
      let m = move_of_marker attribute_value (pairs marks) x in
      is ∙ ap (option_map (start_in marks)) (sym (either-some m (move_of_member (pairs marks) (own_role x) x) (sym (is_some-map marks m) ∙ sym (ap is_some is) ∙ e)))

  -- another element
  member-kind : is_some found ≡ false → own_role x ≡ whole_role attribute_value (pairs marks) x
  member-kind e = ap (λ b. if b then Marker else own_role x) (sym e ∙ ap is_some is ∙ is_some-map marks (move_of_marker attribute_value (pairs marks) x))

  member-move : is_some found ≡ false →
      option_map (start_in marks) (move_by (pairs marks) (own_role x) x.own.start (para_end x.ancestors)) ≡ option_map (start_in marks) (move_of attribute_value (pairs marks) x)
  member-move e =
      let m = move_of_marker attribute_value (pairs marks) x in
      ap (option_map (start_in marks))
      (sym (member-here (pairs marks) x) ∙ sym (either-none m (move_of_member (pairs marks) (own_role x) x) (sym (is_some-map marks m) ∙ sym (ap is_some is) ∙ e)))

-- ---- what an element is

abbrev pub sight : Kind → Option Start → Sight
sight kind start = record { kind = kind; start = start }

sight-same : (k l : Kind) (s t : Option Start) → k ≡ l → s ≡ t → sight k s ≡ sight l t
sight-same k l s t p q = rw (p, q) refl

module _ (marks : List Marking) (spots : List Spot) (at : ℕ) (tag : Tag) (kids : Nodes) where
  abbrev around : Around
  around = around_of (tags_of spots)

  abbrev one : Seen
  one = seen_one spots at tag kids

  marker-is : marker_start marks around at tag ≡ option_map (start_in marks) (move_of_marker attribute_value (pairs marks) one)
  marker-is = ap (option_map (start_in marks)) (marker-here (pairs marks) spots at tag kids around (is_marker_by around tag) refl refl)

  role-is : role_in around tag ≡ own_role one
  role-is = sym (role-in (tags_of spots) tag)

  pub sight-here : sight_at marks around (para_end spots) at tag
      ≡ sight (whole_role attribute_value (pairs marks) one) (option_map (start_in marks) (move_of attribute_value (pairs marks) one))
  sight-here = by (is_some found) refl
    where
      found : Option Start
      found = marker_start marks around at tag

      by : (b : Bool) → is_some found ≡ b
          → (if b then sight Marker found else sight (role_in around tag) (member_start marks (role_in around tag) at (para_end spots)))
          ≡ sight (whole_role attribute_value (pairs marks) one) (option_map (start_in marks) (move_of attribute_value (pairs marks) one))
      by true is = sight-same _ _ _ _ (marker-kind marks one found marker-is is) (marker-move marks one found marker-is is)
      by false is =
          sight-same _ _ _ _ (role-is ∙ member-kind marks one found marker-is is)
          (ap (λ role. member_start marks role at (para_end spots)) role-is ∙ member-move marks one found marker-is is)

  -- no marker is where its role is
  pub apart-at : IsFree marks one → IsApartAs marks (role_in around tag) at (para_end spots)
  apart-at free =
      let Apart : Kind → Type 0 = λ role. IsApartAs marks role at (para_end spots) in
      subst Apart (sym role-is) (apart-here marks one free)

-- ---- what is handed down to its kids

module _ (spots : List Spot) (at : ℕ) (tag : Tag) (kids : Nodes) (ends later : List ℕ) (left : ends ≡ one_end tag (at + 1 + tags kids) ++ later) where
  pub end-inside : next_end tag ends (para_end spots) ≡ para_end (spot at tag kids ∷ spots)
  end-inside = by (is "p" tag) left
    where
      by : (b : Bool) → ends ≡ (if b then (at + 1 + tags kids) ∷ [] else []) ++ later
          → (if b then get_or ends 0 0 else para_end spots) ≡ (if b then at + 1 + tags kids else para_end spots)
      by true left = ap (λ xs. get_or xs 0 0) left
      by false left = refl

  pub ends-inside : ends_after tag ends ≡ later
  ends-inside = by (is "p" tag) left
    where
      by : (b : Bool) → ends ≡ (if b then (at + 1 + tags kids) ∷ [] else []) ++ later → (if b then drop 1 ends else ends) ≡ later
      by true left = ap (drop 1) left
      by false left = left

pub around-inside : (at : ℕ) (tag : Tag) (kids : Nodes) (spots : List Spot) → around_inside tag (around_of (tags_of spots)) ≡ around_of (tags_of (spot at tag kids ∷ spots))
around-inside at tag kids spots = sym (around_of-∷ tag (tags_of spots))

-- the root of a story is no paragraph
root-no_p : (tag : Tag) → is_story_root tag ≡ true → is "p" tag ≡ false
root-no_p tag root =
    sym (or-false (is "p" tag))
    ∙ is_any-apart ("document" ∷ "hdr" ∷ "ftr" ∷ "footnotes" ∷ "endnotes" ∷ "comments" ∷ []) ("p" ∷ []) tag root refl

pub para_end-root : (tag : Tag) (kids : Nodes) → is_story_root tag ≡ true → para_end (root_spots tag kids) ≡ 0
para_end-root tag kids root = ap (λ b. if b then 0 + 1 + tags kids else 0) (root-no_p tag root)
