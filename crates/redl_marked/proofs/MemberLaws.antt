-- NO REVISION IS LEFT OUT: the sign of each member of a revision is a part of the marked text. The sign of a member of a
-- paragraph's mark waits, on the way up from the member, for the end of its paragraph.
use Rattle.std.proofs.Common.{◌≡◌, ℕ, suc, zero, List, [], ◌∷◌, ◌++◌, map, filter_map, Bool, true, false, ◌⊎◌, inl, inr, Option, Some, None, refl, sym, ap, ◌∙◌, subst, arith, append_assoc, append-nil, true≢false, if◌then◌else◌}
use Rattle.std.specs.Option.{option_map}
use Rattle.std.specs.List.{All, flat_map, last_or, cons_option}
use Rattle.std.proofs.lemmas.List.Elements.{All-append}
use Rattle.std.proofs.lemmas.Bool.{and_parts}
use Rattle.redl_tree.specs.Model.Nodes.{Tag, Nodes, no_nodes, bytes, element}
use Rattle.redl_tree.specs.Roles.Names.{is}
use Rattle.redl_tree.specs.Roles.Places.{is_open, within, in_mark_props, role}
use Rattle.redl_tree.specs.Decisions.Packages.{is_story_root, stories}
use Rattle.redl_tree.specs.Revisions.Markers.{Value}
use Rattle.redl_tree.specs.Revisions.Numbers.{IsIndexed}
use Rattle.redl_tree.specs.declared.kinds.Trace.{Trace}
use Rattle.redl_tree.specs.declared.kinds.Kind.{Kind}
use Rattle.redl_tree.specs.declared.kinds.Kind.TheVariants.{Plain, Content, Mark, Row, Cell, Change, Marker}
use Rattle.redl_tree.proofs.Roles.Named.{by_names}
use Rattle.redl_tree.proofs.Roles.Fits.{Fits, AllFit}
use Rattle.redl_laws.proofs.Survival.Indexed.{AreStories, indexed_stories}
use Rattle.redl_laws.proofs.OneRole.{fits, stand_in, names_of, fits_or_plain}
use Rattle.redl_tree.specs.Roles.Names.{is_any}
use Rattle.redl_opc.specs.Elements.{Element}
use Rattle.redl_opc.specs.Parts.{name_in}
use Rattle.redl_opc.specs.Shape.{parts_of, story_of, refusal}
use Rattle.redl_opc.proofs.StoryLaws.{stories-parts}
use Rattle.redl_shown.specs.Shown.{shown}
use Rattle.redl_marked.specs.Signs.{start_sign, mark_sign, end_sign, mark_signs, run_signs, para_signs}
use Rattle.redl_marked.specs.MarkedText.{NamedStory, named_story, named_stories, in_text, open_start, open_end, start_marked, end_marked, marked_in, story_marked, heading, headed, stories_marked, marked_text}
use Rattle.redl_marked.specs.Members.{is_member, members_in, members_of, member_sign, HasPart}

-- ---- parts of texts

part_whole : (part : List ℕ) → HasPart part part
part_whole part = record { before = []; after = []; splits = sym (append-nil part) }

part_left : (part xs ys : List ℕ) → HasPart part xs → HasPart part (xs ++ ys)
part_left part xs ys h = record {
  before = h.before;
  after = h.after ++ ys;
  splits = ap (λ t. t ++ ys) h.splits ∙ append_assoc h.before (part ++ h.after) ys ∙ ap (λ t. h.before ++ t) (append_assoc part h.after ys);
}

part_right : (part xs ys : List ℕ) → HasPart part ys → HasPart part (xs ++ ys)
part_right part xs ys h = record {
  before = xs ++ h.before;
  after = h.after;
  splits = ap (λ t. xs ++ t) h.splits ∙ sym (append_assoc xs h.before (part ++ h.after));
}

-- ---- a sign on its way up

-- it is a part of the text of these nodes, or waits for the end of the paragraph: in its `rPr`, in its `pPr`, or among its kids
data PutOrWaits (ancestors : List Tag) (nodes : Nodes) (sign : List ℕ) : Type 0 where
  put : HasPart sign (marked_in ancestors nodes) → PutOrWaits ancestors nodes sign
  in_run : within ("rPr" ∷ "pPr" ∷ "p" ∷ []) ancestors ≡ true → HasPart sign (mark_signs nodes) → PutOrWaits ancestors nodes sign
  in_props : within ("pPr" ∷ "p" ∷ []) ancestors ≡ true → HasPart sign (run_signs nodes) → PutOrWaits ancestors nodes sign
  in_para : within ("p" ∷ []) ancestors ≡ true → HasPart sign (para_signs nodes) → PutOrWaits ancestors nodes sign

told_after_bytes : (ancestors : List Tag) (b : List ℕ) (rest : Nodes) (sign : List ℕ) → PutOrWaits ancestors rest sign → PutOrWaits ancestors (bytes b rest) sign
told_after_bytes ancestors b rest sign (put h) = put (part_right sign (if in_text ancestors then shown b else []) (marked_in ancestors rest) h)
told_after_bytes ancestors b rest sign (in_run w h) = in_run w h
told_after_bytes ancestors b rest sign (in_props w h) = in_props w h
told_after_bytes ancestors b rest sign (in_para w h) = in_para w h

-- what an element shows by itself
abbrev element_marked : List Tag → Tag → Nodes → List ℕ
element_marked ancestors tag kids = start_marked ancestors tag ++ (marked_in (tag ∷ ancestors) kids ++ end_marked ancestors tag kids)

told_after : (ancestors : List Tag) (tag : Tag) (kids rest : Nodes) (sign : List ℕ) → PutOrWaits ancestors rest sign → PutOrWaits ancestors (element tag kids rest) sign
told_after ancestors tag kids rest sign (put h) = put (part_right sign (element_marked ancestors tag kids) (marked_in ancestors rest) h)
told_after ancestors tag kids rest sign (in_run w h) = in_run w (part_right sign (mark_sign tag.kind tag.rev) (mark_signs rest) h)
told_after ancestors tag kids rest sign (in_props w h) = in_props w (part_right sign (if is "rPr" tag then mark_signs kids else []) (run_signs rest) h)
told_after ancestors tag kids rest sign (in_para w h) = in_para w (part_right sign (if is "pPr" tag then run_signs kids else []) (para_signs rest) h)

if_true : (sign : List ℕ) (b : Bool) (xs : List ℕ) → b ≡ true → HasPart sign xs → HasPart sign (if b then xs else [])
if_true sign true xs e h = h
if_true sign false xs e h = absurd (true≢false (sym e))

told_below : (ancestors : List Tag) (tag : Tag) (kids rest : Nodes) (sign : List ℕ) → PutOrWaits (tag ∷ ancestors) kids sign → PutOrWaits ancestors (element tag kids rest) sign
told_below ancestors tag kids rest sign (put h) =
    put (part_left sign (element_marked ancestors tag kids) (marked_in ancestors rest)
    (part_right sign (start_marked ancestors tag) (marked_in (tag ∷ ancestors) kids ++ end_marked ancestors tag kids)
    (part_left sign (marked_in (tag ∷ ancestors) kids) (end_marked ancestors tag kids) h)))
told_below ancestors tag kids rest sign (in_run w h) =
    let both = and_parts (is "rPr" tag) (within ("pPr" ∷ "p" ∷ []) ancestors) w in
    in_props both.1 (part_left sign (if is "rPr" tag then mark_signs kids else []) (run_signs rest) (if_true sign (is "rPr" tag) (mark_signs kids) both.0 h))
told_below ancestors tag kids rest sign (in_props w h) =
    let both = and_parts (is "pPr" tag) (within ("p" ∷ []) ancestors) w in
    in_para both.1 (part_left sign (if is "pPr" tag then run_signs kids else []) (para_signs rest) (if_true sign (is "pPr" tag) (run_signs kids) both.0 h))
told_below ancestors tag kids rest sign (in_para w h) =
    let both = and_parts (is "p" tag) (is_open ancestors) w in
    let own : HasPart sign (open_end tag kids) = if_true sign (is "p" tag) (para_signs kids ++ (10 ∷ [])) both.0 (part_left sign (para_signs kids) (10 ∷ []) h) in
    let end : HasPart sign (end_marked ancestors tag kids) =
    part_left sign (if is_open ancestors then open_end tag kids else []) (end_sign tag.kind) (if_true sign (is_open ancestors) (open_end tag kids) both.1 own) in
    put (part_left sign (element_marked ancestors tag kids) (marked_in ancestors rest)
    (part_right sign (start_marked ancestors tag) (marked_in (tag ∷ ancestors) kids ++ end_marked ancestors tag kids)
    (part_right sign (marked_in (tag ∷ ancestors) kids) (end_marked ancestors tag kids) end)))

-- a member of a mark stands in the properties of the mark
mark_stands : (ancestors : List Tag) (tag : Tag) (trace : Trace) → Fits ancestors tag → tag.kind ≡ Mark trace → in_mark_props ancestors ≡ true
mark_stands ancestors tag trace (inr m) e = let k : Marker ≡ Mark trace = sym m.kind ∙ e in cc
mark_stands ancestors tag trace (inl k) e = by (fits_or_plain ancestors tag) where
  by : (fits ancestors tag (role ancestors tag) ≡ true) ⊎ (role ancestors tag ≡ Plain) → in_mark_props ancestors ≡ true
  by (inl f) =
      let its : role ancestors tag ≡ Mark trace = sym k ∙ e in
      ap (λ kind. stand_in kind ancestors) (sym its) ∙ (and_parts (is_any (names_of (role ancestors tag)) tag) (stand_in (role ancestors tag) ancestors) f).1
  by (inr p) = let q : Plain ≡ Mark trace = sym p ∙ sym k ∙ e in cc

-- the sign of a member that has it at its start tag
told_start : (ancestors : List Tag) (tag : Tag) (kids rest : Nodes) → mark_sign tag.kind tag.rev ≡ [] → PutOrWaits ancestors (element tag kids rest) (member_sign tag)
told_start ancestors tag kids rest none =
    let sign = start_sign tag.kind tag.rev in
    let same : sign ≡ member_sign tag = sym (ap (λ t. sign ++ t) none ∙ append-nil sign) in
    let start : HasPart sign (start_marked ancestors tag) = part_left sign sign (if is_open ancestors then open_start tag else []) (part_whole sign) in
    subst (λ (s : List ℕ). PutOrWaits ancestors (element tag kids rest) s) same
    (put (part_left sign (element_marked ancestors tag kids) (marked_in ancestors rest)
    (part_left sign (start_marked ancestors tag) (marked_in (tag ∷ ancestors) kids ++ end_marked ancestors tag kids) start)))

told_mark : (ancestors : List Tag) (tag : Tag) (kids rest : Nodes) → start_sign tag.kind tag.rev ≡ [] → in_mark_props ancestors ≡ true
    → PutOrWaits ancestors (element tag kids rest) (member_sign tag)
told_mark ancestors tag kids rest none within_mark =
    let sign = mark_sign tag.kind tag.rev in
    let same : sign ≡ member_sign tag = sym (ap (λ t. t ++ sign) none) in
    subst (λ (s : List ℕ). PutOrWaits ancestors (element tag kids rest) s) same
    (in_run within_mark (part_left sign sign (mark_signs rest) (part_whole sign)))

told_own : (ancestors : List Tag) (tag : Tag) (kids rest : Nodes) (kind : Kind) → Fits ancestors tag → tag.kind ≡ kind → is_member kind ≡ true
    → PutOrWaits ancestors (element tag kids rest) (member_sign tag)
told_own ancestors tag kids rest Plain fit e m = absurd (true≢false (sym m))
told_own ancestors tag kids rest Marker fit e m = absurd (true≢false (sym m))
told_own ancestors tag kids rest (Content trace) fit e m = told_start ancestors tag kids rest (ap (λ kind. mark_sign kind tag.rev) e)
told_own ancestors tag kids rest (Row trace) fit e m = told_start ancestors tag kids rest (ap (λ kind. mark_sign kind tag.rev) e)
told_own ancestors tag kids rest (Cell trace) fit e m = told_start ancestors tag kids rest (ap (λ kind. mark_sign kind tag.rev) e)
told_own ancestors tag kids rest (Change prop) fit e m = told_start ancestors tag kids rest (ap (λ kind. mark_sign kind tag.rev) e)
told_own ancestors tag kids rest (Mark trace) fit e m =
    told_mark ancestors tag kids rest (ap (λ kind. start_sign kind tag.rev) e) (mark_stands ancestors tag trace fit e)

-- ---- all members

all_none : {X : Type 0} (P : X → Type 0) → All P []
all_none P k d h = absurd (omega (arith, h))

all_one : {X : Type 0} (P : X → Type 0) (x : X) → P x → All P (x ∷ [])
all_one P x p zero d h = p
all_one P x p (suc k) d h = absurd (omega (arith, h))

told_in : (ancestors : List Tag) (nodes : Nodes) → AllFit ancestors nodes → All (λ (tag : Tag). PutOrWaits ancestors nodes (member_sign tag)) (members_in nodes)
told_in ancestors no_nodes fit = all_none (λ (tag : Tag). PutOrWaits ancestors no_nodes (member_sign tag))
told_in ancestors (bytes b rest) fit = λ k d h. told_after_bytes ancestors b rest _ (told_in ancestors rest fit k d h)
told_in ancestors (element tag kids rest) fit =
    All-append Here (if is_member tag.kind then tag ∷ [] else []) (members_in kids ++ members_in rest) (own (is_member tag.kind) refl)
    (All-append Here (members_in kids) (members_in rest)
    (λ k d h. told_below ancestors tag kids rest _ (told_in (tag ∷ ancestors) kids fit.1 k d h))
    (λ k d h. told_after ancestors tag kids rest _ (told_in ancestors rest fit.2 k d h)))
  where
    Here : Tag → Type 0
    Here member = PutOrWaits ancestors (element tag kids rest) (member_sign member)

    own : (b : Bool) → is_member tag.kind ≡ b → All (λ (member : Tag). PutOrWaits ancestors (element tag kids rest) (member_sign member)) (if b then tag ∷ [] else [])
    own true m = all_one (λ (member : Tag). PutOrWaits ancestors (element tag kids rest) (member_sign member)) tag (told_own ancestors tag kids rest tag.kind fit.0 refl m)
    own false m = all_none (λ (member : Tag). PutOrWaits ancestors (element tag kids rest) (member_sign member))

-- ---- stories

root_no_para : (root : Tag) → is_story_root root ≡ true → is "p" root ≡ false
root_no_para root e =
    by_names (λ t. is "p" t ≡ false) ("document" ∷ "hdr" ∷ "ftr" ∷ "footnotes" ∷ "endnotes" ∷ "comments" ∷ []) root e (refl, (refl, (refl, (refl, (refl, (refl, tt))))))

-- nothing waits below the root of a story
told_story : (root : Tag) (kids : Nodes) (sign : List ℕ) → is_story_root root ≡ true → PutOrWaits (root ∷ []) kids sign → HasPart sign (marked_in (root ∷ []) kids)
told_story root kids sign r (put h) = h
told_story root kids sign r (in_run w h) = absurd (true≢false (sym (and_parts (is "rPr" root) false w).1))
told_story root kids sign r (in_props w h) = absurd (true≢false (sym (and_parts (is "pPr" root) false w).1))
told_story root kids sign r (in_para w h) = absurd (true≢false (sym (and_parts (is "p" root) true w).0 ∙ root_no_para root r))

abbrev story_members : Element → List Tag
story_members story = members_in story.kids

told_stories : (before : Option ℕ) (named : List NamedStory) → AreStories (map (λ (n : NamedStory). n.story) named)
    → All (λ (tag : Tag). HasPart (member_sign tag) (stories_marked before named)) (flat_map story_members (map (λ (n : NamedStory). n.story) named))
told_stories before [] h = all_none (λ (tag : Tag). HasPart (member_sign tag) [])
told_stories before (n ∷ later) h =
    let here = headed before n in
    let rest = stories_marked (last_or before here) later in
    All-append (λ (tag : Tag). HasPart (member_sign tag) (here ++ rest)) (members_in n.story.kids) (flat_map story_members (map (λ (n : NamedStory). n.story) later))
    (λ k d within. part_left _ here rest (part_right _ (heading before n.name) (story_marked n.story)
    (told_story n.story.tag n.story.kids _ h.0.root (told_in (n.story.tag ∷ []) n.story.kids h.0.fits k d within))))
    (λ k d within. part_right _ here rest (told_stories (last_or before here) later h.1 k d within))

named_parts : (parts : List Element) → map (λ (n : NamedStory). n.story) (filter_map named_story parts) ≡ filter_map story_of parts
named_parts [] = refl
named_parts (part ∷ parts) = by (story_of part) (named_parts parts) where
  by : (root : Option Element) → map (λ (n : NamedStory). n.story) (filter_map named_story parts) ≡ filter_map story_of parts
      → map (λ (n : NamedStory). n.story) (cons_option (option_map (λ (r : Element). record { name = name_in part.tag; story = r }) root) (filter_map named_story parts))
      ≡ cons_option root (filter_map story_of parts)
  by None h = h
  by (Some root) h = ap (λ ss. root ∷ ss) h

pub members-told : (value : Value) (nodes : Nodes) → refusal nodes ≡ None → IsIndexed value nodes → All (λ (tag : Tag). HasPart (member_sign tag) (marked_text nodes)) (members_of nodes)
members-told value nodes shape is =
    let same : map (λ (n : NamedStory). n.story) (named_stories nodes) ≡ stories nodes = named_parts (parts_of nodes) ∙ stories-parts nodes shape in
    subst (λ (ss : List Element). All (λ (tag : Tag). HasPart (member_sign tag) (marked_text nodes)) (flat_map story_members ss)) same
    (told_stories None (named_stories nodes) (subst AreStories (sym same) (indexed_stories value nodes is)))
