-- The containers of a story, all of them or the outer ones alone, and what their names and places are.
use Prim.Native.String.{String}
use Rattle.std.proofs.Common.{◌≡◌, ◌∙◌, refl, sym, ap, List, [], ◌∷◌, Bool, true, false, true≢false, ◌&&◌, ◌||◌, not, if◌then◌else◌, ◌⊎◌, inl, inr}
use Rattle.std.specs.Cmp.{first_so, second_so}
use Rattle.std.proofs.Math.Bool.{and-false, or-false, and-true}
use Rattle.std.proofs.lemmas.Bool.{or_parts}
use Rattle.redl_tree.specs.Model.Nodes.{Tag, Nodes}
use Rattle.redl_tree.specs.Roles.Names.{is, is_any, is_w, is_m}
use Rattle.redl_tree.specs.Roles.Places.{is_quiet, is_open}
use Rattle.redl_tree.specs.Roles.Lists.{into, nowhere, still, has_blocks, inside, place, is_direct, is_blocks, is_rows, is_cells, in_blocks, in_rows, in_cells, is_wrapper, is_shell, is_thick}
use Rattle.redl_tree.specs.Decisions.Tables.{goes, goes_at}
use Rattle.redl_tree.specs.Decisions.Pass.{pass}
use Rattle.redl_tree.specs.Leaves.Containers.{is_control, opens, opens_outer, is_control_content}
use Rattle.redl_tree.specs.Leaves.Present.{stand_ins}
use Rattle.redl_tree.specs.Leaves.Slots.{slots_in}
use Rattle.redl_tree.specs.Leaves.Rebuilt.{rebuilt}
use Rattle.redl_tree.specs.declared.lists.Place.{Place}
use Rattle.redl_tree.specs.declared.lists.Reach.{Reach}
use Rattle.redl_tree.specs.declared.lists.Reach.TheVariants.{Direct, Control, Beyond}
use Rattle.redl_tree.specs.declared.lists.Lot.{Lot}
use Rattle.redl_tree.specs.declared.lists.Lot.TheVariants.{Blocks, Rows, Cells}
use Rattle.redl_tree.specs.declared.kinds.Say.{Say}
use Rattle.redl_tree.proofs.Roles.NameLaws.{is_any-apart, is_frame, frame_names, frame-quiet, is-among, is_any-among, all_among}
use Rattle.redl_laws.proofs.Leaves.StandIns.{IsPlain, IsAlike}
use Rattle.redl_laws.proofs.Leaves.Rebuilt.{IsOpening, rebuilt-kids}
use Rattle.redl_tree.proofs.Roles.Fits.{AllFit}

pub either : (a b : Bool) (P : Type 0) → (a || b) ≡ true → (a ≡ true → P) → (b ≡ true → P) → P
either true b P h f g = f refl
either false b P h f g = g h

both : (a b : Bool) (P : Type 0) → (a && b) ≡ true → (a ≡ true → b ≡ true → P) → P
both true b P h f = f refl h
both false b P h f = absurd (true≢false (sym h))

six : (a b c d e f : Bool) (P : Type 0) → (a || b || c || d || e || f) ≡ true → (a ≡ true → P) → (b ≡ true → P) → (c ≡ true → P) →
    (d ≡ true → P) → (e ≡ true → P) → (f ≡ true → P) → P
six a b c d e f P h pa pb pc pd pe pf =
    either (a || b || c || d || e) f P h
    (λ h. either (a || b || c || d) e P h
    (λ h. either (a || b || c) d P h (λ h. either (a || b) c P h (λ h. either a b P h pa pb) pc) pd) pe) pf

-- the names of outer containers
abbrev pub outer_names : List String
outer_names = "body" ∷ "footnote" ∷ "endnote" ∷ "comment" ∷ []

pub outer-named : (ancestors : List Tag) (tag : Tag) → opens_outer ancestors tag ≡ true →
    is_any outer_names tag ≡ true
outer-named [] tag h = absurd (true≢false (sym h))
outer-named (root ∷ other ∷ ancestors) tag h = absurd (true≢false (sym h))
outer-named (root ∷ []) tag h =
    either (is "document" root && is "body" tag || is "footnotes" root && is "footnote" tag || is "endnotes" root && is "endnote" tag)
    (is "comments" root && is "comment" tag) (is_any outer_names tag ≡ true) h
    (λ h. either (is "document" root && is "body" tag || is "footnotes" root && is "footnote" tag) (is "endnotes" root && is "endnote" tag)
    (is_any outer_names tag ≡ true) h
    (λ h. either (is "document" root && is "body" tag) (is "footnotes" root && is "footnote" tag)
    (is_any outer_names tag ≡ true) h
    (λ h. is-among "body" outer_names tag (second_so (is "document" root) (is "body" tag) h) refl)
    (λ h. is-among "footnote" outer_names tag (second_so (is "footnotes" root) (is "footnote" tag) h) refl))
    (λ h. is-among "endnote" outer_names tag (second_so (is "endnotes" root) (is "endnote" tag) h) refl))
    (λ h. is-among "comment" outer_names tag (second_so (is "comments" root) (is "comment" tag) h) refl)

abbrev pub list_roots : List String
list_roots = "document" ∷ "footnotes" ∷ "endnotes" ∷ "comments" ∷ []

pub outer-root : (root tag : Tag) → opens_outer (root ∷ []) tag ≡ true → is_any list_roots root ≡ true
outer-root root tag h =
    either (is "document" root && is "body" tag || is "footnotes" root && is "footnote" tag || is "endnotes" root && is "endnote" tag)
    (is "comments" root && is "comment" tag) (is_any list_roots root ≡ true) h
    (λ h. either (is "document" root && is "body" tag || is "footnotes" root && is "footnote" tag) (is "endnotes" root && is "endnote" tag)
    (is_any list_roots root ≡ true) h
    (λ h. either (is "document" root && is "body" tag) (is "footnotes" root && is "footnote" tag)
    (is_any list_roots root ≡ true) h
    (λ h. is-among "document" list_roots root (first_so (is "document" root) (is "body" tag) h) refl)
    (λ h. is-among "footnotes" list_roots root (first_so (is "footnotes" root) (is "footnote" tag) h) refl))
    (λ h. is-among "endnotes" list_roots root (first_so (is "endnotes" root) (is "endnote" tag) h) refl))
    (λ h. is-among "comments" list_roots root (first_so (is "comments" root) (is "comment" tag) h) refl)

pub outer-frame : (ancestors : List Tag) (tag : Tag) → opens_outer ancestors tag ≡ true → is_frame tag ≡ true
outer-frame ancestors tag h =
    is_any-among outer_names frame_names tag (outer-named ancestors tag h) refl

-- the place of the kids of a root whose kids are no blocks
place-of : (o h t r : Bool) (l : Place) → h ≡ false → t ≡ false → r ≡ false → l ≡ nowhere →
    (if o then (if h then record { lot = Blocks; reach = Direct } else if t then record { lot = Rows; reach = Direct }
    else if r then record { lot = Cells; reach = Direct } else l) else nowhere) ≡ nowhere
place-of o true t r l h p q e = absurd (true≢false h)
place-of o false true r l h p q e = absurd (true≢false p)
place-of o false false true l h p q e = absurd (true≢false q)
place-of true false false false l h p q e = e
place-of false false false false l h p q e = refl

pub root-nowhere : (root : Tag) → is_any list_roots root ≡ true → place (root ∷ []) ≡ nowhere
root-nowhere root h =
    place-of (is_open (root ∷ [])) (has_blocks root) (is "tbl" root) (is "tr" root) nowhere
    (is_any-apart list_roots ("body" ∷ "hdr" ∷ "ftr" ∷ "footnote" ∷ "endnote" ∷ "comment" ∷ "tc" ∷ "txbxContent" ∷ []) root h refl)
    (sym (or-false (is "tbl" root)) ∙ is_any-apart list_roots ("tbl" ∷ []) root h refl)
    (sym (or-false (is "tr" root)) ∙ is_any-apart list_roots ("tr" ∷ []) root h refl)
    refl

outer-no_blocks : (ancestors : List Tag) (tag : Tag) → opens_outer ancestors tag ≡ true → in_blocks ancestors ≡ true → ⊥
outer-no_blocks [] tag h b = true≢false (sym h)
outer-no_blocks (root ∷ other ∷ ancestors) tag h b = true≢false (sym h)
outer-no_blocks (root ∷ []) tag h b =
    true≢false (sym b ∙ ap (λ p. is_direct p.reach && is_blocks p.lot) (root-nowhere root (outer-root root tag h)))

control_content-named : (ancestors : List Tag) (tag : Tag) → is_control_content ancestors tag ≡ true → is "sdtContent" tag ≡ true
control_content-named ancestors tag h = second_so (is_control (place ancestors).reach) (is "sdtContent" tag) h

pub opens-named : (ancestors : List Tag) (tag : Tag) → opens ancestors tag ≡ true → is_frame tag ≡ true
opens-named ancestors tag h =
    six (opens_outer ancestors tag) (in_blocks ancestors && (is "tbl" tag || is_wrapper tag)) (in_rows ancestors && is "tr" tag)
    (in_cells ancestors && is "tc" tag) (is_shell ancestors tag) (is_control_content ancestors tag) (is_frame tag ≡ true) h
    (λ h. is_any-among outer_names frame_names tag (outer-named ancestors tag h) refl)
    (λ h. either (is "tbl" tag) (is_wrapper tag) (is_frame tag ≡ true) (second_so (in_blocks ancestors) (is "tbl" tag || is_wrapper tag) h)
    (λ e. is-among "tbl" frame_names tag e refl)
    (λ e. is_any-among ("sdt" ∷ "customXml" ∷ []) frame_names tag e refl))
    (λ h. is-among "tr" frame_names tag (second_so (in_rows ancestors) (is "tr" tag) h) refl)
    (λ h. is-among "tc" frame_names tag (second_so (in_cells ancestors) (is "tc" tag) h) refl)
    (λ h. is_any-among ("sdt" ∷ "customXml" ∷ []) frame_names tag (first_so (is_wrapper tag) (in_rows ancestors || in_cells ancestors) h) refl)
    (λ h. is-among "sdtContent" frame_names tag (control_content-named ancestors tag h) refl)

thick-named : (tag : Tag) → is_any ("p" ∷ "tbl" ∷ "sdt" ∷ "customXml" ∷ "altChunk" ∷ []) tag ≡ true → is_thick tag ≡ true
thick-named tag h = ap (λ b. b || not (is_w tag.space || is_m tag.space)) h

-- what is in a block list is in no other list
lot-one : (l : Lot) (d : Bool) → (d && is_blocks l) ≡ true → ((d && is_rows l) ≡ false) × ((d && is_cells l) ≡ false)
lot-one Blocks d h = (and-false d, and-false d)
lot-one Rows d h = absurd (true≢false (sym h ∙ and-false d))
lot-one Cells d h = absurd (true≢false (sym h ∙ and-false d))

pub place-choice : (o h t r : Bool) (l : Place) → h ≡ false → t ≡ false → r ≡ false →
    (if o then (if h then record { lot = Blocks; reach = Direct } else if t then record { lot = Rows; reach = Direct }
    else if r then record { lot = Cells; reach = Direct } else l) else nowhere) ≡ (if o then l else nowhere)
place-choice o true t r l h p q = absurd (true≢false h)
place-choice o false true r l h p q = absurd (true≢false p)
place-choice o false false true l h p q = absurd (true≢false q)
place-choice o false false false l h p q = refl

control-not_direct : (r : Reach) → is_control r ≡ true → is_direct r ≡ false
control-not_direct Direct h = absurd (true≢false (sym h))
control-not_direct Control h = refl
control-not_direct Beyond h = absurd (true≢false (sym h))

-- the kids of a content control are no list of blocks
control_content-no_blocks : (ancestors : List Tag) (tag : Tag) → is_control_content ancestors tag ≡ true → in_blocks ancestors ≡ true → ⊥
control_content-no_blocks ancestors tag h b =
    true≢false (sym b ∙ ap (λ d. d && is_blocks (place ancestors).lot)
    (control-not_direct (place ancestors).reach (first_so (is_control (place ancestors).reach) (is "sdtContent" tag) h)))

pub opens-thick : (ancestors : List Tag) (tag : Tag) → opens ancestors tag ≡ true → in_blocks ancestors ≡ true → is_thick tag ≡ true
opens-thick ancestors tag h b =
    six (opens_outer ancestors tag) (in_blocks ancestors && (is "tbl" tag || is_wrapper tag)) (in_rows ancestors && is "tr" tag)
    (in_cells ancestors && is "tc" tag) (is_shell ancestors tag) (is_control_content ancestors tag) (is_thick tag ≡ true) h
    (λ h. absurd (outer-no_blocks ancestors tag h b))
    (λ h. either (is "tbl" tag) (is_wrapper tag) (is_thick tag ≡ true) (second_so (in_blocks ancestors) (is "tbl" tag || is_wrapper tag) h)
    (λ e. thick-named tag (is-among "tbl" ("p" ∷ "tbl" ∷ "sdt" ∷ "customXml" ∷ "altChunk" ∷ []) tag e refl))
    (λ e. thick-named tag (is_any-among ("sdt" ∷ "customXml" ∷ []) ("p" ∷ "tbl" ∷ "sdt" ∷ "customXml" ∷ "altChunk" ∷ []) tag e refl)))
    (λ h. absurd (true≢false (sym (first_so (in_rows ancestors) (is "tr" tag) h) ∙ (lot-one (place ancestors).lot (is_direct (place ancestors).reach) b).0)))
    (λ h. absurd (true≢false (sym (first_so (in_cells ancestors) (is "tc" tag) h) ∙ (lot-one (place ancestors).lot (is_direct (place ancestors).reach) b).1)))
    (λ h. thick-named tag (is_any-among ("sdt" ∷ "customXml" ∷ []) ("p" ∷ "tbl" ∷ "sdt" ∷ "customXml" ∷ "altChunk" ∷ []) tag
    (first_so (is_wrapper tag) (in_rows ancestors || in_cells ancestors) h) refl))
    (λ h. absurd (control_content-no_blocks ancestors tag h b))

-- an element that is no container: its kids are the same list as in a body, or nowhere
pub into-direct : (tag : Tag) → is_wrapper tag ≡ false → into Direct tag ≡ Beyond
into-direct tag h =
    ap (λ b. if b then Control else if is "customXml" tag then Direct else Beyond) (or_parts (is "sdt" tag) (is "customXml" tag || false) h).0
    ∙ ap (λ b. if b then Direct else Beyond)
    (or_parts (is "customXml" tag) false ((or_parts (is "sdt" tag) (is "customXml" tag || false) h).1)).0

abbrev inside_at : Tag → Place → Place
inside_at tag l =
    if has_blocks tag then record { lot = Blocks; reach = Direct }
    else if is "tbl" tag then record { lot = Rows; reach = Direct }
    else if is "tr" tag then record { lot = Cells; reach = Direct }
    else l

inside-alike : (l : Lot) (r : Reach) (tag : Tag) →
    (is_wrapper tag && ((is_direct r && is_rows l) || (is_direct r && is_cells l))) ≡ false →
    (r ≡ Control → is "sdtContent" tag ≡ false) →
    inside tag (record { lot = l; reach = r }) ≡ inside tag (place (stand_ins (is_direct r && is_blocks l)))
inside-alike Blocks Direct tag h c = refl
inside-alike Rows Direct tag h c =
    ap (λ reach. inside_at tag (still Rows reach)) (into-direct tag (sym (and-true (is_wrapper tag)) ∙ h))
inside-alike Cells Direct tag h c =
    ap (λ reach. inside_at tag (still Cells reach)) (into-direct tag (sym (and-true (is_wrapper tag)) ∙ h))
inside-alike l Control tag h c =
    ap (λ b. inside_at tag (still l (if b then Direct else Beyond))) (c refl)
inside-alike l Beyond tag h c = refl

control-owner : (ancestors : List Tag) (tag : Tag) → is_control_content ancestors tag ≡ false → (place ancestors).reach ≡ Control →
    is "sdtContent" tag ≡ false
control-owner ancestors tag h e = sym (ap (λ r. is_control r && is "sdtContent" tag) e) ∙ h

pub opens-alike : (ancestors : List Tag) (tag : Tag) → opens ancestors tag ≡ false → IsAlike ancestors tag
opens-alike ancestors tag h =
    let upto = opens_outer ancestors tag || in_blocks ancestors && (is "tbl" tag || is_wrapper tag) || in_rows ancestors && is "tr" tag || in_cells ancestors && is "tc" tag in
    let shell : is_shell ancestors tag ≡ false = (or_parts upto (is_shell ancestors tag) (or_parts (upto || is_shell ancestors tag) (is_control_content ancestors tag) h).0).1 in
    let content : is_control_content ancestors tag ≡ false = (or_parts (upto || is_shell ancestors tag) (is_control_content ancestors tag) h).1 in
    (shell, inside-alike (place ancestors).lot (place ancestors).reach tag shell (control-owner ancestors tag content))

-- any ancestors do
abbrev pub AnyPath : List Tag → Type 0
AnyPath ancestors = Unit {0}

pub opens-opening : IsOpening opens AnyPath
opens-opening = record {
  path = λ ancestors tag p h. tt;
  named = λ ancestors tag p h. opens-named ancestors tag h;
  thick = λ ancestors tag p h b. opens-thick ancestors tag h b;
  alike = λ ancestors tag p h. opens-alike ancestors tag h;
}

-- over tables, rows, cells and controls: the containers that live, round their leaves as they are now, are the pass
pub rebuilt-story : (says : List Say) (root : Tag) (kids : Nodes) → IsPlain root → AllFit (root ∷ []) kids →
    rebuilt says (root ∷ []) (slots_in opens (root ∷ []) kids) ≡ pass says (root ∷ []) kids
rebuilt-story says root kids p fit = rebuilt-kids opens AnyPath opens-opening says (root ∷ []) kids tt (p, tt) fit

-- the outer lists alone
abbrev pub IsOuter : List Tag → Type 0
IsOuter ancestors = (in_blocks ancestors ≡ true) ⊎ (place ancestors ≡ nowhere)

abbrev body_place : Place
body_place = record { lot = Blocks; reach = Direct }

blocks-here : (p : Place) → (is_direct p.reach && is_blocks p.lot) ≡ true → p ≡ body_place
blocks-here p h = at p.lot p.reach h
  where
    at : (l : Lot) (r : Reach) → (is_direct r && is_blocks l) ≡ true → ◌≡◌ {A = Place} (record { lot = l; reach = r }) body_place
    at Blocks Direct h = refl
    at Rows Direct h = absurd (true≢false (sym h))
    at Cells Direct h = absurd (true≢false (sym h))
    at l Control h = absurd (true≢false (sym h))
    at l Beyond h = absurd (true≢false (sym h))

-- the place below an element whose kids are no blocks
abbrev beside : Tag → Place → Place
beside tag here =
    if is "tbl" tag then record { lot = Rows; reach = Direct }
    else if is "tr" tag then record { lot = Cells; reach = Direct }
    else still here.lot (into here.reach tag)

body-blocks : (o h : Bool) (l : Place) → o ≡ true → h ≡ true → (if o then (if h then body_place else l) else nowhere) ≡ body_place
body-blocks true true l p q = refl
body-blocks true false l p q = absurd (true≢false (sym q))
body-blocks false h l p q = absurd (true≢false (sym p))

outer-path : (ancestors : List Tag) (tag : Tag) → opens_outer ancestors tag ≡ true → IsOuter (tag ∷ ancestors)
outer-path [] tag h = absurd (true≢false (sym h))
outer-path (root ∷ other ∷ ancestors) tag h = absurd (true≢false (sym h))
outer-path (root ∷ []) tag h =
    let named = outer-named (root ∷ []) tag h in
    let quiet = frame-quiet tag (is_any-among outer_names frame_names tag named refl) in
    let quiet_root = frame-quiet root (is_any-among list_roots frame_names root (outer-root root tag h) refl) in
    inl (ap (λ p. is_direct p.reach && is_blocks p.lot)
    (body-blocks (is_open (tag ∷ root ∷ [])) (has_blocks tag) (beside tag (place (root ∷ [])))
    (ap (λ b. not (b || (is_quiet root || false))) quiet ∙ ap (λ b. not (b || false)) quiet_root)
    (is_any-among outer_names
    ("body" ∷ "hdr" ∷ "ftr" ∷ "footnote" ∷ "endnote" ∷ "comment" ∷ "tc" ∷ "txbxContent" ∷ []) tag named refl)))

outer-alike : (ancestors : List Tag) (tag : Tag) → IsOuter ancestors → IsAlike ancestors tag
outer-alike ancestors tag (inl b) = (
  ap (λ c. is_wrapper tag && (c || in_cells ancestors)) (lot-one (place ancestors).lot (is_direct (place ancestors).reach) b).0
      ∙ ap (λ c. is_wrapper tag && c) (lot-one (place ancestors).lot (is_direct (place ancestors).reach) b).1
      ∙ and-false (is_wrapper tag),
  ap (inside tag) (blocks-here (place ancestors) b) ∙ sym (ap (λ c. inside tag (place (stand_ins c))) b),
)
outer-alike ancestors tag (inr e) = (
  ap (λ p. is_wrapper tag && ((is_direct p.reach && is_rows p.lot) || (is_direct p.reach && is_cells p.lot))) e
      ∙ and-false (is_wrapper tag),
  ap (inside tag) e ∙ sym (ap (λ p. inside tag (place (stand_ins (is_direct p.reach && is_blocks p.lot)))) e),
)

pub outer-opening : IsOpening opens_outer IsOuter
outer-opening = record {
  path = λ ancestors tag p h. outer-path ancestors tag h;
  named = λ ancestors tag p h. outer-frame ancestors tag h;
  thick = λ ancestors tag p h b. absurd (outer-no_blocks ancestors tag h b);
  alike = λ ancestors tag p h. outer-alike ancestors tag p;
}

-- the roots of stories
abbrev pub story_roots : List String
story_roots = "document" ∷ "hdr" ∷ "ftr" ∷ "footnotes" ∷ "endnotes" ∷ "comments" ∷ []

pub root-outer : (root : Tag) → is_any story_roots root ≡ true → IsOuter (root ∷ [])
root-outer root h =
    either (is "document" root) (is_any ("hdr" ∷ "ftr" ∷ "footnotes" ∷ "endnotes" ∷ "comments" ∷ []) root) (IsOuter (root ∷ [])) h
    (λ e. inr (root-nowhere root (is-among "document" list_roots root e refl)))
    (λ h. either (is "hdr" root) (is_any ("ftr" ∷ "footnotes" ∷ "endnotes" ∷ "comments" ∷ []) root) (IsOuter (root ∷ [])) h
    (λ e. inl (list-root "hdr" e refl refl))
    (λ h. either (is "ftr" root) (is_any ("footnotes" ∷ "endnotes" ∷ "comments" ∷ []) root) (IsOuter (root ∷ [])) h
    (λ e. inl (list-root "ftr" e refl refl))
    (λ h. inr (root-nowhere root (is_any-among ("footnotes" ∷ "endnotes" ∷ "comments" ∷ []) list_roots root h refl)))))
  where
    list-root : (name : String) → is name root ≡ true → all_among (name ∷ []) frame_names ≡ true →
        all_among (name ∷ []) ("body" ∷ "hdr" ∷ "ftr" ∷ "footnote" ∷ "endnote" ∷ "comment" ∷ "tc" ∷ "txbxContent" ∷ []) ≡ true →
        in_blocks (root ∷ []) ≡ true
    list-root name e f g =
        ap (λ p. is_direct p.reach && is_blocks p.lot)
        (body-blocks (is_open (root ∷ [])) (has_blocks root) (beside root nowhere)
        (ap (λ b. not (b || false)) (frame-quiet root (is-among name frame_names root e f)))
        (is-among name ("body" ∷ "hdr" ∷ "ftr" ∷ "footnote" ∷ "endnote" ∷ "comment" ∷ "tc" ∷ "txbxContent" ∷ []) root e g))

-- the same where tables and controls are leaves
pub rebuilt-outer_story : (says : List Say) (root : Tag) (kids : Nodes) → is_any story_roots root ≡ true → IsPlain root →
    AllFit (root ∷ []) kids → rebuilt says (root ∷ []) (slots_in opens_outer (root ∷ []) kids) ≡ pass says (root ∷ []) kids
rebuilt-outer_story says root kids named p fit =
    rebuilt-kids opens_outer IsOuter outer-opening says (root ∷ []) kids (root-outer root named) (p, tt) fit

-- a root never goes
pub root-stays : (says : List Say) (root : Tag) (kids : Nodes) → is_any story_roots root ≡ true → goes_at says [] root kids ≡ false
root-stays says root kids h =
    at (is "tc" root) (is "tr" root) (is "tbl" root) (is_wrapper root) (goes says false root kids)
    (sym (or-false (is "tc" root)) ∙ is_any-apart story_roots ("tc" ∷ []) root h refl)
    (sym (or-false (is "tr" root)) ∙ is_any-apart story_roots ("tr" ∷ []) root h refl)
    (sym (or-false (is "tbl" root)) ∙ is_any-apart story_roots ("tbl" ∷ []) root h refl)
  where
    at : (c r t w x : Bool) → c ≡ false → r ≡ false → t ≡ false → ((c || r || t || w && false) && x) ≡ false
    at true r t w x p q k = absurd (true≢false p)
    at false true t w x p q k = absurd (true≢false q)
    at false false true w x p q k = absurd (true≢false k)
    at false false false true x p q k = refl
    at false false false false x p q k = refl
