-- The content revisions and markers of what a pass gives, by one induction over the pass.
use Rattle.std.proofs.Common.{◌≡◌, List, [], ◌∷◌, ◌++◌, append_assoc, codes, Bool, true, false, ◌&&◌, ◌||◌, not, Option, Some, None, is_some, refl, sym, ap, ◌∙◌, true≢false, if◌then◌else◌}
use Rattle.std.proofs.lemmas.List.{append-nil}
use Rattle.std.proofs.lemmas.Bool.{cond-true, cond-false}
use Rattle.redl_laws.proofs.Survival.Stories.{AreLoud, IsLoudPiece, gone_at, pieces_loud}
use Rattle.redl_stays_sound.specs.Kept.{is_kept, is_mark}
use Rattle.redl_tree.proofs.Decisions.PassLaws.{Takes, alone, alone-piece, block_p, takes-next}
use Rattle.redl_tree.proofs.Roles.Fits.{AllFit, Fits, OpenKind, content as content_kind, marker, open_fits, open_none_rejected, open_∷, plain}
use Rattle.redl_tree.proofs.Roles.Named.{by_name, by_names, by_trace}
use Rattle.redl_tree.specs.Decisions.Fates.{fate, is_revived, live_name, renamed, say_of, trace_fate}
use Rattle.redl_tree.specs.Decisions.Groups.{GroupPiece, given, grouped_from, has_thick, held_by, joined_kids, joined_tag, joins, para, taken, thick, thin, unjoined_para}
use Rattle.redl_tree.specs.Decisions.Packages.{is_plain}
use Rattle.redl_tree.specs.Decisions.Pass.{by_fate, element_pass, is_block_para, kept_kids, pass, piece, pieces}
use Rattle.redl_tree.specs.Decisions.Restored.{after_change, rejected}
use Rattle.redl_tree.specs.Decisions.Tables.{goes_at, para_is_cut}
use Rattle.redl_tree.specs.Model.Kids.{has_element, only, without}
use Rattle.redl_tree.specs.Model.Nodes.{Tag, Nodes, no_nodes, bytes, element, ◌⊕◌}
use Rattle.redl_tree.specs.Roles.Kinds.{is_content, is_cut, is_drop, is_leave}
use Rattle.redl_tree.specs.Roles.Lists.{is_thick}
use Rattle.redl_tree.specs.Roles.Names.{is}
use Rattle.redl_tree.specs.Roles.Places.{is_open, is_quiet, is_range_edge, trace_of}
use Rattle.redl_tree.specs.declared.kinds.Fate.{Fate}
use Rattle.redl_tree.specs.declared.kinds.Fate.TheVariants.{Clear, Cut, Drop, Free, Leave, Restore}
use Rattle.redl_tree.specs.declared.kinds.Kind.{Kind}
use Rattle.redl_tree.specs.declared.kinds.Kind.TheVariants.{Content, Marker, Plain}
use Rattle.redl_tree.specs.declared.kinds.Say.{Say}
use Rattle.redl_tree.specs.declared.kinds.Say.TheVariants.{Accept, Keep, Reject}
use Rattle.redl_tree.specs.declared.kinds.Trace.{Trace}
use Rattle.redl_tree.specs.declared.kinds.Trace.TheVariants.{Del, From, Ins, To}

-- ---- the marks of nodes

-- the tag, if it is a mark
abbrev pub own : Tag → List Tag
own tag = if is_mark tag then tag ∷ [] else []

-- the marks that have no quiet ancestor among these nodes, in their order
abbrev pub tags : Nodes → List Tag
tags no_nodes = []
tags (bytes b rest) = tags rest
tags (element tag kids rest) = (if is_quiet tag then [] else own tag ++ tags kids) ++ tags rest

tags-⊕ : (xs ys : Nodes) → tags (xs ⊕ ys) ≡ tags xs ++ tags ys
tags-⊕ no_nodes ys = refl
tags-⊕ (bytes b rest) ys = tags-⊕ rest ys
tags-⊕ (element tag kids rest) ys =
    ap (λ (ts : List Tag). (if is_quiet tag then [] else own tag ++ tags kids) ++ ts) (tags-⊕ rest ys)
    ∙ sym (append_assoc (if is_quiet tag then [] else own tag ++ tags kids) (tags rest) (tags ys))

tags-one : (tag : Tag) (kids : Nodes) → tags (element tag kids no_nodes) ≡ (if is_quiet tag then [] else own tag ++ tags kids)
tags-one tag kids = append-nil (if is_quiet tag then [] else own tag ++ tags kids)

pPr_quiet : (tag : Tag) → is "pPr" tag ≡ true → is_quiet tag ≡ true
pPr_quiet tag e = by_name (λ t. is_quiet t ≡ true) "pPr" tag e refl

tags-without : (xs : Nodes) → tags (without (is "pPr") xs) ≡ tags xs
tags-without no_nodes = refl
tags-without (bytes b rest) = tags-without rest
tags-without (element tag kids rest) = at (is "pPr" tag) refl (tags-without rest)
  where
    at : (b : Bool) → is "pPr" tag ≡ b → tags (without (is "pPr") rest) ≡ tags rest
        → tags (if b then without (is "pPr") rest else element tag kids (without (is "pPr") rest)) ≡ (if is_quiet tag then [] else own tag ++ tags kids) ++ tags rest
    at true e ih = ih ∙ ap (λ (ts : List Tag). ts ++ tags rest) (sym (cond-true (is_quiet tag) [] (own tag ++ tags kids) (pPr_quiet tag e)))
    at false e ih = ap (λ (ts : List Tag). (if is_quiet tag then [] else own tag ++ tags kids) ++ ts) ih

tags-only : (xs : Nodes) → tags (only (is "pPr") xs) ≡ []
tags-only no_nodes = refl
tags-only (bytes b rest) = tags-only rest
tags-only (element tag kids rest) = at (is "pPr" tag) refl (tags-only rest)
  where
    at : (b : Bool) → is "pPr" tag ≡ b → tags (only (is "pPr") rest) ≡ [] → tags (if b then element tag kids (only (is "pPr") rest) else only (is "pPr") rest) ≡ []
    at true e ih = ap (λ (ts : List Tag). ts ++ tags (only (is "pPr") rest)) (cond-true (is_quiet tag) [] (own tag ++ tags kids) (pPr_quiet tag e)) ∙ ih
    at false e ih = ih

-- ---- lists that are put together

piece_tags : GroupPiece → List Tag
piece_tags (para tag cut kids) = tags kids
piece_tags (thin nodes) = tags nodes
piece_tags (thick nodes) = tags nodes

pieces_tags : List GroupPiece → List Tag
pieces_tags [] = []
pieces_tags (p ∷ ps) = piece_tags p ++ pieces_tags ps

-- the paragraphs among these are no marks
abbrev IsPlainPiece : GroupPiece → Type 0
IsPlainPiece (para tag cut kids) = is_mark tag ≡ false
IsPlainPiece (thin nodes) = Unit {0}
IsPlainPiece (thick nodes) = Unit {0}

abbrev ArePlain : List GroupPiece → Type 0
ArePlain [] = Unit {0}
ArePlain (p ∷ ps) = IsPlainPiece p × ArePlain ps

held_tags : Option Nodes → List Tag
held_tags None = []
held_tags (Some held) = tags held

tags-settled : (ends : Bool) (tag : Tag) (kids : Nodes) → is_quiet tag ≡ false → is_mark tag ≡ false → tags (unjoined_para ends tag kids) ≡ tags kids
tags-settled ends tag kids q m = at (ends && not (has_element (without (is "pPr") kids)))
  where
    at : (b : Bool) → tags (if b then without (is "pPr") kids else element tag kids no_nodes) ≡ tags kids
    at true = tags-without kids
    at false =
        tags-one tag kids ∙ cond-false (is_quiet tag) [] (own tag ++ tags kids) q
        ∙ ap (λ (o : List Tag). o ++ tags kids) (cond-false (is_mark tag) (tag ∷ []) [] m)

tags-joined : (held : Option Nodes) (kids : Nodes) → tags (joined_kids held kids) ≡ held_tags held ++ tags kids
unfolding held_tags
tags-joined None kids = refl
tags-joined (Some held) kids =
    tags-⊕ (only (is "pPr") kids) (held ⊕ without (is "pPr") kids)
    ∙ ap (λ (ts : List Tag). ts ++ tags (held ⊕ without (is "pPr") kids)) (tags-only kids)
    ∙ tags-⊕ held (without (is "pPr") kids) ∙ ap (λ (ts : List Tag). tags held ++ ts) (tags-without kids)

tags-taken : (held : Option Nodes) (nodes : Nodes) → tags (taken held nodes) ≡ held_tags held ++ tags nodes
unfolding held_tags
tags-taken None nodes = tags-without nodes
tags-taken (Some held) nodes = tags-⊕ held (without (is "pPr") nodes) ∙ ap (λ (ts : List Tag). tags held ++ ts) (tags-without nodes)

quiet-joined : (held : Option Nodes) (tag : Tag) → is_quiet tag ≡ false → is_quiet (joined_tag held tag) ≡ false
quiet-joined None tag q = q
quiet-joined (Some held) tag q = q

mark-joined : (held : Option Nodes) (tag : Tag) → is_mark tag ≡ false → is_mark (joined_tag held tag) ≡ false
mark-joined None tag m = m
mark-joined (Some held) tag m = m

tags-given : (p : GroupPiece) (held : Option Nodes) (joins followed : Bool) (ps : List GroupPiece) → IsLoudPiece p → IsPlainPiece p → Takes held (p ∷ ps)
    → tags (given p held joins followed) ++ held_tags (held_by p held joins) ≡ held_tags held ++ piece_tags p
unfolding held_tags piece_tags
tags-given (para tag cut kids) held true followed ps l m t = tags-taken held kids
tags-given (para tag cut kids) held false followed ps l m t =
    append-nil (tags (unjoined_para (cut && followed) (joined_tag held tag) (joined_kids held kids)))
    ∙ tags-settled (cut && followed) (joined_tag held tag) (joined_kids held kids) (quiet-joined held tag l) (mark-joined held tag m) ∙ tags-joined held kids
tags-given (thin nodes) None joins followed ps l m t = append-nil (tags nodes)
tags-given (thin nodes) (Some held) joins followed ps l m t = tags-taken (Some held) nodes
tags-given (thick nodes) None joins followed ps l m t = append-nil (tags nodes)
tags-given (thick nodes) (Some held) joins followed ps l m t = absurd (true≢false (sym t))

-- joining and dissolving paragraphs leaves the marks as they are
tags-grouped : (followed : Bool) (held : Option Nodes) (ps : List GroupPiece) → AreLoud ps → ArePlain ps → Takes held ps
    → tags (grouped_from followed held ps) ≡ held_tags held ++ pieces_tags ps
unfolding held_tags pieces_tags
tags-grouped followed None [] l m t = refl
tags-grouped followed (Some held) [] l m t = absurd (true≢false (sym t))
tags-grouped followed held (p ∷ ps) l m t =
    let here = given p held (joins p ps) (has_thick ps || followed) in
    let later = held_by p held (joins p ps) in
    tags-⊕ here (grouped_from followed later ps)
    ∙ ap (λ (ts : List Tag). tags here ++ ts) (tags-grouped followed later ps l.1 m.1 (takes-next p held ps t))
    ∙ sym (append_assoc (tags here) (held_tags later) (pieces_tags ps))
    ∙ ap (λ (ts : List Tag). ts ++ pieces_tags ps) (tags-given p held (joins p ps) (has_thick ps || followed) ps l.0 m.0 t)
    ∙ append_assoc (held_tags held) (piece_tags p) (pieces_tags ps)

-- ---- the tags of elements that stay

kind-live : (tag : Tag) → (live_name tag).kind ≡ tag.kind
kind-live tag = at (is "delText" tag) (is "delInstrText" tag)
  where
    at : (b c : Bool) → (if b then record tag { local = codes "t" } else if c then record tag { local = codes "instrText" } else tag).kind ≡ tag.kind
    at true c = refl
    at false true = refl
    at false false = refl

kind-renamed : (says : List Say) (ancestors : List Tag) (tag : Tag) → (renamed says ancestors tag).kind ≡ tag.kind
kind-renamed says ancestors tag = at (is_revived says ancestors)
  where
    at : (b : Bool) → (if b then live_name tag else tag).kind ≡ tag.kind
    at true = kind-live tag
    at false = refl

quiet-renamed : (says : List Say) (ancestors : List Tag) (tag : Tag) → is_quiet (renamed says ancestors tag) ≡ is_quiet tag
quiet-renamed says ancestors tag = at (is_revived says ancestors)
  where
    at_instr : (b : Bool) → is "delInstrText" tag ≡ b → is_quiet (if b then record tag { local = codes "instrText" } else tag) ≡ is_quiet tag
    at_instr true e = by_name (λ t. is_quiet (record t { local = codes "instrText" }) ≡ is_quiet t) "delInstrText" tag e refl
    at_instr false e = refl

    at_text : (b : Bool) → is "delText" tag ≡ b → is_quiet (if b then record tag { local = codes "t" } else if is "delInstrText" tag then record tag { local = codes "instrText" } else tag) ≡ is_quiet tag
    at_text true e = by_name (λ t. is_quiet (record t { local = codes "t" }) ≡ is_quiet t) "delText" tag e refl
    at_text false e = at_instr (is "delInstrText" tag) refl

    at : (b : Bool) → is_quiet (if b then live_name tag else tag) ≡ is_quiet tag
    at true = at_text (is "delText" tag) refl
    at false = refl

trace_some : (tag : Tag) (t : Trace) → trace_of tag ≡ Some t → is_some (trace_of tag) ≡ true
trace_some tag t e = rw e refl

-- no mark is renamed
live-same : (tag : Tag) → live_name tag ≡ tag → (says : List Say) (ancestors : List Tag) → renamed says ancestors tag ≡ tag
live-same tag e says ancestors = at (is_revived says ancestors)
  where
    at : (b : Bool) → (if b then live_name tag else tag) ≡ tag
    at true = e
    at false = refl

trace-live : (tag : Tag) → is_some (trace_of tag) ≡ true → live_name tag ≡ tag
trace-live tag e = by_trace (λ t. live_name t ≡ t) tag e (refl, (refl, (refl, (refl, tt))))

edge-live : (tag : Tag) → is_range_edge tag ≡ true → live_name tag ≡ tag
edge-live tag e =
    by_names (λ t. live_name t ≡ t) ("moveFromRangeStart" ∷ "moveFromRangeEnd" ∷ "moveToRangeStart" ∷ "moveToRangeEnd" ∷ []) tag e (refl, (refl, (refl, (refl, tt))))

tags-stays : (says : List Say) (ancestors : List Tag) (tag : Tag) (kids passed : Nodes) (goes : Bool) (inner : List Tag)
    → (is_quiet tag ≡ false → (rejected says kids ≡ None) × (tags passed ≡ inner))
    → tags (if goes then no_nodes else element (renamed says ancestors tag) (after_change ancestors tag (rejected says kids) passed) no_nodes)
    ≡ (if is_quiet tag || goes then [] else own (renamed says ancestors tag) ++ inner)
tags-stays says ancestors tag kids passed goes inner h = at (is_quiet tag) refl goes
  where
    at : (q : Bool) → is_quiet tag ≡ q → (goes : Bool)
        → tags (if goes then no_nodes else element (renamed says ancestors tag) (after_change ancestors tag (rejected says kids) passed) no_nodes)
        ≡ (if q || goes then [] else own (renamed says ancestors tag) ++ inner)
    at true e true = refl
    at false e true = refl
    at true e false =
        let made = after_change ancestors tag (rejected says kids) passed in
        tags-one (renamed says ancestors tag) made
        ∙ cond-true (is_quiet (renamed says ancestors tag)) [] (own (renamed says ancestors tag) ++ tags made) (quiet-renamed says ancestors tag ∙ e)
    at false e false =
        let made = after_change ancestors tag (rejected says kids) passed in
        tags-one (renamed says ancestors tag) made
        ∙ cond-false (is_quiet (renamed says ancestors tag)) [] (own (renamed says ancestors tag) ++ tags made) (quiet-renamed says ancestors tag ∙ e)
        ∙ ap (λ u. own (renamed says ancestors tag) ++ tags (after_change ancestors tag u passed)) (h e).0
        ∙ ap (λ (ts : List Tag). own (renamed says ancestors tag) ++ ts) (h e).1

-- ---- what becomes of one element

-- the fates of a trace
abbrev IsTraceFate : Fate → Type 0
IsTraceFate Leave = Unit {0}
IsTraceFate Free = Unit {0}
IsTraceFate Cut = Unit {0}
IsTraceFate Clear = ⊥
IsTraceFate Restore = ⊥
IsTraceFate Drop = ⊥

trace_fate_is : (t : Trace) (say : Say) → IsTraceFate (trace_fate t say)
trace_fate_is t Keep = tt
trace_fate_is Ins Accept = tt
trace_fate_is To Accept = tt
trace_fate_is Del Accept = tt
trace_fate_is From Accept = tt
trace_fate_is Ins Reject = tt
trace_fate_is To Reject = tt
trace_fate_is Del Reject = tt
trace_fate_is From Reject = tt

-- the marks that an element of this kind leaves under this say
abbrev LeftOf : Kind → Say → Bool → Bool → Tag → List Tag → List Tag
LeftOf k say q goes tag inner =
    if q || ((is_content k && is_cut (fate k say)) || is_drop (fate k say) || goes) then []
    else (if not (is_plain k) && is_leave (fate k say) then tag ∷ [] else []) ++ inner

plain_tags : (k : Kind) (say : Say) (q goes : Bool) (tag : Tag) (passed stays : Nodes) (o inner : List Tag) → k ≡ Plain → o ≡ []
    → tags stays ≡ (if q || goes then [] else o ++ inner) → tags (by_fate (fate k say) (is_content k) passed stays) ≡ LeftOf k say q goes tag inner
plain_tags k say q goes tag passed stays o inner e n h =
    let now : tags stays ≡ (if q || goes then [] else inner) = h ∙ ap (λ (x : List Tag). if q || goes then [] else x ++ inner) n in
    rw e now

marker_tags : (k : Kind) (say : Say) (q goes : Bool) (tag : Tag) (passed stays : Nodes) (o inner : List Tag) → k ≡ Marker → o ≡ tag ∷ []
    → tags stays ≡ (if q || goes then [] else o ++ inner) → tags (by_fate (fate k say) (is_content k) passed stays) ≡ LeftOf k say q goes tag inner
marker_tags k Keep q goes tag passed stays o inner e n h =
    let now : tags stays ≡ (if q || goes then [] else tag ∷ inner) = h ∙ ap (λ (x : List Tag). if q || goes then [] else x ++ inner) n in
    rw e now
marker_tags k Accept true goes tag passed stays o inner e n h = rw e refl
marker_tags k Accept false goes tag passed stays o inner e n h = rw e refl
marker_tags k Reject true goes tag passed stays o inner e n h = rw e refl
marker_tags k Reject false goes tag passed stays o inner e n h = rw e refl

content_tags : (f : Fate) (tag : Tag) (passed stays : Nodes) (inner : List Tag) → IsTraceFate f → tags stays ≡ tag ∷ inner → tags passed ≡ inner
    → tags (by_fate f true passed stays) ≡ (if (is_cut f || is_drop f) || false then [] else (if is_leave f then tag ∷ [] else []) ++ inner)
content_tags Leave tag passed stays inner t h p = h
content_tags Free tag passed stays inner t h p = p
content_tags Cut tag passed stays inner t h p = refl
content_tags Clear tag passed stays inner t h p = absurd t
content_tags Restore tag passed stays inner t h p = absurd t
content_tags Drop tag passed stays inner t h p = absurd t

content_kind_tags : (k : Kind) (t : Trace) (say : Say) (q goes : Bool) (tag : Tag) (passed stays : Nodes) (o inner : List Tag) → k ≡ Content t → q ≡ false → goes ≡ false → o ≡ tag ∷ []
    → tags stays ≡ (if q || goes then [] else o ++ inner) → tags passed ≡ inner → tags (by_fate (fate k say) (is_content k) passed stays) ≡ LeftOf k say q goes tag inner
content_kind_tags k t say true goes tag passed stays o inner e q g n h p = absurd (true≢false q)
content_kind_tags k t say false true tag passed stays o inner e q g n h p = absurd (true≢false g)
content_kind_tags k t say false false tag passed stays o inner e q g n h p =
    rw e (content_tags (trace_fate t say) tag passed stays inner (trace_fate_is t say) (h ∙ ap (λ (x : List Tag). x ++ inner) n) p)

-- no content revision is quiet, a table, a row, a cell or a shell
trace_quiet : (tag : Tag) → is_some (trace_of tag) ≡ true → is_quiet tag ≡ false
trace_quiet tag e = by_trace (λ t. is_quiet t ≡ false) tag e (refl, (refl, (refl, (refl, tt))))

trace_stays : (says : List Say) (ancestors : List Tag) (tag : Tag) (kids : Nodes) → is_some (trace_of tag) ≡ true → goes_at says ancestors tag kids ≡ false
trace_stays says ancestors tag kids e = by_trace (λ t. goes_at says ancestors t kids ≡ false) tag e (refl, (refl, (refl, (refl, tt))))

own-none : (tag : Tag) → tag.kind ≡ Plain → own tag ≡ []
own-none tag k = cond-false (is_mark tag) (tag ∷ []) [] (ap (λ kind. not (is_plain kind)) k)

own-some : (tag : Tag) → is_mark tag ≡ true → own tag ≡ tag ∷ []
own-some tag m = cond-true (is_mark tag) (tag ∷ []) [] m

element_of_kind : (says : List Say) (ancestors : List Tag) (tag : Tag) (kids passed : Nodes) (inner : List Tag) → OpenKind tag
    → (tags (if goes_at says ancestors tag kids then no_nodes else element (renamed says ancestors tag) (after_change ancestors tag (rejected says kids) passed) no_nodes)
    ≡ (if is_quiet tag || goes_at says ancestors tag kids then [] else own (renamed says ancestors tag) ++ inner))
    → (is_quiet tag ≡ false → tags passed ≡ inner)
    → tags (element_pass says ancestors tag kids passed) ≡ LeftOf tag.kind (say_of says tag.rev) (is_quiet tag) (goes_at says ancestors tag kids) tag inner
element_of_kind says ancestors tag kids passed inner (plain k t) stays ih =
    plain_tags tag.kind (say_of says tag.rev) (is_quiet tag) (goes_at says ancestors tag kids) tag passed
    (if goes_at says ancestors tag kids then no_nodes else element (renamed says ancestors tag) (after_change ancestors tag (rejected says kids) passed) no_nodes)
    (own (renamed says ancestors tag)) inner k (own-none (renamed says ancestors tag) (kind-renamed says ancestors tag ∙ k)) stays
element_of_kind says ancestors tag kids passed inner (marker k edge) stays ih =
    marker_tags tag.kind (say_of says tag.rev) (is_quiet tag) (goes_at says ancestors tag kids) tag passed
    (if goes_at says ancestors tag kids then no_nodes else element (renamed says ancestors tag) (after_change ancestors tag (rejected says kids) passed) no_nodes)
    (own (renamed says ancestors tag)) inner k
    (ap own (live-same tag (edge-live tag edge) says ancestors) ∙ own-some tag (ap (λ kind. not (is_plain kind)) k)) stays
element_of_kind says ancestors tag kids passed inner (content_kind t k e) stays ih =
    let quiet = trace_quiet tag (trace_some tag t e) in
    content_kind_tags tag.kind t (say_of says tag.rev) (is_quiet tag) (goes_at says ancestors tag kids) tag passed
    (if goes_at says ancestors tag kids then no_nodes else element (renamed says ancestors tag) (after_change ancestors tag (rejected says kids) passed) no_nodes)
    (own (renamed says ancestors tag)) inner k quiet (trace_stays says ancestors tag kids (trace_some tag t e))
    (ap own (live-same tag (trace-live tag (trace_some tag t e)) says ancestors) ∙ own-some tag (ap (λ kind. not (is_plain kind)) k)) stays (ih quiet)

-- ---- what is kept, as a recursion

-- the tag, if it is a mark that is left as it is
abbrev pub own_kept : List Say → Tag → List Tag
own_kept says tag = if is_kept says tag then tag ∷ [] else []

abbrev pub kept : List Say → List Tag → Nodes → List Tag
kept says ancestors no_nodes = []
kept says ancestors (bytes b rest) = kept says ancestors rest
kept says ancestors (element tag kids rest) =
    (if is_quiet tag || gone_at says ancestors tag kids then [] else own_kept says tag ++ kept says (tag ∷ ancestors) kids) ++ kept says ancestors rest

-- what one element among the content leaves of the marks
element_tags : (says : List Say) (ancestors : List Tag) (tag : Tag) (kids passed : Nodes) (inner : List Tag) → is_open ancestors ≡ true → Fits ancestors tag
    → AllFit (tag ∷ ancestors) kids → (is_quiet tag ≡ false → tags passed ≡ inner)
    → tags (element_pass says ancestors tag kids passed) ≡ (if is_quiet tag || gone_at says ancestors tag kids then [] else own_kept says tag ++ inner)
element_tags says ancestors tag kids passed inner o fit below ih =
    element_of_kind says ancestors tag kids passed inner (open_fits ancestors tag o fit)
    (tags-stays says ancestors tag kids passed (goes_at says ancestors tag kids) inner
    (λ q. (open_none_rejected says (tag ∷ ancestors) kids (open_∷ tag ancestors q ∙ o) below, ih q)))
    ih

-- ---- the walk

-- a paragraph among the content is no mark
plain-p : (tag : Tag) → is "p" tag ≡ true → OpenKind tag → is_mark tag ≡ false
plain-p tag p (plain k t) = ap (λ kind. not (is_plain kind)) k
plain-p tag p (content_kind t k e) = absurd (let none = by_name (λ x. trace_of x ≡ None) "p" tag p refl in cc)
plain-p tag p (marker k edge) = absurd (true≢false (sym edge ∙ by_name (λ x. is_range_edge x ≡ false) "p" tag p refl))

piece_plain-if : (p heavy cut : Bool) (tag : Tag) (kids n : Nodes) → (p ≡ true → is_mark tag ≡ false) → IsPlainPiece (if p then para tag cut kids else if heavy then thick n else thin n)
piece_plain-if true heavy cut tag kids n h = h refl
piece_plain-if false true cut tag kids n h = tt
piece_plain-if false false cut tag kids n h = tt

pieces_plain : (says : List Say) (ancestors : List Tag) (nodes : Nodes) → is_open ancestors ≡ true → AllFit ancestors nodes → ArePlain (pieces says ancestors nodes)
pieces_plain says ancestors no_nodes o fit = tt
pieces_plain says ancestors (bytes b rest) o fit = (tt, pieces_plain says ancestors rest o fit)
pieces_plain says ancestors (element tag kids rest) o fit = (
  piece_plain-if (is_block_para says ancestors tag) (is_thick tag) (para_is_cut says kids) (renamed says ancestors tag) (kept_kids says ancestors tag kids (pass says (tag ∷ ancestors) kids))
      (element_pass says ancestors tag kids (pass says (tag ∷ ancestors) kids))
      (λ e. ap (λ kind. not (is_plain kind)) (kind-renamed says ancestors tag) ∙ plain-p tag (block_p says ancestors tag e) (open_fits ancestors tag o fit.0)),
  pieces_plain says ancestors rest o fit.2,
)

tags-alone : (p : GroupPiece) → IsLoudPiece p → IsPlainPiece p → piece_tags p ≡ tags (alone p)
unfolding piece_tags
tags-alone (para tag cut kids) q m =
    sym (tags-one tag kids ∙ cond-false (is_quiet tag) [] (own tag ++ tags kids) q ∙ ap (λ (o : List Tag). o ++ tags kids) (cond-false (is_mark tag) (tag ∷ []) [] m))
tags-alone (thin nodes) q m = refl
tags-alone (thick nodes) q m = refl

tags-pieces : (says : List Say) (ancestors : List Tag) (nodes : Nodes) → is_open ancestors ≡ true → AllFit ancestors nodes → pieces_tags (pieces says ancestors nodes) ≡ kept says ancestors nodes
unfolding pieces_tags piece_tags held_tags
tags-pieces says ancestors no_nodes o fit = refl
tags-pieces says ancestors (bytes b rest) o fit = tags-pieces says ancestors rest o fit
tags-pieces says ancestors (element tag kids rest) o fit =
    let passed = pass says (tag ∷ ancestors) kids in
    let inner = kept says (tag ∷ ancestors) kids in
    let here : (is_quiet tag ≡ false → tags passed ≡ inner) =
    λ q. tags-grouped false None (pieces says (tag ∷ ancestors) kids) (pieces_loud says (tag ∷ ancestors) kids) (pieces_plain says (tag ∷ ancestors) kids (open_∷ tag ancestors q ∙ o) fit.1) tt
    ∙ tags-pieces says (tag ∷ ancestors) kids (open_∷ tag ancestors q ∙ o) fit.1
    in
    ap (λ (ts : List Tag). ts ++ pieces_tags (pieces says ancestors rest))
    (tags-alone (piece says ancestors tag kids passed) (pieces_loud says ancestors (element tag kids rest)).0 (pieces_plain says ancestors (element tag kids rest) o fit).0
    ∙ ap tags (alone-piece says ancestors tag kids passed)
    ∙ element_tags says ancestors tag kids passed inner o fit.0 fit.1 here)
    ∙ ap (λ (ts : List Tag). (if is_quiet tag || gone_at says ancestors tag kids then [] else own_kept says tag ++ inner) ++ ts) (tags-pieces says ancestors rest o fit.2)

-- the marks that a pass leaves among the content
pub passed_tags : (says : List Say) (ancestors : List Tag) (nodes : Nodes) → is_open ancestors ≡ true → AllFit ancestors nodes → tags (pass says ancestors nodes) ≡ kept says ancestors nodes
unfolding held_tags
passed_tags says ancestors nodes o fit =
    tags-grouped false None (pieces says ancestors nodes) (pieces_loud says ancestors nodes) (pieces_plain says ancestors nodes o fit) tt ∙ tags-pieces says ancestors nodes o fit
