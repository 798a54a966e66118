-- The law of survival for one story: its text pieces after a pass are the survivors.
use Rattle.std.proofs.Common.{◌≡◌, ℕ, List, [], ◌∷◌, ◌++◌, map, filter, append_assoc, codes, Bool, true, false, ◌&&◌, ◌||◌, not, Option, Some, None, is_some, refl, sym, ap, ◌∙◌, true≢false, if◌then◌else◌}
use Rattle.std.proofs.lemmas.List.{append-nil, map-append}
use Rattle.std.proofs.lemmas.List.Elements.{filter-append}
use Rattle.std.specs.List.{list_any}
use Rattle.std.proofs.lemmas.Bool.{and_right, cond-true, cond-false}
use Rattle.redl_tree.specs.Model.Nodes.{Tag, Nodes, no_nodes, bytes, element, ◌⊕◌}
use Rattle.redl_tree.specs.Model.View.{Element}
use Rattle.redl_tree.specs.Roles.Names.{is}
use Rattle.redl_tree.specs.Model.Kids.{only, without, has_element}
use Rattle.redl_tree.specs.Roles.Places.{is_quiet, is_open, trace_of}
use Rattle.redl_tree.specs.Roles.Lists.{is_thick}
use Rattle.redl_tree.specs.Roles.Kinds.{is_content, is_cut, is_drop}
use Rattle.redl_tree.specs.Decisions.Fates.{fate, fate_of, say_of, trace_fate, renamed, live_name, is_revived}
use Rattle.redl_tree.specs.Decisions.Restored.{rejected, after_change}
use Rattle.redl_tree.specs.Decisions.Tables.{goes_at, para_is_cut}
use Rattle.redl_tree.specs.Decisions.Groups.{GroupPiece, para, thin, thick, has_thick, joins, taken, joined_tag, joined_kids, unjoined_para, given, held_by, grouped_from}
use Rattle.redl_tree.specs.Decisions.Pass.{by_fate, kept_kids, element_pass, is_block_para, piece, pieces, pass}
use Rattle.redl_tree.specs.Decisions.Survivors.{Stretch, stretches_in, is_gone, any_gone, text_pieces, survivors}
use Rattle.redl_tree.specs.declared.kinds.Trace.{Trace}
use Rattle.redl_tree.specs.declared.kinds.Trace.TheVariants.{Ins, Del, From, To}
use Rattle.redl_tree.specs.declared.kinds.Kind.{Kind}
use Rattle.redl_tree.specs.declared.kinds.Kind.TheVariants.{Plain, Content, Marker}
use Rattle.redl_tree.specs.declared.kinds.Say.{Say}
use Rattle.redl_tree.specs.declared.kinds.Say.TheVariants.{Keep, Accept, Reject}
use Rattle.redl_tree.specs.declared.kinds.Fate.{Fate}
use Rattle.redl_tree.specs.declared.kinds.Fate.TheVariants.{Leave, Free, Cut, Clear, Restore, Drop}
use Rattle.redl_tree.proofs.Roles.Named.{by_name, by_trace}
use Rattle.redl_tree.proofs.Roles.Fits.{Fits, AllFit, OpenKind, plain, content as content_kind, marker, open_fits, open_none_rejected, open_∷}
use Rattle.redl_tree.proofs.Decisions.PassLaws.{alone, alone-piece, block_p, Takes, takes-next}

-- the bytes of nodes that have no quiet ancestor among them, in order
abbrev pub texts : Nodes → List (List ℕ)
texts no_nodes = []
texts (bytes b rest) = b ∷ texts rest
texts (element tag kids rest) = (if is_quiet tag then [] else texts kids) ++ texts rest

texts-⊕ : (xs ys : Nodes) → texts (xs ⊕ ys) ≡ texts xs ++ texts ys
texts-⊕ no_nodes ys = refl
texts-⊕ (bytes b rest) ys = ap (λ ts. b ∷ ts) (texts-⊕ rest ys)
texts-⊕ (element tag kids rest) ys =
    ap (λ ts. (if is_quiet tag then [] else texts kids) ++ ts) (texts-⊕ rest ys)
    ∙ sym (append_assoc (if is_quiet tag then [] else texts kids) (texts rest) (texts ys))

texts-one : (tag : Tag) (kids : Nodes) → texts (element tag kids no_nodes) ≡ (if is_quiet tag then [] else texts kids)
texts-one tag kids = append-nil (if is_quiet tag then [] else texts kids)

pPr_quiet : (tag : Tag) → is "pPr" tag ≡ true → is_quiet tag ≡ true
pPr_quiet tag e = by_name (λ t. is_quiet t ≡ true) "pPr" tag e refl

texts-without : (xs : Nodes) → texts (without (is "pPr") xs) ≡ texts xs
texts-without no_nodes = refl
texts-without (bytes b rest) = ap (λ ts. b ∷ ts) (texts-without rest)
texts-without (element tag kids rest) = at (is "pPr" tag) refl (texts-without rest)
  where
    at : (b : Bool) → is "pPr" tag ≡ b → texts (without (is "pPr") rest) ≡ texts rest →
        texts (if b then without (is "pPr") rest else element tag kids (without (is "pPr") rest))
        ≡ (if is_quiet tag then [] else texts kids) ++ texts rest
    at true e ih = ih ∙ ap (λ ts. ts ++ texts rest) (sym (cond-true (is_quiet tag) [] (texts kids) (pPr_quiet tag e)))
    at false e ih = ap (λ ts. (if is_quiet tag then [] else texts kids) ++ ts) ih

texts-only : (xs : Nodes) → texts (only (is "pPr") xs) ≡ []
texts-only no_nodes = refl
texts-only (bytes b rest) = texts-only rest
texts-only (element tag kids rest) = at (is "pPr" tag) refl (texts-only rest)
  where
    at : (b : Bool) → is "pPr" tag ≡ b → texts (only (is "pPr") rest) ≡ [] →
        texts (if b then element tag kids (only (is "pPr") rest) else only (is "pPr") rest) ≡ []
    at true e ih = ap (λ ts. ts ++ texts (only (is "pPr") rest)) (cond-true (is_quiet tag) [] (texts kids) (pPr_quiet tag e)) ∙ ih
    at false e ih = ih

-- Lists that are put together

abbrev pub piece_texts : GroupPiece → List (List ℕ)
piece_texts (para tag cut kids) = texts kids
piece_texts (thin nodes) = texts nodes
piece_texts (thick nodes) = texts nodes

abbrev pub pieces_texts : List GroupPiece → List (List ℕ)
pieces_texts [] = []
pieces_texts (p ∷ ps) = piece_texts p ++ pieces_texts ps

-- the paragraphs among these are no properties
abbrev pub IsLoudPiece : GroupPiece → Type 0
IsLoudPiece (para tag cut kids) = is_quiet tag ≡ false
IsLoudPiece (thin nodes) = Unit {0}
IsLoudPiece (thick nodes) = Unit {0}

-- no paragraph of the pieces is quiet
abbrev pub AreLoud : List GroupPiece → Type 0
AreLoud [] = Unit {0}
AreLoud (p ∷ ps) = IsLoudPiece p × AreLoud ps

abbrev held_texts : Option Nodes → List (List ℕ)
held_texts None = []
held_texts (Some held) = texts held

texts-settled : (ends : Bool) (tag : Tag) (kids : Nodes) → is_quiet tag ≡ false → texts (unjoined_para ends tag kids) ≡ texts kids
texts-settled ends tag kids q = at (ends && not (has_element (without (is "pPr") kids)))
  where
    at : (b : Bool) → texts (if b then without (is "pPr") kids else element tag kids no_nodes) ≡ texts kids
    at true = texts-without kids
    at false = texts-one tag kids ∙ cond-false (is_quiet tag) [] (texts kids) q

texts-joined : (held : Option Nodes) (kids : Nodes) → texts (joined_kids held kids) ≡ held_texts held ++ texts kids
texts-joined None kids = refl
texts-joined (Some held) kids =
    texts-⊕ (only (is "pPr") kids) (held ⊕ without (is "pPr") kids)
    ∙ ap (λ ts. ts ++ texts (held ⊕ without (is "pPr") kids)) (texts-only kids)
    ∙ texts-⊕ held (without (is "pPr") kids) ∙ ap (λ ts. texts held ++ ts) (texts-without kids)

texts-taken : (held : Option Nodes) (nodes : Nodes) → texts (taken held nodes) ≡ held_texts held ++ texts nodes
texts-taken None nodes = texts-without nodes
texts-taken (Some held) nodes = texts-⊕ held (without (is "pPr") nodes) ∙ ap (λ ts. texts held ++ ts) (texts-without nodes)

loud_joined : (held : Option Nodes) (tag : Tag) → is_quiet tag ≡ false → is_quiet (joined_tag held tag) ≡ false
loud_joined None tag q = q
loud_joined (Some held) tag q = q

-- what a node gives, and what is held behind it, is what was held and what it holds itself
texts-given : (p : GroupPiece) (held : Option Nodes) (joins followed : Bool) (ps : List GroupPiece) → IsLoudPiece p → Takes held (p ∷ ps) →
    texts (given p held joins followed) ++ held_texts (held_by p held joins) ≡ held_texts held ++ piece_texts p
texts-given (para tag cut kids) held true followed ps l t = texts-taken held kids
texts-given (para tag cut kids) held false followed ps l t =
    append-nil (texts (unjoined_para (cut && followed) (joined_tag held tag) (joined_kids held kids)))
    ∙ texts-settled (cut && followed) (joined_tag held tag) (joined_kids held kids) (loud_joined held tag l) ∙ texts-joined held kids
texts-given (thin nodes) None joins followed ps l t = append-nil (texts nodes)
texts-given (thin nodes) (Some held) joins followed ps l t = texts-taken (Some held) nodes
texts-given (thick nodes) None joins followed ps l t = append-nil (texts nodes)
texts-given (thick nodes) (Some held) joins followed ps l t = absurd (true≢false (sym t))

-- joining and dissolving paragraphs leaves the text pieces as they are
pub texts-grouped : (followed : Bool) (held : Option Nodes) (ps : List GroupPiece) → AreLoud ps → Takes held ps →
    texts (grouped_from followed held ps) ≡ held_texts held ++ pieces_texts ps
texts-grouped followed None [] l t = refl
texts-grouped followed (Some held) [] l t = absurd (true≢false (sym t))
texts-grouped followed held (p ∷ ps) l t =
    let here = given p held (joins p ps) (has_thick ps || followed) in
    let later = held_by p held (joins p ps) in
    texts-⊕ here (grouped_from followed later ps)
    ∙ ap (λ ts. texts here ++ ts) (texts-grouped followed later ps l.1 (takes-next p held ps t))
    ∙ sym (append_assoc (texts here) (held_texts later) (pieces_texts ps))
    ∙ ap (λ ts. ts ++ pieces_texts ps) (texts-given p held (joins p ps) (has_thick ps || followed) ps l.0 t)
    ∙ append_assoc (held_texts held) (piece_texts p) (pieces_texts ps)

-- Survivors as a recursion

-- whether an element goes, by its fate or with its row, cell or table
abbrev pub gone_at : List Say → List Tag → Tag → Nodes → Bool
gone_at says ancestors tag kids =
    (is_content tag.kind && is_cut (fate_of says tag)) || is_drop (fate_of says tag) || goes_at says ancestors tag kids

abbrev pub kept : List Say → List Tag → Nodes → List (List ℕ)
kept says ancestors no_nodes = []
kept says ancestors (bytes b rest) = b ∷ kept says ancestors rest
kept says ancestors (element tag kids rest) =
    (if is_quiet tag || gone_at says ancestors tag kids then [] else kept says (tag ∷ ancestors) kids) ++ kept says ancestors rest

quiet_renamed : (says : List Say) (ancestors : List Tag) (tag : Tag) → is_quiet (renamed says ancestors tag) ≡ is_quiet tag
quiet_renamed says ancestors tag = at (is_revived says ancestors)
  where
    at_instr : (b : Bool) → is "delInstrText" tag ≡ b → is_quiet (if b then record tag { local = codes "instrText" } else tag) ≡ is_quiet tag
    at_instr true e = by_name (λ t. is_quiet (record t { local = codes "instrText" }) ≡ is_quiet t) "delInstrText" tag e refl
    at_instr false e = refl

    at_text : (b : Bool) → is "delText" tag ≡ b → is_quiet (if b then record tag { local = codes "t" } else if is "delInstrText" tag then record tag { local = codes "instrText" } else tag) ≡ is_quiet tag
    at_text true e = by_name (λ t. is_quiet (record t { local = codes "t" }) ≡ is_quiet t) "delText" tag e refl
    at_text false e = at_instr (is "delInstrText" tag) refl

    at : (b : Bool) → is_quiet (if b then live_name tag else tag) ≡ is_quiet tag
    at true = at_text (is "delText" tag) refl
    at false = refl

texts-stays : (says : List Say) (ancestors : List Tag) (tag : Tag) (kids passed : Nodes) (goes : Bool) (inner : List (List ℕ)) →
    (is_quiet tag ≡ false → (rejected says kids ≡ None) × (texts passed ≡ inner)) →
    texts (if goes then no_nodes else element (renamed says ancestors tag) (after_change ancestors tag (rejected says kids) passed) no_nodes)
    ≡ (if is_quiet tag || goes then [] else inner)
texts-stays says ancestors tag kids passed goes inner h = at (is_quiet tag) refl goes
  where
    at : (q : Bool) → is_quiet tag ≡ q → (goes : Bool) →
        texts (if goes then no_nodes else element (renamed says ancestors tag) (after_change ancestors tag (rejected says kids) passed) no_nodes)
        ≡ (if q || goes then [] else inner)
    at true e true = refl
    at false e true = refl
    at true e false =
        let made = after_change ancestors tag (rejected says kids) passed in
        texts-one (renamed says ancestors tag) made
        ∙ cond-true (is_quiet (renamed says ancestors tag)) [] (texts made) (quiet_renamed says ancestors tag ∙ e)
    at false e false =
        let made = after_change ancestors tag (rejected says kids) passed in
        texts-one (renamed says ancestors tag) made
        ∙ cond-false (is_quiet (renamed says ancestors tag)) [] (texts made) (quiet_renamed says ancestors tag ∙ e)
        ∙ ap (λ u. texts (after_change ancestors tag u passed)) (h e).0 ∙ (h e).1

-- the fates of a trace
abbrev IsTraceFate : Fate → Type 0
IsTraceFate Leave = Unit {0}
IsTraceFate Free = Unit {0}
IsTraceFate Cut = Unit {0}
IsTraceFate Clear = ⊥
IsTraceFate Restore = ⊥
IsTraceFate Drop = ⊥

trace_fate_is : (t : Trace) (say : Say) → IsTraceFate (trace_fate t say)
trace_fate_is t Keep = tt
trace_fate_is Ins Accept = tt
trace_fate_is To Accept = tt
trace_fate_is Del Accept = tt
trace_fate_is From Accept = tt
trace_fate_is Ins Reject = tt
trace_fate_is To Reject = tt
trace_fate_is Del Reject = tt
trace_fate_is From Reject = tt

plain_texts : (k : Kind) (say : Say) (q goes : Bool) (passed stays : Nodes) (inner : List (List ℕ)) → k ≡ Plain →
    texts stays ≡ (if q || goes then [] else inner) →
    texts (by_fate (fate k say) (is_content k) passed stays)
    ≡ (if q || ((is_content k && is_cut (fate k say)) || is_drop (fate k say) || goes) then [] else inner)
plain_texts k say q goes passed stays inner e h = rw e h

marker_texts : (k : Kind) (say : Say) (q goes : Bool) (passed stays : Nodes) (inner : List (List ℕ)) → k ≡ Marker →
    texts stays ≡ (if q || goes then [] else inner) →
    texts (by_fate (fate k say) (is_content k) passed stays)
    ≡ (if q || ((is_content k && is_cut (fate k say)) || is_drop (fate k say) || goes) then [] else inner)
marker_texts k Keep q goes passed stays inner e h = rw e h
marker_texts k Accept true goes passed stays inner e h = rw e refl
marker_texts k Accept false goes passed stays inner e h = rw e refl
marker_texts k Reject true goes passed stays inner e h = rw e refl
marker_texts k Reject false goes passed stays inner e h = rw e refl

content_texts : (f : Fate) (passed stays : Nodes) (inner : List (List ℕ)) → IsTraceFate f →
    texts stays ≡ inner → texts passed ≡ inner →
    texts (by_fate f true passed stays) ≡ (if (is_cut f || is_drop f) || false then [] else inner)
content_texts Leave passed stays inner t h p = h
content_texts Free passed stays inner t h p = p
content_texts Cut passed stays inner t h p = refl
content_texts Clear passed stays inner t h p = absurd t
content_texts Restore passed stays inner t h p = absurd t
content_texts Drop passed stays inner t h p = absurd t

content_kind_texts : (k : Kind) (t : Trace) (say : Say) (q goes : Bool) (passed stays : Nodes) (inner : List (List ℕ)) → k ≡ Content t →
    q ≡ false → goes ≡ false →
    texts stays ≡ (if q || goes then [] else inner) → texts passed ≡ inner →
    texts (by_fate (fate k say) (is_content k) passed stays)
    ≡ (if q || ((is_content k && is_cut (fate k say)) || is_drop (fate k say) || goes) then [] else inner)
content_kind_texts k t say true goes passed stays inner e q g h p = absurd (true≢false q)
content_kind_texts k t say false true passed stays inner e q g h p = absurd (true≢false g)
content_kind_texts k t say false false passed stays inner e q g h p = rw e (content_texts (trace_fate t say) passed stays inner (trace_fate_is t say) h p)

trace_some : (tag : Tag) (t : Trace) → trace_of tag ≡ Some t → is_some (trace_of tag) ≡ true
trace_some tag t e = rw e refl

-- no content revision is quiet, a table, a row, a cell or a shell
trace_quiet : (tag : Tag) → is_some (trace_of tag) ≡ true → is_quiet tag ≡ false
trace_quiet tag e = by_trace (λ t. is_quiet t ≡ false) tag e (refl, (refl, (refl, (refl, tt))))

trace_stays : (says : List Say) (ancestors : List Tag) (tag : Tag) (kids : Nodes) → is_some (trace_of tag) ≡ true → goes_at says ancestors tag kids ≡ false
trace_stays says ancestors tag kids e = by_trace (λ t. goes_at says ancestors t kids ≡ false) tag e (refl, (refl, (refl, (refl, tt))))

element_of_kind : (says : List Say) (ancestors : List Tag) (tag : Tag) (kids passed : Nodes) (inner : List (List ℕ)) → OpenKind tag →
    (texts (if goes_at says ancestors tag kids then no_nodes else element (renamed says ancestors tag) (after_change ancestors tag (rejected says kids) passed) no_nodes)
    ≡ (if is_quiet tag || goes_at says ancestors tag kids then [] else inner)) →
    (is_quiet tag ≡ false → texts passed ≡ inner) →
    texts (element_pass says ancestors tag kids passed) ≡ (if is_quiet tag || gone_at says ancestors tag kids then [] else inner)
element_of_kind says ancestors tag kids passed inner (plain k t) stays ih =
    plain_texts tag.kind (say_of says tag.rev) (is_quiet tag) (goes_at says ancestors tag kids) passed
    (if goes_at says ancestors tag kids then no_nodes else element (renamed says ancestors tag) (after_change ancestors tag (rejected says kids) passed) no_nodes)
    inner k stays
element_of_kind says ancestors tag kids passed inner (marker k t) stays ih =
    marker_texts tag.kind (say_of says tag.rev) (is_quiet tag) (goes_at says ancestors tag kids) passed
    (if goes_at says ancestors tag kids then no_nodes else element (renamed says ancestors tag) (after_change ancestors tag (rejected says kids) passed) no_nodes)
    inner k stays
element_of_kind says ancestors tag kids passed inner (content_kind t k e) stays ih =
    let quiet = trace_quiet tag (trace_some tag t e) in
    content_kind_texts tag.kind t (say_of says tag.rev) (is_quiet tag) (goes_at says ancestors tag kids) passed
    (if goes_at says ancestors tag kids then no_nodes else element (renamed says ancestors tag) (after_change ancestors tag (rejected says kids) passed) no_nodes)
    inner k quiet (trace_stays says ancestors tag kids (trace_some tag t e)) stays (ih quiet)

-- what one element among the content leaves of the text pieces of its kids
element_texts : (says : List Say) (ancestors : List Tag) (tag : Tag) (kids passed : Nodes) (inner : List (List ℕ)) → is_open ancestors ≡ true →
    Fits ancestors tag → AllFit (tag ∷ ancestors) kids → (is_quiet tag ≡ false → texts passed ≡ inner) →
    texts (element_pass says ancestors tag kids passed) ≡ (if is_quiet tag || gone_at says ancestors tag kids then [] else inner)
element_texts says ancestors tag kids passed inner o fit below ih =
    element_of_kind says ancestors tag kids passed inner (open_fits ancestors tag o fit)
    (texts-stays says ancestors tag kids passed (goes_at says ancestors tag kids) inner
    (λ q. (open_none_rejected says (tag ∷ ancestors) kids (open_∷ tag ancestors q ∙ o) below, ih q)))
    ih

-- what a node of a list leaves of the text pieces is what it gives by itself

texts-alone : (p : GroupPiece) → IsLoudPiece p → piece_texts p ≡ texts (alone p)
texts-alone (para tag cut kids) q = sym (texts-one tag kids ∙ cond-false (is_quiet tag) [] (texts kids) q)
texts-alone (thin nodes) q = refl
texts-alone (thick nodes) q = refl

quiet_p : (tag : Tag) → is "p" tag ≡ true → is_quiet tag ≡ false
quiet_p tag e = by_name (λ t. is_quiet t ≡ false) "p" tag e refl

piece_loud-if : (p heavy cut : Bool) (tag : Tag) (kids n : Nodes) → (p ≡ true → is_quiet tag ≡ false) →
    IsLoudPiece (if p then para tag cut kids else if heavy then thick n else thin n)
piece_loud-if true heavy cut tag kids n h = h refl
piece_loud-if false true cut tag kids n h = tt
piece_loud-if false false cut tag kids n h = tt

piece_loud : (says : List Say) (ancestors : List Tag) (tag : Tag) (kids passed : Nodes) → IsLoudPiece (piece says ancestors tag kids passed)
piece_loud says ancestors tag kids passed =
    piece_loud-if (is_block_para says ancestors tag) (is_thick tag) (para_is_cut says kids) (renamed says ancestors tag) (kept_kids says ancestors tag kids passed)
    (element_pass says ancestors tag kids passed) (λ e. quiet_renamed says ancestors tag ∙ quiet_p tag (block_p says ancestors tag e))

-- the pieces of any nodes are loud
pub pieces_loud : (says : List Say) (ancestors : List Tag) (nodes : Nodes) → AreLoud (pieces says ancestors nodes)
pieces_loud says ancestors no_nodes = tt
pieces_loud says ancestors (bytes b rest) = (tt, pieces_loud says ancestors rest)
pieces_loud says ancestors (element tag kids rest) = (piece_loud says ancestors tag kids (pass says (tag ∷ ancestors) kids), pieces_loud says ancestors rest)

-- what the pieces of a list among the content leave
texts-pieces : (says : List Say) (ancestors : List Tag) (nodes : Nodes) → is_open ancestors ≡ true → AllFit ancestors nodes →
    pieces_texts (pieces says ancestors nodes) ≡ kept says ancestors nodes
texts-pieces says ancestors no_nodes o fit = refl
texts-pieces says ancestors (bytes b rest) o fit = ap (λ ts. b ∷ ts) (texts-pieces says ancestors rest o fit)
texts-pieces says ancestors (element tag kids rest) o fit =
    let passed = pass says (tag ∷ ancestors) kids in
    let inner = kept says (tag ∷ ancestors) kids in
    let here : (is_quiet tag ≡ false → texts passed ≡ inner) =
    λ q. texts-grouped false None (pieces says (tag ∷ ancestors) kids) (pieces_loud says (tag ∷ ancestors) kids) tt
    ∙ texts-pieces says (tag ∷ ancestors) kids (open_∷ tag ancestors q ∙ o) fit.1
    in
    ap (λ ts. ts ++ pieces_texts (pieces says ancestors rest))
    (texts-alone (piece says ancestors tag kids passed) (piece_loud says ancestors tag kids passed)
    ∙ ap texts (alone-piece says ancestors tag kids passed)
    ∙ element_texts says ancestors tag kids passed inner o fit.0 fit.1 here)
    ∙ ap (λ ts. (if is_quiet tag || gone_at says ancestors tag kids then [] else inner) ++ ts) (texts-pieces says ancestors rest o fit.2)

-- Stretches

-- the tags of the ancestors
abbrev pub tags_above : List Element → List Tag
tags_above ancestors = map (λ parts. parts.tag) ancestors

-- the texts that pass a test on what stands above, where the test looks at one element after the other
abbrev pub left_by : (List Element → Tag → Nodes → Bool) → List Element → Nodes → List (List ℕ)
left_by ends ancestors no_nodes = []
left_by ends ancestors (bytes b rest) = b ∷ left_by ends ancestors rest
left_by ends ancestors (element tag kids rest) =
    (if ends ancestors tag kids then [] else left_by ends (record { tag = tag; kids = kids } ∷ ancestors) kids) ++ left_by ends ancestors rest

module _ (live : List Element → Bool) (ends : List Element → Tag → Nodes → Bool)
    (step : (ancestors : List Element) (tag : Tag) (kids : Nodes) → live (record { tag = tag; kids = kids } ∷ ancestors) ≡ (not (ends ancestors tag kids) && live ancestors)) where
  dead_below : (ancestors : List Element) (tag : Tag) (kids : Nodes) → live ancestors ≡ false → live (record { tag = tag; kids = kids } ∷ ancestors) ≡ false
  dead_below ancestors tag kids d = step ancestors tag kids ∙ and_right (not (ends ancestors tag kids)) (live ancestors) d

  dead_stretches : (ancestors : List Element) (nodes : Nodes) → live ancestors ≡ false → filter (λ s. live s.ancestors) (stretches_in ancestors nodes) ≡ []
  dead_stretches ancestors no_nodes d = refl
  dead_stretches ancestors (bytes b rest) d = cond-false (live ancestors) (record { text = b; ancestors = ancestors } ∷ filter (λ s. live s.ancestors) (stretches_in ancestors rest)) (filter (λ s. live s.ancestors) (stretches_in ancestors rest)) d ∙ dead_stretches ancestors rest d
  dead_stretches ancestors (element tag kids rest) d =
      let below = record { tag = tag; kids = kids } ∷ ancestors in
      filter-append (λ s. live s.ancestors) (stretches_in below kids) (stretches_in ancestors rest)
      ∙ ap (λ ts. ts ++ filter (λ s. live s.ancestors) (stretches_in ancestors rest)) (dead_stretches below kids (dead_below ancestors tag kids d))
      ∙ dead_stretches ancestors rest d

  stretches_left : (ancestors : List Element) (nodes : Nodes) → live ancestors ≡ true →
      map (λ s. s.text) (filter (λ s. live s.ancestors) (stretches_in ancestors nodes)) ≡ left_by ends ancestors nodes
  stretches_left ancestors no_nodes l = refl
  stretches_left ancestors (bytes b rest) l =
      ap (λ ss. map (λ s. s.text) ss) (cond-true (live ancestors) (record { text = b; ancestors = ancestors } ∷ filter (λ s. live s.ancestors) (stretches_in ancestors rest)) (filter (λ s. live s.ancestors) (stretches_in ancestors rest)) l)
      ∙ ap (λ ts. b ∷ ts) (stretches_left ancestors rest l)
  stretches_left ancestors (element tag kids rest) l =
      let below = record { tag = tag; kids = kids } ∷ ancestors in
      let inside = filter (λ s. live s.ancestors) (stretches_in below kids) in
      let after = filter (λ s. live s.ancestors) (stretches_in ancestors rest) in
      ap (λ ss. map (λ s. s.text) ss) (filter-append (λ s. live s.ancestors) (stretches_in below kids) (stretches_in ancestors rest))
      ∙ map-append (λ s. s.text) inside after
      ∙ ap (λ ts. ts ++ map (λ s. s.text) after)
      (at (ends ancestors tag kids) (live below) inside (left_by ends below kids) l (step ancestors tag kids) (dead_stretches below kids) (stretches_left below kids))
      ∙ ap (λ ts. (if ends ancestors tag kids then [] else left_by ends below kids) ++ ts) (stretches_left ancestors rest l)
    where
      at : (e b : Bool) (inside : List Stretch) (left : List (List ℕ)) → live ancestors ≡ true → b ≡ (not e && live ancestors) →
          (b ≡ false → inside ≡ []) → (b ≡ true → map (λ s. s.text) inside ≡ left) →
          map (λ s. s.text) inside ≡ (if e then [] else left)
      at true b inside left l is d h = ap (λ ss. map (λ s. s.text) ss) (d is)
      at false b inside left l is d h = h (is ∙ l)

left_by-quiet : (ancestors : List Element) (nodes : Nodes) → left_by (λ ancestors tag kids. is_quiet tag) ancestors nodes ≡ texts nodes
left_by-quiet ancestors no_nodes = refl
left_by-quiet ancestors (bytes b rest) = ap (λ ts. b ∷ ts) (left_by-quiet ancestors rest)
left_by-quiet ancestors (element tag kids rest) =
    ap (λ ts. (if is_quiet tag then [] else ts) ++ left_by (λ ancestors tag kids. is_quiet tag) ancestors rest) (left_by-quiet (record { tag = tag; kids = kids } ∷ ancestors) kids)
    ∙ ap (λ ts. (if is_quiet tag then [] else texts kids) ++ ts) (left_by-quiet ancestors rest)

abbrev ends_under : List Say → List Element → Tag → Nodes → Bool
ends_under says ancestors tag kids = is_quiet tag || is_gone says ancestors (record { tag = tag; kids = kids })

-- below the root
left_by-kept : (says : List Say) (parent : Element) (ancestors : List Element) (nodes : Nodes) →
    left_by (ends_under says) (parent ∷ ancestors) nodes ≡ kept says (tags_above (parent ∷ ancestors)) nodes
left_by-kept says parent ancestors no_nodes = refl
left_by-kept says parent ancestors (bytes b rest) = ap (λ ts. b ∷ ts) (left_by-kept says parent ancestors rest)
left_by-kept says parent ancestors (element tag kids rest) =
    ap (λ ts. (if ends_under says (parent ∷ ancestors) tag kids then [] else ts) ++ left_by (ends_under says) (parent ∷ ancestors) rest)
    (left_by-kept says (record { tag = tag; kids = kids }) (parent ∷ ancestors) kids)
    ∙ ap (λ ts. (if ends_under says (parent ∷ ancestors) tag kids then [] else kept says (tag ∷ tags_above (parent ∷ ancestors)) kids) ++ ts) (left_by-kept says parent ancestors rest)

not_or : (a b : Bool) → not (a || b) ≡ (not a && not b)
not_or true b = refl
not_or false b = refl

not_ors : (q l g a : Bool) → (not (q || l) && not (g || a)) ≡ (not (q || g) && (not l && not a))
not_ors true l g a = refl
not_ors false true true a = refl
not_ors false true false a = refl
not_ors false false true a = refl
not_ors false false false a = refl

pub text_pieces-texts : (root : Tag) (kids : Nodes) → is_quiet root ≡ false → text_pieces (record { tag = root; kids = kids }) ≡ texts kids
text_pieces-texts root kids q =
    stretches_left (λ ancestors. not (list_any (λ parts. is_quiet parts.tag) ancestors)) (λ ancestors tag kids. is_quiet tag)
    (λ ancestors tag kids. not_or (is_quiet tag) (list_any (λ parts. is_quiet parts.tag) ancestors))
    (record { tag = root; kids = kids } ∷ []) kids (rw q refl)
    ∙ left_by-quiet (record { tag = root; kids = kids } ∷ []) kids

pub survivors-kept : (says : List Say) (root : Tag) (kids : Nodes) → is_quiet root ≡ false →
    survivors says (record { tag = root; kids = kids }) ≡ kept says (root ∷ []) kids
survivors-kept says root kids q =
    stretches_left (λ ancestors. not (list_any (λ parts. is_quiet parts.tag) ancestors) && not (any_gone says ancestors)) (ends_under says)
    (λ ancestors tag kids. not_ors (is_quiet tag) (list_any (λ parts. is_quiet parts.tag) ancestors) (is_gone says ancestors (record { tag = tag; kids = kids })) (any_gone says ancestors))
    (record { tag = root; kids = kids } ∷ []) kids (rw q refl)
    ∙ left_by-kept says (record { tag = root; kids = kids }) [] kids

-- SURVIVAL: the text pieces of a passed story are the survivors of the story
pub survival : (says : List Say) (root : Tag) (kids : Nodes) → is_quiet root ≡ false → AllFit (root ∷ []) kids →
    text_pieces (record { tag = root; kids = pass says (root ∷ []) kids }) ≡ survivors says (record { tag = root; kids = kids })
survival says root kids q fit =
    text_pieces-texts root (pass says (root ∷ []) kids) q
    ∙ texts-grouped false None (pieces says (root ∷ []) kids) (pieces_loud says (root ∷ []) kids) tt
    ∙ texts-pieces says (root ∷ []) kids (open_∷ root [] q) fit
    ∙ sym (survivors-kept says root kids q)
