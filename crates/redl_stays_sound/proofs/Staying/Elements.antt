-- What a pass makes of an element that is kept, or that holds one that is.
use Rattle.std.proofs.Common.{◌≡◌, List, [], ◌∷◌, Bool, true, false, ◌&&◌, ◌||◌, not, ◌⊎◌, inl, inr, None, refl, sym, ap, subst, ◌∙◌, true≢false, if◌then◌else◌}
use Rattle.std.proofs.lemmas.Bool.{and_from, and_parts, false_from_ne_true, not-true, or_parts}
use Rattle.redl_laws.proofs.Survival.Stories.{pieces_loud}
use Rattle.redl_laws.proofs.Soundness.AlikeTags.{own_renamed}
use Rattle.redl_laws.proofs.Soundness.Ancestors.{Free3, free3, in_below, in_blocks-reach, reach_of}
use Rattle.redl_laws.proofs.Soundness.Walk.{Ground, Stands, content_fits}
use Rattle.redl_stays_sound.proofs.Staying.Below.{deep-here, deep-pPr, none-deep}
use Rattle.redl_stays_sound.proofs.Staying.Lists.{HasBeside, NoParas, PiecesHave, PiecesHaveIf, alone-has, grouped-has, if-has, is_beside}
use Rattle.redl_stays_sound.proofs.Staying.Names.{member-name, same-name}
use Rattle.redl_stays_sound.specs.Kept.{is_kept}
use Rattle.redl_stays_sound.specs.Staying.{HasKept, HasTag, is_cut_props, stands, tags_of}
use Rattle.redl_tree.proofs.Roles.Fits.{Fits, OpenKind, content, marker, open_fits, open_∷, plain, true_false}
use Rattle.redl_tree.proofs.Roles.Named.{by_name, by_trace}
use Rattle.redl_tree.specs.Decisions.Fates.{fate, fate_of, renamed, say_of, trace_fate}
use Rattle.redl_tree.specs.Decisions.Groups.{GroupPiece, para, thick, thin}
use Rattle.redl_tree.specs.Decisions.Packages.{is_plain}
use Rattle.redl_tree.specs.Decisions.Pass.{by_fate, element_pass, is_block_para, kept_kids, pass, pieces}
use Rattle.redl_tree.specs.Decisions.Tables.{goes_at, para_is_cut}
use Rattle.redl_tree.specs.Model.Nodes.{Nodes, Tag, bytes, element, no_nodes}
use Rattle.redl_tree.specs.Model.View.{Element}
use Rattle.redl_tree.specs.Roles.Kinds.{is_content, is_cut, is_drop, is_leave}
use Rattle.redl_tree.specs.Roles.Lists.{has_blocks, in_blocks, into, is_direct, is_thick}
use Rattle.redl_tree.specs.Roles.Names.{is, is_any}
use Rattle.redl_tree.specs.Roles.Places.{is_open, is_quiet, within}
use Rattle.redl_tree.specs.Rules.Sound.{test_8}
use Rattle.redl_tree.specs.declared.kinds.Fate.{Fate}
use Rattle.redl_tree.specs.declared.kinds.Fate.TheVariants.{Clear, Cut, Drop, Free, Leave, Restore}
use Rattle.redl_tree.specs.declared.kinds.Kind.{Kind}
use Rattle.redl_tree.specs.declared.kinds.Kind.TheVariants.{Cell, Change, Content, Mark, Marker, Plain, Row}
use Rattle.redl_tree.specs.declared.kinds.Say.{Say}
use Rattle.redl_tree.specs.declared.kinds.Say.TheVariants.{Accept, Keep, Reject}
use Rattle.redl_tree.specs.declared.kinds.Trace.{Trace}
use Rattle.redl_tree.specs.declared.kinds.Trace.TheVariants.{Del, From, Ins, To}
use Rattle.redl_tree.specs.declared.lists.Reach.{Reach}
use Rattle.redl_tree.specs.declared.lists.Reach.TheVariants.{Beyond, Control, Direct}

-- ---- fates

pub leave-is : (f : Fate) → is_leave f ≡ true → f ≡ Leave
leave-is Leave e = refl
leave-is Free e = absurd (true≢false (sym e))
leave-is Cut e = absurd (true≢false (sym e))
leave-is Clear e = absurd (true≢false (sym e))
leave-is Restore e = absurd (true≢false (sym e))
leave-is Drop e = absurd (true≢false (sym e))

pub kept-parts : (says : List Say) (tag : Tag) → is_kept says tag ≡ true → (is_plain tag.kind ≡ false) × (fate_of says tag ≡ Leave)
kept-parts says tag e =
    let both = and_parts (not (is_plain tag.kind)) (is_leave (fate_of says tag)) e in
    (not-true (is_plain tag.kind) both.0, leave-is (fate_of says tag) both.1)

-- members and changes in properties, below which nothing is a member
abbrev IsClosed : Kind → Type 0
IsClosed Plain = ⊥
IsClosed (Content x) = ⊥
IsClosed (Mark x) = Unit {0}
IsClosed (Row x) = Unit {0}
IsClosed (Cell x) = Unit {0}
IsClosed (Change p) = Unit {0}
IsClosed Marker = ⊥

-- it is left, freed, cut or dropped, or it is in properties
abbrev Outcome : Kind → Fate → Type 0
Outcome k f = (f ≡ Leave) ⊎ (((is_content k ≡ true) × (f ≡ Free)) ⊎ (((is_content k ≡ true) × (is_cut f ≡ true)) ⊎ ((is_drop f ≡ true) ⊎ IsClosed k)))

trace-outcome : (x : Trace) (say : Say) → Outcome (Content x) (trace_fate x say)
trace-outcome x Keep = inl refl
trace-outcome Ins Accept = inr (inl (refl, refl))
trace-outcome To Accept = inr (inl (refl, refl))
trace-outcome Del Accept = inr (inr (inl (refl, refl)))
trace-outcome From Accept = inr (inr (inl (refl, refl)))
trace-outcome Ins Reject = inr (inr (inl (refl, refl)))
trace-outcome To Reject = inr (inr (inl (refl, refl)))
trace-outcome Del Reject = inr (inl (refl, refl))
trace-outcome From Reject = inr (inl (refl, refl))

outcome : (k : Kind) (say : Say) → Outcome k (fate k say)
outcome Plain say = inl refl
outcome (Content x) say = trace-outcome x say
outcome (Mark x) say = inr (inr (inr (inr tt)))
outcome (Row x) say = inr (inr (inr (inr tt)))
outcome (Cell x) say = inr (inr (inr (inr tt)))
outcome (Change p) say = inr (inr (inr (inr tt)))
outcome Marker Keep = inl refl
outcome Marker Accept = inr (inr (inr (inl refl)))
outcome Marker Reject = inr (inr (inr (inl refl)))

closed-some : (k : Kind) → IsClosed k → is_plain k ≡ false
closed-some Plain c = absurd c
closed-some (Content x) c = refl
closed-some (Mark x) c = refl
closed-some (Row x) c = refl
closed-some (Cell x) c = refl
closed-some (Change p) c = refl
closed-some Marker c = refl

closed-shut : (ancestors : List Tag) (tag : Tag) → Fits ancestors tag → IsClosed tag.kind → is_open ancestors ≡ false
closed-shut ancestors tag fit c = false_from_ne_true (is_open ancestors) (λ o. at (open_fits ancestors tag o fit))
  where
    at : OpenKind tag → ⊥
    at (plain k e) = subst IsClosed k c
    at (content x k e) = subst IsClosed k c
    at (marker k e) = subst IsClosed k c

-- ---- an element that stands

pub record IsStanding (says : List Say) (above : List Element) (own : Tag) (kids : Nodes) : Type 0 where
  pub cut : (is_content own.kind && is_cut (fate_of says own)) ≡ false
  pub drop : is_drop (fate_of says own) ≡ false
  pub goes : goes_at says (tags_of above) own kids ≡ false
  pub uncut : is_cut_props says above own ≡ false

pub standing : (says : List Say) (parent : Element) (above : List Element) (own : Tag) (kids : Nodes)
    → stands says (parent ∷ above) (record { tag = own; kids = kids }) ≡ true → IsStanding says (parent ∷ above) own kids
standing says parent above own kids e =
    let both = and_parts _ _ e in
    let gone = or_parts (is_content own.kind && is_cut (fate_of says own) || is_drop (fate_of says own)) (goes_at says (tags_of (parent ∷ above)) own kids) (not-true _ both.0) in
    let first = or_parts (is_content own.kind && is_cut (fate_of says own)) (is_drop (fate_of says own)) gone.0 in
    record { cut = first.0; drop = first.1; goes = gone.1; uncut = not-true _ both.1 }

-- ---- lists that hold one

-- an element of the list has this tag
abbrev pub Among : Tag → Nodes → Type 0
Among tag no_nodes = ⊥
Among tag (bytes b rest) = Among tag rest
Among tag (element own kids rest) = (own ≡ tag) ⊎ Among tag rest

module _ (says : List Say) (t : Tag) where
  -- a list without paragraphs, or an element of it that is a `pPr`
  pub record InProps (above : List Element) (nodes : Nodes) : Type 0 where
    pub tag : Tag
    pub is_pPr : is "pPr" tag ≡ true
    pub free : Free3 (tags_of above) tag
    pub uncut : is_cut_props says above tag ≡ false
    pub has : HasTag t (pass says (tags_of above) nodes)

  abbrev pub InnerHas : List Element → Nodes → Type 0
  InnerHas above nodes = HasBeside t (pass says (tags_of above) nodes) ⊎ InProps above nodes

  pub inner-has : (above : List Element) (nodes : Nodes) → InnerHas above nodes → HasTag t (pass says (tags_of above) nodes)
  inner-has above nodes (inl h) = if-has is_beside t (pass says (tags_of above) nodes) h
  inner-has above nodes (inr h) = h.has

  -- what the pieces of a list have, where this element of it is kept, or holds one that is
  abbrev pub Has : List Element → Tag → List GroupPiece → Type 0
  Has above own ps =
      ((is_block_para says (tags_of above) own ≡ true) × PiecesHave t ps)
      ⊎ (((is_content own.kind ≡ true) × PiecesHaveIf is_beside t ps)
      ⊎ ((names : Tag → Bool) → names (renamed says (tags_of above) own) ≡ true → PiecesHaveIf names t ps))

  -- the element of a list that is kept, or holds one that is
  pub record OnPath (above : List Element) (nodes : Nodes) : Type 0 where
    pub tag : Tag
    pub kids : Nodes
    pub stand : Stands test_8 (tags_of above) tag kids
    pub below : Ground test_8 (tag ∷ tags_of above) kids
    pub stays : IsStanding says above tag kids
    pub own : ((tag ≡ t) × (is_kept says tag ≡ true)) ⊎ HasKept says (record { tag = tag; kids = kids } ∷ above) kids t
    pub among : Among tag nodes
    pub has : Has above tag (pieces says (tags_of above) nodes)

  -- ---- what becomes of it

  abbrev pub StaysHas : List Tag → Tag → Nodes → Nodes → Type 0
  StaysHas old own kids passed =
      (made : Nodes) × (element_pass says old own kids passed ≡ element (renamed says old own) made no_nodes) × ((renamed says old own ≡ t) ⊎ HasTag t made)

  abbrev pub ElementHas : List Tag → Tag → Nodes → Nodes → Type 0
  ElementHas old own kids passed = StaysHas old own kids passed ⊎ ((is_content own.kind ≡ true) × HasBeside t (element_pass says old own kids passed))

  pub left-is : (old : List Tag) (own : Tag) (kids passed : Nodes) → fate_of says own ≡ Leave → goes_at says old own kids ≡ false
      → element_pass says old own kids passed ≡ element (renamed says old own) (kept_kids says old own kids passed) no_nodes
  left-is old own kids passed leave stays =
      ap (λ f. by_fate f (is_content own.kind) passed (if goes_at says old own kids then no_nodes else element (renamed says old own) (kept_kids says old own kids passed) no_nodes)) leave
      ∙ ap (λ b. if b then no_nodes else element (renamed says old own) (kept_kids says old own kids passed) no_nodes) stays

  freed-is : (old : List Tag) (own : Tag) (kids passed : Nodes) → is_content own.kind ≡ true → fate_of says own ≡ Free → element_pass says old own kids passed ≡ passed
  freed-is old own kids passed c f =
      let stays = if goes_at says old own kids then no_nodes else element (renamed says old own) (kept_kids says old own kids passed) no_nodes in
      ap (λ f. by_fate f (is_content own.kind) passed stays) f ∙ ap (λ b. by_fate Free b passed stays) c

  -- the element itself
  pub own-has : (above : List Element) (own : Tag) (kids : Nodes) → Fits (tags_of above) own → IsStanding says above own kids → own ≡ t → is_kept says own ≡ true
      → (passed : Nodes) → StaysHas (tags_of above) own kids passed
  own-has above own kids fit stays is kept passed =
      let parts = kept-parts says own kept in (
        kept_kids says (tags_of above) own kids passed,
        left-is (tags_of above) own kids passed parts.1 stays.goes,
        inl (same-name says (tags_of above) own (member-name (tags_of above) own fit parts.0).0 ∙ is),
      )

  -- an element that holds one, where what it is left with has it
  pub inside-has : (above : List Element) (own : Tag) (kids : Nodes) → Stands test_8 (tags_of above) own kids → Ground test_8 (own ∷ tags_of above) kids
      → IsStanding says above own kids → HasKept says (record { tag = own; kids = kids } ∷ above) kids t → InnerHas (record { tag = own; kids = kids } ∷ above) kids
      → HasTag t (kept_kids says (tags_of above) own kids (pass says (own ∷ tags_of above) kids)) → ElementHas (tags_of above) own kids (pass says (own ∷ tags_of above) kids)
  inside-has above own kids stand ground stays kept inner made = at (outcome own.kind (say_of says own.rev))
    where
      old : List Tag
      old = tags_of above

      passed : Nodes
      passed = pass says (own ∷ tags_of above) kids

      -- no `pPr` is a kid of freed content
      no-props : is_content own.kind ≡ true → InProps (record { tag = own; kids = kids } ∷ above) kids → ⊥
      no-props c props =
          let fit = content_fits (tags_of above) own stand.fits c in
          let loud = by_trace (λ x. is_quiet x ≡ false) own fit.1 (refl, (refl, (refl, (refl, tt)))) in
          let opened : is_open (own ∷ tags_of above) ≡ true = open_∷ own (tags_of above) loud ∙ fit.0 in
          props.free.below (and_from _ _ (by_name (λ x. is_any ("p" ∷ "tbl" ∷ "tr" ∷ "tc" ∷ "pPr" ∷ "tblPr" ∷ "tblPrEx" ∷ "trPr" ∷ "tcPr" ∷ "sectPr" ∷ []) x ≡ true) "pPr" props.tag props.is_pPr refl) opened)
          (in_below (own ∷ tags_of above) fit.1)

      freed : is_content own.kind ≡ true → fate_of says own ≡ Free → InnerHas (record { tag = own; kids = kids } ∷ above) kids
          → ElementHas (tags_of above) own kids (pass says (own ∷ tags_of above) kids)
      freed c f (inl h) =
          inr (c, subst (λ (n : Nodes). HasBeside t n) (sym (freed-is (tags_of above) own kids (pass says (own ∷ tags_of above) kids) c f)) h)
      freed c f (inr props) = absurd (no-props c props)

      at : Outcome own.kind (fate_of says own) → ElementHas (tags_of above) own kids (pass says (own ∷ tags_of above) kids)
      at (inl leave) = inl (
        kept_kids says (tags_of above) own kids (pass says (own ∷ tags_of above) kids),
        left-is (tags_of above) own kids (pass says (own ∷ tags_of above) kids) leave stays.goes,
        inr made,
      )
      at (inr (inl h)) = freed h.0 h.1 inner
      at (inr (inr (inl h))) = absurd (true_false (is_content own.kind && is_cut (fate_of says own)) (and_from _ _ h.0 h.1) stays.cut)
      at (inr (inr (inr (inl h)))) = absurd (true_false (is_drop (fate_of says own)) h stays.drop)
      at (inr (inr (inr (inr c)))) =
          let name = member-name (tags_of above) own stand.fits (closed-some own.kind c) in
          absurd (none-deep says (record { tag = own; kids = kids } ∷ above) (own ∷ tags_of above) kids t
          (deep-here own (tags_of above) (closed-shut (tags_of above) own stand.fits c) name.3 name.4) ground kept)

  -- ---- what becomes of a list that holds one

  pub no-paras : (old : List Tag) (nodes : Nodes) → in_blocks old ≡ false → NoParas (pieces says old nodes)
  no-paras old no_nodes e = tt
  no-paras old (bytes b rest) e = no-paras old rest e
  no-paras old (element own kids rest) e = at (is "p" own) (in_blocks old) e (is_leave (fate_of says own)) (is_thick own) (no-paras old rest e)
    where
      at : (p b : Bool) → b ≡ false → (l heavy : Bool) → NoParas (pieces says old rest)
          → NoParas ((if p && b && l then para (renamed says old own) (para_is_cut says kids) (kept_kids says old own kids (pass says (own ∷ old) kids))
          else if heavy then thick (element_pass says old own kids (pass says (own ∷ old) kids)) else thin (element_pass says old own kids (pass says (own ∷ old) kids)))
          ∷ pieces says old rest)
      at p true e l heavy later = absurd (true≢false e)
      at true false e l true later = later
      at true false e l false later = later
      at false false e l true later = later
      at false false e l false later = later

  ifs-have : (ps : List GroupPiece) → PiecesHaveIf is_beside t ps → PiecesHave t ps
  ifs-have [] h = h
  ifs-have (para own cut kids ∷ ps) h = inr (ifs-have ps h)
  ifs-have (thin nodes ∷ ps) (inl h) = inl h
  ifs-have (thin nodes ∷ ps) (inr h) = inr (ifs-have ps h)
  ifs-have (thick nodes ∷ ps) (inl h) = inl h
  ifs-have (thick nodes ∷ ps) (inr h) = inr (ifs-have ps h)

  -- no list of blocks is a paragraph's
  blocks-no_p : (old : List Tag) → in_blocks old ≡ true → within ("p" ∷ []) old ≡ false
  blocks-no_p [] e = refl
  blocks-no_p (tag ∷ old) e =
      false_from_ne_true (is "p" tag && is_open old) (λ h.
      let p = (and_parts (is "p" tag) (is_open old) h).0 in
      true≢false (sym e ∙ in_blocks-reach (tag ∷ old) ∙ ap is_direct (beyond p (is_open (tag ∷ old)) (reach_of old))))
    where
      beyond : is "p" tag ≡ true → (o : Bool) (r : Reach)
          → (if o then (if has_blocks tag then Direct else if is "tbl" tag then Beyond else if is "tr" tag then Beyond else into r tag) else Beyond) ≡ Beyond
      beyond e false r = refl
      beyond e true Direct = by_name (λ x. (if has_blocks x then Direct else if is "tbl" x then Beyond else if is "tr" x then Beyond else into Direct x) ≡ Beyond) "p" tag e refl
      beyond e true Control = by_name (λ x. (if has_blocks x then Direct else if is "tbl" x then Beyond else if is "tr" x then Beyond else into Control x) ≡ Beyond) "p" tag e refl
      beyond e true Beyond = by_name (λ x. (if has_blocks x then Direct else if is "tbl" x then Beyond else if is "tr" x then Beyond else Beyond) ≡ Beyond) "p" tag e refl

  pub inner-of : (above : List Element) (nodes : Nodes) → OnPath above nodes → InnerHas above nodes
  inner-of above nodes path = at path.has
    where
      whole : PiecesHave t (pieces says (tags_of above) nodes) → HasBeside t (pass says (tags_of above) nodes)
      whole h = grouped-has t false None (pieces says (tags_of above) nodes) (pieces_loud says (tags_of above) nodes) tt (inr h)

      in-pPr : is "pPr" path.tag ≡ true → (b : Bool) → in_blocks (tags_of above) ≡ b
          → ((names : Tag → Bool) → names (renamed says (tags_of above) path.tag) ≡ true → PiecesHaveIf names t (pieces says (tags_of above) nodes)) → InnerHas above nodes
      in-pPr e true blocks h = absurd (none path.own)
        where
          none : ((path.tag ≡ t) × (is_kept says path.tag ≡ true)) ⊎ HasKept says (record { tag = path.tag; kids = path.kids } ∷ above) path.kids t → ⊥
          none (inl own) =
              let name = member-name (tags_of above) path.tag path.stand.fits (kept-parts says path.tag own.1).0 in
              true≢false (sym name.1 ∙ ap not e)
          none (inr inside) =
              none-deep says (record { tag = path.tag; kids = path.kids } ∷ above) (path.tag ∷ tags_of above) path.kids t
              (deep-pPr path.tag (tags_of above) e (blocks-no_p (tags_of above) blocks)) path.below inside
      in-pPr e false blocks h = inr (record {
        tag = path.tag;
        is_pPr = e;
        free = free3 (tags_of above) path.tag path.kids path.stand.rules.rule_3;
        uncut = path.stays.uncut;
        has = if-has (λ x. true) t (pass says (tags_of above) nodes)
            (alone-has (λ x. true) t false (pieces says (tags_of above) nodes) (no-paras (tags_of above) nodes blocks) (h (λ x. true) refl));
      })

      named : (b : Bool) → is "pPr" path.tag ≡ b
          → ((names : Tag → Bool) → names (renamed says (tags_of above) path.tag) ≡ true → PiecesHaveIf names t (pieces says (tags_of above) nodes)) → InnerHas above nodes
      named true e h = in-pPr e (in_blocks (tags_of above)) refl h
      named false e h =
          inl (whole (ifs-have (pieces says (tags_of above) nodes) (h is_beside (ap not ((own_renamed says (tags_of above) path.tag).like.name "pPr" refl ∙ e)))))

      at : Has above path.tag (pieces says (tags_of above) nodes) → InnerHas above nodes
      at (inl h) = inl (whole h.1)
      at (inr (inl h)) = inl (whole (ifs-have (pieces says (tags_of above) nodes) h.1))
      at (inr (inr h)) = named (is "pPr" path.tag) refl h
