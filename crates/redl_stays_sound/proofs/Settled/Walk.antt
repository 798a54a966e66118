-- The walk over a story: where all revisions are decided, no element that a pass gives has a role.
use Rattle.std.proofs.Common.{◌≡◌, List, [], ◌∷◌, Bool, true, false, ◌&&◌, ◌||◌, not, inl, inr, None, is_some, refl, sym, ap, ◌∙◌, true≢false, if◌then◌else◌}
use Rattle.std.proofs.lemmas.Bool.{and_left, and_parts, and_right, false_from_ne_true}
use Rattle.redl_laws.proofs.Soundness.AlikeTags.{like_p, like_self, own_renamed}
use Rattle.redl_laws.proofs.Soundness.Ancestors.{Came, Free3, Para, at_props, free3, freed, joins, kept, top}
use Rattle.redl_laws.proofs.Soundness.Walk.{GoodPiece, GoodPieces, Ground, NoMarkBelow, Settled, Stands, content_fits, everywhere-one, everywhere-without, grouped_good, if_both, made, p_made, settled_freed, settled_kept}
use Rattle.redl_stays_sound.proofs.Settled.Former.{made-settled}
use Rattle.redl_stays_sound.proofs.Settled.Places.{NoMarks, no-marks-freed, no-marks-joins, no-marks-kept, placeless-came}
use Rattle.redl_stays_sound.proofs.Settled.Roles.{IsPlaceless, no-role, placeless}
use Rattle.redl_stays_sound.specs.Settled.{has_no_role, is_said}
use Rattle.redl_tree.proofs.Decisions.PassLaws.{block_p}
use Rattle.redl_tree.proofs.Roles.Fits.{Fits, true_false}
use Rattle.redl_tree.proofs.Roles.Named.{by_name}
use Rattle.redl_tree.specs.Decisions.Fates.{fate, fate_of, renamed, say_of, trace_fate}
use Rattle.redl_tree.specs.Decisions.Packages.{is_plain}
use Rattle.redl_tree.specs.Decisions.Pass.{by_fate, element_pass, is_block_para, kept_kids, pass, pieces}
use Rattle.redl_tree.specs.Decisions.Groups.{para, thick, thin}
use Rattle.redl_tree.specs.Decisions.Tables.{goes_at, para_is_cut}
use Rattle.redl_tree.specs.Leaves.Settings.{is_keep}
use Rattle.redl_tree.specs.Model.Kids.{without}
use Rattle.redl_tree.specs.Model.Nodes.{Nodes, Tag, bytes, element, no_nodes}
use Rattle.redl_tree.specs.Roles.Kinds.{is_content}
use Rattle.redl_tree.specs.Roles.Lists.{is_thick}
use Rattle.redl_tree.specs.Roles.Names.{is}
use Rattle.redl_tree.specs.Roles.Places.{cell_trace_of, in_cell_props, in_mark_props, in_row_props, is_open, prop_of, role, row_trace_of, trace_of, within}
use Rattle.redl_tree.specs.Rules.Sound.{test_8}
use Rattle.redl_tree.specs.Rules.Tests.{everywhere}
use Rattle.redl_tree.specs.declared.kinds.Fate.{Fate}
use Rattle.redl_tree.specs.declared.kinds.Fate.TheVariants.{Clear, Cut, Drop, Free, Leave, Restore}
use Rattle.redl_tree.specs.declared.kinds.Kind.{Kind}
use Rattle.redl_tree.specs.declared.kinds.Kind.TheVariants.{Cell, Change, Content, Mark, Marker, Plain, Row}
use Rattle.redl_tree.specs.declared.kinds.Say.{Say}
use Rattle.redl_tree.specs.declared.kinds.Say.TheVariants.{Accept, Keep, Reject}
use Rattle.redl_tree.specs.declared.kinds.Trace.{Trace}
use Rattle.redl_tree.specs.declared.kinds.Trace.TheVariants.{Del, From, Ins, To}

-- ---- what is decided and left is in no revision

trace-decided : (trace : Trace) (say : Say) → is_keep say ≡ false → trace_fate trace say ≡ Leave → ⊥
trace-decided trace Keep k e = true≢false k
trace-decided Ins Accept k e = cc
trace-decided To Accept k e = cc
trace-decided Del Accept k e = cc
trace-decided From Accept k e = cc
trace-decided Ins Reject k e = cc
trace-decided To Reject k e = cc
trace-decided Del Reject k e = cc
trace-decided From Reject k e = cc

not-keep : (say : Say) → not (is_keep say) ≡ true → is_keep say ≡ false
not-keep Keep h = absurd (true≢false (sym h))
not-keep Accept h = refl
not-keep Reject h = refl

decided-plain : (kind : Kind) (say : Say) → (is_plain kind || not (is_keep say)) ≡ true → fate kind say ≡ Leave → kind ≡ Plain
decided-plain Plain say said e = refl
decided-plain (Content t) say said e = absurd (trace-decided t say (not-keep say said) e)
decided-plain (Mark t) say said e = absurd (trace-decided t say (not-keep say said) e)
decided-plain (Row t) say said e = absurd (trace-decided t say (not-keep say said) e)
decided-plain (Cell t) say said e = absurd (trace-decided t say (not-keep say said) e)
decided-plain (Change p) Keep said e = absurd (true≢false (sym said))
decided-plain (Change p) Accept said e = cc
decided-plain (Change p) Reject said e = cc
decided-plain Marker Keep said e = absurd (true≢false (sym said))
decided-plain Marker Accept said e = cc
decided-plain Marker Reject said e = cc

plain-role : (ancestors : List Tag) (tag : Tag) → Fits ancestors tag → tag.kind ≡ Plain → role ancestors tag ≡ Plain
plain-role ancestors tag (inl kind) e = sym kind ∙ e
plain-role ancestors tag (inr marker) e = absurd (let wrong : Marker ≡ Plain = sym marker.kind ∙ e in cc)

-- ---- one element

fate-good : (new : List Tag) (f : Fate) (content : Bool) (passed stays : Nodes) → (f ≡ Leave → everywhere has_no_role new stays ≡ true)
    → (content ≡ true → everywhere has_no_role new passed ≡ true) → everywhere has_no_role new (by_fate f content passed stays) ≡ true
fate-good new Leave content passed stays h k = h refl
fate-good new Free true passed stays h k = k refl
fate-good new Free false passed stays h k = refl
fate-good new Cut content passed stays h k = refl
fate-good new Clear content passed stays h k = refl
fate-good new Restore content passed stays h k = refl
fate-good new Drop content passed stays h k = refl

-- a paragraph has no role anywhere
para-placeless : (ancestors : List Tag) (tag : Tag) → is "p" tag ≡ true → IsPlaceless ancestors tag
para-placeless ancestors tag e = record {
  content = and_right (is_open ancestors) (is_some (trace_of tag)) (by_name (λ t. is_some (trace_of t) ≡ false) "p" tag e refl);
  mark = and_right (in_mark_props ancestors) (is_some (trace_of tag)) (by_name (λ t. is_some (trace_of t) ≡ false) "p" tag e refl);
  row = and_right (in_row_props ancestors) (is_some (row_trace_of tag)) (by_name (λ t. is_some (row_trace_of t) ≡ false) "p" tag e refl);
  cell = and_right (in_cell_props ancestors) (is_some (cell_trace_of tag)) (by_name (λ t. is_some (cell_trace_of t) ≡ false) "p" tag e refl);
  change = ap (at_props ancestors) (by_name (λ t. prop_of t ≡ None) "p" tag e refl);
}

-- what is known of the place where an element is put
record Stays (old new : List Tag) : Type 0 where
  settled : Settled old new
  marks : NoMarks old new

-- all members and markers among these are of decided revisions
abbrev AllSaid : List Say → List Tag → Nodes → Type 0
AllSaid says ancestors nodes = everywhere (is_said says) ancestors nodes ≡ true

module _ (says : List Say) where
  -- the pass of what is in an element has no roles, wherever it is put
  abbrev Inner : List Tag → Nodes → Type 0
  Inner old kids = (new : List Tag) → Came old new → Stays old new → everywhere has_no_role new (pass says old kids) ≡ true

  element-good : (old new : List Tag) (a : Tag) (kids : Nodes) → Came old new → Para old new a → NoMarkBelow old new → NoMarks old new → Stands test_8 old a kids → Ground test_8 (a ∷ old) kids
      → is_said says old a kids ≡ true → Inner (a ∷ old) kids → everywhere has_no_role new (element_pass says old a kids (pass says (a ∷ old) kids)) ≡ true
  element-good old new a kids c pr mark marks h g said inner =
      let b = renamed says old a in
      let own = own_renamed says old a in
      fate-good new (fate_of says a) (is_content a.kind) (pass says (a ∷ old) kids)
      (if goes_at says old a kids then no_nodes else element b (made says old a kids) no_nodes)
      (λ leave. if_both (λ n. everywhere has_no_role new n ≡ true) (goes_at says old a kids) no_nodes (element b (made says old a kids) no_nodes)
      (λ w. refl)
      (λ w. everywhere-one has_no_role new b (made says old a kids)
      (no-role new b (made says old a kids)
      (placeless-came old new a b kids c own.like marks h.rules.rule_8
      (placeless old a (plain-role old a h.fits (decided-plain a.kind (say_of says a.rev) said leave)))))
      (made-settled says old new a b kids own.like g
      (inner (b ∷ new) (kept a b c own.like (free3 old a kids h.rules.rule_3) pr)
      (record { settled = settled_kept old new a b c own.like; marks = no-marks-kept old new a b c own.like mark })))))
      (λ content.
      let w = content_fits old a h.fits content in
      inner new (freed a c w.1 w.0) (record { settled = settled_freed old new a w.1 w.0; marks = no-marks-freed old new a w.1 w.0 }))

  -- properties give nothing to a joined paragraph
  none-of : (a : Tag) (kids : Nodes) → is "pPr" a ≡ true → without (is "pPr") (element a kids no_nodes) ≡ no_nodes
  none-of a kids e = rw e refl

  none-fate : (f : Fate) (content : Bool) (passed stays : Nodes) → content ≡ false → without (is "pPr") stays ≡ no_nodes → without (is "pPr") (by_fate f content passed stays) ≡ no_nodes
  none-fate Leave content passed stays e h = h
  none-fate Free true passed stays e h = absurd (true≢false e)
  none-fate Free false passed stays e h = refl
  none-fate Cut content passed stays e h = refl
  none-fate Clear content passed stays e h = refl
  none-fate Restore content passed stays e h = refl
  none-fate Drop content passed stays e h = refl

  none-if : (b : Bool) (x : Nodes) → without (is "pPr") x ≡ no_nodes → without (is "pPr") (if b then no_nodes else x) ≡ no_nodes
  none-if true x h = refl
  none-if false x h = h

  pPr-gives-none : (old : List Tag) (a : Tag) (kids passed : Nodes) → Fits old a → is "pPr" a ≡ true → without (is "pPr") (element_pass says old a kids passed) ≡ no_nodes
  pPr-gives-none old a kids passed fit e =
      none-fate (fate_of says a) (is_content a.kind) passed
      (if goes_at says old a kids then no_nodes else element (renamed says old a) (kept_kids says old a kids passed) no_nodes)
      (false_from_ne_true (is_content a.kind) (λ w. true_false (is_some (trace_of a)) (content_fits old a fit w).1 (by_name (λ t. is_some (trace_of t) ≡ false) "pPr" a e refl)))
      (none-if (goes_at says old a kids) (element (renamed says old a) (kept_kids says old a kids passed) no_nodes)
      (none-of (renamed says old a) (kept_kids says old a kids passed) ((own_renamed says old a).like.name "pPr" refl ∙ e)))

  -- an element that is put in a joined paragraph
  between-good : (old new : List Tag) (a : Tag) (kids : Nodes) → Came old new → Stands test_8 old a kids → Ground test_8 (a ∷ old) kids
      → is_said says old a kids ≡ true → Inner (a ∷ old) kids
      → (b : Tag) → is "p" b ≡ true → everywhere has_no_role (b ∷ new) (without (is "pPr") (element_pass says old a kids (pass says (a ∷ old) kids))) ≡ true
  between-good old new a kids c h g said inner b e = at (is "pPr" a) refl
    where
      at : (x : Bool) → is "pPr" a ≡ x → everywhere has_no_role (b ∷ new) (without (is "pPr") (element_pass says old a kids (pass says (a ∷ old) kids))) ≡ true
      at true w = ap (everywhere has_no_role (b ∷ new)) (pPr-gives-none old a kids (pass says (a ∷ old) kids) h.fits w)
      at false w =
          everywhere-without (is "pPr") has_no_role (b ∷ new) (element_pass says old a kids (pass says (a ∷ old) kids))
          (element-good old (b ∷ new) a kids (joins b c e) (λ v. absurd (true≢false (sym v ∙ w)))
          (λ below. and_left (is "pPr" b) (within ("p" ∷ []) new) (by_name (λ t. is "pPr" t ≡ false) "p" b e refl)) (no-marks-joins old new b e) h g said inner)

  -- a paragraph of a block list
  para-good : (old new : List Tag) (a : Tag) (kids : Nodes) (cut : Bool) → Came old new → Para old new a → Stays old new → Stands test_8 old a kids
      → Ground test_8 (a ∷ old) kids → is "p" a ≡ true → Inner (a ∷ old) kids → GoodPiece has_no_role new (para (renamed says old a) cut (made says old a kids))
  para-good old new a kids cut c pr s h g e inner =
      let own = own_renamed says old a in
      let same = p_made test_8 says old a kids e g in (
        own.like.name "p" refl ∙ e,
        λ b q. ap (everywhere has_no_role (b ∷ new)) same
            ∙ inner (b ∷ new) (kept a b c (like_p a b e q) (free3 old a kids h.rules.rule_3) pr)
            (record { settled = settled_kept old new a b c (like_p a b e q); marks = no-marks-kept old new a b c (like_p a b e q) s.settled.mark }),
        no-role new (renamed says old a) (made says old a kids) (para-placeless new (renamed says old a) (own.like.name "p" refl ∙ e)),
      )

  piece-good : (is_p heavy : Bool) (new : List Tag) (t : Tag) (cut : Bool) (kids n : Nodes) → (is_p ≡ true → GoodPiece has_no_role new (para t cut kids))
      → (everywhere has_no_role new n ≡ true) × ((b : Tag) → is "p" b ≡ true → everywhere has_no_role (b ∷ new) (without (is "pPr") n) ≡ true)
      → GoodPiece has_no_role new (if is_p then para t cut kids else if heavy then thick n else thin n)
  piece-good true heavy new t cut kids n h g = h refl
  piece-good false true new t cut kids n h g = g
  piece-good false false new t cut kids n h g = g

  walk : (old new : List Tag) (nodes : Nodes) → Came old new → Stays old new → Ground test_8 old nodes → AllSaid says old nodes → GoodPieces has_no_role new (pieces says old nodes)
  walk old new no_nodes c s g said = tt
  walk old new (bytes b rest) c s g said = ((refl, λ b e. refl), walk old new rest c s g said)
  walk old new (element a kids rest) c s g said =
      let both = and_parts (is_said says old a kids && everywhere (is_said says) (a ∷ old) kids) (everywhere (is_said says) old rest) said in
      let here = and_parts (is_said says old a kids) (everywhere (is_said says) (a ∷ old) kids) both.0 in
      let inner : Inner (a ∷ old) kids =
      λ new' c' s'. grouped_good has_no_role (λ n t cl k more p h none. h) new' false None (pieces says (a ∷ old) kids) (walk (a ∷ old) new' kids c' s' g.1 here.1) tt in
      let pr = s.settled.para a (free3 old a kids g.0.rules.rule_3) in (
        piece-good (is_block_para says old a) (is_thick a) new (renamed says old a) (para_is_cut says kids) (made says old a kids)
            (element_pass says old a kids (pass says (a ∷ old) kids))
            (λ e. para-good old new a kids (para_is_cut says kids) c pr s g.0 g.1 (block_p says old a e) inner)
            (element-good old new a kids c pr s.settled.mark s.marks g.0 g.1 here.0 inner, between-good old new a kids c g.0 g.1 here.0 inner),
        walk old new rest c s g.2 both.1,
      )

  -- the kids of a story's root
  pub pass-settled : (root : Tag) (kids : Nodes) → Free3 [] root → Ground test_8 (root ∷ []) kids → AllSaid says (root ∷ []) kids
      → everywhere has_no_role (root ∷ []) (pass says (root ∷ []) kids) ≡ true
  pass-settled root kids free g said =
      let c : Came [] [] = top in
      let c' = kept root root c (like_self root) free (λ p q. absurd (true≢false (sym q))) in
      grouped_good has_no_role (λ n t cl k more p h none. h) (root ∷ []) false None (pieces says (root ∷ []) kids)
      (walk (root ∷ []) (root ∷ []) kids c'
      (record { settled = settled_kept [] [] root root c (like_self root); marks = no-marks-kept [] [] root root c (like_self root) (λ q. refl) }) g said) tt
