-- All rules hold of idle elements, so a keeper that passes over some knows what it knew.
use Rattle.std.proofs.Common.{◌≡◌, ◌∙◌, refl, sym, ap, ℕ, List, [], ◌∷◌, Bool, true, false, true≢false, ◌&&◌, ◌||◌, not, is_some, if◌then◌else◌}
use Rattle.std.specs.List.{list_all}
use Rattle.std.proofs.lemmas.Bool.{or_from, and_from}
use Rattle.std.proofs.Math.Bool.{or-true, and-false}
use Rattle.redl_tree.specs.Model.Nodes.{Tag, Nodes, no_nodes, bytes, element}
use Rattle.redl_tree.specs.Model.IdleTexts.{idle_nodes}
use Rattle.redl_tree.specs.Model.Kids.{some_element, has_element}
use Rattle.redl_tree.specs.Roles.Arounds.{around_inside, role_in, props_in, opened, parent_inside}
use Rattle.redl_tree.specs.Roles.Idle.{is_idle_in}
use Rattle.redl_tree.specs.Roles.Kinds.{is_content, is_change}
use Rattle.redl_tree.specs.Roles.Lists.{is_thick}
use Rattle.redl_tree.specs.Roles.Names.{is, is_any}
use Rattle.redl_tree.specs.Roles.Places.{prop_of, has_run_props}
use Rattle.redl_tree.specs.Rules.Tests.{implies, once}
use Rattle.redl_tree.specs.declared.around.Around.{Around}
use Rattle.redl_tree.specs.declared.around.Parent.{Parent}
use Rattle.redl_tree.specs.declared.around.Parent.TheVariants.{Other, Para as InPara, Row as InRow, Cell as InCell, Body as InBody, Table as InTable, Run as InRun, ParaProps, MarkProps, RunProps, RowProps, CellProps}
use Rattle.redl_tree.specs.declared.kinds.Kind.{Kind}
use Rattle.redl_tree.proofs.Roles.NameLaws.{is-other}
use Rattle.redl_tree.proofs.Idle.Items.{nodes_are_idle}
use Rattle.redl_tree.proofs.Idle.Lists.{names_none, last_idle}
use Rattle.redl_tree.proofs.Idle.Roles.{no_trace, no_prop, no_range_edge}
use Rattle.redl_tree.proofs.Idle.Tags.{Idle, idle_parts, has-not}
use Rattle.redl_visit.specs.declared.ancestors.Ancestors.{Ancestors}
use Rattle.redl_visit.specs.Summaries.{ancestors_inside}
use Rattle.redl_visit.specs.Visits.{visited}
use Rattle.redl_visit.proofs.VisitLaws.{visited-choice}
use Rattle.redl_rules.specs.Attributes.{has_id, declares}
use Rattle.redl_rules.specs.Inside.Rules.{open_in, ends_well, has_cells, marks_once, props_in_place, is_in_para, by_round_3, by_round_4, by_round_6, by_round_7, by_round_8, by_round_9}
use Rattle.redl_rules.specs.Keeping.{in_both, all_hold}
use Rattle.redl_rules.specs.Rounds.{round_inside}
use Rattle.redl_rules.specs.Visiting.{kept_by_round, keeper_rule}
use Rattle.redl_rules.specs.declared.kept.Kept.{Kept}
use Rattle.redl_rules.specs.declared.round.Round.{Round}
use Rattle.redl_rules.proofs.IdleLaws.{no_role_in}
use Rattle.redl_rules.proofs.KidLaws.{none_changes}
use Rattle.redl_rules.proofs.KeptLaws.{where_all_hold}

implies-true : (b : Bool) → implies b true ≡ true
implies-true true = refl
implies-true false = refl

-- ---- what idle elements are to their kids

-- a parent of which no rule asks anything
abbrev asks_nothing : Parent → Bool
asks_nothing InPara = false
asks_nothing InRow = false
asks_nothing InCell = false
asks_nothing InBody = false
asks_nothing ParaProps = false
asks_nothing MarkProps = false
asks_nothing RowProps = false
asks_nothing CellProps = false
asks_nothing _ = true

record NothingAsked (parent : Parent) (kids : Nodes) : Type 0 where
  cell : ends_well parent kids ≡ true
  row : has_cells parent kids ≡ true
  marks : marks_once parent kids ≡ true
  props : props_in_place parent kids ≡ true
  para : is_in_para parent ≡ false

nothing-asked : (parent : Parent) (kids : Nodes) → asks_nothing parent ≡ true → NothingAsked parent kids
nothing-asked InPara kids h = absurd (true≢false (sym h))
nothing-asked InRow kids h = absurd (true≢false (sym h))
nothing-asked InCell kids h = absurd (true≢false (sym h))
nothing-asked InBody kids h = absurd (true≢false (sym h))
nothing-asked ParaProps kids h = absurd (true≢false (sym h))
nothing-asked MarkProps kids h = absurd (true≢false (sym h))
nothing-asked RowProps kids h = absurd (true≢false (sym h))
nothing-asked CellProps kids h = absurd (true≢false (sym h))
nothing-asked _ kids h = record { cell = refl; row = refl; marks = refl; props = refl; para = refl }

-- what a run may be to its kids
abbrev may_be_run : Parent → Bool
may_be_run Other = true
may_be_run InRun = true
may_be_run _ = false

-- properties in a run are those of a run, or none
props-in_run : (tag : Tag) (parent : Parent) → may_be_run parent ≡ true → asks_nothing (props_in parent tag) ≡ true
props-in_run tag Other h = refl
props-in_run tag InRun h = by (is "rPr" tag) where
  by : (b : Bool) → asks_nothing (if b then RunProps else Other) ≡ true
  by true = refl
  by false = refl
props-in_run tag _ h = absurd (true≢false (sym h))

-- elsewhere idle elements are no properties
props-none : (tag : Tag) (parent : Parent) → Idle false tag → asks_nothing (props_in parent tag) ≡ true
props-none tag InPara i = rw (has-not "pPr" false tag i refl) refl
props-none tag ParaProps i = rw (has-not "rPr" false tag i refl, has-not "sectPr" false tag i refl) refl
props-none tag InRun i = rw (has-not "rPr" false tag i refl) refl
props-none tag InBody i = rw (has-not "sectPr" false tag i refl) refl
props-none tag InTable i = rw (has-not "tblPr" false tag i refl) refl
props-none tag InRow i = rw (has-not "tblPrEx" false tag i refl, has-not "trPr" false tag i refl) refl
props-none tag InCell i = rw (has-not "tcPr" false tag i refl) refl
props-none tag _ i = refl

opened-asks : (in_run : Bool) (tag : Tag) (other : Parent) → Idle in_run tag → asks_nothing other ≡ true → asks_nothing (opened tag other) ≡ true
opened-asks in_run tag other i h =
    rw (has-not "p" in_run tag i refl, has-not "tr" in_run tag i refl, has-not "tc" in_run tag i refl, has-not "tbl" in_run tag i refl, has-not "body" in_run tag i refl)
    (by (has_run_props tag))
  where
    by : (b : Bool) → asks_nothing (if b then InRun else other) ≡ true
    by true = refl
    by false = h

inside-asks : (in_run : Bool) (tag : Tag) (quiet : Bool) (parent : Parent) → (in_run ≡ true → may_be_run parent ≡ true) → Idle in_run tag → asks_nothing (parent_inside tag quiet parent) ≡ true
inside-asks in_run tag quiet parent at i = by quiet (props in_run at i) where
  props : (in_run : Bool) → (in_run ≡ true → may_be_run parent ≡ true) → Idle in_run tag → asks_nothing (props_in parent tag) ≡ true
  props true at i = props-in_run tag parent (at refl)
  props false at i = props-none tag parent i

  by : (quiet : Bool) → asks_nothing (props_in parent tag) ≡ true → asks_nothing (parent_inside tag quiet parent) ≡ true
  by true h = h
  by false h = opened-asks in_run tag (props_in parent tag) i h

-- a run holds no properties, whatever its parent
run-props : (tag : Tag) (parent : Parent) → is "r" tag ≡ true → props_in parent tag ≡ Other
run-props tag InPara e = rw (is-other "r" "pPr" tag e refl) refl
run-props tag ParaProps e = rw (is-other "r" "rPr" tag e refl, is-other "r" "sectPr" tag e refl) refl
run-props tag InRun e = rw (is-other "r" "rPr" tag e refl) refl
run-props tag InBody e = rw (is-other "r" "sectPr" tag e refl) refl
run-props tag InTable e = rw (is-other "r" "tblPr" tag e refl) refl
run-props tag InRow e = rw (is-other "r" "tblPrEx" tag e refl, is-other "r" "trPr" tag e refl) refl
run-props tag InCell e = rw (is-other "r" "tcPr" tag e refl) refl
run-props tag _ e = refl

inside-run : (tag : Tag) (quiet : Bool) (parent : Parent) → is "r" tag ≡ true → may_be_run (parent_inside tag quiet parent) ≡ true
inside-run tag true parent e = ap may_be_run (run-props tag parent e)
inside-run tag false parent e =
    ap (λ (p : Parent). may_be_run (opened tag p)) (run-props tag parent e)
    ∙ rw (is-other "r" "p" tag e refl, is-other "r" "tr" tag e refl, is-other "r" "tc" tag e refl, is-other "r" "tbl" tag e refl, is-other "r" "body" tag e refl)
    (by (has_run_props tag))
  where
    by : (b : Bool) → may_be_run (if b then InRun else Other) ≡ true
    by true = refl
    by false = refl

-- ---- the rules, of an idle element by itself

-- what is known of the kids of a run
record InRuns (here : Around) (round : Round) : Type 0 where
  parent : may_be_run here.parent ≡ true
  content : round.in_content ≡ false

all-nine : {a b c d e f g h i : Bool} → a ≡ true → b ≡ true → c ≡ true → d ≡ true → e ≡ true → f ≡ true → g ≡ true → h ≡ true → i ≡ true →
    list_all (λ b. b) (a ∷ b ∷ c ∷ d ∷ e ∷ f ∷ g ∷ h ∷ i ∷ []) ≡ true
all-nine s t u v w x y z α = rw (s, t, u, v, w, x, y, z, α) refl

module _ (here : Around) (round : Round) (in_run : Bool) (at : in_run ≡ true → InRuns here round) (tag : Tag) (kids : Nodes) (i : Idle in_run tag) (below : is_idle_in (is "r" tag) kids ≡ true) where
  abbrev kind : Kind
  kind = role_in here tag

  asked : NothingAsked (around_inside tag here).parent kids
  asked = nothing-asked (around_inside tag here).parent kids (inside-asks in_run tag here.quiet here.parent (λ e. (at e).parent) i)

  no_run_props : implies (open_in ("rPr" ∷ "sdtContent" ∷ []) here tag) (not round.in_content) ≡ true
  no_run_props = by in_run at i where
    by : (in_run : Bool) → (in_run ≡ true → InRuns here round) → Idle in_run tag → implies (open_in ("rPr" ∷ "sdtContent" ∷ []) here tag) (not round.in_content) ≡ true
    by true at i =
        ap (λ b. implies (open_in ("rPr" ∷ "sdtContent" ∷ []) here tag) (not b)) (at refl).content ∙ implies-true (open_in ("rPr" ∷ "sdtContent" ∷ []) here tag)
    by false at i = ap (λ b. implies (b && not here.quiet) (not round.in_content)) (names_none ("rPr" ∷ "sdtContent" ∷ []) false refl tag i)

  holds_3 : by_round_3 here round kind tag kids ≡ true
  holds_3 =
      and_from _ _
      (and_from _ _
      (ap (λ b. implies (b && not here.quiet) (not round.below_content))
      (names_none ("p" ∷ "tbl" ∷ "tr" ∷ "tc" ∷ "pPr" ∷ "tblPr" ∷ "tblPrEx" ∷ "trPr" ∷ "tcPr" ∷ "sectPr" ∷ []) in_run refl tag i))
      no_run_props)
      (ap (λ (k : Kind). implies (is_content k && round.among_blocks) (not (some_element is_thick kids))) (no_role_in in_run here tag i))

  holds_4 : by_round_4 (around_inside tag here) kids ≡ true
  holds_4 =
      ap (λ b. not (around_inside tag here).quiet || b)
      (last_idle (is "r" tag) (λ kid. is_change (role_in (around_inside tag here) kid)) (none_changes (is "r" tag) (around_inside tag here)) kids below)
      ∙ or-true (not (around_inside tag here).quiet)

  holds_6 : by_round_6 (around_inside tag here) here tag kids ≡ true
  holds_6 = and_from _ _ asked.props (ap (λ b. implies (b && not here.quiet) (once "sdtContent" kids)) (has-not "sdt" in_run tag i refl))

  holds_7 : by_round_7 here tag kids ≡ true
  holds_7 =
      ap (λ b. implies ((not here.quiet && b) && has_id tag.tail) (not (has_element kids))) (no_range_edge in_run tag i)
      ∙ ap (λ b. implies (b && has_id tag.tail) (not (has_element kids))) (and-false (not here.quiet))

  holds_8 : by_round_8 round tag ≡ true
  holds_8 =
      ap (λ b. implies b (not round.below_change))
      (or_from (is_some (prop_of tag)) (is_any ("p" ∷ "tbl" ∷ "tr" ∷ "tc" ∷ "txbxContent" ∷ []) tag)
      (ap is_some (no_prop in_run tag i)) (names_none ("p" ∷ "tbl" ∷ "tr" ∷ "tc" ∷ "txbxContent" ∷ []) in_run refl tag i))

  holds_9 : by_round_9 (around_inside tag here).parent kind tag kids ≡ true
  holds_9 =
      ap (λ (k : Kind). by_round_9 (around_inside tag here).parent k tag kids) (no_role_in in_run here tag i)
      ∙ ap (λ b. implies ((b || false) || false) (not (declares tag.tail)) && true) asked.para

  all-hold : all_hold (kept_by_round here (around_inside tag here) round kind tag kids) ≡ true
  all-hold = all-nine asked.cell asked.row holds_3 holds_4 asked.marks holds_6 holds_7 holds_8 holds_9

-- ---- a visit of idle nodes

kept-idle : (here : Ancestors) (round : Round) (in_run : Bool) → (in_run ≡ true → InRuns here.around round) → (nodes : Nodes) (kept : Kept) → is_idle_in in_run nodes ≡ true →
    visited ancestors_inside keeper_rule here round nodes kept ≡ kept
kept-idle here round in_run at no_nodes kept h = refl
kept-idle here round in_run at (bytes b rest) kept h = kept-idle here round in_run at rest kept h
kept-idle here round in_run at (element tag kids rest) kept h =
    let p = idle_parts in_run tag kids rest h in
    let inner = ancestors_inside tag here in
    let within = round_inside tag (role_in here.around tag) inner round in
    let told : Kept = kept_by_round here.around (around_inside tag here.around) round (role_in here.around tag) tag kids in
    let runs : is "r" tag ≡ true → InRuns inner.around within =
    λ e. record { parent = inside-run tag here.around.quiet here.around.parent e; content = ap is_some (no_trace in_run tag p.own) } in
    ap (visited ancestors_inside keeper_rule here round rest)
    (visited-choice ancestors_inside keeper_rule inner (λ b. if b then within else round) kids (in_both kept told)
    ∙ kept-idle inner within (is "r" tag) runs kids (in_both kept told) p.below
    ∙ where_all_hold kept told (all-hold here.around round in_run at tag kids p.own p.below))
    ∙ kept-idle here round in_run at rest kept p.later

pub passed : (here : Ancestors) (round : Round) (t : List ℕ) (kept : Kept) → visited ancestors_inside keeper_rule here round (idle_nodes t) kept ≡ kept
passed here round t kept = kept-idle here round false (λ e. absurd (true≢false (sym e))) (idle_nodes t) kept (nodes_are_idle t)
