-- Idle elements that a list keeps as text: the walk over them takes the steps that the walk over their text says.
use Rattle.std.proofs.Common.{◌≡◌, ◌∙◌, refl, sym, ap, ℕ, List, [], ◌++◌, append-nil, Bool, true, false, ◌&&◌, ◌||◌, not, codes, if◌then◌else◌}
use Rattle.std.proofs.Math.Bool.{or-false}
use Rattle.std.specs.List.{flat_map, list_any}
use Rattle.redl_idle.proofs.RoleLaws.{by_local, name_same, quiet_same}
use Rattle.redl_idle.specs.Shows.{shows}
use Rattle.redl_tree.proofs.Idle.Items.{nodes_are_idle}
use Rattle.redl_tree.proofs.Idle.Tags.{Idle, idle_parts, has-not}
use Rattle.redl_tree.proofs.Reading.SameBytes.{same_bytes}
use Rattle.redl_tree.specs.Model.IdleTexts.{idle_nodes}
use Rattle.redl_tree.specs.Model.Nodes.{Tag, Nodes, no_nodes, bytes, element}
use Rattle.redl_tree.specs.Roles.Idle.{is_idle_in}
use Rattle.redl_tree.specs.Roles.Names.{is, of_w}
use Rattle.redl_tree.specs.Roles.Places.{is_quiet}
use Rattle.redl_spans.proofs.MemberLaws.{idle_property_members}
use Rattle.redl_spans.specs.Inside.Idle.{beside, idle_rule, idle_steps, inside_idle}
use Rattle.redl_spans.specs.Inside.Steps.{encoded, encoded-append, stepped-append}
use Rattle.redl_spans.specs.Members.{content_span, has_own_edge, member_span, own_spans, property_members}
use Rattle.redl_spans.specs.Units.{Step, holds_text, start_steps, steps_at, text_steps}
use Rattle.redl_spans.specs.Walks.{Walk, apart, begun, closed_at, left, opened_at, parted, stepped, walked}
use Rattle.redl_spans.specs.declared.idle.Below.{Below}
use Rattle.redl_spans.specs.declared.member.Member.{Member}
use Rattle.redl_spans.specs.declared.place.Position.{Position}
use Rattle.redl_spans.specs.declared.span.Span.{Span}

-- ---- one element

-- it takes the steps of any element with its local name and its tail
start_same : (in_run : Bool) (tag : Tag) → Idle in_run tag → steps_at tag ≡ start_steps tag.local tag.tail
start_same in_run tag i = by_local (λ w local. if w then start_steps local tag.tail else []) in_run tag i

-- it holds text only as a `t`
text_same : (in_run : Bool) (tag : Tag) → Idle in_run tag → holds_text tag ≡ is "t" (of_w tag.local)
text_same in_run tag i =
    ap (λ d. is "t" tag || (d || false)) (has-not "delText" in_run tag i refl)
    ∙ or-false (is "t" tag) ∙ name_same in_run tag i (codes "t")

module _ (in_run : Bool) (tag : Tag) (kids : Nodes) (i : Idle in_run tag) (below : is_idle_in (is "r" tag) kids ≡ true) where
  no_members : property_members kids ≡ []
  no_members = idle_property_members (is "r" tag) kids below

  -- it doesn't move where its kids begin
  opens_nothing : (here : Position) → opened_at tag kids here ≡ here
  opens_nothing here =
      ap (λ b. if b then apart here else if list_any has_own_edge (property_members kids) then parted here else here) (has-not "p" in_run tag i refl)
      ∙ ap (λ (ms : List Member). if list_any has_own_edge ms then parted here else here) no_members

  begins : (w : Walk) → begun tag kids w ≡ stepped (steps_at tag) w
  begins w = ap (λ (here : Position). stepped (steps_at tag) (record w { here = here })) (opens_nothing w.here)

  closes_nothing : (here : Position) → closed_at tag here ≡ here
  closes_nothing here = ap (λ b. if b then parted here else here) (has-not "p" in_run tag i refl)

  holds_nothing : (from to : ℕ) → own_spans tag (property_members kids) from to ≡ []
  holds_nothing from to =
      ap (λ (ms : List Member). content_span tag.kind tag.rev from to ++ flat_map (member_span tag from to) ms) no_members
      ∙ ap (λ k. content_span k tag.rev from to ++ []) i.kind

  leaves_nothing : (from : ℕ) (w : Walk) → left tag kids from w ≡ w
  leaves_nothing from w =
      ap (λ (spans : List Span). record w { here = closed_at tag w.here; spans = w.spans ++ spans }) (holds_nothing from (closed_at tag w.here).count)
      ∙ ap (λ (spans : List Span). record w { here = closed_at tag w.here; spans = spans }) (append-nil w.spans)
      ∙ ap (λ (here : Position). record w { here = here }) (closes_nothing w.here)

-- ---- the walk over the nodes

quiet_or_not : (quiet : Bool) (w : Walk) (steps : List Step) (past : Walk) → past ≡ stepped steps w → (if quiet then w else past) ≡ stepped (if quiet then [] else steps) w
quiet_or_not true w steps past is = refl
quiet_or_not false w steps past is = is

walked_idle : (in_text in_run : Bool) (x : Nodes) (w : Walk) → is_idle_in in_run x ≡ true → walked in_text x w ≡ stepped (idle_steps in_text x) w
walked_idle in_text in_run no_nodes w h = refl
walked_idle in_text in_run (bytes b rest) w h =
    walked_idle in_text in_run rest (stepped (text_steps in_text b) w) h ∙ sym (stepped-append (text_steps in_text b) (idle_steps in_text rest) w)
walked_idle in_text in_run (element tag kids rest) w h =
    let p = idle_parts in_run tag kids rest h in
    let inner = idle_steps (holds_text tag) kids in
    let own = if is_quiet tag then [] else steps_at tag ++ inner in
    let through : left tag kids w.here.count (walked (holds_text tag) kids (begun tag kids w)) ≡ stepped (steps_at tag ++ inner) w =
    leaves_nothing in_run tag kids p.own p.below w.here.count (walked (holds_text tag) kids (begun tag kids w))
    ∙ ap (walked (holds_text tag) kids) (begins in_run tag kids p.own p.below w)
    ∙ walked_idle (holds_text tag) (is "r" tag) kids (stepped (steps_at tag) w) p.below
    ∙ sym (stepped-append (steps_at tag) inner w) in
    ap (walked in_text rest) (quiet_or_not (is_quiet tag) w (steps_at tag ++ inner) (left tag kids w.here.count (walked (holds_text tag) kids (begun tag kids w))) through)
    ∙ walked_idle in_text in_run rest (stepped own w) p.later
    ∙ sym (stepped-append own (idle_steps in_text rest) w)

-- ---- the walk over the text

-- nothing in the properties of a run
quiet_shows : (nodes : Nodes) (below : Below) → below.quiet ≡ true → below.in_text ≡ false → shows idle_rule below nodes ≡ []
quiet_shows no_nodes below q s = refl
quiet_shows (bytes b rest) below q s = ap (λ x. encoded (text_steps x b) ++ shows idle_rule below rest) s ∙ quiet_shows rest below q s
quiet_shows (element tag kids rest) below q s =
    let own = is "rPr" (of_w tag.local) in
    let inner : shows idle_rule (inside_idle below tag.local) kids ≡ [] =
    quiet_shows kids (inside_idle below tag.local) (ap (λ x. x || own) q) (ap (λ x. not (x || own) && is "t" (of_w tag.local)) q) in
    ap (λ x. (encoded (if x then [] else start_steps tag.local tag.tail) ++ (shows idle_rule (inside_idle below tag.local) kids ++ [])) ++ shows idle_rule below rest) q
    ∙ ap (λ (i : List ℕ). (i ++ []) ++ shows idle_rule below rest) inner ∙ quiet_shows rest below q s

-- no step is taken at the start of properties
no_start : (local tail : List ℕ) → is "rPr" (of_w local) ≡ true → start_steps local tail ≡ []
no_start local tail e = ap (λ l. start_steps l tail) (same_bytes local (codes "rPr") e)

module _ (in_text in_run : Bool) (tag : Tag) (kids : Nodes) (i : Idle in_run tag) where
  abbrev own_steps : List Step
  own_steps = if is_quiet tag then [] else steps_at tag ++ idle_steps (holds_text tag) kids

  -- given what its kids show
  one_shows : shows idle_rule (beside (holds_text tag)) kids ≡ encoded (idle_steps (holds_text tag) kids)
      → encoded (start_steps tag.local tag.tail) ++ (shows idle_rule (inside_idle (beside in_text) tag.local) kids ++ []) ≡ encoded own_steps
  one_shows inner = by_case (is "rPr" (of_w tag.local)) refl
    where
      by_case : (q : Bool) → is "rPr" (of_w tag.local) ≡ q
          → encoded (start_steps tag.local tag.tail) ++ (shows idle_rule (inside_idle (beside in_text) tag.local) kids ++ []) ≡ encoded own_steps
      by_case true e =
          let nothing : shows idle_rule (inside_idle (beside in_text) tag.local) kids ≡ [] =
          quiet_shows kids (inside_idle (beside in_text) tag.local) e (ap (λ q. not q && is "t" (of_w tag.local)) e) in
          ap (λ (s : List Step). encoded s ++ (shows idle_rule (inside_idle (beside in_text) tag.local) kids ++ [])) (no_start tag.local tag.tail e)
          ∙ ap (λ (s : List ℕ). s ++ []) nothing
          ∙ sym (ap (λ q. encoded (if q then [] else steps_at tag ++ idle_steps (holds_text tag) kids)) (quiet_same in_run tag i ∙ e))
      by_case false e =
          let kept = shows idle_rule (inside_idle (beside in_text) tag.local) kids in
          let same : kept ≡ encoded (idle_steps (holds_text tag) kids) =
          ap (λ q. shows idle_rule (record { quiet = q; in_text = not q && is "t" (of_w tag.local) }) kids) e
          ∙ sym (ap (λ b. shows idle_rule (beside b) kids) (text_same in_run tag i)) ∙ inner in
          ap (λ (s : List ℕ). encoded (start_steps tag.local tag.tail) ++ s) (append-nil kept ∙ same)
          ∙ ap (λ (s : List Step). encoded s ++ encoded (idle_steps (holds_text tag) kids)) (sym (start_same in_run tag i))
          ∙ sym (encoded-append (steps_at tag) (idle_steps (holds_text tag) kids))
          ∙ sym (ap (λ q. encoded (if q then [] else steps_at tag ++ idle_steps (holds_text tag) kids)) (quiet_same in_run tag i ∙ e))

shows_idle : (in_text in_run : Bool) (x : Nodes) → is_idle_in in_run x ≡ true → shows idle_rule (beside in_text) x ≡ encoded (idle_steps in_text x)
shows_idle in_text in_run no_nodes h = refl
shows_idle in_text in_run (bytes b rest) h =
    ap (λ (s : List ℕ). encoded (text_steps in_text b) ++ s) (shows_idle in_text in_run rest h)
    ∙ sym (encoded-append (text_steps in_text b) (idle_steps in_text rest))
shows_idle in_text in_run (element tag kids rest) h =
    let p = idle_parts in_run tag kids rest h in
    let own = if is_quiet tag then [] else steps_at tag ++ idle_steps (holds_text tag) kids in
    let inner = shows_idle (holds_text tag) (is "r" tag) kids p.below in
    ap (λ (s : List ℕ). s ++ shows idle_rule (beside in_text) rest) (one_shows in_text in_run tag kids p.own inner)
    ∙ ap (λ (s : List ℕ). encoded own ++ s) (shows_idle in_text in_run rest p.later)
    ∙ sym (encoded-append own (idle_steps in_text rest))

-- ---- kept text

pub shown_steps : (in_text : Bool) (t : List ℕ) → shows idle_rule (beside in_text) (idle_nodes t) ≡ encoded (idle_steps in_text (idle_nodes t))
shown_steps in_text t = shows_idle in_text false (idle_nodes t) (nodes_are_idle t)

pub walked_kept : (in_text : Bool) (t : List ℕ) (w : Walk) → walked in_text (idle_nodes t) w ≡ stepped (idle_steps in_text (idle_nodes t)) w
walked_kept in_text t w = walked_idle in_text false (idle_nodes t) w (nodes_are_idle t)
