-- The walk over nodes one after the other, and over idle elements.
use Rattle.std.proofs.Common.{◌≡◌, ◌∙◌, refl, sym, ap, ℕ, List, [], ◌∷◌, ◌++◌, Bool, true, false, ◌&&◌, ◌||◌, not, codes, if◌then◌else◌}
use Rattle.redl_tree.specs.Model.Nodes.{Tag, Nodes, no_nodes, bytes, element, Item, bytes_item, element_item, idle_item, in_front, ◌⊕◌}
use Rattle.redl_tree.specs.Model.IdleTexts.{idle_nodes}
use Rattle.redl_tree.specs.Model.View.{Element}
use Rattle.redl_tree.specs.Roles.Idle.{is_idle_in}
use Rattle.redl_tree.specs.Roles.Names.{is, of_w}
use Rattle.redl_tree.specs.Roles.Places.{is_quiet}
use Rattle.redl_tree.specs.declared.kinds.Kind.{Kind}
use Rattle.redl_tree.proofs.Idle.Items.{nodes_are_idle}
use Rattle.redl_tree.proofs.Idle.Lists.{names_none}
use Rattle.redl_tree.proofs.Idle.Tags.{Idle, idle_parts, has-not}
use Rattle.redl_idle.specs.Shows.{shows}
use Rattle.redl_idle.proofs.RoleLaws.{name_same, quiet_same}
use Rattle.redl_shown.specs.Shown.{shown}
use Rattle.redl_said.specs.Said.{holds_text}
use Rattle.redl_hidden.specs.Runs.{run_hides}
use Rattle.redl_hidden.specs.Styles.{HiddenStyles}
use Rattle.redl_hidden_members.specs.Around.{in_other, in_paragraph, in_run as in_run_of, inside}
use Rattle.redl_hidden_members.specs.Units.{is_unit_name}
use Rattle.redl_hidden_members.specs.Members.{stories_members, story_members}
use Rattle.redl_hidden_members.specs.Walks.{Walk, begun, bytes_walked, element_walked, end_is_hidden, ended, is_content, is_filled, is_found, is_hidden_text, is_owner, noted, other_ended, owner_ended, tell, unit_is_hidden, waits, walked}
use Rattle.redl_hidden_members.specs.Inside.Idle.{in_idle, inside_idle, sign_if, unit_rule}
use Rattle.redl_hidden_members.specs.Inside.Items.{item_walked}
use Rattle.redl_hidden_members.specs.declared.around.Around.{Around}
use Rattle.redl_hidden_members.specs.declared.idle.Within.{Within}

-- ---- stories

pub stories_members-append : (styles : HiddenStyles) (xs ys : List Element) (hidden : List Bool)
    → stories_members styles (xs ++ ys) hidden ≡ stories_members styles ys (stories_members styles xs hidden)
stories_members-append styles [] ys hidden = refl
stories_members-append styles (x ∷ xs) ys hidden = stories_members-append styles xs ys (story_members styles x hidden)

-- ---- nodes

module _ (styles : HiddenStyles) where
  pub walked-⊕ : (at : Around) (properties x y : Nodes) (w : Walk) → walked styles at properties (x ⊕ y) w ≡ walked styles at properties y (walked styles at properties x w)
  walked-⊕ at properties no_nodes y w = refl
  walked-⊕ at properties (bytes b rest) y w = walked-⊕ at properties rest y (bytes_walked at b w)
  walked-⊕ at properties (element tag kids rest) y w = walked-⊕ at properties rest y (element_walked styles at properties tag kids w)

  -- the nodes behind one node
  pub walked-in_front : (at : Around) (properties : Nodes) (x : Item) (rest : Nodes) (w : Walk)
      → walked styles at properties (in_front x rest) w ≡ walked styles at properties rest (item_walked styles at properties x w)
  walked-in_front at properties (bytes_item b) rest w = refl
  walked-in_front at properties (element_item tag kids) rest w = refl
  walked-in_front at properties (idle_item t) rest w = walked-⊕ at properties (idle_nodes t) rest w

-- ---- an idle element

or-false : (b : Bool) → b || false ≡ b
or-false true = refl
or-false false = refl

or-assoc : (a b c : Bool) → (a || b) || c ≡ a || (b || c)
or-assoc true b c = refl
or-assoc false b c = refl

-- whether a hidden unit was met, by itself
abbrev with_any : Walk → Bool → Walk
with_any w any = record { hidden = w.hidden; waiting = w.waiting; any = any }

-- where nothing waits, if the element is a run
abbrev emptied : Bool → Walk → Walk
emptied run w = record { hidden = w.hidden; waiting = if run then [] else w.waiting; any = w.any }

either : (run : Bool) (w : Walk) (any : Bool) → (if run then record { hidden = w.hidden; waiting = []; any = any } else with_any w any) ≡ with_any (emptied run w) any
either true w any = refl
either false w any = refl

-- nothing that waits is found by idle elements
closed : (run : Bool) (w : Walk) (any : Bool)
    → (if run then owner_ended false w (with_any (emptied run w) any) else with_any (emptied run w) (w.any || any)) ≡ with_any w (w.any || any)
closed true w true = refl
closed true w false = refl
closed false w any = refl

abbrev stands : Around → Bool → Bool → Bool → Bool → Around
stands at in_mark of_run loud text = record { paragraph = at.paragraph; mark = at.mark; in_mark = in_mark; of_run = of_run; run = at.run; loud = loud; text = text }

module _ (in_run : Bool) (tag : Tag) (i : Idle in_run tag) where
  -- a run alone
  owner_is : is_owner tag ≡ is "r" tag
  owner_is = ap (λ n. is "r" tag || n) (names_none ("p" ∷ "tr" ∷ "tc" ∷ "tbl" ∷ []) in_run refl tag i) ∙ or-false (is "r" tag)

  unit_same : (at : Around) → unit_is_hidden at tag ≡ unit_is_hidden at (of_w tag.local)
  unit_same at = ap (λ s. at.run && (at.loud && (s && is_unit_name tag.local))) i.space

  text_same : holds_text tag ≡ is "t" (of_w tag.local)
  text_same =
      ap (λ d. is "t" tag || (d || false)) (has-not "delText" in_run tag i refl) ∙ or-false (is "t" tag) ∙ name_same in_run tag i (codes "t")

  other_same : (at : Around) → in_other at tag ≡ in_idle at tag.local
  other_same at =
      let loud = at.loud && not (is_quiet tag) in
      let text = holds_text tag in
      let own = is "rPr" (of_w tag.local) in
      ap (λ (b : Bool). stands at (if b then at.mark else (is "rPr" tag && at.in_mark)) (is "rPr" tag && at.of_run) loud text) (has-not "pPr" in_run tag i refl)
      ∙ ap (λ (b : Bool). stands at (b && at.in_mark) (b && at.of_run) loud text) (name_same in_run tag i (codes "rPr"))
      ∙ ap (λ (q : Bool). stands at (own && at.in_mark) (own && at.of_run) (at.loud && not q) text) (quiet_same in_run tag i)
      ∙ ap (stands at (own && at.in_mark) (own && at.of_run) (at.loud && not own)) text_same

  inside_same : (styles : HiddenStyles) (at : Around) (kids : Nodes) → inside styles at tag kids ≡ inside_idle styles at tag.local kids
  inside_same styles at kids =
      let hidden = in_run_of at (run_hides styles at.paragraph kids) in
      ap (λ (b : Bool). if b then in_paragraph styles at kids else if is "r" tag then hidden else in_other at tag) (has-not "p" in_run tag i refl)
      ∙ ap (λ (b : Bool). if b then hidden else in_other at tag) (name_same in_run tag i (codes "r"))
      ∙ ap (λ (o : Around). if is "r" (of_w tag.local) then hidden else o) (other_same at)

  begun_same : (at : Around) (properties kids : Nodes) (w : Walk) → begun at properties tag kids w ≡ with_any (emptied (is "r" tag) w) (unit_is_hidden at (of_w tag.local))
  begun_same at properties kids w =
      let unit = unit_is_hidden at tag in
      ap (λ (b : Bool). if b then record { hidden = w.hidden; waiting = []; any = unit } else with_any (noted at properties tag kids w) unit) owner_is
      ∙ ap (λ (k : Kind). if is "r" tag then record { hidden = w.hidden; waiting = []; any = unit }
      else with_any (if is_found at properties kids k then record w { hidden = tell tag.rev w.hidden } else if waits at k then record w { waiting = w.waiting ++ tag.rev ∷ [] } else w) unit) i.kind
      ∙ either (is "r" tag) w unit
      ∙ ap (with_any (emptied (is "r" tag) w)) (unit_same at)

  ended_same : (at : Around) (w : Walk) (any : Bool) → ended (end_is_hidden tag at) tag w (with_any (emptied (is "r" tag) w) any) ≡ with_any w (w.any || any)
  ended_same at w any =
      let below = with_any (emptied (is "r" tag) w) any in
      ap (λ (p : Bool). ended (p && (at.loud && at.mark)) tag w below) (has-not "p" in_run tag i refl)
      ∙ ap (λ (b : Bool). if b then owner_ended false w below else other_ended tag w below) owner_is
      ∙ ap (λ (k : Kind). if is "r" tag then owner_ended false w below else record { hidden = if is_content k && below.any then tell tag.rev below.hidden else below.hidden; waiting = below.waiting; any = w.any || below.any }) i.kind
      ∙ closed (is "r" tag) w any

-- ---- idle nodes

filled-append : (x y : List ℕ) → is_filled (x ++ y) ≡ is_filled x || is_filled y
filled-append [] y = refl
filled-append (b ∷ bs) y = refl

sign-filled : (hidden : Bool) → is_filled (sign_if hidden) ≡ hidden
sign-filled true = refl
sign-filled false = refl

filled-parts : (hidden : Bool) (inner rest : List ℕ) → is_filled ((sign_if hidden ++ (inner ++ [])) ++ rest) ≡ (hidden || is_filled inner) || is_filled rest
filled-parts hidden inner rest =
    filled-append (sign_if hidden ++ (inner ++ [])) rest
    ∙ ap (λ f. f || is_filled rest) (filled-append (sign_if hidden) (inner ++ []) ∙ ap (λ f. f || is_filled (inner ++ [])) (sign-filled hidden))
    ∙ ap (λ f. (hidden || f) || is_filled rest) (filled-append inner [] ∙ or-false (is_filled inner))

-- the walk over them does no more than to tell whether there is a hidden unit among them
idle_walked : (in_run : Bool) (within : Within) (x properties : Nodes) (w : Walk) → is_idle_in in_run x ≡ true
    → walked within.styles.now within.at properties x w ≡ with_any w (w.any || is_filled (shows unit_rule within x))
idle_walked in_run within no_nodes properties w h = ap (with_any w) (sym (or-false w.any))
idle_walked in_run within (bytes b rest) properties w h =
    let text = if is_hidden_text within.at then shown b else [] in
    idle_walked in_run within rest properties (bytes_walked within.at b w) h
    ∙ ap (with_any w) (or-assoc w.any (is_filled text) (is_filled (shows unit_rule within rest)))
    ∙ ap (λ a. with_any w (w.any || a)) (sym (filled-append text (shows unit_rule within rest)))
idle_walked in_run within (element tag kids rest) properties w h =
    let p = idle_parts in_run tag kids rest h in
    let styles = within.styles.now in
    let at = within.at in
    let inner : Within = record { styles = within.styles; at = inside_idle styles at tag.local kids } in
    let unit = unit_is_hidden at (of_w tag.local) in
    let held = is_filled (shows unit_rule inner kids) in
    let later = is_filled (shows unit_rule within rest) in
    let met = with_any (emptied (is "r" tag) w) unit in
    let end = end_is_hidden tag (inside styles at tag kids) in
    ap (λ (v : Walk). walked styles at properties rest (ended end tag w (walked styles (inside styles at tag kids) kids kids v))) (begun_same in_run tag p.own at properties kids w)
    ∙ ap (λ (a : Around). walked styles at properties rest (ended end tag w (walked styles a kids kids met))) (inside_same in_run tag p.own styles at kids)
    ∙ ap (λ (v : Walk). walked styles at properties rest (ended end tag w v)) (idle_walked (is "r" tag) inner kids kids met p.below)
    ∙ ap (walked styles at properties rest) (ended_same in_run tag p.own (inside styles at tag kids) w (unit || held))
    ∙ idle_walked in_run within rest properties (with_any w (w.any || (unit || held))) p.later
    ∙ ap (with_any w) (or-assoc w.any (unit || held) later)
    ∙ ap (λ a. with_any w (w.any || a)) (sym (filled-parts unit (shows unit_rule inner kids) (shows unit_rule within rest)))

pub kept_walked : (within : Within) (t : List ℕ) (properties : Nodes) (w : Walk)
    → walked within.styles.now within.at properties (idle_nodes t) w ≡ with_any w (w.any || is_filled (shows unit_rule within (idle_nodes t)))
kept_walked within t properties w = idle_walked false within (idle_nodes t) properties w (nodes_are_idle t)
