-- Idle elements that a list keeps as text: what they say is what the walk over their text says.
use Rattle.std.proofs.Common.{◌≡◌, ◌∙◌, refl, sym, ap, ℕ, List, [], ◌∷◌, ◌++◌, append-nil, Bool, true, false, ◌&&◌, ◌||◌, not, codes, bytes_eq, if◌then◌else◌}
use Rattle.std.proofs.Math.Bool.{or-false, and-false}
use Rattle.redl_tree.specs.Model.Nodes.{Tag, Nodes, no_nodes, bytes, element}
use Rattle.redl_tree.specs.Model.IdleTexts.{idle_nodes}
use Rattle.redl_tree.specs.Roles.Names.{is, of_w}
use Rattle.redl_tree.specs.Roles.Places.{is_quiet}
use Rattle.redl_tree.specs.Roles.Idle.{is_idle_in}
use Rattle.redl_tree.proofs.Roles.Named.{by_name}
use Rattle.redl_tree.proofs.Idle.Tags.{Idle, idle_parts, has-not}
use Rattle.redl_tree.proofs.Idle.Items.{nodes_are_idle}
use Rattle.redl_shown.specs.Shown.{shown}
use Rattle.redl_idle.specs.Shows.{shows}
use Rattle.redl_idle.proofs.RoleLaws.{by_local, name_same, quiet_same}
use Rattle.redl_said.specs.declared.idle.Below.{Below}
use Rattle.redl_said.specs.Inside.Idle.{beside, idle_rule, inside_idle}
use Rattle.redl_said.specs.Said.{holds_text, is_silent, said, start_said}

-- ---- one element

-- it says at its start tag what any element with its local name says
start_same : (in_run : Bool) (tag : Tag) → Idle in_run tag → start_said tag ≡ start_said (of_w tag.local)
start_same in_run tag i =
    by_local (λ w local. if (w && bytes_eq local (codes "tab")) || ((w && bytes_eq local (codes "br")) || ((w && bytes_eq local (codes "cr")) || ((w && bytes_eq local (codes "p")) || false))) then 32 ∷ []
    else if w && bytes_eq local (codes "noBreakHyphen") then 226 ∷ 128 ∷ 145 ∷ [] else []) in_run tag i

-- it is silent in a line as elsewhere
silent_same : (in_line in_run : Bool) (tag : Tag) → Idle in_run tag → is_silent in_line tag ≡ is "rPr" (of_w tag.local)
silent_same in_line in_run tag i =
    ap (λ p. is_quiet tag || (in_line && p)) (has-not "p" in_run tag i refl)
    ∙ ap (λ n. is_quiet tag || n) (and-false in_line) ∙ or-false (is_quiet tag) ∙ quiet_same in_run tag i

-- it holds text only as a `t`
text_same : (in_run : Bool) (tag : Tag) → Idle in_run tag → holds_text tag ≡ is "t" (of_w tag.local)
text_same in_run tag i =
    ap (λ d. is "t" tag || (d || false)) (has-not "delText" in_run tag i refl)
    ∙ or-false (is "t" tag) ∙ name_same in_run tag i (codes "t")

-- ---- what is said

-- nothing in the properties of a run
quiet_says : (nodes : Nodes) (below : Below) → below.quiet ≡ true → below.in_text ≡ false → shows idle_rule below nodes ≡ []
quiet_says no_nodes below q s = refl
quiet_says (bytes b rest) below q s = ap (λ x. (if x then shown b else []) ++ shows idle_rule below rest) s ∙ quiet_says rest below q s
quiet_says (element tag kids rest) below q s =
    let own = is "rPr" (of_w tag.local) in
    let inner : shows idle_rule (inside_idle below tag.local) kids ≡ [] =
    quiet_says kids (inside_idle below tag.local) (ap (λ x. x || own) q) (ap (λ x. not (x || own) && is "t" (of_w tag.local)) q) in
    ap (λ x. ((if x then [] else start_said (of_w tag.local)) ++ (shows idle_rule (inside_idle below tag.local) kids ++ [])) ++ shows idle_rule below rest) q
    ∙ ap (λ (i : List ℕ). (i ++ []) ++ shows idle_rule below rest) inner ∙ quiet_says rest below q s

module _ (in_line in_text in_run : Bool) (tag : Tag) (kids : Nodes) (i : Idle in_run tag) where
  -- given what its kids say
  one_says : said in_line (holds_text tag) kids ≡ shows idle_rule (beside (holds_text tag)) kids
      → (if is_silent in_line tag then [] else start_said tag ++ said in_line (holds_text tag) kids)
      ≡ (if (beside in_text).quiet then [] else start_said (of_w tag.local)) ++ (shows idle_rule (inside_idle (beside in_text) tag.local) kids ++ [])
  one_says inner = by_case (is "rPr" (of_w tag.local)) refl
    where
      by_case : (q : Bool) → is "rPr" (of_w tag.local) ≡ q
          → (if is_silent in_line tag then [] else start_said tag ++ said in_line (holds_text tag) kids)
          ≡ start_said (of_w tag.local) ++ (shows idle_rule (inside_idle (beside in_text) tag.local) kids ++ [])
      by_case true e =
          let none : start_said (of_w tag.local) ≡ [] = by_name (λ t. start_said t ≡ []) "rPr" (of_w tag.local) e refl in
          let nothing : shows idle_rule (inside_idle (beside in_text) tag.local) kids ≡ [] =
          quiet_says kids (inside_idle (beside in_text) tag.local) e (ap (λ q. not q && is "t" (of_w tag.local)) e) in
          ap (λ q. if q then [] else start_said tag ++ said in_line (holds_text tag) kids) (silent_same in_line in_run tag i ∙ e)
          ∙ sym (ap (λ (s : List ℕ). s ++ (shows idle_rule (inside_idle (beside in_text) tag.local) kids ++ [])) none ∙ ap (λ (s : List ℕ). s ++ []) nothing)
      by_case false e =
          ap (λ q. if q then [] else start_said tag ++ said in_line (holds_text tag) kids) (silent_same in_line in_run tag i ∙ e)
          ∙ ap (λ (s : List ℕ). s ++ said in_line (holds_text tag) kids) (start_same in_run tag i)
          ∙ ap (λ (s : List ℕ). start_said (of_w tag.local) ++ s) (inner ∙ ap (λ b. shows idle_rule (beside b) kids) (text_same in_run tag i))
          ∙ ap (λ q. start_said (of_w tag.local) ++ shows idle_rule (record { quiet = q; in_text = not q && is "t" (of_w tag.local) }) kids) (sym e)
          ∙ ap (λ (s : List ℕ). start_said (of_w tag.local) ++ s) (sym (append-nil (shows idle_rule (inside_idle (beside in_text) tag.local) kids)))

says_idle : (in_line in_text in_run : Bool) (x : Nodes) → is_idle_in in_run x ≡ true → said in_line in_text x ≡ shows idle_rule (beside in_text) x
says_idle in_line in_text in_run no_nodes h = refl
says_idle in_line in_text in_run (bytes b rest) h =
    ap (λ (s : List ℕ). (if in_text then shown b else []) ++ s) (says_idle in_line in_text in_run rest h)
says_idle in_line in_text in_run (element tag kids rest) h =
    let p = idle_parts in_run tag kids rest h in
    let inner = says_idle in_line (holds_text tag) (is "r" tag) kids p.below in
    ap (λ (s : List ℕ). s ++ said in_line in_text rest) (one_says in_line in_text in_run tag kids p.own inner)
    ∙ ap (λ (s : List ℕ). (start_said (of_w tag.local) ++ (shows idle_rule (inside_idle (beside in_text) tag.local) kids ++ [])) ++ s) (says_idle in_line in_text in_run rest p.later)

-- the walk over a text says what its nodes say
pub said_idle : (in_line in_text : Bool) (t : List ℕ) → said in_line in_text (idle_nodes t) ≡ shows idle_rule (beside in_text) (idle_nodes t)
said_idle in_line in_text t = says_idle in_line in_text false (idle_nodes t) (nodes_are_idle t)
