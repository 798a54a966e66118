-- Idle elements show what they show by themselves, and have no sign of a mark.
use Rattle.std.proofs.Common.{◌≡◌, ◌∙◌, refl, ap, ℕ, List, [], ◌∷◌, ◌++◌, Bool, true, false, ◌&&◌, ◌||◌, not, codes, bytes_eq, if◌then◌else◌}
use Rattle.std.proofs.Math.Bool.{or-false}
use Rattle.redl_tree.specs.Model.Nodes.{Tag, Nodes, no_nodes, bytes, element, ◌⊕◌}
use Rattle.redl_tree.specs.Model.IdleTexts.{idle_nodes}
use Rattle.redl_tree.specs.Roles.Names.{is, is_any, of_w}
use Rattle.redl_tree.specs.Roles.Idle.{is_idle_in}
use Rattle.redl_tree.proofs.Idle.Tags.{Idle, idle_parts, has-not}
use Rattle.redl_tree.proofs.Idle.Items.{nodes_are_idle}
use Rattle.redl_shown.specs.Shown.{shown}
use Rattle.redl_idle.specs.Shows.{shows}
use Rattle.redl_idle.proofs.RoleLaws.{by_local, name_same, quiet_same}
use Rattle.redl_marked.specs.declared.summary.MarkedSummary.{MarkedSummary}
use Rattle.redl_marked.specs.Signs.{start_sign, end_sign, mark_sign, mark_signs, run_signs, para_signs}
use Rattle.redl_marked.specs.MarkedText.{open_start, open_end}
use Rattle.redl_marked.specs.Inside.Idle.{inside_idle, idle_rule}
use Rattle.redl_marked.specs.Inside.Walks.{inside, start_of, end_of, marked}

-- ---- one element

start_same : (in_run : Bool) (tag : Tag) → Idle in_run tag → open_start tag ≡ open_start (of_w tag.local)
start_same in_run tag i =
    by_local (λ w local. if w && bytes_eq local (codes "noBreakHyphen") then 226 ∷ 128 ∷ 145 ∷ [] else
    if w && bytes_eq local (codes "tab") then 9 ∷ [] else if (w && bytes_eq local (codes "br")) || ((w && bytes_eq local (codes "cr")) || false) then 10 ∷ [] else []) in_run tag i

-- it has no sign, and shows what its name says
start_idle : (above : MarkedSummary) (in_run : Bool) (tag : Tag) → Idle in_run tag → start_of above tag ≡ (if not above.quiet then open_start (of_w tag.local) else [])
start_idle above in_run tag i =
    ap (λ kind. start_sign kind tag.rev ++ (if not above.quiet then open_start tag else [])) i.kind
    ∙ ap (λ (own : List ℕ). if not above.quiet then own else []) (start_same in_run tag i)

same_both : {X : Type 0} (b : Bool) (x : X) → (if b then x else x) ≡ x
same_both true x = refl
same_both false x = refl

end_idle : (above : MarkedSummary) (in_run : Bool) (tag : Tag) (kids : Nodes) → Idle in_run tag → end_of above tag kids ≡ []
end_idle above in_run tag kids i =
    ap (λ kind. (if not above.quiet then open_end tag kids else []) ++ end_sign kind) i.kind
    ∙ ap (λ p. (if not above.quiet then (if p then para_signs kids ++ (10 ∷ []) else []) else []) ++ []) (has-not "p" in_run tag i refl)
    ∙ ap (λ (t : List ℕ). t ++ []) (same_both (not above.quiet) [])

inside_same : (above : MarkedSummary) (in_run : Bool) (tag : Tag) → Idle in_run tag → inside tag above ≡ inside_idle above tag.local
inside_same above in_run tag i =
    ap (λ q. record { quiet = q || above.quiet; text = is_any ("t" ∷ "delText" ∷ []) tag && not above.quiet }) (quiet_same in_run tag i)
    ∙ ap (λ d. record { quiet = is "rPr" (of_w tag.local) || above.quiet; text = (is "t" tag || (d || false)) && not above.quiet }) (has-not "delText" in_run tag i refl)
    ∙ ap (λ t. record { quiet = is "rPr" (of_w tag.local) || above.quiet; text = t && not above.quiet }) (or-false (is "t" tag) ∙ name_same in_run tag i (codes "t"))

-- ---- nodes

shown_by : (above : MarkedSummary) (in_run : Bool) (x : Nodes) → is_idle_in in_run x ≡ true → marked above x ≡ shows idle_rule above x
shown_by above in_run no_nodes h = refl
shown_by above in_run (bytes b rest) h = ap (λ (t : List ℕ). (if above.text then shown b else []) ++ t) (shown_by above in_run rest h)
shown_by above in_run (element tag kids rest) h =
    let p = idle_parts in_run tag kids rest h in
    let inner = inside_idle above tag.local in
    ap (λ (s : List ℕ). (s ++ (marked (inside tag above) kids ++ end_of above tag kids)) ++ marked above rest) (start_idle above in_run tag p.own)
    ∙ ap (λ (e : List ℕ). (own tag ++ (marked (inside tag above) kids ++ e)) ++ marked above rest) (end_idle above in_run tag kids p.own)
    ∙ ap (λ (t : List ℕ). (own tag ++ (t ++ [])) ++ marked above rest)
    (ap (λ i. marked i kids) (inside_same above in_run tag p.own) ∙ shown_by inner (is "r" tag) kids p.below)
    ∙ ap (λ (t : List ℕ). (own tag ++ (shows idle_rule inner kids ++ [])) ++ t) (shown_by above in_run rest p.later)
  where
    own : Tag → List ℕ
    own tag = if not above.quiet then open_start (of_w tag.local) else []

pub marked-idle : (above : MarkedSummary) (t : List ℕ) → marked above (idle_nodes t) ≡ shows idle_rule above (idle_nodes t)
marked-idle above t = shown_by above false (idle_nodes t) (nodes_are_idle t)

-- ---- signs of a mark

mark_past : (in_run : Bool) (x y : Nodes) → is_idle_in in_run x ≡ true → mark_signs (x ⊕ y) ≡ mark_signs y
mark_past in_run no_nodes y h = refl
mark_past in_run (bytes b rest) y h = mark_past in_run rest y h
mark_past in_run (element tag kids rest) y h =
    let p = idle_parts in_run tag kids rest h in
    ap (λ kind. mark_sign kind tag.rev ++ mark_signs (rest ⊕ y)) p.own.kind ∙ mark_past in_run rest y p.later

-- outside a run, where no idle element is an `rPr`
run_past : (x y : Nodes) → is_idle_in false x ≡ true → run_signs (x ⊕ y) ≡ run_signs y
run_past no_nodes y h = refl
run_past (bytes b rest) y h = run_past rest y h
run_past (element tag kids rest) y h =
    let p = idle_parts false tag kids rest h in
    ap (λ b. (if b then mark_signs kids else []) ++ run_signs (rest ⊕ y)) (has-not "rPr" false tag p.own refl) ∙ run_past rest y p.later

para_past : (in_run : Bool) (x y : Nodes) → is_idle_in in_run x ≡ true → para_signs (x ⊕ y) ≡ para_signs y
para_past in_run no_nodes y h = refl
para_past in_run (bytes b rest) y h = para_past in_run rest y h
para_past in_run (element tag kids rest) y h =
    let p = idle_parts in_run tag kids rest h in
    ap (λ b. (if b then run_signs kids else []) ++ para_signs (rest ⊕ y)) (has-not "pPr" in_run tag p.own refl) ∙ para_past in_run rest y p.later

pub mark_idle : (t : List ℕ) (rest : Nodes) → mark_signs (idle_nodes t ⊕ rest) ≡ mark_signs rest
mark_idle t rest = mark_past false (idle_nodes t) rest (nodes_are_idle t)

pub run_idle : (t : List ℕ) (rest : Nodes) → run_signs (idle_nodes t ⊕ rest) ≡ run_signs rest
run_idle t rest = run_past (idle_nodes t) rest (nodes_are_idle t)

pub para_idle : (t : List ℕ) (rest : Nodes) → para_signs (idle_nodes t ⊕ rest) ≡ para_signs rest
para_idle t rest = para_past false (idle_nodes t) rest (nodes_are_idle t)
