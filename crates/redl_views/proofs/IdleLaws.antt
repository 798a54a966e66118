-- What the walk shows of idle nodes is what they show by themselves.
use Rattle.std.proofs.Common.{◌≡◌, ◌∙◌, refl, sym, ap, ℕ, List, [], ◌∷◌, ◌++◌, append-nil, append_assoc, Bool, true, false, ◌&&◌, ◌||◌, not, Option, Some, None, option_map, codes, bytes_eq, if◌then◌else◌}
use Rattle.std.proofs.Math.Bool.{or-false, and-false}
use Rattle.redl_tree.specs.Model.Nodes.{Tag, Nodes, no_nodes, bytes, element, ◌⊕◌}
use Rattle.redl_tree.specs.Model.Kids.{has_element}
use Rattle.redl_tree.specs.Model.IdleTexts.{idle_nodes}
use Rattle.redl_tree.specs.Roles.Names.{is, of_w}
use Rattle.redl_tree.specs.Roles.Places.{is_quiet}
use Rattle.redl_tree.specs.Roles.Lists.{is_thick, is_block_list}
use Rattle.redl_tree.specs.Roles.Kinds.{is_content, is_free, is_leave}
use Rattle.redl_tree.specs.Roles.Idle.{is_idle_in}
use Rattle.redl_tree.specs.Decisions.Fates.{fate, say_of, fate_of}
use Rattle.redl_tree.specs.Decisions.Tables.{goes, para_is_cut}
use Rattle.redl_tree.specs.declared.kinds.Say.{Say}
use Rattle.redl_tree.specs.declared.lists.Place.{Place}
use Rattle.redl_tree.proofs.Model.Laws.{⊕-no_nodes}
use Rattle.redl_tree.proofs.Roles.Named.{by_name}
use Rattle.redl_tree.proofs.Idle.Tags.{Idle, idle_parts, has-not}
use Rattle.redl_tree.proofs.Idle.Lists.{thick_none}
use Rattle.redl_tree.proofs.Idle.Items.{nodes_are_idle, element_among}
use Rattle.redl_tables.specs.Places.{is_block_para, is_cell_list, may_go, goes_at}
use Rattle.redl_tables.specs.DecidedAncestors.{revives}
use Rattle.redl_shown.specs.Shown.{shown}
use Rattle.redl_idle.specs.Shows.{shows}
use Rattle.redl_idle.proofs.RoleLaws.{name_same, quiet_same}
use Rattle.redl_views.specs.declared.idle.Below.{Below}
use Rattle.redl_views.specs.declared.next.Next.TheVariants.{Nothing, Paragraph, Other}
use Rattle.redl_views.specs.declared.summary.ViewSummary.{ViewSummary}
use Rattle.redl_views.specs.Idle.{inside_idle, idle_rule, idle_shown}
use Rattle.redl_views.specs.PlainText.{start_shown}
use Rattle.redl_views.specs.Ends.{by_fate_of, has_taken}
use Rattle.redl_views.specs.Walks.{is_text, summary_inside, elem_next, is_paragraph, next_of, or_next, one_gives, gives, taken_after, loses_end, elem_view, view}

-- ---- one element

-- it shows at its start tag what any element with its local name shows
pub start_same : (in_run : Bool) (tag : Tag) → Idle in_run tag → start_shown tag ≡ start_shown (of_w tag.local)
start_same in_run tag i =
    ap (λ w. if (w && bytes_eq tag.local (codes "tab")) then 9 ∷ [] else if ((w && bytes_eq tag.local (codes "br")) || ((w && bytes_eq tag.local (codes "cr")) || false)) then 10 ∷ [] else []) i.space

stays : (says : List Say) (above : ViewSummary) (in_run : Bool) (tag : Tag) (kids : Nodes) → Idle in_run tag → goes_at says above.ancestors.site.place tag kids ≡ false
stays says above in_run tag kids i = ap (λ m. m && goes says (is_cell_list above.ancestors.site.place) tag kids) (none above.ancestors.site.place) where
  none : (here : Place) → may_go here tag ≡ false
  none here = rw (has-not "tc" in_run tag i refl, has-not "tr" in_run tag i refl, has-not "tbl" in_run tag i refl, has-not "sdt" in_run tag i refl, has-not "customXml" in_run tag i refl) refl

no_para : (says : List Say) (above : ViewSummary) (in_run : Bool) (tag : Tag) → Idle in_run tag → is_block_para says above.ancestors.site.place tag ≡ false
no_para says above in_run tag i = ap (λ p. p && is_block_list above.ancestors.site.place && is_leave (fate_of says tag)) (has-not "p" in_run tag i refl)

-- ---- what follows, what is given, and what is taken up

next_past : (says : List Say) (above : ViewSummary) (in_run : Bool) (x y : Nodes) → is_idle_in in_run x ≡ true → next_of says above (x ⊕ y) ≡ next_of says above y
next_past says above in_run no_nodes y h = refl
next_past says above in_run (bytes b rest) y h = next_past says above in_run rest y h
next_past says above in_run (element tag kids rest) y h =
    let p = idle_parts in_run tag kids rest h in
    let none : elem_next says above tag ≡ Nothing =
    ap (λ b. if b then Paragraph else if is_thick tag then Other else Nothing) (no_para says above in_run tag p.own)
    ∙ ap (λ b. if b then Other else Nothing) (thick_none in_run tag p.own) in
    ap (λ n. or_next n (next_of says above (rest ⊕ y))) none ∙ next_past says above in_run rest y p.later

gives_one : (says : List Say) (above : ViewSummary) (in_run : Bool) (tag : Tag) (kids : Nodes) (full : Bool) → Idle in_run tag → is "pPr" tag ≡ false → one_gives says above tag kids full ≡ true
gives_one says above in_run tag kids full i e =
    let own = not (is "pPr" tag) && not (goes_at says above.ancestors.site.place tag kids) in
    ap (λ k. by_fate_of (fate k (say_of says tag.rev)) (is_content k) full own false) i.kind
    ∙ ap (λ p. not p && not (goes_at says above.ancestors.site.place tag kids)) e ∙ ap not (stays says above in_run tag kids i)

gives_past : (says : List Say) (above : ViewSummary) (in_run : Bool) (x y : Nodes) → is_idle_in in_run x ≡ true → has_element x ≡ true → gives says above (x ⊕ y) ≡ true
gives_past says above in_run no_nodes y h some = absurd cc
gives_past says above in_run (bytes b rest) y h some = gives_past says above in_run rest y h some
gives_past says above in_run (element tag kids rest) y h some =
    let p = idle_parts in_run tag kids rest h in
    ap (λ b. b || gives says above (rest ⊕ y))
    (gives_one says above in_run tag kids (gives says (summary_inside says tag above) kids) p.own (has-not "pPr" in_run tag p.own refl))

-- what the next paragraph takes up after idle nodes
abbrev taken_past : Nodes → Option Bool → Option Bool
taken_past no_nodes taken = taken
taken_past (bytes b rest) taken = taken_past rest taken
taken_past (element tag kids rest) taken = taken_past rest (option_map (λ b. b || true) taken)

taken_one : (says : List Say) (above : ViewSummary) (taken : Option Bool) (in_run : Bool) (tag : Tag) (kids rest : Nodes) (full : Bool) → Idle in_run tag → is "pPr" tag ≡ false
    → taken_after says above taken tag kids rest full ≡ option_map (λ b. b || true) taken
taken_one says above taken in_run tag kids rest full i e =
    let later = if is_thick tag then None else option_map (λ b. b || one_gives says above tag kids full) taken in
    ap (λ p. if (p && para_is_cut says kids) && is_paragraph (next_of says above rest) then Some (has_taken taken || full) else later) (no_para says above in_run tag i)
    ∙ ap (λ h. if h then None else option_map (λ b. b || one_gives says above tag kids full) taken) (thick_none in_run tag i)
    ∙ ap (λ g. option_map (λ b. b || g) taken) (gives_one says above in_run tag kids full i e)

twice : (taken : Option Bool) → option_map (λ b. b || true) (option_map (λ b. b || true) taken) ≡ option_map (λ b. b || true) taken
twice None = refl
twice (Some true) = refl
twice (Some false) = refl

taken_up : (x : Nodes) (taken : Option Bool) → taken_past x (option_map (λ b. b || true) taken) ≡ option_map (λ b. b || true) taken
taken_up no_nodes taken = refl
taken_up (bytes b rest) taken = taken_up rest taken
taken_up (element tag kids rest) taken = ap (taken_past rest) (twice taken) ∙ taken_up rest taken

taken_some : (x : Nodes) (taken : Option Bool) → has_element x ≡ true → taken_past x taken ≡ option_map (λ b. b || true) taken
taken_some no_nodes taken h = absurd cc
taken_some (bytes b rest) taken h = taken_some rest taken h
taken_some (element tag kids rest) taken h = taken_up rest taken

-- ---- what is shown

-- nothing in the properties of a run
quiet_shows : (nodes : Nodes) (below : Below) → below.quiet ≡ true → below.shown ≡ false → shows idle_rule below nodes ≡ []
quiet_shows no_nodes below q s = refl
quiet_shows (bytes b rest) below q s = ap (λ x. (if x then shown b else []) ++ shows idle_rule below rest) s ∙ quiet_shows rest below q s
quiet_shows (element tag kids rest) below q s =
    let own = is "rPr" (of_w tag.local) in
    let inner : shows idle_rule (inside_idle below tag.local) kids ≡ [] =
    quiet_shows kids (inside_idle below tag.local) (ap (λ x. x || own) q) (ap (λ x. not (x || own) && is "t" (of_w tag.local)) q) in
    ap (λ x. ((if x then [] else start_shown (of_w tag.local)) ++ (shows idle_rule (inside_idle below tag.local) kids ++ [])) ++ shows idle_rule below rest) q
    ∙ ap (λ (i : List ℕ). (i ++ []) ++ shows idle_rule below rest) inner ∙ quiet_shows rest below q s

abbrev beside : Bool → Below
beside in_t = record { quiet = false; shown = in_t }

elem_one : (says : List Say) (above : ViewSummary) (in_run : Bool) (tag : Tag) (kids : Nodes) (inner : List ℕ) (loses : Bool) → Idle in_run tag
    → elem_view says above tag kids inner loses ≡ (if is_quiet tag then [] else start_shown tag ++ (inner ++ []))
elem_one says above in_run tag kids inner loses i =
    let open_text = λ (p : Bool). start_shown tag ++ (inner ++ (if loses then [] else if p then 10 ∷ [] else [])) in
    let own = if is_quiet tag || goes_at says above.ancestors.site.place tag kids then [] else open_text (is "p" tag) in
    ap (λ k. by_fate_of (fate k (say_of says tag.rev)) (is_content k) inner own []) i.kind
    ∙ ap (λ g. if is_quiet tag || g then [] else open_text (is "p" tag)) (stays says above in_run tag kids i)
    ∙ ap (λ p. if is_quiet tag || false then [] else open_text p) (has-not "p" in_run tag i refl)
    ∙ by_case (is_quiet tag) loses
  where
    by_case : (q l : Bool) → (if q || false then [] else start_shown tag ++ (inner ++ (if l then [] else []))) ≡ (if q then [] else start_shown tag ++ (inner ++ []))
    by_case true l = refl
    by_case false true = refl
    by_case false false = refl

text_one : (says : List Say) (above : ViewSummary) (in_run : Bool) (tag : Tag) → Idle in_run tag → (summary_inside says tag above).shown ≡ is "t" (of_w tag.local)
text_one says above in_run tag i =
    ap (λ k. if is_content k && is_free (fate k (say_of says tag.rev)) then above.shown else is_text above tag) i.kind
    ∙ ap (λ d. is "t" tag || (revives above.ancestors && d)) (has-not "delText" in_run tag i refl)
    ∙ ap (λ b. is "t" tag || b) (and-false (revives above.ancestors)) ∙ or-false (is "t" tag) ∙ name_same in_run tag i (codes "t")

module _ (says : List Say) (above : ViewSummary) (in_run : Bool) (tag : Tag) (kids : Nodes) (i : Idle in_run tag) where
  -- given what its kids show
  one_shows : view says (summary_inside says tag above) None kids ≡ shows idle_rule (beside (summary_inside says tag above).shown) kids
      → (if is_quiet tag then [] else start_shown tag ++ (view says (summary_inside says tag above) None kids ++ []))
      ≡ start_shown (of_w tag.local) ++ (shows idle_rule (inside_idle (beside above.shown) tag.local) kids ++ [])
  one_shows inner = by_case (is "rPr" (of_w tag.local)) refl
    where
      by_case : (q : Bool) → is "rPr" (of_w tag.local) ≡ q
          → (if is_quiet tag then [] else start_shown tag ++ (view says (summary_inside says tag above) None kids ++ []))
          ≡ start_shown (of_w tag.local) ++ (shows idle_rule (inside_idle (beside above.shown) tag.local) kids ++ [])
      by_case true e =
          let none : start_shown (of_w tag.local) ≡ [] = by_name (λ t. start_shown t ≡ []) "rPr" (of_w tag.local) e refl in
          let nothing : shows idle_rule (inside_idle (beside above.shown) tag.local) kids ≡ [] =
          quiet_shows kids (inside_idle (beside above.shown) tag.local) e (ap (λ q. not q && is "t" (of_w tag.local)) e) in
          ap (λ q. if q then [] else start_shown tag ++ (view says (summary_inside says tag above) None kids ++ [])) (quiet_same in_run tag i ∙ e)
          ∙ sym (ap (λ (s : List ℕ). s ++ (shows idle_rule (inside_idle (beside above.shown) tag.local) kids ++ [])) none ∙ ap (λ (s : List ℕ). s ++ []) nothing)
      by_case false e =
          ap (λ q. if q then [] else start_shown tag ++ (view says (summary_inside says tag above) None kids ++ [])) (quiet_same in_run tag i ∙ e)
          ∙ ap (λ (s : List ℕ). s ++ (view says (summary_inside says tag above) None kids ++ [])) (start_same in_run tag i)
          ∙ ap (λ (s : List ℕ). start_shown (of_w tag.local) ++ (s ++ [])) (inner ∙ ap (λ b. shows idle_rule (beside b) kids) (text_one says above in_run tag i))
          ∙ ap (λ q. start_shown (of_w tag.local) ++ (shows idle_rule (record { quiet = q; shown = not q && is "t" (of_w tag.local) }) kids ++ [])) (sym e)

view_past : (says : List Say) (above : ViewSummary) (taken : Option Bool) (in_run : Bool) (x y : Nodes) → is_idle_in in_run x ≡ true
    → view says above taken (x ⊕ y) ≡ shows idle_rule (beside above.shown) x ++ view says above (taken_past x taken) y
view_past says above taken in_run no_nodes y h = refl
view_past says above taken in_run (bytes b rest) y h =
    let own = if above.shown then shown b else [] in
    ap (λ (r : List ℕ). own ++ r) (view_past says above taken in_run rest y h)
    ∙ sym (append_assoc own (shows idle_rule (beside above.shown) rest) (view says above (taken_past rest taken) y))
view_past says above taken in_run (element tag kids rest) y h =
    let p = idle_parts in_run tag kids rest h in
    let inside = summary_inside says tag above in
    let full = gives says inside kids in
    let text = view says inside None kids in
    let inner : text ≡ shows idle_rule (beside inside.shown) kids =
    ap (view says inside None) (sym (⊕-no_nodes kids)) ∙ view_past says inside None (is "r" tag) kids no_nodes p.below ∙ append-nil (shows idle_rule (beside inside.shown) kids) in
    let own = start_shown (of_w tag.local) ++ (shows idle_rule (inside_idle (beside above.shown) tag.local) kids ++ []) in
    ap (λ (e : List ℕ). e ++ view says above (taken_after says above taken tag kids (rest ⊕ y) full) (rest ⊕ y))
    (elem_one says above in_run tag kids text (loses_end says above taken tag kids (rest ⊕ y) full) p.own ∙ one_shows says above in_run tag kids p.own inner)
    ∙ ap (λ t. own ++ view says above t (rest ⊕ y)) (taken_one says above taken in_run tag kids (rest ⊕ y) full p.own (has-not "pPr" in_run tag p.own refl))
    ∙ ap (λ (r : List ℕ). own ++ r) (view_past says above (option_map (λ b. b || true) taken) in_run rest y p.later)
    ∙ sym (append_assoc own (shows idle_rule (beside above.shown) rest) (view says above (taken_past rest (option_map (λ b. b || true) taken)) y))

-- ---- a text of idle elements

pub view_idle : (says : List Say) (above : ViewSummary) (taken : Option Bool) (t : List ℕ) (rest : Nodes)
    → view says above taken (idle_nodes t ⊕ rest) ≡ idle_shown above.shown (idle_nodes t) ++ view says above (option_map (λ b. b || true) taken) rest
view_idle says above taken t rest =
    view_past says above taken false (idle_nodes t) rest (nodes_are_idle t)
    ∙ ap (λ after. idle_shown above.shown (idle_nodes t) ++ view says above after rest) (taken_some (idle_nodes t) taken (element_among t))

pub gives_idle : (says : List Say) (above : ViewSummary) (t : List ℕ) (rest : Nodes) → gives says above (idle_nodes t ⊕ rest) ≡ true
gives_idle says above t rest = gives_past says above false (idle_nodes t) rest (nodes_are_idle t) (element_among t)

pub next_idle : (says : List Say) (above : ViewSummary) (t : List ℕ) (rest : Nodes) → next_of says above (idle_nodes t ⊕ rest) ≡ next_of says above rest
next_idle says above t rest = next_past says above false (idle_nodes t) rest (nodes_are_idle t)
