-- The walk with a summary of the ancestors is the walk with their list.
use Rattle.std.proofs.Common.{◌≡◌, ℕ, ◌-◌, arith, length, take, drop, List, [], ◌∷◌, ◌++◌, Bool, true, false, ◌&&◌, ◌||◌, not, Option, Some, None, option_map, refl, sym, ap, ◌∙◌, true≢false, codes, if◌then◌else◌}
use Rattle.std.proofs.lemmas.Bool.{and_parts}
use Rattle.std.proofs.lemmas.List.{take_all, length-drop}
use Rattle.std.proofs.Math.Bool.{or-false, or-true, or_assoc}
use Rattle.redl_tree.specs.Model.Nodes.{Tag, Nodes, no_nodes, bytes, element, Item, bytes_item, element_item, idle_item, in_front}
use Rattle.redl_tree.specs.Model.Kids.{some_element}
use Rattle.redl_tree.specs.Roles.Names.{is}
use Rattle.redl_tree.specs.Roles.Places.{is_quiet, is_open}
use Rattle.redl_tree.specs.Roles.Kinds.{is_content, is_free, is_leave}
use Rattle.redl_tree.specs.Roles.Lists.{inside, is_block_list, is_thick}
use Rattle.redl_tree.specs.Decisions.Fates.{fate_of, live_name, is_revived}
use Rattle.redl_tree.specs.Decisions.Tables.{goes_at, para_is_cut}
use Rattle.redl_tree.specs.Decisions.Pass.{is_block_para as block_para}
use Rattle.redl_tree.specs.declared.kinds.Say.{Say}
use Rattle.redl_tree.specs.declared.kinds.Fate.{Fate}
use Rattle.redl_tree.specs.declared.kinds.Fate.TheVariants.{Leave, Free, Cut, Clear, Restore, Drop}
use Rattle.redl_tree.proofs.Roles.Named.{by_name}
use Rattle.redl_tree.proofs.Roles.Fits.{AllFit, open_fits, open_∷}
use Rattle.redl_tree.proofs.Decisions.PassLaws.{block_p}
use Rattle.redl_tables.specs.DecidedAncestors.{ancestors_of}
use Rattle.redl_tables.specs.Places as by_place
use Rattle.redl_views.specs.declared.summary.ViewSummary.{ViewSummary}
use Rattle.redl_views.specs.declared.next.Next.{Next}
use Rattle.redl_views.specs.declared.next.Next.TheVariants.{Nothing, Paragraph, Other}
use Rattle.redl_views.specs.PlainText.{start_shown, end_shown}
use Rattle.redl_shown.specs.Shown.{shown}
use Rattle.redl_views.specs.Ends.{by_fate_of, gives_one, gives_element, paragraph_follows, has_taken}
use Rattle.redl_views.specs.Ends as ends
use Rattle.redl_views.specs.Views.{is_freed, in_shown, element_view, view_in}
use Rattle.redl_views.specs.Walks.{summary_of, summary_inside, is_cut_para, or_next, next_of, is_paragraph, is_lost, one_gives, gives, taken_after, loses_end, is_walked, elem_view, view, item_next, item_view, item_gives, item_taken}
use Rattle.redl_views.proofs.IdleLaws.{view_idle, gives_idle, next_idle}
use Rattle.redl_views.proofs.ViewLaws.{alike, freed_content, content_loud, p_thick}

-- a `t` after the pass
text-renamed : (tag : Tag) (b : Bool) → is "t" (if b then live_name tag else tag) ≡ (is "t" tag || (b && is "delText" tag))
text-renamed tag false = sym (or-false (is "t" tag))
text-renamed tag true = at_text (is "delText" tag) refl
  where
    at_instr : (c : Bool) → is "delInstrText" tag ≡ c → is "t" (if c then record tag { local = codes "instrText" } else tag) ≡ (is "t" tag || false)
    at_instr true e = by_name (λ t. is "t" (record t { local = codes "instrText" }) ≡ (is "t" t || false)) "delInstrText" tag e refl
    at_instr false e = sym (or-false (is "t" tag))

    at_text : (c : Bool) → is "delText" tag ≡ c →
        is "t" (if c then record tag { local = codes "t" } else if is "delInstrText" tag then record tag { local = codes "instrText" } else tag) ≡ (is "t" tag || c)
    at_text true e = by_name (λ t. is "t" (record t { local = codes "t" }) ≡ true) "delText" tag e refl ∙ sym (or-true (is "t" tag))
    at_text false e = at_instr (is "delInstrText" tag) refl

pub inside-summary : (says : List Say) (ancestors : List Tag) (tag : Tag) → summary_inside says tag (summary_of says ancestors) ≡ summary_of says (tag ∷ ancestors)
inside-summary says ancestors tag =
    let text = sym (text-renamed tag (is_revived says ancestors)) in
    ap (λ b. record { ancestors = ancestors_of says (tag ∷ ancestors); shown = if is_freed says tag then in_shown says ancestors else b }) text

-- ---- what follows

lost-if : (p heavy : Bool) (n : Next) (follows thicks full : Bool) → (p ≡ true → heavy ≡ true) → is_lost n full ≡ (follows || (thicks && not full)) →
    is_lost (or_next (if p then Paragraph else if heavy then Other else Nothing) n) full
    ≡ ((if p then true else if heavy then false else follows) || ((heavy || thicks) && not full))
lost-if true heavy n follows thicks full h e = refl
lost-if false true n follows thicks full h e = refl
lost-if false false n follows thicks full h e = e

lost-next : (says : List Say) (ancestors : List Tag) (nodes : Nodes) (full : Bool) →
    is_lost (next_of says (summary_of says ancestors) nodes) full ≡ (paragraph_follows says ancestors nodes || (some_element is_thick nodes && not full))
lost-next says ancestors no_nodes full = refl
lost-next says ancestors (bytes b rest) full = lost-next says ancestors rest full
lost-next says ancestors (element tag kids rest) full =
    lost-if (block_para says ancestors tag) (is_thick tag) (next_of says (summary_of says ancestors) rest) (paragraph_follows says ancestors rest) (some_element is_thick rest) full
    (λ e. p_thick tag (block_p says ancestors tag e)) (lost-next says ancestors rest full)

paragraph-if : (p heavy : Bool) (n : Next) (follows : Bool) → is_paragraph n ≡ follows →
    is_paragraph (or_next (if p then Paragraph else if heavy then Other else Nothing) n) ≡ (if p then true else if heavy then false else follows)
paragraph-if true heavy n follows e = refl
paragraph-if false true n follows e = refl
paragraph-if false false n follows e = e

paragraph-next : (says : List Say) (ancestors : List Tag) (nodes : Nodes) → is_paragraph (next_of says (summary_of says ancestors) nodes) ≡ paragraph_follows says ancestors nodes
paragraph-next says ancestors no_nodes = refl
paragraph-next says ancestors (bytes b rest) = paragraph-next says ancestors rest
paragraph-next says ancestors (element tag kids rest) =
    paragraph-if (block_para says ancestors tag) (is_thick tag) (next_of says (summary_of says ancestors) rest) (paragraph_follows says ancestors rest) (paragraph-next says ancestors rest)

-- ---- one element

one-gives : (says : List Say) (ancestors : List Tag) (tag : Tag) (kids : Nodes) (a b : Bool) → (is_freed says tag ≡ true → a ≡ b) →
    one_gives says (summary_of says ancestors) tag kids a ≡ gives_one says ancestors tag kids b
one-gives says ancestors tag kids a b h =
    let own = not (is "pPr" tag) && not (goes_at says ancestors tag kids) in
    alike (fate_of says tag) (is_content tag.kind) a b own own false h (λ e. refl)

and-if : (c a b : Bool) → (c ≡ true → a ≡ b) → (c && a) ≡ (c && b)
and-if true a b h = h refl
and-if false a b h = refl

loses-end : (says : List Say) (ancestors : List Tag) (taken : Option Bool) (tag : Tag) (kids rest : Nodes) (a : Bool) →
    (is_cut_para says (summary_of says ancestors) tag kids ≡ true → a ≡ gives_element says (tag ∷ ancestors) kids) →
    loses_end says (summary_of says ancestors) taken tag kids rest a ≡ ends.loses_end says ancestors taken tag kids rest
loses-end says ancestors taken tag kids rest a h =
    let b = gives_element says (tag ∷ ancestors) kids in
    and-if (is_cut_para says (summary_of says ancestors) tag kids) (is_lost (next_of says (summary_of says ancestors) rest) (has_taken taken || a))
    (paragraph_follows says ancestors rest || (some_element is_thick rest && not (has_taken taken || b)))
    (λ c. ap (λ x. is_lost (next_of says (summary_of says ancestors) rest) (has_taken taken || x)) (h c) ∙ lost-next says ancestors rest (has_taken taken || b))

taken-if : (c n heavy a b x y : Bool) (taken : Option Bool) → (c ≡ true → a ≡ b) → x ≡ y →
    (if c && n then Some (has_taken taken || a) else if heavy then None else option_map (λ z. z || x) taken)
    ≡ (if c && n then Some (has_taken taken || b) else if heavy then None else option_map (λ z. z || y) taken)
taken-if true true heavy a b x y taken h e = ap (λ z. Some (has_taken taken || z)) (h refl)
taken-if true false heavy a b x y taken h e = ap (λ w. if heavy then None else option_map (λ z. z || w) taken) e
taken-if false n heavy a b x y taken h e = ap (λ w. if heavy then None else option_map (λ z. z || w) taken) e

taken-after : (says : List Say) (ancestors : List Tag) (taken : Option Bool) (tag : Tag) (kids rest : Nodes) (a : Bool) →
    (is_cut_para says (summary_of says ancestors) tag kids ≡ true → a ≡ gives_element says (tag ∷ ancestors) kids) →
    (is_freed says tag ≡ true → a ≡ gives_element says (tag ∷ ancestors) kids) →
    taken_after says (summary_of says ancestors) taken tag kids rest a ≡ ends.taken_after says ancestors taken tag kids rest
taken-after says ancestors taken tag kids rest a h f =
    let b = gives_element says (tag ∷ ancestors) kids in
    let c = is_cut_para says (summary_of says ancestors) tag kids in
    ap (λ n. if c && n then Some (has_taken taken || a) else if is_thick tag then None else option_map (λ z. z || one_gives says (summary_of says ancestors) tag kids a) taken) (paragraph-next says ancestors rest)
    ∙ taken-if c (paragraph_follows says ancestors rest) (is_thick tag) a b (one_gives says (summary_of says ancestors) tag kids a) (gives_one says ancestors tag kids b) taken h
    (one-gives says ancestors tag kids a b f)

-- a cut paragraph has its name
cut_name : (says : List Say) (above : ViewSummary) (tag : Tag) (kids : Nodes) → is_cut_para says above tag kids ≡ true → is "p" tag ≡ true
cut_name says above tag kids c =
    let block = (and_parts (by_place.is_block_para says above.ancestors.site.place tag) (para_is_cut says kids) c).0 in
    (and_parts (is "p" tag) (is_block_list above.ancestors.site.place) (and_parts (is "p" tag && is_block_list above.ancestors.site.place) (is_leave (fate_of says tag)) block).0).0

-- so it is no properties
pub cut_loud : (says : List Say) (above : ViewSummary) (tag : Tag) (kids : Nodes) → is_cut_para says above tag kids ≡ true → is_quiet tag ≡ false
cut_loud says above tag kids c = by_name (λ t. is_quiet t ≡ false) "p" tag (cut_name says above tag kids c) refl

gives-walk : (says : List Say) (ancestors : List Tag) (nodes : Nodes) → is_open ancestors ≡ true → AllFit ancestors nodes → gives says (summary_of says ancestors) nodes ≡ gives_element says ancestors nodes
gives-walk says ancestors no_nodes o fit = refl
gives-walk says ancestors (bytes b rest) o fit = gives-walk says ancestors rest o fit
gives-walk says ancestors (element tag kids rest) o fit =
    ap (λ b. b || gives says (summary_of says ancestors) rest)
    (one-gives says ancestors tag kids (gives says (summary_inside says tag (summary_of says ancestors)) kids) (gives_element says (tag ∷ ancestors) kids)
    (λ f.
    let q = content_loud tag (freed_content says tag (open_fits ancestors tag o fit.0) f) in
    ap (λ s. gives says s kids) (inside-summary says ancestors tag) ∙ gives-walk says (tag ∷ ancestors) kids (open_∷ tag ancestors q ∙ o) fit.1))
    ∙ ap (λ b. gives_one says ancestors tag kids (gives_element says (tag ∷ ancestors) kids) || b) (gives-walk says ancestors rest o fit.2)

elem-view : (says : List Say) (ancestors : List Tag) (tag : Tag) (kids : Nodes) (x y : List ℕ) (l m : Bool) → (is_freed says tag ≡ true → is_quiet tag ≡ false) → (is_quiet tag ≡ false → x ≡ y) → l ≡ m →
    elem_view says (summary_of says ancestors) tag kids x l ≡ element_view says ancestors tag kids y m
elem-view says ancestors tag kids x y l m loud h e =
    alike (fate_of says tag) (is_content tag.kind) x y
    (if is_quiet tag || goes_at says ancestors tag kids then [] else start_shown tag ++ (x ++ (if l then [] else end_shown tag)))
    (if is_quiet tag || goes_at says ancestors tag kids then [] else start_shown tag ++ (y ++ (if m then [] else end_shown tag))) []
    (λ f. h (loud f)) (λ f. at (is_quiet tag) refl (goes_at says ancestors tag kids))
  where
    at : (q : Bool) → is_quiet tag ≡ q → (g : Bool) →
        (if q || g then [] else start_shown tag ++ (x ++ (if l then [] else end_shown tag))) ≡ (if q || g then [] else start_shown tag ++ (y ++ (if m then [] else end_shown tag)))
    at true k g = refl
    at false k true = refl
    at false k false = ap (λ z. start_shown tag ++ (z ++ (if l then [] else end_shown tag))) (h k) ∙ ap (λ b. start_shown tag ++ (y ++ (if b then [] else end_shown tag))) e

pub walk-view : (says : List Say) (ancestors : List Tag) (taken : Option Bool) (nodes : Nodes) → is_open ancestors ≡ true → AllFit ancestors nodes →
    view says (summary_of says ancestors) taken nodes ≡ view_in shown says ancestors taken nodes
walk-view says ancestors taken no_nodes o fit = refl
walk-view says ancestors taken (bytes b rest) o fit = ap (λ ts. (if in_shown says ancestors then shown b else []) ++ ts) (walk-view says ancestors taken rest o fit)
walk-view says ancestors taken (element tag kids rest) o fit =
    let above = summary_of says ancestors in
    let a = gives says (summary_inside says tag above) kids in
    let kind = open_fits ancestors tag o fit.0 in
    let below : summary_inside says tag above ≡ summary_of says (tag ∷ ancestors) = inside-summary says ancestors tag in
    let opened : (is_quiet tag ≡ false → is_open (tag ∷ ancestors) ≡ true) = λ q. open_∷ tag ancestors q ∙ o in
    let same : (is_quiet tag ≡ false → a ≡ gives_element says (tag ∷ ancestors) kids) = λ q. ap (λ s. gives says s kids) below ∙ gives-walk says (tag ∷ ancestors) kids (opened q) fit.1 in
    let inner : (is_quiet tag ≡ false → view says (summary_inside says tag above) None kids ≡ view_in shown says (tag ∷ ancestors) None kids) =
    λ q. ap (λ s. view says s None kids) below ∙ walk-view says (tag ∷ ancestors) None kids (opened q) fit.1 in
    let loud : (is_freed says tag ≡ true → is_quiet tag ≡ false) = λ f. content_loud tag (freed_content says tag kind f) in
    ap (λ ts. ts ++ view says above (taken_after says above taken tag kids rest a) rest)
    (elem-view says ancestors tag kids (view says (summary_inside says tag above) None kids) (view_in shown says (tag ∷ ancestors) None kids)
    (loses_end says above taken tag kids rest a) (ends.loses_end says ancestors taken tag kids rest) loud inner
    (loses-end says ancestors taken tag kids rest a (λ c. same (cut_loud says above tag kids c))))
    ∙ ap (λ t. element_view says ancestors tag kids (view_in shown says (tag ∷ ancestors) None kids) (ends.loses_end says ancestors taken tag kids rest) ++ view says above t rest)
    (taken-after says ancestors taken tag kids rest a (λ c. same (cut_loud says above tag kids c)) (λ f. same (loud f)))
    ∙ ap (λ ts. element_view says ancestors tag kids (view_in shown says (tag ∷ ancestors) None kids) (ends.loses_end says ancestors taken tag kids rest) ++ ts)
    (walk-view says ancestors (ends.taken_after says ancestors taken tag kids rest) rest o fit.2)

-- ---- what the code does with one element

apart_fate : {X : Type 0} (f : Fate) (c q g : Bool) (x y gone : X) → (c && is_free f) ≡ false → ((is_leave f && not q) && not g) ≡ false →
    by_fate_of f c x (if q || g then gone else y) gone ≡ gone
apart_fate Leave c true g x y gone h k = refl
apart_fate Leave c false true x y gone h k = refl
apart_fate Leave c false false x y gone h k = absurd (true≢false k)
apart_fate Free true q g x y gone h k = absurd (true≢false h)
apart_fate Free false q g x y gone h k = refl
apart_fate Cut c q g x y gone h k = refl
apart_fate Clear c q g x y gone h k = refl
apart_fate Restore c q g x y gone h k = refl
apart_fate Drop c q g x y gone h k = refl

-- an element that is not freed and not walked shows nothing
pub view-apart : (says : List Say) (above : ViewSummary) (tag : Tag) (kids : Nodes) (inner : List ℕ) (loses : Bool) → is_freed says tag ≡ false → is_walked says above tag kids ≡ false →
    elem_view says above tag kids inner loses ≡ []
view-apart says above tag kids inner loses f w =
    apart_fate (fate_of says tag) (is_content tag.kind) (is_quiet tag) (by_place.goes_at says above.ancestors.site.place tag kids) inner (start_shown tag ++ (inner ++ (if loses then [] else end_shown tag))) [] f w

-- what it tells its list does not depend on its kids
pub gives-apart : (says : List Say) (above : ViewSummary) (tag : Tag) (kids : Nodes) (a b : Bool) → is_freed says tag ≡ false → one_gives says above tag kids a ≡ one_gives says above tag kids b
gives-apart says above tag kids a b f =
    let own = not (is "pPr" tag) && not (by_place.goes_at says above.ancestors.site.place tag kids) in
    alike (fate_of says tag) (is_content tag.kind) a b own own false (λ e. absurd (true≢false (sym e ∙ f))) (λ e. refl)

not_cut : (says : List Say) (above : ViewSummary) (tag : Tag) (kids : Nodes) → is_walked says above tag kids ≡ false → is_cut_para says above tag kids ≡ false
not_cut says above tag kids w = at (is_cut_para says above tag kids) refl
  where
    at : (b : Bool) → is_cut_para says above tag kids ≡ b → is_cut_para says above tag kids ≡ false
    at false e = e
    at true e =
        let block = (and_parts (by_place.is_block_para says above.ancestors.site.place tag) (para_is_cut says kids) e).0 in
        let parts = and_parts (is "p" tag && is_block_list above.ancestors.site.place) (is_leave (fate_of says tag)) block in
        let name = cut_name says above tag kids e in
        let going = by_name (λ t. by_place.goes_at says above.ancestors.site.place t kids ≡ false) "p" tag name refl in
        let quiet = by_name (λ t. is_quiet t ≡ false) "p" tag name refl in
        let walked : is_walked says above tag kids ≡ true =
        ap (λ b. (b && not (is_quiet tag)) && not (by_place.goes_at says above.ancestors.site.place tag kids)) parts.1 ∙ ap (λ b. not b && not (by_place.goes_at says above.ancestors.site.place tag kids)) quiet ∙ ap not going in
        absurd (true≢false (sym walked ∙ w))

pub taken-apart : (says : List Say) (above : ViewSummary) (taken : Option Bool) (tag : Tag) (kids rest : Nodes) (a b : Bool) → is_freed says tag ≡ false → is_walked says above tag kids ≡ false →
    taken_after says above taken tag kids rest a ≡ taken_after says above taken tag kids rest b
taken-apart says above taken tag kids rest a b f w =
    taken-if (is_cut_para says above tag kids) (is_paragraph (next_of says above rest)) (is_thick tag) a b (one_gives says above tag kids a) (one_gives says above tag kids b) taken
    (λ c. absurd (true≢false (sym c ∙ not_cut says above tag kids w))) (gives-apart says above tag kids a b f)

walked_fate : {X : Type 0} (f : Fate) (c q g : Bool) (x y gone : X) → ((is_leave f && not q) && not g) ≡ true →
    by_fate_of f c x (if q || g then gone else y) gone ≡ y
walked_fate Leave c false false x y gone k = refl
walked_fate Leave c true g x y gone k = absurd (true≢false (sym k))
walked_fate Leave c false true x y gone k = absurd (true≢false (sym k))
walked_fate Free c q g x y gone k = absurd (true≢false (sym k))
walked_fate Cut c q g x y gone k = absurd (true≢false (sym k))
walked_fate Clear c q g x y gone k = absurd (true≢false (sym k))
walked_fate Restore c q g x y gone k = absurd (true≢false (sym k))
walked_fate Drop c q g x y gone k = absurd (true≢false (sym k))

-- an element that is walked shows its start, what its kids show, and its end
pub view-walked : (says : List Say) (above : ViewSummary) (tag : Tag) (kids : Nodes) (inner : List ℕ) (loses : Bool) → is_walked says above tag kids ≡ true →
    elem_view says above tag kids inner loses ≡ start_shown tag ++ (inner ++ (if loses then [] else end_shown tag))
view-walked says above tag kids inner loses w =
    walked_fate (fate_of says tag) (is_content tag.kind) (is_quiet tag) (by_place.goes_at says above.ancestors.site.place tag kids) inner (start_shown tag ++ (inner ++ (if loses then [] else end_shown tag))) [] w

walked_one : (f : Fate) (c q g p full : Bool) → (p ≡ true → q ≡ true) → ((is_leave f && not q) && not g) ≡ true → by_fate_of f c full (not p && not g) false ≡ true
walked_one Leave c false false false full h k = refl
walked_one Leave c false false true full h k = absurd (true≢false (sym (h refl)))
walked_one Leave c true g p full h k = absurd (true≢false (sym k))
walked_one Leave c false true p full h k = absurd (true≢false (sym k))
walked_one Free c q g p full h k = absurd (true≢false (sym k))
walked_one Cut c q g p full h k = absurd (true≢false (sym k))
walked_one Clear c q g p full h k = absurd (true≢false (sym k))
walked_one Restore c q g p full h k = absurd (true≢false (sym k))
walked_one Drop c q g p full h k = absurd (true≢false (sym k))

-- it becomes an element, and no properties of a paragraph
pub gives-walked : (says : List Say) (above : ViewSummary) (tag : Tag) (kids : Nodes) (full : Bool) → is_walked says above tag kids ≡ true → one_gives says above tag kids full ≡ true
gives-walked says above tag kids full w =
    walked_one (fate_of says tag) (is_content tag.kind) (is_quiet tag) (by_place.goes_at says above.ancestors.site.place tag kids) (is "pPr" tag) full
    (λ e. by_name (λ t. is_quiet t ≡ true) "pPr" tag e refl) w

-- ---- the nodes of a list, one after the other

pub view-in_front : (says : List Say) (above : ViewSummary) (taken : Option Bool) (x : Item) (rest : Nodes) →
    view says above taken (in_front x rest) ≡ item_view says above taken x rest ++ view says above (item_taken says above taken x rest) rest
view-in_front says above taken (bytes_item b) rest = refl
view-in_front says above taken (element_item tag kids) rest = refl
view-in_front says above taken (idle_item t) rest = view_idle says above taken t rest

pub gives-in_front : (says : List Say) (above : ViewSummary) (x : Item) (rest : Nodes) → gives says above (in_front x rest) ≡ (item_gives says above x || gives says above rest)
gives-in_front says above (bytes_item b) rest = refl
gives-in_front says above (element_item tag kids) rest = refl
gives-in_front says above (idle_item t) rest = gives_idle says above t rest

pub next-in_front : (says : List Say) (above : ViewSummary) (x : Item) (rest : Nodes) → next_of says above (in_front x rest) ≡ or_next (item_next says above x) (next_of says above rest)
next-in_front says above (bytes_item b) rest = refl
next-in_front says above (element_item tag kids) rest = refl
next-in_front says above (idle_item t) rest = next_idle says above t rest

pub gives-more : (says : List Say) (above : ViewSummary) (x : Item) (left rest : Nodes) (a own whole : Bool) → left ≡ in_front x rest → own ≡ item_gives says above x → (a || gives says above left) ≡ whole →
    ((a || own) || gives says above rest) ≡ whole
gives-more says above x left rest a own whole e o h =
    or_assoc a own (gives says above rest) ∙ ap (λ b. a || (b || gives says above rest)) o ∙ ap (λ b. a || b) (sym (gives-in_front says above x rest)) ∙ ap (λ n. a || gives says above n) (sym e) ∙ h

-- the same with the summary, the kids and the end that the code has
pub walked-text : (says : List Say) (above : ViewSummary) (tag : Tag) (kids : Nodes) (inside : ViewSummary) (nodes : Nodes) (loses own : Bool) →
    is_walked says above tag kids ≡ true → inside ≡ summary_inside says tag above → nodes ≡ kids → loses ≡ own →
    elem_view says above tag kids (view says (summary_inside says tag above) None kids) loses ≡ start_shown tag ++ (view says inside None nodes ++ (if own then [] else end_shown tag))
walked-text says above tag kids inside nodes loses own w i n l =
    view-walked says above tag kids (view says (summary_inside says tag above) None kids) loses w
    ∙ ap (λ s. start_shown tag ++ (view says s None kids ++ (if loses then [] else end_shown tag))) (sym i)
    ∙ ap (λ k. start_shown tag ++ (view says inside None k ++ (if loses then [] else end_shown tag))) (sym n)
    ∙ ap (λ b. start_shown tag ++ (view says inside None nodes ++ (if b then [] else end_shown tag))) l

pub loses-text : (says : List Say) (above : ViewSummary) (taken : Option Bool) (tag : Tag) (kids rest : Nodes) (inside : ViewSummary) (nodes : Nodes) (full own : Bool) →
    inside ≡ summary_inside says tag above → nodes ≡ kids → full ≡ gives says inside nodes → own ≡ loses_end says above taken tag kids rest full →
    loses_end says above taken tag kids rest (gives says (summary_inside says tag above) kids) ≡ own
loses-text says above taken tag kids rest inside nodes full own i n f o =
    ap (λ s. loses_end says above taken tag kids rest (gives says s kids)) (sym i)
    ∙ ap (λ k. loses_end says above taken tag kids rest (gives says inside k)) (sym n)
    ∙ ap (loses_end says above taken tag kids rest) (sym f) ∙ sym o

-- the rest of a slice
pub slice_rest : {X : Type 0} (xs : List X) (i : ℕ) → take (length xs - i) (drop i xs) ≡ drop i xs
slice_rest xs i = take_all (length xs - i) (drop i xs) (omega (arith, length-drop i xs))
