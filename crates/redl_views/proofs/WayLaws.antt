-- What a way tells, step by step, and that a shell on it stays.
use Rattle.std.proofs.Common.{◌≡◌, ◌∙◌, ◌+◌, ◌<◌, ◌≤◌, arith, refl, sym, ap, subst, ℕ, List, [], ◌∷◌, Bool, true, false, true≢false, ◌&&◌, ◌||◌, Some, ◌⊎◌, inl, inr, unwrap_or, if◌then◌else◌}
use denote.Ref.{Bor}
use Rattle.std.proofs.lemmas.Bool.{and_parts}
use Rattle.std.proofs.Math.Bool.{and-false}
use Rattle.redl_tree.specs.Model.Nodes.{Tag, Nodes, no_nodes, bytes, element, Item, bytes_item, element_item, idle_item, in_front, ◌⊕◌}
use Rattle.redl_tree.specs.Model.IdleTexts.{idle_nodes}
use Rattle.redl_tree.specs.Roles.Names.{is}
use Rattle.redl_tree.specs.Roles.Idle.{is_idle_in}
use Rattle.redl_tree.specs.Roles.Lists.{into, is_direct, is_wrapper}
use Rattle.redl_tree.specs.Decisions.Tables.{own, cells_go, rows_go, cell_is_cut, row_goes}
use Rattle.redl_tree.specs.declared.kinds.Say.{Say}
use Rattle.redl_tree.specs.declared.lists.Place.{Place}
use Rattle.redl_tree.specs.declared.lists.Reach.{Reach}
use Rattle.redl_tree.specs.declared.lists.Reach.TheVariants.{Direct, Control, Beyond}
use Rattle.redl_tree.proofs.Roles.Named.{by_name}
use Rattle.redl_tree.proofs.Idle.Tags.{Idle, idle_parts, has-not}
use Rattle.redl_tree.proofs.Idle.Items.{nodes_are_idle}
use Rattle.redl_tables.specs.Asked.{asked_inside, answer}
use Rattle.redl_tables.specs.Owners.{unit_name, shell_unit, and_then, is_gone}
use Rattle.redl_tables.specs.Places.{is_cell_list, is_row_list, is_shell, goes_at}
use Rattle.redl_tables.specs.declared.owned.Unit.{Unit as Own}
use Rattle.redl_tables.specs.declared.owned.Unit.TheVariants as unit
use Rattle.redl_tables.specs.declared.owned.Finding.{Finding}
use Rattle.redl_tables.specs.declared.owned.Finding.TheVariants.{Nothing, Gone, Living}
use Rattle.redl_tables.specs.declared.questions.Question.{Question}
use Rattle.redl_tables.proofs.CutLaws.{all-gone, found-in_front}
use Rattle.redl_tables.proofs.AskedLaws.{beyond-answers, hands-on}
use Rattle.redl_views.specs.Ways.{is_step, passed_after, passed_item, found_of_elem, found_of_item, answers_itself, put_first, tail, Leads, LeadsIn, Holds, HoldsFrom, asked_of_shell}
use Rattle.redl_views.specs.declared.known.Known.{Known}

-- ---- elements that are no steps

none_of : (a b c d e : Bool) → (a || (b || (c || (d || e)))) ≡ false → (a ≡ false) × ((b ≡ false) × ((c ≡ false) × ((d ≡ false) × (e ≡ false))))
none_of true b c d e h = absurd (true≢false h)
none_of false true c d e h = absurd (true≢false h)
none_of false false true d e h = absurd (true≢false h)
none_of false false false true e h = absurd (true≢false h)
none_of false false false false true h = absurd (true≢false h)
none_of false false false false false h = (refl, (refl, (refl, (refl, refl))))

no_unit : (what : Own) (b : Bool) (tag : Tag) → is "tr" tag ≡ false → is "tc" tag ≡ false → (b && is (unit_name what) tag) ≡ false
no_unit unit.Row b tag r c = ap (λ x. b && x) r ∙ and-false b
no_unit unit.Cell b tag r c = ap (λ x. b && x) c ∙ and-false b

not_into : (reach : Reach) (tag : Tag) → is "sdt" tag ≡ false → is "sdtContent" tag ≡ false → is "customXml" tag ≡ false → into reach tag ≡ Beyond
not_into Direct tag s c x = rw (s, x) refl
not_into Control tag s c x = rw c refl
not_into Beyond tag s c x = refl

-- nothing is found of them
pub no-step : (says : List Say) (asked : Question) (tag : Tag) (kids : Nodes) → is_step tag ≡ false → found_of_elem says asked tag kids ≡ Nothing
no-step says asked tag kids e =
    let n = none_of (is "tr" tag) (is "tc" tag) (is "sdt" tag) (is "sdtContent" tag) (is "customXml" tag) e in
    beyond-answers says asked tag kids (no_unit asked.unit (is_direct asked.reach) tag n.0 n.1.0) (not_into asked.reach tag n.1.1.0 n.1.1.1.0 n.1.1.1.1)

-- so one of which something is found that stays is a step
pub living-step : (says : List Say) (asked : Question) (tag : Tag) (kids : Nodes) → found_of_elem says asked tag kids ≡ Living → is_step tag ≡ true
living-step says asked tag kids living = at (is_step tag) refl
  where
    at : (b : Bool) → is_step tag ≡ b → b ≡ true
    at true e = refl
    at false e = absurd (apart (sym living ∙ no-step says asked tag kids e))
      where
        apart : Living ≡ Nothing → ⊥
        apart h = cc

idle_step : (in_run : Bool) (tag : Tag) → Idle in_run tag → is_step tag ≡ false
idle_step in_run tag i =
    rw (has-not "tr" in_run tag i refl, has-not "tc" in_run tag i refl, has-not "sdt" in_run tag i refl, has-not "sdtContent" in_run tag i refl, has-not "customXml" in_run tag i refl) refl

idle_passed : (in_run : Bool) (tag : Tag) (passed : ℕ) → Idle in_run tag → passed_after tag passed ≡ passed
idle_passed in_run tag passed i = ap (λ b. if b then passed + 1 else passed) (idle_step in_run tag i)

-- ---- a way, node by node

more : (b : Bool) (passed at : ℕ) → at < passed → at < (if b then passed + 1 else passed)
more true passed at h = omega (arith, h)
more false passed at h = h

-- where more steps are passed than the way has, it tells nothing of the list
pub leads-later : (says : List Say) (asked : Question) (passed at : ℕ) (way : List ℕ) (nodes : Nodes) → at < passed → Leads says asked passed (at ∷ way) nodes
leads-later says asked passed at way no_nodes h = tt
leads-later says asked passed at way (bytes b rest) h = leads-later says asked passed at way rest h
leads-later says asked passed at way (element tag kids rest) h =
    (λ s p. absurd (omega (arith, h, p)), leads-later says asked (passed_after tag passed) at way rest (more (is_step tag) passed at h))

past_idle : (says : List Say) (asked : Question) (passed at : ℕ) (way : List ℕ) (in_run : Bool) (x y : Nodes) → is_idle_in in_run x ≡ true
    → Leads says asked passed (at ∷ way) (x ⊕ y) → Leads says asked passed (at ∷ way) y
past_idle says asked passed at way in_run no_nodes y i h = h
past_idle says asked passed at way in_run (bytes b rest) y i h = past_idle says asked passed at way in_run rest y i h
past_idle says asked passed at way in_run (element tag kids rest) y i h =
    let p = idle_parts in_run tag kids rest i in
    past_idle says asked passed at way in_run rest y p.later
    (subst (λ n. Leads says asked n (at ∷ way) (rest ⊕ y)) (idle_passed in_run tag passed p.own) h.1)

before_idle : (says : List Say) (asked : Question) (passed at : ℕ) (way : List ℕ) (in_run : Bool) (x y : Nodes) → is_idle_in in_run x ≡ true
    → Leads says asked passed (at ∷ way) y → Leads says asked passed (at ∷ way) (x ⊕ y)
before_idle says asked passed at way in_run no_nodes y i h = h
before_idle says asked passed at way in_run (bytes b rest) y i h = before_idle says asked passed at way in_run rest y i h
before_idle says asked passed at way in_run (element tag kids rest) y i h =
    let p = idle_parts in_run tag kids rest i in (
      λ s e. absurd (true≢false (sym s ∙ idle_step in_run tag p.own)),
      subst (λ n. Leads says asked n (at ∷ way) (rest ⊕ y)) (sym (idle_passed in_run tag passed p.own))
          (before_idle says asked passed at way in_run rest y p.later h),
    )

-- what a way tells of a list it tells of the rest of the list
pub leads-past : (says : List Say) (asked : Question) (passed : ℕ) (way : List ℕ) (x : Item) (ys : Nodes)
    → Leads says asked passed way (in_front x ys) → Leads says asked (passed_item x passed) way ys
leads-past says asked passed [] x ys h = tt
leads-past says asked passed (at ∷ way) (bytes_item b) ys h = h
leads-past says asked passed (at ∷ way) (element_item tag kids) ys h = h.1
leads-past says asked passed (at ∷ way) (idle_item t) ys h = past_idle says asked passed at way false (idle_nodes t) ys (nodes_are_idle t) h

-- a way that goes on behind a node leads from the node
pub leads-before : (says : List Say) (asked : Question) (passed at : ℕ) (way : List ℕ) (x : Item) (ys : Nodes) → passed_item x passed ≤ at
    → Leads says asked (passed_item x passed) (at ∷ way) ys → Leads says asked passed (at ∷ way) (in_front x ys)
leads-before says asked passed at way (bytes_item b) ys n h = h
leads-before says asked passed at way (element_item tag kids) ys n h = (λ s p. absurd (here s p), h)
  where
    here : is_step tag ≡ true → passed ≡ at → ⊥
    here s p = let gone = subst (λ b. (if b then passed + 1 else passed) ≤ at) s n in omega (arith, gone, p)
leads-before says asked passed at way (idle_item t) ys n h = before_idle says asked passed at way false (idle_nodes t) ys (nodes_are_idle t) h

pub passed-less : (x : Item) (passed at : ℕ) → passed_item x passed ≤ at → passed ≤ at
passed-less (bytes_item b) passed at h = h
passed-less (idle_item t) passed at h = h
passed-less (element_item tag kids) passed at h = by (is_step tag) h
  where
    by : (b : Bool) → (if b then passed + 1 else passed) ≤ at → passed ≤ at
    by true h = omega (arith, h)
    by false h = h

pub passed-most : (x : Item) (passed : ℕ) → passed_item x passed ≤ passed + 1
passed-most (bytes_item b) passed = omega arith
passed-most (idle_item t) passed = omega arith
passed-most (element_item tag kids) passed = by (is_step tag)
  where
    by : (b : Bool) → (if b then passed + 1 else passed) ≤ passed + 1
    by true = omega arith
    by false = omega arith

-- a way that ends in a node leads from it
pub leads-here : (says : List Say) (asked : Question) (passed : ℕ) (way : List ℕ) (x : Item) (ys : Nodes) → found_of_item says asked x ≡ Living
    → LeadsIn says asked way x → Leads says asked passed (passed ∷ way) (in_front x ys)
leads-here says asked passed way (bytes_item b) ys f h = absurd cc
leads-here says asked passed way (idle_item t) ys f h = absurd cc
leads-here says asked passed way (element_item tag kids) ys f h =
    (λ s p. (f, h), leads-later says asked (passed_after tag passed) passed way ys (subst (λ b. passed < (if b then passed + 1 else passed)) (sym (living-step says asked tag kids f)) (omega arith)))

-- ---- the search for a way

pub then-living : (a : Finding) → and_then a Living ≡ Living
then-living Nothing = refl
then-living Living = refl
then-living Gone = refl

-- where neither has one that stays, both together have none
pub not-living : (a b : Finding) → (a ≡ Living → ⊥) → (b ≡ Living → ⊥) → and_then a b ≡ Living → ⊥
not-living Nothing b na nb h = nb h
not-living Living b na nb h = na refl
not-living Gone Nothing na nb h = cc
not-living Gone Gone na nb h = cc
not-living Gone Living na nb h = nb refl

-- a way that goes on behind a node, from before the node
pub leads-on : (says : List Say) (asked : Question) (passed after at : ℕ) (way : List ℕ) (x : Item) (ys left : Nodes) → after ≡ passed_item x passed → left ≡ in_front x ys
    → after ≤ at → Leads says asked after (at ∷ way) ys → Leads says asked passed (at ∷ way) left
leads-on says asked passed after at way x ys left e here n h =
    subst (λ m. Leads says asked passed (at ∷ way) m) (sym here)
    (leads-before says asked passed at way x ys (subst (λ k. k ≤ at) e n) (subst (λ k. Leads says asked k (at ∷ way) ys) e h))

pub less-on : (passed after at : ℕ) (x : Item) → after ≡ passed_item x passed → after ≤ at → passed ≤ at
less-on passed after at x e n = passed-less x passed at (subst (λ k. k ≤ at) e n)

-- what is noted where one is found that stays
pub way-noted : (says : List Say) (asked : Question) (passed : ℕ) (old new : List ℕ) (x : Item) (ys left nodes : Nodes) → new ≡ put_first passed old → left ≡ in_front x ys
    → found_of_item says asked x ≡ Living → LeadsIn says asked (tail old) x
    → ((at : ℕ) (way : List ℕ) → passed ≤ at → Leads says asked passed (at ∷ way) left → Leads says asked 0 (at ∷ way) nodes) → Leads says asked 0 new nodes
way-noted says asked passed old new x ys left nodes e here f h whole = subst (λ v. Leads says asked 0 v nodes) (sym e) (noted old h)
  where
    noted : (old : List ℕ) → LeadsIn says asked (tail old) x → Leads says asked 0 (put_first passed old) nodes
    noted [] h = tt
    noted (first ∷ way) h = whole passed way (omega arith) (subst (λ m. Leads says asked passed (passed ∷ way) m) (sym here) (leads-here says asked passed way x ys f h))

-- ---- what is known

nothing_both : (a b : Finding) → and_then a b ≡ Nothing → (a ≡ Nothing) × (b ≡ Nothing)
nothing_both Nothing b h = (refl, h)
nothing_both Living b h = absurd cc
nothing_both Gone Nothing h = absurd cc
nothing_both Gone Gone h = absurd cc
nothing_both Gone Living h = absurd cc

nothing_parts : (says : List Say) (asked : Question) (x : Item) (ys : Nodes) → answer says asked (in_front x ys) ≡ Nothing
    → (found_of_item says asked x ≡ Nothing) × (answer says asked ys ≡ Nothing)
nothing_parts says asked x ys h =
    nothing_both (found_of_item says asked x) (answer says asked ys) (sym (found-in_front asked.unit says asked.reach x ys) ∙ h)

-- what holds of a list holds of the rest of it
pub holds-past : (says : List Say) (known : Known) (passed after : ℕ) (x : Item) (ys : Nodes) → after ≡ passed_item x passed
    → HoldsFrom says known passed (in_front x ys) → HoldsFrom says known after ys
holds-past says known passed after x ys e h = record {
  none = λ f. (nothing_parts says known.asked x ys (h.none f)).1;
  way = λ f. subst (λ k. Leads says known.asked k known.way.now ys) (sym e) (leads-past says known.asked passed known.way.now x ys (h.way f));
}

-- what is known of a list, from its start
pub holds-start : (says : List Say) (known : Known) (nodes : Nodes) → Holds says known nodes → HoldsFrom says known 0 nodes
holds-start says known nodes h = record { none = λ f. h.found Nothing f; way = λ f. h.way f }

the_one : (one other : Finding) → Some one ≡ Some other → one ≡ other
the_one one other e = ap (λ o. unwrap_or o Nothing) e

-- a list has no own rows or cells: nor has an element in it that doesn't answer by itself
pub none-inside : (says : List Say) (known : Known) (passed : ℕ) (asked : Question) (way : Bor (List ℕ)) (tag : Tag) (kids rest : Nodes)
    → known.found ≡ Some Nothing → asked ≡ asked_inside tag known.asked → answers_itself known.asked tag ≡ false
    → HoldsFrom says known passed (element tag kids rest) → Holds says (record { asked = asked; found = Some Nothing; way = way }) kids
none-inside says known passed asked way tag kids rest f e own h =
    let none = ap (λ q. answer says q kids) e ∙ sym (hands-on says known.asked tag kids own) ∙ (nothing_parts says known.asked (element_item tag kids) rest (h.none f)).0 in
    record { found = λ finding is. none ∙ the_one Nothing finding is; way = λ is. absurd (other (the_one Nothing Living is)) }
  where
    other : Nothing ≡ Living → ⊥
    other is = cc

-- a way goes through an element of the list: so it leads on from its kids
pub living-inside : (says : List Say) (known : Known) (passed : ℕ) (asked : Question) (way : Bor (List ℕ)) (tag : Tag) (kids rest : Nodes)
    → known.found ≡ Some Living → asked ≡ asked_inside tag known.asked → known.way.now ≡ passed ∷ way.now → is_step tag ≡ true → answers_itself known.asked tag ≡ false
    → HoldsFrom says known passed (element tag kids rest) → Holds says (record { asked = asked; found = Some Living; way = way }) kids
living-inside says known passed asked way tag kids rest f e w s own h =
    let here = (subst (λ v. Leads says known.asked passed v (element tag kids rest)) w (h.way f)).0 s refl in
    let living = ap (λ q. answer says q kids) e ∙ sym (hands-on says known.asked tag kids own) ∙ here.0 in
    record { found = λ finding is. living ∙ the_one Living finding is; way = λ is. subst (λ q. Leads says q 0 way.now kids) (sym e) (here.1 own) }

-- ---- a shell

wrapper_names : (s x : Bool) → (s || (x || false)) ≡ true → (s ≡ true) ⊎ (x ≡ true)
wrapper_names true x e = inl refl
wrapper_names false true e = inr refl
wrapper_names false false e = absurd (true≢false (sym e))

no_table : (tag : Tag) → is_wrapper tag ≡ true → (is "tc" tag ≡ false) × ((is "tr" tag ≡ false) × (is "tbl" tag ≡ false))
no_table tag e = by (wrapper_names (is "sdt" tag) (is "customXml" tag) e)
  where
    by : (is "sdt" tag ≡ true) ⊎ (is "customXml" tag ≡ true) → (is "tc" tag ≡ false) × ((is "tr" tag ≡ false) × (is "tbl" tag ≡ false))
    by (inl s) = (by_name (λ t. is "tc" t ≡ false) "sdt" tag s refl, (by_name (λ t. is "tr" t ≡ false) "sdt" tag s refl, by_name (λ t. is "tbl" t ≡ false) "sdt" tag s refl))
    by (inr x) = (by_name (λ t. is "tc" t ≡ false) "customXml" tag x refl, (by_name (λ t. is "tr" t ≡ false) "customXml" tag x refl, by_name (λ t. is "tbl" t ≡ false) "customXml" tag x refl))

of_shell : (says : List Say) (in_row : Bool) (reach : Reach) (kids : Nodes)
    → (if in_row then cells_go says reach kids else rows_go says reach kids) ≡ is_gone (answer says (record { unit = shell_unit in_row; reach = reach }) kids)
of_shell says true reach kids = all-gone (cell_is_cut says) (own "tc" reach kids)
of_shell says false reach kids = all-gone (row_goes says) (own "tr" reach kids)

-- a shell goes where all that is found of it goes
pub shell-known : (says : List Say) (here : Place) (tag : Tag) (kids : Nodes) → is_shell here tag ≡ true
    → goes_at says here tag kids ≡ is_gone (answer says (asked_of_shell here tag) kids)
shell-known says here tag kids e =
    let n = no_table tag (and_parts (is_wrapper tag) (is_row_list here || is_cell_list here) e).0 in
    rw (n.0, n.1.0, n.1.1, e) (of_shell says (is_cell_list here) (into Direct tag) kids)
