-- A member with others inside it tells as if it had told all before them.
use Rattle.std.proofs.Common.{◌≡◌, ◌≢◌, ℕ, suc, ◌+◌, ◌<◌, ◌==◌, Bool, true, false, List, [], ◌∷◌, ◌++◌, length, Option, None, Some, slice_get, refl, sym, ap, subst, ◌∙◌, arith, cond, eq-eqb}
use Rattle.std.proofs.Math.ListN.{set}
use Rattle.std.proofs.lemmas.Bool.{eqb-true, eqb-false}
use Rattle.std.proofs.lemmas.Option.{slice_get_within}
use Rattle.std.specs.Option.{option_map}
use Rattle.redl_changed.specs.declared.changed.ChangedSaid.{ChangedSaid}
use Rattle.redl_index.specs.declared.revision.Revision.{Revision}
use Rattle.redl_tree.specs.Model.Nodes.{Nodes, Tag}
use Rattle.redl_excerpts.specs.declared.around.Away.{Away}
use Rattle.redl_excerpts.specs.declared.excerpt.Excerpt.{Excerpt}
use Rattle.redl_excerpts.specs.Excerpts.{TellsEach, is_moved, told_all, told_if_made}
use Rattle.redl_excerpts.specs.Inside.Around.{IsAround, closed, closed_if, first_if, first_of, opened, opened_if}
use Rattle.redl_excerpts.specs.Mentions.{Mention, Where, in_element, inside, member_told, stretch_in, told_by}
use Rattle.redl_said.specs.Phrases.{Kept, heard}
use Rattle.redl_excerpts.proofs.MemberLaws.{inside-element}
use Rattle.redl_excerpts.proofs.TellLaws.{slice_get-here, slice_get-elsewhere, where_it_is}

-- ---- one excerpt

-- once a member inside told, what was put away comes back, and what comes after it is that of the last one
closed-begun : (words : Kept) (id : Option (List ℕ)) (before behind : List ℕ) (changed : ChangedSaid) (away : Away) (end : List ℕ) (mentions : List Mention)
    → closed (told_all (record { words = words; id = id; before = before; behind = behind; changed = changed; begun = true }) mentions) away end
    ≡ told_all (record { words = words; id = away.id; before = away.before; behind = behind; changed = away.changed; begun = true }) mentions
closed-begun words id before behind changed away end [] = refl
closed-begun words id before behind changed away end (mention ∷ later) = closed-begun (heard words mention.said) id before mention.behind changed away end later

closed-told : (excerpt : Excerpt) (own : Mention) (inner : List Mention)
    → closed (told_all (opened excerpt own.said) inner) (first_of excerpt own) own.behind ≡ told_all excerpt (own ∷ inner)
closed-told excerpt own [] = refl
closed-told excerpt own (mention ∷ more) =
    closed-begun (heard (heard excerpt.words own.said) mention.said) mention.id mention.before mention.behind mention.changed
    (first_of excerpt own) own.behind more

closed-told_if : (excerpt : Option Excerpt) (own : Mention) (inner : List Mention)
    → closed_if (told_if_made inner (opened_if own.said excerpt)) (first_if own excerpt) own.behind ≡ told_if_made (own ∷ inner) excerpt
closed-told_if None own inner = refl
closed-told_if (Some excerpt) own inner = ap Some (closed-told excerpt own inner)

-- ---- all of them

pub tells-around : (old mid : List (Option Excerpt)) (at : ℕ) (excerpt within new : Option Excerpt) (own : Mention) (first inner : ℕ → List Mention) → at < length old
    → slice_get old at ≡ Some excerpt → TellsEach (set old at (opened_if own.said excerpt)) mid inner → slice_get mid at ≡ Some within
    → ((v : ℕ) → first v ≡ where_it_is (suc at) v (own ∷ []))
    → new ≡ closed_if within (first_if own excerpt) own.behind
    → TellsEach old (set mid at new) (λ v. first v ++ inner v)
tells-around old mid at excerpt within new own first inner bound found tells there alone is = λ k. by k (suc at == k + 1) refl
  where
    open_one : Option Excerpt
    open_one = opened_if own.said excerpt

    own_alone : first (at + 1) ≡ own ∷ []
    own_alone = alone (at + 1) ∙ ap (λ (b : Bool). cond b (own ∷ []) []) (eq-eqb (suc at) (at + 1) (omega arith))

    within_is : within ≡ told_if_made (inner (at + 1)) open_one
    within_is =
        let both : Some within ≡ Some (told_if_made (inner (at + 1)) open_one) =
        sym there ∙ tells at ∙ ap (option_map (told_if_made (inner (at + 1)))) (slice_get-here old at open_one bound) in
        cc

    whole : new ≡ told_if_made (first (at + 1) ++ inner (at + 1)) excerpt
    whole =
        is ∙ ap (λ (x : Option Excerpt). closed_if x (first_if own excerpt) own.behind) within_is
        ∙ closed-told_if excerpt own (inner (at + 1)) ∙ ap (λ (ms : List Mention). told_if_made (ms ++ inner (at + 1)) excerpt) (sym own_alone)

    here : slice_get (set mid at new) at ≡ option_map (told_if_made (first (at + 1) ++ inner (at + 1))) (slice_get old at)
    here =
        slice_get-here mid at new (slice_get_within mid at within there) ∙ ap Some whole
        ∙ sym (ap (option_map (told_if_made (first (at + 1) ++ inner (at + 1)))) found)

    by : (k : ℕ) (test : Bool) → (suc at == k + 1) ≡ test → slice_get (set mid at new) k ≡ option_map (told_if_made (first (k + 1) ++ inner (k + 1))) (slice_get old k)
    by k true test =
        let number : suc at ≡ k + 1 = eqb-true (suc at) (k + 1) test in
        let same : at ≡ k = omega (arith, number) in
        subst (λ j. slice_get (set mid at new) j ≡ option_map (told_if_made (first (j + 1) ++ inner (j + 1))) (slice_get old j)) same here
    by k false test =
        let elsewhere : k ≢ at = λ same. eqb-false (suc at) (k + 1) test (omega (arith, same)) in
        let none : first (k + 1) ≡ [] = alone (k + 1) ∙ ap (λ (b : Bool). cond b (own ∷ []) []) test in
        slice_get-elsewhere mid at k new elsewhere ∙ tells k ∙ ap (option_map (told_if_made (inner (k + 1)))) (slice_get-elsewhere old at k open_one elsewhere)
        ∙ ap (λ (ms : List Mention). option_map (told_if_made (ms ++ inner (k + 1))) (slice_get old k)) (sym none)

-- what such a member tells
pub member-around : (revisions : List Revision) (at count : ℕ) (here : Where) (tag : Tag) (kids : Nodes) → IsAround revisions tag kids here.place count → suc at ≡ tag.rev
    → (v : ℕ) → member_told (is_moved revisions v) v here tag kids ≡ where_it_is (suc at) v (stretch_in here.whole tag here.place kids ∷ [])
member-around revisions at count here tag kids around number v = by (tag.rev == v) refl
  where
    own : List Mention
    own = stretch_in here.whole tag here.place kids ∷ []

    numbered : where_it_is tag.rev v own ≡ where_it_is (suc at) v own
    numbered = ap (λ (n : ℕ). where_it_is n v own) (sym number)

    by : (test : Bool) → (tag.rev == v) ≡ test → member_told (is_moved revisions v) v here tag kids ≡ where_it_is (suc at) v own
    by true test =
        let same : tag.rev ≡ v = eqb-true tag.rev v test in
        let tells : told_by (is_moved revisions v) here tag.kind tag kids ≡ own = subst (λ n. told_by (is_moved revisions n) here tag.kind tag kids ≡ own) same (around.tells here) in
        ap (λ (b : Bool). cond b (told_by (is_moved revisions v) here tag.kind tag kids) []) test ∙ tells ∙ sym (ap (λ (b : Bool). cond b own []) test) ∙ numbered
    by false test =
        ap (λ (b : Bool). cond b (told_by (is_moved revisions v) here tag.kind tag kids) []) test ∙ sym (ap (λ (b : Bool). cond b own []) test) ∙ numbered

-- where the nodes in it stand
pub inside-around : (revisions : List Revision) (count : ℕ) (here : Where) (tag : Tag) (kids below : Nodes) → IsAround revisions tag kids here.place count → below ≡ kids
    → record { in_text = false; siblings = below; owner = below; owner_place = here.place; place = here.place; whole = here.whole } ≡ inside here tag kids
inside-around revisions count here tag kids below around same =
    ap (standing false) same ∙ ap (λ (b : Bool). standing b kids) (sym around.no_text)
    ∙ sym (inside-element here tag kids around.no_paragraph around.no_properties ∙ ap (in_element here tag kids) around.says_nothing)
  where
    standing : Bool → Nodes → Where
    standing in_text owner = record { in_text = in_text; siblings = owner; owner = owner; owner_place = here.place; place = here.place; whole = here.whole }

-- the excerpt that was opened is still at its place
pub tells-keep : (old mid : List (Option Excerpt)) (at : ℕ) (new : Option Excerpt) (mentions_of : ℕ → List Mention) → at < length old → TellsEach (set old at new) mid mentions_of → at < length mid
tells-keep old mid at new mentions_of bound tells =
    slice_get_within mid at (told_if_made (mentions_of (at + 1)) new)
    (tells at ∙ ap (option_map (told_if_made (mentions_of (at + 1)))) (slice_get-here old at new bound))
