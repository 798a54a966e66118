-- Excerpts that are told of one node after another.
use Rattle.std.proofs.Common.{◌≡◌, ◌≢◌, ℕ, zero, suc, ◌+◌, ◌-◌, ◌<◌, ◌≤◌, ◌==◌, Bool, true, false, List, [], ◌∷◌, ◌++◌, length, Option, None, Some, slice_get, map, inl, inr, ◌⊎◌, refl, sym, ap, subst, ◌∙◌, arith, cond}
use Rattle.std.specs.Prelude.{if◌then◌else◌}
use Rattle.std.proofs.Math.ListN.{set}
use Rattle.std.proofs.lemmas.Bool.{eqb-true, eqb-false, ne_eqb}
use Rattle.std.proofs.lemmas.Option.{slice_get-map, slice_get_past}
use Rattle.std.specs.Option.{option_map}
use Rattle.redl_index.specs.Revisions.{AreNumbered}
use Rattle.redl_index.specs.declared.revision.Revision.{Revision}
use Rattle.redl_tree.specs.Model.Nodes.{Nodes}
use Rattle.redl_excerpts.specs.declared.excerpt.Excerpt.{Excerpt}
use Rattle.redl_excerpts.specs.Excerpts.{TellsEach, excerpts_of, is_made, is_move, is_moved, is_there, is_wanted, moved_one, nothing_told, package_mentions, told, told_all, told_if_made, wanted_excerpt, wanted_nothing}
use Rattle.redl_excerpts.specs.Mentions.{Mention}

-- mentions after mentions
pub told_all-more : (excerpt : Excerpt) (a b : List Mention) → told_all (told_all excerpt a) b ≡ told_all excerpt (a ++ b)
told_all-more excerpt [] b = refl
told_all-more excerpt (mention ∷ a) b = told_all-more (told excerpt mention) a b

-- nothing is told of an excerpt, if it is made, and of one at a place, if there is one
unchanged_one : (o : Option Excerpt) → o ≡ told_if_made [] o
unchanged_one None = refl
unchanged_one (Some excerpt) = refl

unchanged : (o : Option (Option Excerpt)) → o ≡ option_map (told_if_made []) o
unchanged None = refl
unchanged (Some excerpt) = ap Some (unchanged_one excerpt)

both_one : (a b : List Mention) (o : Option Excerpt) → told_if_made b (told_if_made a o) ≡ told_if_made (a ++ b) o
both_one a b None = refl
both_one a b (Some excerpt) = ap Some (told_all-more excerpt a b)

both : (a b : List Mention) (o : Option (Option Excerpt)) → option_map (told_if_made b) (option_map (told_if_made a) o) ≡ option_map (told_if_made (a ++ b)) o
both a b None = refl
both a b (Some excerpt) = ap Some (both_one a b excerpt)

-- nothing is told
pub tells-nothing : (excerpts : List (Option Excerpt)) → TellsEach excerpts excerpts (λ v. [])
tells-nothing excerpts = λ k. unchanged (slice_get excerpts k)

-- the same mentions in another form
pub tells-as : (old new : List (Option Excerpt)) (first second : ℕ → List Mention) → ((v : ℕ) → first v ≡ second v) → TellsEach old new first → TellsEach old new second
tells-as old new first second same tells = λ k. tells k ∙ ap (λ ms. option_map (told_if_made ms) (slice_get old k)) (same (k + 1))

-- the same where excerpts are made
pub tells-where_made : (old new : List (Option Excerpt)) (first second : ℕ → List Mention) → ((v : ℕ) → is_made old v ≡ true → first v ≡ second v) → TellsEach old new first → TellsEach old new second
tells-where_made old new first second same tells = λ k. tells k ∙ at_place k (slice_get old k) refl
  where
    at_place : (k : ℕ) (o : Option (Option Excerpt)) → slice_get old k ≡ o → option_map (told_if_made (first (k + 1))) o ≡ option_map (told_if_made (second (k + 1))) o
    at_place k None is = refl
    at_place k (Some None) is = refl
    at_place k (Some (Some excerpt)) is =
        let place : (k + 1) - 1 ≡ k = omega arith in
        let some : (k + 1 == 0) ≡ false = ne_eqb (k + 1) 0 (λ none. absurd (omega (arith, none))) in
        let made : is_made old (k + 1) ≡ true =
        ap (λ (b : Bool). if b then false else is_there (slice_get old ((k + 1) - 1))) some
        ∙ ap (λ i. is_there (slice_get old i)) place ∙ ap is_there is in
        ap (λ ms. Some (Some (told_all excerpt ms))) (same (k + 1) made)

-- an excerpt that is told is still made, and no other one
pub made-still : (old new : List (Option Excerpt)) (mentions_of : ℕ → List Mention) → TellsEach old new mentions_of → (v : ℕ) → is_made new v ≡ is_made old v
made-still old new mentions_of tells v =
    ap (λ (b : Bool). if v == 0 then false else b) (ap is_there (tells (v - 1)) ∙ still (mentions_of ((v - 1) + 1)) (slice_get old (v - 1)))
  where
    still : (mentions : List Mention) (o : Option (Option Excerpt)) → is_there (option_map (told_if_made mentions) o) ≡ is_there o
    still mentions None = refl
    still mentions (Some None) = refl
    still mentions (Some (Some excerpt)) = refl

-- one after the other
pub tells-then : (old mid new : List (Option Excerpt)) (first second : ℕ → List Mention) → TellsEach old mid first → TellsEach mid new second → TellsEach old new (λ v. first v ++ second v)
tells-then old mid new first second before after =
    λ k. after k ∙ (ap (option_map (told_if_made (second (k + 1)))) (before k) ∙ both (first (k + 1)) (second (k + 1)) (slice_get old k))

-- ---- one excerpt alone

pub slice_get-here : (xs : List (Option Excerpt)) (i : ℕ) (x : Option Excerpt) → i < length xs → slice_get (set xs i x) i ≡ Some x
slice_get-here [] i x within = absurd (omega (arith, within))
slice_get-here (y ∷ xs) zero x within = refl
slice_get-here (y ∷ xs) (suc i) x within = slice_get-here xs i x (omega (arith, within))

pub slice_get-elsewhere : (xs : List (Option Excerpt)) (i k : ℕ) (x : Option Excerpt) → k ≢ i → slice_get (set xs i x) k ≡ slice_get xs k
slice_get-elsewhere [] i k x other = refl
slice_get-elsewhere (y ∷ xs) zero zero x other = absurd (other refl)
slice_get-elsewhere (y ∷ xs) zero (suc k) x other = refl
slice_get-elsewhere (y ∷ xs) (suc i) zero x other = refl
slice_get-elsewhere (y ∷ xs) (suc i) (suc k) x other = slice_get-elsewhere xs i k x (λ same. other (ap suc same))

-- the mentions of a member, where its revision has this number
abbrev pub where_it_is : ℕ → ℕ → List Mention → List Mention
where_it_is number v mentions = cond (number == v) mentions []

by_test : (xs : List (Option Excerpt)) (i k : ℕ) (mentions : List Mention) (x : Option Excerpt) (test : Bool) → (suc i == k + 1) ≡ test → slice_get xs i ≡ Some x → i < length xs
    → slice_get (set xs i (told_if_made mentions x)) k ≡ option_map (told_if_made (cond test mentions [])) (slice_get xs k)
by_test xs i k mentions x true is at within =
    let here : suc i ≡ k + 1 = eqb-true (suc i) (k + 1) is in
    let same : k ≡ i = omega (arith, here) in
    subst (λ j. slice_get (set xs i (told_if_made mentions x)) j ≡ option_map (told_if_made mentions) (slice_get xs j)) (sym same)
    (slice_get-here xs i (told_if_made mentions x) within ∙ sym (ap (option_map (told_if_made mentions)) at))
by_test xs i k mentions x false is at within =
    let elsewhere : k ≢ i = λ same. eqb-false (suc i) (k + 1) is (omega (arith, same)) in
    slice_get-elsewhere xs i k (told_if_made mentions x) elsewhere ∙ unchanged (slice_get xs k)

-- the excerpt at this place is told, which is that of the revision with the next number
pub tells-one : (xs : List (Option Excerpt)) (i : ℕ) (x : Option Excerpt) (mentions_of : ℕ → List Mention) (new : Option Excerpt) → i < length xs → slice_get xs i ≡ Some x → new ≡ told_if_made (mentions_of (suc i)) x
    → TellsEach xs (set xs i new) (λ v. where_it_is (suc i) v (mentions_of v))
tells-one xs i x mentions_of new within at is = λ k. told k (suc i == k + 1) refl
  where
    told : (k : ℕ) (test : Bool) → (suc i == k + 1) ≡ test → slice_get (set xs i new) k ≡ option_map (told_if_made (cond test (mentions_of (k + 1)) [])) (slice_get xs k)
    told k true test =
        let here : suc i ≡ k + 1 = eqb-true (suc i) (k + 1) test in
        rw (is, ← here) (by_test xs i k (mentions_of (suc i)) x true test at within)
    told k false test = rw is (by_test xs i k (mentions_of (suc i)) x false test at within)

-- the same by the number of the revision
pub tells-at : (xs : List (Option Excerpt)) (number : ℕ) (x : Option Excerpt) (mentions_of : ℕ → List Mention) (new : Option Excerpt) → 0 < number → number ≤ length xs → slice_get xs (number - 1) ≡ Some x
    → new ≡ told_if_made (mentions_of number) x → TellsEach xs (set xs (number - 1) new) (λ v. where_it_is number v (mentions_of v))
tells-at xs zero x mentions_of new pos within at is = absurd (omega (arith, pos))
tells-at xs (suc i) x mentions_of new pos within at is =
    let back : suc i - 1 ≡ i = omega arith in
    subst (λ j. TellsEach xs (set xs j new) (λ v. where_it_is (suc i) v (mentions_of v))) (sym back)
    (tells-one xs i x mentions_of new (omega (arith, within)) (subst (λ j. slice_get xs j ≡ Some x) back at) is)

-- no excerpt is that of a revision with this number
pub tells-none : (xs : List (Option Excerpt)) (number : ℕ) (mentions_of : ℕ → List Mention) → (number ≡ 0) ⊎ (length xs < number) → TellsEach xs xs (λ v. where_it_is number v (mentions_of v))
tells-none xs number mentions_of none = λ k. told k (number == k + 1) refl
  where
    told : (k : ℕ) (test : Bool) → (number == k + 1) ≡ test → slice_get xs k ≡ option_map (told_if_made (cond test (mentions_of (k + 1)) [])) (slice_get xs k)
    told k true test =
        let here : number ≡ k + 1 = eqb-true number (k + 1) test in
        let past : length xs ≤ k = elim none [ inl zero_is ↦ absurd (omega (arith, here, zero_is)) | inr more ↦ omega (arith, here, more) ] in
        rw (slice_get_past xs k past) refl
    told k false test = unchanged (slice_get xs k)

-- ---- all of them

get-same : (xs ys : List (Option Excerpt)) → ((k : ℕ) → slice_get xs k ≡ slice_get ys k) → xs ≡ ys
get-same [] [] same = refl
get-same [] (y ∷ ys) same = let none : None ≡ Some y = same 0 in cc
get-same (x ∷ xs) [] same = let none : Some x ≡ None = same 0 in cc
get-same (x ∷ xs) (y ∷ ys) same =
    let first : Some x ≡ Some y = same 0 in
    let here : x ≡ y = cc in
    let rest : xs ≡ ys = get-same xs ys (λ k. same (suc k)) in cc

-- told of its package, each excerpt that is wanted is that of its revision
pub excerpts-told : (nodes : Nodes) (revisions : List Revision) (wanted : List Bool) (new : List (Option Excerpt)) → AreNumbered revisions
    → TellsEach (map (wanted_nothing wanted) revisions) new (λ v. package_mentions (is_moved revisions v) v nodes) → new ≡ excerpts_of nodes revisions wanted
excerpts-told nodes revisions wanted new numbered tells =
    get-same new (excerpts_of nodes revisions wanted) (λ k.
    tells k ∙ ap (option_map (told_if_made (package_mentions (is_moved revisions (k + 1)) (k + 1) nodes))) (slice_get-map (wanted_nothing wanted) revisions k)
    ∙ at_place k (slice_get revisions k) refl ∙ sym (slice_get-map (wanted_excerpt nodes wanted) revisions k))
  where
    told_one : (mentions : List Mention) (revision : Revision) (test : Bool)
        → told_if_made mentions (if test then Some (nothing_told revision.kind) else None) ≡ if test then Some (told_all (nothing_told revision.kind) mentions) else None
    told_one mentions revision true = refl
    told_one mentions revision false = refl

    at_place : (k : ℕ) (o : Option Revision) → slice_get revisions k ≡ o
        → option_map (told_if_made (package_mentions (is_moved revisions (k + 1)) (k + 1) nodes)) (option_map (wanted_nothing wanted) o)
        ≡ option_map (wanted_excerpt nodes wanted) o
    at_place k None is = refl
    at_place k (Some revision) is =
        let number : revision.number ≡ k + 1 = numbered k revision is in
        let place : (k + 1) - 1 ≡ k = omega arith in
        let moved : is_moved revisions (k + 1) ≡ is_move revision.kind = ap (λ i. moved_one (slice_get revisions i)) place ∙ ap moved_one is in
        let mentions : package_mentions (is_moved revisions (k + 1)) (k + 1) nodes ≡ package_mentions (is_move revision.kind) revision.number nodes = rw (moved, number) refl in
        ap Some (ap (λ ms. told_if_made ms (wanted_nothing wanted revision)) mentions
        ∙ told_one (package_mentions (is_move revision.kind) revision.number nodes) revision (is_wanted wanted revision.number))
