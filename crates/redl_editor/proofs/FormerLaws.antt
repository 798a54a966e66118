-- The former says of changes: what they undo, and which revisions they tell apart.
use Rattle.std.proofs.Common.{◌≡◌, ◌<◌, ◌≤◌, ◌+◌, ◌==◌, ◌&&◌, ◌||◌, not, ℕ, zero, suc, List, [], ◌∷◌, ◌++◌, length, get_or, drop, map, Bool, true, false, ◌⊎◌, inl, inr, refl, sym, ap, ◌∙◌, arith, append_assoc, if◌then◌else◌}
use Rattle.std.proofs.lemmas.List.{ext_get_or, drop_more, drop_all, map-append, append-nil}
use Rattle.std.proofs.lemmas.List.Folds.{list_any-append}
use Rattle.std.proofs.lemmas.Option.{unwrap_or-slice_get}
use Rattle.std.proofs.lemmas.Bool.Decides.{eqb_tells}
use Rattle.std.proofs.lemmas.Bool.{not-false, and_right, or_parts}
use Rattle.std.proofs.Math.Bool.{or_assoc, or-false}
use Rattle.redl_laws.proofs.Leaves.Says.{set_say-length, set_each-length, set_say-same, set_say-other, set_say-own, same_say-is, same_say-refl}
use Rattle.redl_tree.specs.Decisions.Fates.{say_of}
use Rattle.redl_tree.specs.Leaves.Settings.{Setting, set_say, set_each, is_among, same_say, SameBut}
use Rattle.redl_tree.specs.declared.kinds.Say.{Say}
use Rattle.redl_tree.specs.declared.kinds.Say.TheVariants.{Keep}
use Rattle.redl_editor.specs.Changes.{setting_of, is_changed, former_of, differ}
use Rattle.redl_editor.specs.Holdings.{is_touched}
use Rattle.redl_editor.specs.declared.changing.Change.{Change}

-- ---- a revision that no former say is of has its say in the end

pub former-same : (says mid : List Say) (settings : List Setting) (n : ℕ) → is_among (former_of says settings) n ≡ false → say_of mid n ≡ say_of says n
    → say_of (set_each mid settings) n ≡ say_of says n
former-same says mid [] n out same = same
former-same says mid (setting ∷ later) n out same =
    at (not (same_say (say_of says setting.rev) setting.say)) refl out (former-same says (set_say mid setting.rev setting.say) later n)
  where
    next : List Say
    next = set_say mid setting.rev setting.say

    apart : ((n == setting.rev) ≡ false) → say_of next n ≡ say_of says n
    apart other = set_say-other mid setting.rev setting.say n other ∙ same

    own : same_say (say_of says setting.rev) setting.say ≡ true → n ≡ setting.rev → say_of next n ≡ say_of says n
    own is here =
        let had : say_of mid setting.rev ≡ setting.say = ap (say_of mid) (sym here) ∙ same ∙ ap (say_of says) here ∙ same_say-is (say_of says setting.rev) setting.say is in
        ap (λ xs. say_of xs n) (set_say-own mid setting.rev setting.say had) ∙ same

    kept : same_say (say_of says setting.rev) setting.say ≡ true
        → (((n == setting.rev) ≡ true) × (n ≡ setting.rev)) ⊎ (((n == setting.rev) ≡ false) × (n ≡ setting.rev → ⊥)) → say_of next n ≡ say_of says n
    kept is (inl e) = own is e.1
    kept is (inr e) = apart e.0

    at : (b : Bool) → not (same_say (say_of says setting.rev) setting.say) ≡ b
        → is_among (if b then record { rev = setting.rev; say = say_of says setting.rev } ∷ former_of says later else former_of says later) n ≡ false
        → (is_among (former_of says later) n ≡ false → say_of next n ≡ say_of says n → say_of (set_each next later) n ≡ say_of says n)
        → say_of (set_each next later) n ≡ say_of says n
    at true is h more =
        more (or_parts (n == setting.rev) (is_among (former_of says later) n) h).1
        (apart (or_parts (n == setting.rev) (is_among (former_of says later) n) h).0)
    at false is h more = more h (kept (not-false (same_say (say_of says setting.rev) setting.say) is) (eqb_tells n setting.rev))

-- ---- former says are those

abbrev pub AreFormer : List Say → List Setting → Type 0
AreFormer says [] = Unit {0}
AreFormer says (one ∷ later) = (one.say ≡ say_of says one.rev) × AreFormer says later

pub former-are : (says : List Say) (settings : List Setting) → AreFormer says (former_of says settings)
former-are says [] = tt
former-are says (setting ∷ later) = at (not (same_say (say_of says setting.rev) setting.say)) (former-are says later)
  where
    at : (b : Bool) → AreFormer says (former_of says later)
        → AreFormer says (if b then record { rev = setting.rev; say = say_of says setting.rev } ∷ former_of says later else former_of says later)
    at true more = (refl, more)
    at false more = more

-- ---- setting them undoes what was set

say-get : (says : List Say) (n : ℕ) → say_of says (suc n) ≡ get_or says n Keep
say-get says n = unwrap_or-slice_get says n Keep

same-says : (xs ys : List Say) → length xs ≡ length ys → ((n : ℕ) → say_of xs n ≡ say_of ys n) → xs ≡ ys
same-says xs ys as_many same = ext_get_or Keep xs ys as_many (λ i lt. sym (say-get xs i) ∙ same (suc i) ∙ say-get ys i)

say-past : (says : List Say) (n : ℕ) → length says ≤ n → say_of says (suc n) ≡ Keep
say-past says n past = say-get says n ∙ get-past says n past
  where
    get-past : (xs : List Say) (k : ℕ) → length xs ≤ k → get_or xs k Keep ≡ Keep
    get-past [] k h = refl
    get-past (x ∷ xs) zero h = absurd (omega (arith, h))
    get-past (x ∷ xs) (suc k) h = get-past xs k (omega (arith, h))

set-say-there : (says mid : List Say) (n : ℕ) → length mid ≡ length says → say_of (set_say mid n (say_of says n)) n ≡ say_of says n
set-say-there says mid zero as_many = refl
set-say-there says mid (suc n) as_many = at (nat-cases n (length mid))
  where
    nat-cases : (a b : ℕ) → (a < b) ⊎ (b ≤ a)
    nat-cases a zero = inr (omega arith)
    nat-cases zero (suc b) = inl (omega arith)
    nat-cases (suc a) (suc b) = elim (nat-cases a b) as (λ _. (suc a < suc b) ⊎ (suc b ≤ suc a)) [ inl h ↦ inl (omega (arith, h)) | inr h ↦ inr (omega (arith, h)) ]

    at : (n < length mid) ⊎ (length mid ≤ n) → say_of (set_say mid (suc n) (say_of says (suc n))) (suc n) ≡ say_of says (suc n)
    at (inl lt) = set_say-same mid (suc n) (say_of says (suc n)) (omega arith) (omega (arith, lt))
    at (inr past) =
        say-past (set_say mid (suc n) (say_of says (suc n))) n (omega (arith, past, set_say-length mid (suc n) (say_of says (suc n))))
        ∙ sym (say-past says n (omega (arith, past, as_many)))

undone : (says mid : List Say) (former : List Setting) → AreFormer says former → length mid ≡ length says
    → ((n : ℕ) → is_among former n ≡ false → say_of mid n ≡ say_of says n) → set_each mid former ≡ says
undone says mid [] are as_many same = same-says mid says as_many (λ n. same n refl)
undone says mid (one ∷ later) are as_many same =
    undone says (set_say mid one.rev one.say) later are.1 (set_say-length mid one.rev one.say ∙ as_many) (λ n out. at n (eqb_tells n one.rev) out)
  where
    at : (n : ℕ) → (((n == one.rev) ≡ true) × (n ≡ one.rev)) ⊎ (((n == one.rev) ≡ false) × (n ≡ one.rev → ⊥)) → is_among later n ≡ false
        → say_of (set_say mid one.rev one.say) n ≡ say_of says n
    at n (inl e) out =
        ap (say_of (set_say mid one.rev one.say)) e.1 ∙ ap (λ say. say_of (set_say mid one.rev say) one.rev) are.0
        ∙ set-say-there says mid one.rev as_many ∙ ap (say_of says) (sym e.1)
    at n (inr e) out =
        set_say-other mid one.rev one.say n e.0 ∙ same n (ap (λ b. b || is_among later n) e.0 ∙ out)

-- the law of undoing: the former says, set again, give the says that were
pub former-undone : (says : List Say) (settings : List Setting) → set_each (set_each says settings) (former_of says settings) ≡ says
former-undone says settings =
    undone says (set_each says settings) (former_of says settings) (former-are says settings) (set_each-length says settings)
    (λ n out. former-same says says settings n out refl)

-- where there are none, nothing is set
pub former-none : (says : List Say) (settings : List Setting) → former_of says settings ≡ [] → set_each says settings ≡ says
former-none says settings none = ap (set_each (set_each says settings)) (sym none) ∙ former-undone says settings

-- ---- which revisions have another say now

differ-changed : (says now : List Say) (former : List Setting) (rev : ℕ) → AreFormer says former
    → differ now former rev ≡ (is_among former rev && is_changed says now rev)
differ-changed says now [] rev are = refl
differ-changed says now (one ∷ later) rev are = at (eqb_tells one.rev rev) (eqb_tells rev one.rev) (differ-changed says now later rev are.1)
  where
    here : Bool
    here = not (same_say (say_of now one.rev) one.say)

    both : (b c : Bool) → (c || b && c) ≡ c
    both true true = refl
    both true false = refl
    both false true = refl
    both false false = refl

    at : (((one.rev == rev) ≡ true) × (one.rev ≡ rev)) ⊎ (((one.rev == rev) ≡ false) × (one.rev ≡ rev → ⊥))
        → (((rev == one.rev) ≡ true) × (rev ≡ one.rev)) ⊎ (((rev == one.rev) ≡ false) × (rev ≡ one.rev → ⊥))
        → differ now later rev ≡ (is_among later rev && is_changed says now rev)
        → (one.rev == rev && here || differ now later rev) ≡ ((rev == one.rev || is_among later rev) && is_changed says now rev)
    at (inl e) (inl f) more =
        let same : here ≡ is_changed says now rev =
        ap (λ say. not (same_say (say_of now one.rev) say)) are.0 ∙ ap (λ n. not (same_say (say_of now n) (say_of says n))) e.1 in
        ap (λ b. b && here || differ now later rev) e.0
        ∙ ap (λ b. b || differ now later rev) same
        ∙ ap (λ b. is_changed says now rev || b) more
        ∙ both (is_among later rev) (is_changed says now rev)
        ∙ sym (ap (λ b. (b || is_among later rev) && is_changed says now rev) f.0)
    at (inr e) (inr f) more =
        ap (λ b. b && here || differ now later rev) e.0 ∙ more ∙ sym (ap (λ b. (b || is_among later rev) && is_changed says now rev) f.0)
    at (inl e) (inr f) more = absurd (f.1 (sym e.1))
    at (inr e) (inl f) more = absurd (e.1 (sym f.1))

-- the law of what is changed: the former says that differ from the present ones are of just the revisions that have another say
pub former-differ : (says : List Say) (settings : List Setting) (rev : ℕ)
    → differ (set_each says settings) (former_of says settings) rev ≡ is_changed says (set_each says settings) rev
former-differ says settings rev =
    differ-changed says (set_each says settings) (former_of says settings) rev (former-are says settings)
    ∙ at (is_among (former_of says settings) rev) refl
  where
    at : (b : Bool) → is_among (former_of says settings) rev ≡ b → (b && is_changed says (set_each says settings) rev) ≡ is_changed says (set_each says settings) rev
    at true is = refl
    at false out =
        let same : say_of (set_each says settings) rev ≡ say_of says rev = former-same says says settings rev out refl in
        sym (ap (λ say. not (same_say say (say_of says rev))) same ∙ ap not (same_say-refl (say_of says rev)))

-- all other revisions have the says that they had
pub changed-same : (old new : List Say) → SameBut (is_changed old new) old new
changed-same old new n h = sym (same_say-is (say_of new n) (say_of old n) (not-false (same_say (say_of new n) (say_of old n)) h))

-- ---- a loop over changes

pub former-pushed : (says : List Say) (changes : List Change) (i : ℕ) (one made : Change) (so_far : List Change) → i < length changes → one ≡ get_or changes i one
    → not (same_say (say_of says one.rev) one.say) ≡ true → setting_of made ≡ record { rev = one.rev; say = say_of says one.rev }
    → map setting_of so_far ++ former_of says (map setting_of (drop i changes)) ≡ former_of says (map setting_of changes)
    → map setting_of (so_far ++ made ∷ []) ++ former_of says (map setting_of (drop (i + 1) changes)) ≡ former_of says (map setting_of changes)
former-pushed says changes i one made so_far lt is other made_is before =
    ap (λ xs. xs ++ former_of says (map setting_of (drop (i + 1) changes))) (map-append setting_of so_far (made ∷ []))
    ∙ append_assoc (map setting_of so_far) (setting_of made ∷ []) (former_of says (map setting_of (drop (i + 1) changes)))
    ∙ ap (λ x. map setting_of so_far ++ (x ∷ former_of says (map setting_of (drop (i + 1) changes)))) made_is
    ∙ ap (λ b. map setting_of so_far ++ (if b then record { rev = one.rev; say = say_of says one.rev } ∷ former_of says (map setting_of (drop (i + 1) changes))
    else former_of says (map setting_of (drop (i + 1) changes)))) (sym other)
    ∙ ap (λ x. map setting_of so_far ++ former_of says (setting_of x ∷ map setting_of (drop (i + 1) changes))) is
    ∙ ap (λ cs. map setting_of so_far ++ former_of says (map setting_of cs)) (sym (drop_more changes i one lt))
    ∙ before

pub former-passed : (says : List Say) (changes : List Change) (i : ℕ) (one : Change) (so_far : List Setting) (all : List Setting) → i < length changes → one ≡ get_or changes i one
    → not (same_say (say_of says one.rev) one.say) ≡ false
    → so_far ++ former_of says (map setting_of (drop i changes)) ≡ all
    → so_far ++ former_of says (map setting_of (drop (i + 1) changes)) ≡ all
former-passed says changes i one so_far all lt is same before =
    ap (λ b. so_far ++ (if b then record { rev = one.rev; say = say_of says one.rev } ∷ former_of says (map setting_of (drop (i + 1) changes))
    else former_of says (map setting_of (drop (i + 1) changes)))) (sym same)
    ∙ ap (λ x. so_far ++ former_of says (setting_of x ∷ map setting_of (drop (i + 1) changes))) is
    ∙ ap (λ cs. so_far ++ former_of says (map setting_of cs)) (sym (drop_more changes i one lt))
    ∙ before

pub former-done : (says : List Say) (changes : List Change) (i : ℕ) (so_far all : List Setting) → length changes ≤ i
    → so_far ++ former_of says (map setting_of (drop i changes)) ≡ all → so_far ≡ all
former-done says changes i so_far all past before =
    sym (append-nil so_far) ∙ ap (λ cs. so_far ++ former_of says (map setting_of cs)) (sym (drop_all i changes past)) ∙ before

-- ---- a loop over former says

pub differ-here : (says : List Say) (former : List Change) (i : ℕ) (one : Change) (rev : ℕ) → i < length former → one ≡ get_or former i one
    → differ says (map setting_of (drop i former)) rev
    ≡ (one.rev == rev && not (same_say (say_of says one.rev) one.say) || differ says (map setting_of (drop (i + 1) former)) rev)
differ-here says former i one rev lt is =
    ap (λ cs. differ says (map setting_of cs) rev) (drop_more former i one lt)
    ∙ ap (λ x. x.rev == rev && not (same_say (say_of says x.rev) x.say) || differ says (map setting_of (drop (i + 1) former)) rev) (sym is)

and-true : (a b : Bool) → b ≡ true → (a && b) ≡ a
and-true true b e = e
and-true false b e = refl

pub differ-pushed : (says : List Say) (former : List Change) (i : ℕ) (one : Change) (revs : List ℕ) (rev : ℕ) (all : Bool) → i < length former → one ≡ get_or former i one
    → not (same_say (say_of says one.rev) one.say) ≡ true → (is_touched revs rev || differ says (map setting_of (drop i former)) rev) ≡ all
    → (is_touched (revs ++ one.rev ∷ []) rev || differ says (map setting_of (drop (i + 1) former)) rev) ≡ all
differ-pushed says former i one revs rev all lt is other before =
    ap (λ b. b || differ says (map setting_of (drop (i + 1) former)) rev) (list_any-append (λ n. n == rev) revs (one.rev ∷ []))
    ∙ or_assoc (is_touched revs rev) (one.rev == rev || false) (differ says (map setting_of (drop (i + 1) former)) rev)
    ∙ ap (λ b. is_touched revs rev || (b || differ says (map setting_of (drop (i + 1) former)) rev))
    (or-false (one.rev == rev) ∙ sym (and-true (one.rev == rev) (not (same_say (say_of says one.rev) one.say)) other))
    ∙ ap (λ b. is_touched revs rev || b) (sym (differ-here says former i one rev lt is))
    ∙ before

pub differ-passed : (says : List Say) (former : List Change) (i : ℕ) (one : Change) (revs : List ℕ) (rev : ℕ) (all : Bool) → i < length former → one ≡ get_or former i one
    → not (same_say (say_of says one.rev) one.say) ≡ false → (is_touched revs rev || differ says (map setting_of (drop i former)) rev) ≡ all
    → (is_touched revs rev || differ says (map setting_of (drop (i + 1) former)) rev) ≡ all
differ-passed says former i one revs rev all lt is same before =
    ap (λ b. is_touched revs rev || (b || differ says (map setting_of (drop (i + 1) former)) rev))
    (sym (and_right (one.rev == rev) (not (same_say (say_of says one.rev) one.say)) same))
    ∙ ap (λ b. is_touched revs rev || b) (sym (differ-here says former i one rev lt is))
    ∙ before

pub differ-done : (says : List Say) (former : List Change) (i : ℕ) (revs : List ℕ) (rev : ℕ) (all : Bool) → length former ≤ i
    → (is_touched revs rev || differ says (map setting_of (drop i former)) rev) ≡ all → is_touched revs rev ≡ all
differ-done says former i revs rev all past before =
    sym (or-false (is_touched revs rev)) ∙ ap (λ cs. is_touched revs rev || differ says (map setting_of cs) rev) (sym (drop_all i former past)) ∙ before
