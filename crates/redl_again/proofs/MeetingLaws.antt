-- Stretches that meet, seen from the front.
use Rattle.std.proofs.Common.{◌≡◌, ◌∙◌, refl, sym, ap, ℕ, ◌+◌, nat_le, min, List, [], ◌∷◌, ◌++◌, append_assoc, append-nil, Bool, true, false, true≢false, ◌&&◌, ◌||◌, ◌==◌, not, codes, subst, arith, if◌then◌else◌}
use Rattle.std.proofs.lemmas.Bool.{eqb-true, false_from_ne_true}
use Rattle.std.proofs.Math.Bool.{and_assoc, and-false, or_assoc, or_comm, or-false}
use Rattle.redl_reading.specs.Lists.{begins}
use Rattle.redl_tree.specs.Model.IdleTexts.{is_idle_text, idle_nodes}
use Rattle.redl_tree.specs.Model.Laid.{AreLaid}
use Rattle.redl_tree.specs.Model.Nodes.{Tag, Nodes, no_nodes, bytes, element, ◌⊕◌, Close, Empty, End}
use Rattle.redl_tree.specs.Model.Text.{element_text, end_text, name_text, rest_text, start_text, text}
use Rattle.redl_tree.specs.declared.kinds.Space.TheVariants.{W}
use Rattle.redl_tree.proofs.Idle.Items.{laid_nodes}
use Rattle.redl_tree.proofs.Model.Laws.{⊕-no_nodes}
use Rattle.redl_tree.proofs.Reading.FoldLaws.{always_laid}
use Rattle.redl_again.specs.Inside.Meeting.{brackets, closes, join_well}
use Rattle.redl_reread_sound.specs.Together.{forms_end, meet_well, meets_well, stretched, together}

-- ---- `]` at the end of a text

abbrev step : ℕ → ℕ → ℕ
step before b = if b == 93 then min (before + 1) 2 else 0

pub brackets-append : (before : ℕ) (x y : List ℕ) → brackets before (x ++ y) ≡ brackets (brackets before x) y
brackets-append before [] y = refl
brackets-append before (b ∷ x) y = brackets-append (step before b) x y

other-byte : (x : ℕ) → (x ≡ 93 → ⊥) → (x == 93) ≡ false
other-byte x other = false_from_ne_true (x == 93) (λ is. other (eqb-true x 93 is))

-- the last byte is no `]`
pub brackets-none : (before x : ℕ) (t front : List ℕ) → t ≡ front ++ x ∷ [] → (x ≡ 93 → ⊥) → 0 ≡ brackets before t
brackets-none before x t front is other =
    sym (ap (brackets before) is ∙ brackets-append before front (x ∷ [])
    ∙ ap (λ (b : Bool). if b then min (brackets before front + 1) 2 else 0) (other-byte x other))

-- the last byte is one, after these
brackets-last : (before x : ℕ) (t front : List ℕ) → t ≡ front ++ x ∷ [] → x ≡ 93 → brackets before t ≡ min (brackets before front + 1) 2
brackets-last before x t front is own =
    ap (brackets before) is ∙ brackets-append before front (x ∷ []) ∙ ap (λ (b : ℕ). if b == 93 then min (brackets before front + 1) 2 else 0) own

pub brackets-one : (before x y : ℕ) (t front rest : List ℕ) → t ≡ front ++ x ∷ [] → x ≡ 93 → front ≡ rest ++ y ∷ [] → (y ≡ 93 → ⊥) → 1 ≡ brackets before t
brackets-one before x y t front rest is own there other =
    sym (brackets-last before x t front is own ∙ ap (λ n. min (n + 1) 2) (sym (brackets-none before y front rest there other)))

pub brackets-two : (before x y : ℕ) (t front rest : List ℕ) → t ≡ front ++ x ∷ [] → x ≡ 93 → front ≡ rest ++ y ∷ [] → y ≡ 93 → 2 ≡ brackets before t
brackets-two before x y t front rest is own there same =
    omega (arith, brackets-last before x t front is own, brackets-last before y front rest there same)

-- what is before two bytes doesn't count
two-count : (before x y : ℕ) → step (step before x) y ≡ step (step 0 x) y
two-count before x y = at (x == 93) (y == 93)
  where
    at : (p q : Bool) → (if q then min ((if p then min (before + 1) 2 else 0) + 1) 2 else 0) ≡ (if q then min ((if p then min (0 + 1) 2 else 0) + 1) 2 else 0)
    at p false = refl
    at false true = refl
    at true true = grind arith

two-brackets : (before x y : ℕ) (b : List ℕ) → brackets before (x ∷ y ∷ b) ≡ brackets 0 (x ∷ y ∷ b)
two-brackets before x y b = ap (λ n. brackets n b) (two-count before x y)

-- ---- what `]` before a text form with it

none-formed : (a b : Bool) → (a && false) || (b && false) ≡ false
none-formed true b = and-false b
none-formed false b = and-false b

forms-closes : (b c : List ℕ) → forms_end b c ≡ closes (brackets 0 b) c
forms-closes [] c = refl
forms-closes (x ∷ []) c = at (x == 93)
  where
    at : (p : Bool) → p && begins (codes "]>") c ≡ closes (if p then min (0 + 1) 2 else 0) c
    at true = sym (or-false (begins (codes "]>") c))
    at false = refl
forms-closes (x ∷ y ∷ []) c = at (x == 93) (y == 93)
  where
    at : (p q : Bool) → (p && (q && begins (codes ">") c)) || (q && begins (codes "]>") c)
        ≡ closes (if q then min ((if p then min (0 + 1) 2 else 0) + 1) 2 else 0) c
    at true true = or_comm (begins (codes ">") c) (begins (codes "]>") c)
    at true false = refl
    at false true = sym (or-false (begins (codes "]>") c))
    at false false = refl
forms-closes (x ∷ y ∷ z ∷ b) c = forms-closes (y ∷ z ∷ b) c ∙ ap (λ n. closes n c) (sym (two-brackets (step 0 x) y z b))

closes-nothing : (before : ℕ) → closes before [] ≡ false
closes-nothing before = none-formed (nat_le 1 before) (nat_le 2 before)

forms-nothing : (b : List ℕ) → forms_end b [] ≡ false
forms-nothing b = forms-closes b [] ∙ closes-nothing (brackets 0 b)

-- ---- three texts in a row

-- where `]]>` is formed at one of two meetings, from the left or from the right
three : (b c d : List ℕ) → forms_end b (c ++ d) || forms_end c d ≡ forms_end b c || forms_end (b ++ c) d
three [] c d = refl
three (x ∷ []) [] d = or-false (x == 93 && begins (codes "]>") d) ∙ sym (ap (λ t. t || (x == 93 && begins (codes "]>") d)) (and-false (x == 93)))
three (x ∷ []) (y ∷ []) d = at (x == 93) (y == 93)
  where
    at : (p q : Bool) → (p && (q && begins (codes ">") d)) || (q && begins (codes "]>") d)
        ≡ (p && (q && false)) || ((p && (q && begins (codes ">") d)) || (q && begins (codes "]>") d))
    at true true = refl
    at true false = refl
    at false q = refl
three (x ∷ []) (y ∷ z ∷ c) d = refl
three (x ∷ y ∷ []) [] d =
    or-false ((x == 93 && (y == 93 && begins (codes ">") d)) || (y == 93 && begins (codes "]>") d))
    ∙ at (x == 93) (y == 93)
  where
    at : (p q : Bool) → (p && (q && begins (codes ">") d)) || (q && begins (codes "]>") d)
        ≡ ((p && (q && false)) || (q && false)) || ((p && (q && begins (codes ">") d)) || (q && begins (codes "]>") d))
    at true true = refl
    at true false = refl
    at false true = refl
    at false false = refl
three (x ∷ y ∷ []) (z ∷ c) d =
    let first = x == 93 && (y == 93 && (z == 62 && true)) in
    or_assoc first (forms_end (y ∷ []) (z ∷ (c ++ d))) (forms_end (z ∷ c) d)
    ∙ ap (λ t. first || t) (three (y ∷ []) (z ∷ c) d)
    ∙ sym (or_assoc first (forms_end (y ∷ []) (z ∷ c)) (forms_end (y ∷ z ∷ c) d))
three (x ∷ y ∷ z ∷ b) c d = three (y ∷ z ∷ b) c d

-- ---- nodes

-- the stretch at the beginning of nodes
first_of : Nodes → List ℕ
first_of no_nodes = []
first_of (bytes b rest) = b
first_of (element tag kids rest) = []

meets-first : (b : List ℕ) (x : Nodes) → meets_well b x ≡ not (forms_end b (first_of x))
unfolding first_of
meets-first b no_nodes = ap not (sym (forms-nothing b))
meets-first b (bytes c rest) = refl
meets-first b (element tag kids rest) = ap not (sym (forms-nothing b))

first-stretched : (b : List ℕ) (x : Nodes) → first_of (stretched b x) ≡ b ++ first_of x
unfolding first_of
first-stretched b no_nodes = sym (append-nil b)
first-stretched b (bytes c rest) = refl
first-stretched b (element tag kids rest) = sym (append-nil b)

not-or : (p q m : Bool) → not p && (not q && m) ≡ not (p || q) && m
not-or true q m = refl
not-or false q m = refl

meet-joined : (b : List ℕ) (x : Nodes) → not (forms_end b (first_of (together x))) && meet_well x ≡ join_well (brackets 0 b) x
unfolding first_of
meet-joined b no_nodes = ap (λ t. not t && true) (forms-nothing b)
meet-joined b (bytes c rest) =
    let d = first_of (together rest) in
    ap (λ (z : List ℕ). not (forms_end b z) && (meets_well c (together rest) && meet_well rest)) (first-stretched c (together rest))
    ∙ ap (λ t. not (forms_end b (c ++ d)) && (t && meet_well rest)) (meets-first c (together rest))
    ∙ not-or (forms_end b (c ++ d)) (forms_end c d) (meet_well rest)
    ∙ ap (λ t. not t && meet_well rest) (three b c d)
    ∙ sym (not-or (forms_end b c) (forms_end (b ++ c) d) (meet_well rest))
    ∙ ap (λ t. not (forms_end b c) && t) (meet-joined (b ++ c) rest)
    ∙ ap (λ n. not (forms_end b c) && join_well n rest) (brackets-append 0 b c)
    ∙ ap (λ t. not t && join_well (brackets (brackets 0 b) c) rest) (forms-closes b c)
meet-joined b (element tag kids rest) =
    ap (λ t. not t && (meet_well kids && meet_well rest)) (forms-nothing b)
    ∙ ap (λ t. t && meet_well rest) (meet-joined [] kids)
    ∙ ap (λ t. join_well 0 kids && t) (meet-joined [] rest)

-- no stretches that meet form `]]>` exactly where none do from the front
pub join-meet : (x : Nodes) → join_well 0 x ≡ meet_well x
join-meet x = sym (meet-joined [] x)

-- ---- kept text: its nodes are read, so no bytes stand beside bytes

-- a tag begins with `<`, so `]` before it form nothing with it
closes-tag : (before : ℕ) (t : List ℕ) → closes before (60 ∷ t) ≡ false
closes-tag before t = none-formed (nat_le 1 before) (nat_le 2 before)

closes-before : (before : ℕ) (b t : List ℕ) → closes before (b ++ 60 ∷ t) ≡ closes before b
closes-before before [] t = closes-tag before t ∙ sym (closes-nothing before)
closes-before before (x ∷ []) t = refl
closes-before before (x ∷ y ∷ b) t = refl

-- a tag ends with `>`, so no `]` is at its end
brackets-tag : (before : ℕ) (t : List ℕ) → brackets before (t ++ 62 ∷ []) ≡ 0
brackets-tag before t = brackets-append before t (62 ∷ [])

brackets-behind : (before : ℕ) (s t : List ℕ) → ((n : ℕ) → brackets n t ≡ 0) → brackets before (s ++ t) ≡ 0
brackets-behind before s t none = brackets-append before s t ∙ none (brackets before s)

brackets-element : (before : ℕ) (tag : Tag) (kids : List ℕ) → brackets before (element_text tag kids) ≡ 0
brackets-element before tag kids = brackets-behind before (start_text tag) (rest_text tag tag.close kids) (at tag.close)
  where
    at : (close : Close) (n : ℕ) → brackets n (rest_text tag close kids) ≡ 0
    at Empty n = refl
    at (End white) n =
        brackets-behind n (62 ∷ []) (kids ++ end_text tag white)
        (λ m. brackets-behind m kids (end_text tag white)
        (λ k. brackets-behind k (60 ∷ 47 ∷ []) (name_text tag.prefix tag.local ++ (white ++ (62 ∷ [])))
        (λ j. brackets-behind j (name_text tag.prefix tag.local) (white ++ (62 ∷ [])) (λ i. brackets-tag i white))))

brackets-after : (before : ℕ) (tag : Tag) (kids t : List ℕ) → brackets before (element_text tag kids ++ t) ≡ brackets 0 t
brackets-after before tag kids t = brackets-append before (element_text tag kids) t ∙ ap (λ n. brackets n t) (brackets-element before tag kids)

joined-element : (before : ℕ) (tag : Tag) (kids later rest : Nodes) → join_well 0 kids ≡ true → join_well 0 (later ⊕ rest) ≡ join_well (brackets 0 (text later)) rest
    → join_well 0 kids && join_well 0 (later ⊕ rest) ≡ join_well (brackets before (element_text tag (text kids) ++ text later)) rest
joined-element before tag kids later rest inner after =
    ap (λ t. t && join_well 0 (later ⊕ rest)) inner ∙ after ∙ ap (λ n. join_well n rest) (sym (brackets-after before tag (text kids) (text later)))

-- all of a text but its first byte, where an element comes first
behind_first : Tag → Nodes → Nodes → List ℕ
behind_first tag kids later = ((name_text tag.prefix tag.local ++ tag.tail) ++ rest_text tag tag.close (text kids)) ++ text later

join-laid : (before : ℕ) (x rest : Nodes) → AreLaid W x → join_well before (x ⊕ rest) ≡ not (closes before (text x)) && join_well (brackets before (text x)) rest
unfolding behind_first
join-laid before no_nodes rest laid = ap (λ t. not t && join_well before rest) (sym (closes-nothing before))
join-laid before (element tag kids later) rest laid =
    let whole = text (element tag kids later) in
    joined-element before tag kids later rest (sym (ap (join_well 0) (⊕-no_nodes kids)) ∙ join-laid 0 kids no_nodes laid.2) (join-laid 0 later rest laid.3)
    ∙ ap (λ t. not t && join_well (brackets before whole) rest) (sym (closes-tag before (behind_first tag kids later)))
join-laid before (bytes b no_nodes) rest laid = ap (λ (z : List ℕ). not (closes before z) && join_well (brackets before z) rest) (sym (append-nil b))
join-laid before (bytes b (bytes c later)) rest laid = absurd (true≢false laid.1)
join-laid before (bytes b (element tag kids later)) rest laid =
    let whole = text (element tag kids later) in
    ap (λ t. not (closes before b) && t)
    (joined-element (brackets before b) tag kids later rest (sym (ap (join_well 0) (⊕-no_nodes kids)) ∙ join-laid 0 kids no_nodes laid.2.2) (join-laid 0 later rest laid.2.3))
    ∙ ap (λ n. not (closes before b) && join_well n rest) (sym (brackets-append before b whole))
    ∙ ap (λ t. not t && join_well (brackets before (b ++ whole)) rest) (sym (closes-before before b (behind_first tag kids later)))

-- kept text meets others as a stretch does
pub join-kept : (before : ℕ) (t : List ℕ) (rest : Nodes) → is_idle_text t ≡ true → text (idle_nodes t) ≡ t
    → join_well before (idle_nodes t ⊕ rest) ≡ not (closes before t) && join_well (brackets before t) rest
join-kept before t rest is same =
    join-laid before (idle_nodes t) rest (subst (AreLaid W) (laid_nodes t is) (always_laid W t))
    ∙ ap (λ (z : List ℕ). not (closes before z) && join_well (brackets before z) rest) same

pub kept-well : (new old : Bool) (before after : ℕ) (t : List ℕ) (rest : Nodes) → is_idle_text t ≡ true → text (idle_nodes t) ≡ t
    → new ≡ old && not (closes before t) → after ≡ brackets before t → new && join_well after rest ≡ old && join_well before (idle_nodes t ⊕ rest)
kept-well new old before after t rest is same well behind =
    ap (λ b. b && join_well after rest) well ∙ ap (λ n. (old && not (closes before t)) && join_well n rest) behind
    ∙ and_assoc old (not (closes before t)) (join_well (brackets before t) rest)
    ∙ ap (λ b. old && b) (sym (join-kept before t rest is same))
