-- Laws of names: an element with one name has no other, and is no element of mathematics.
use Prim.Native.String.{String}
use Rattle.std.proofs.Common.{◌≡◌, ◌∙◌, refl, sym, ap, List, [], ◌∷◌, Bool, true, false, true≢false, ◌&&◌, ◌||◌, not, codes, bytes_eq}
use Rattle.std.specs.Cmp.{first_so, second_so}
use Rattle.std.proofs.Math.Bool.{and-false, or-false, or-true}
use Rattle.std.proofs.lemmas.Bool.{not-true}
use Rattle.redl_tree.specs.Model.Nodes.{Tag}
use Rattle.redl_tree.specs.Roles.Names.{is, is_any, is_w, is_m, is_math}
use Rattle.redl_tree.specs.Roles.Places.{is_quiet}
use Rattle.redl_tree.specs.Decisions.Fates.{live_name}
use Rattle.redl_tree.specs.declared.kinds.Space.{Space}
use Rattle.redl_tree.specs.declared.kinds.Space.TheVariants.{W, M, Pkg, Other}
use Rattle.redl_tree.proofs.Reading.SameBytes.{same_bytes}

-- an element with one name has no other
pub is-other : (name other : String) (tag : Tag) → is name tag ≡ true → bytes_eq (codes name) (codes other) ≡ false →
    is other tag ≡ false
is-other name other tag h e =
    ap (λ bs. is_w tag.space && bytes_eq bs (codes other))
    (same_bytes tag.local (codes name) (second_so (is_w tag.space) (bytes_eq tag.local (codes name)) h))
    ∙ ap (λ b. is_w tag.space && b) e
    ∙ and-false (is_w tag.space)

w-no_m : (space : Space) → is_w space ≡ true → is_m space ≡ false
w-no_m W h = refl
w-no_m M h = absurd (true≢false (sym h))
w-no_m Pkg h = refl
w-no_m Other h = refl

-- nor is it an element of mathematics
pub is-no_math : (name other : String) (tag : Tag) → is name tag ≡ true → is_math other tag ≡ false
is-no_math name other tag h =
    ap (λ b. b && bytes_eq tag.local (codes other))
    (w-no_m tag.space (first_so (is_w tag.space) (bytes_eq tag.local (codes name)) h))

abbrev pub differs : String → List String → Bool
differs name [] = true
differs name (other ∷ others) = not (bytes_eq (codes name) (codes other)) && differs name others

-- none of these names is one of those
abbrev pub all_differ : List String → List String → Bool
all_differ [] others = true
all_differ (name ∷ names) others = differs name others && all_differ names others

is_any-others : (name : String) (others : List String) (tag : Tag) → is name tag ≡ true → differs name others ≡ true →
    is_any others tag ≡ false
is_any-others name [] tag h d = refl
is_any-others name (other ∷ others) tag h d =
    ap (λ b. b || is_any others tag)
    (is-other name other tag h
    (not-true (bytes_eq (codes name) (codes other))
    (first_so (not (bytes_eq (codes name) (codes other))) (differs name others) d)))
    ∙ is_any-others name others tag h (second_so (not (bytes_eq (codes name) (codes other))) (differs name others) d)

any-step : (a b : Bool) (P : Bool → Type 0) → (a || b) ≡ true → (a ≡ true → P true) → (a ≡ false → b ≡ true → P true) → P true
any-step true b P h f g = f refl
any-step false b P h f g = g refl h

-- an element with one of these names has none of the others
pub is_any-apart : (names others : List String) (tag : Tag) → is_any names tag ≡ true → all_differ names others ≡ true →
    is_any others tag ≡ false
is_any-apart [] others tag h d = absurd (true≢false (sym h))
is_any-apart (name ∷ names) others tag h d =
    any-step (is name tag) (is_any names tag) (λ b. is_any others tag ≡ false) h
    (λ e. is_any-others name others tag e (first_so (differs name others) (all_differ names others) d))
    (λ _ e. is_any-apart names others tag e (second_so (differs name others) (all_differ names others) d))

pub is_any-no_math : (names : List String) (other : String) (tag : Tag) → is_any names tag ≡ true → is_math other tag ≡ false
is_any-no_math [] other tag h = absurd (true≢false (sym h))
is_any-no_math (name ∷ names) other tag h =
    any-step (is name tag) (is_any names tag) (λ b. is_math other tag ≡ false) h
    (λ e. is-no_math name other tag e) (λ _ e. is_any-no_math names other tag e)

-- the names of containers, the roots of stories among them
abbrev pub frame_names : List String
frame_names =
    "document" ∷ "hdr" ∷ "ftr" ∷ "footnotes" ∷ "endnotes" ∷ "comments" ∷ "body" ∷ "footnote" ∷ "endnote" ∷ "comment"
    ∷ "tbl" ∷ "tr" ∷ "tc" ∷ "sdt" ∷ "customXml" ∷ "sdtContent" ∷ []

-- a container, by its name
abbrev pub is_frame : Tag → Bool
is_frame tag = is_any frame_names tag

-- a container has none of these names
pub frame-apart : (others : List String) (tag : Tag) → is_frame tag ≡ true → all_differ frame_names others ≡ true →
    is_any others tag ≡ false
frame-apart others tag h d = is_any-apart frame_names others tag h d

-- a container has no name outside the list of their names
pub frame-not : (other : String) (tag : Tag) → is_frame tag ≡ true → all_differ frame_names (other ∷ []) ≡ true →
    is other tag ≡ false
frame-not other tag h d = sym (or-false (is other tag)) ∙ frame-apart (other ∷ []) tag h d

-- a container holds content, not properties
pub frame-quiet : (tag : Tag) → is_frame tag ≡ true → is_quiet tag ≡ false
frame-quiet tag h =
    ap (λ b. b || is_math "ctrlPr" tag)
    (frame-apart ("pPr" ∷ "rPr" ∷ "sectPr" ∷ "tblPr" ∷ "tblPrEx" ∷ "trPr" ∷ "tcPr" ∷ "sdtPr" ∷ "sdtEndPr" ∷ "tblGrid" ∷ []) tag h refl)
    ∙ is_any-no_math frame_names "ctrlPr" tag h

pub frame-live_name : (tag : Tag) → is_frame tag ≡ true → live_name tag ≡ tag
frame-live_name tag h = rw (frame-not "delText" tag h refl, frame-not "delInstrText" tag h refl) refl

-- names among others: an element with one of these has one of those
abbrev pub among : String → List String → Bool
among name [] = false
among name (other ∷ others) = bytes_eq (codes name) (codes other) || among name others

-- each of these names is one of those
abbrev pub all_among : List String → List String → Bool
all_among [] others = true
all_among (name ∷ names) others = among name others && all_among names others

is-same : (name other : String) (tag : Tag) → is name tag ≡ true → bytes_eq (codes name) (codes other) ≡ true → is other tag ≡ true
is-same name other tag h e =
    ap (λ bs. is_w tag.space && bytes_eq tag.local bs) (sym (same_bytes (codes name) (codes other) e)) ∙ h

is_any-one : (name : String) (others : List String) (tag : Tag) → is name tag ≡ true → among name others ≡ true →
    is_any others tag ≡ true
is_any-one name [] tag h e = absurd (true≢false (sym e))
is_any-one name (other ∷ others) tag h e =
    any-step (bytes_eq (codes name) (codes other)) (among name others) (λ b. is_any (other ∷ others) tag ≡ true) e
    (λ k. ap (λ b. b || is_any others tag) (is-same name other tag h k))
    (λ _ k. ap (λ b. is other tag || b) (is_any-one name others tag h k) ∙ or-true (is other tag))

-- an element with one of some names has one of any names that these are among
pub is_any-among : (names others : List String) (tag : Tag) → is_any names tag ≡ true → all_among names others ≡ true →
    is_any others tag ≡ true
is_any-among [] others tag h d = absurd (true≢false (sym h))
is_any-among (name ∷ names) others tag h d =
    any-step (is name tag) (is_any names tag) (λ b. is_any others tag ≡ true) h
    (λ e. is_any-one name others tag e (first_so (among name others) (all_among names others) d))
    (λ _ e. is_any-among names others tag e (second_so (among name others) (all_among names others) d))

-- the same from one name
pub is-among : (name : String) (others : List String) (tag : Tag) → is name tag ≡ true → all_among (name ∷ []) others ≡ true →
    is_any others tag ≡ true
is-among name others tag h d = is_any-among (name ∷ []) others tag (or-false (is name tag) ∙ h) d
