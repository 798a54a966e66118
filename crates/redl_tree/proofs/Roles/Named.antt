-- A fact of each element with a name, from the fact of one element with this name.
use Prim.Native.String.{String}
use Rattle.std.proofs.Common.{◌≡◌, List, [], ◌∷◌, Bool, true, false, ◌||◌, Some, None, is_some, refl, sym, ◌∙◌, subst, true≢false, codes, bytes_eq, if◌then◌else◌}
use Rattle.std.proofs.lemmas.Bool.{and_parts}
use Rattle.std.proofs.lemmas.Slice.Eq.{bytes_eq-Decides}
use Rattle.redl_tree.specs.Model.Nodes.{Tag}
use Rattle.redl_tree.specs.Roles.Names.{is, is_w, is_any}
use Rattle.redl_tree.specs.Roles.Places.{trace_of}
use Rattle.redl_tree.specs.declared.kinds.Trace.TheVariants.{Ins, Del, From, To}
use Rattle.redl_tree.specs.declared.kinds.Space.{Space}
use Rattle.redl_tree.specs.declared.kinds.Space.TheVariants.{W, M, Pkg, Other}

is_w-W : (s : Space) → is_w s ≡ true → s ≡ W
is_w-W W e = refl
is_w-W M e = absurd (true≢false (sym e))
is_w-W Pkg e = absurd (true≢false (sym e))
is_w-W Other e = absurd (true≢false (sym e))

-- the space and the local name of a named element
pub record Named (name : String) (tag : Tag) : Type 0 where
  pub space : tag.space ≡ W
  pub local : tag.local ≡ codes name

-- an element that passes the test for a name is one of W, and its local name is this one
pub named : (name : String) (tag : Tag) → is name tag ≡ true → Named name tag
named name tag e =
    let both = and_parts (is_w tag.space) (bytes_eq tag.local (codes name)) e in
    record { space = is_w-W tag.space both.0; local = (bytes_eq-Decides tag.local (codes name)).0 both.1 }

-- a fact on names of an element with this name
pub by_name : (P : Tag → Type 0) (name : String) (tag : Tag) → is name tag ≡ true →
    P (record tag { space = W; local = codes name }) → P tag
by_name P name tag e h =
    let n = named name tag e in
    subst (λ s. P (record tag { space = s; local = tag.local })) (sym n.space)
    (subst (λ l. P (record tag { space = W; local = l })) (sym n.local) h)

-- the fact holds of the element under each of these names
abbrev pub AllNames : (Tag → Type 0) → Tag → List String → Type 0
AllNames P tag [] = Unit {0}
AllNames P tag (name ∷ names) = P (record tag { space = W; local = codes name }) × AllNames P tag names

-- what holds under each of some names holds of an element that has one of them
pub by_names : (P : Tag → Type 0) (names : List String) (tag : Tag) → is_any names tag ≡ true → AllNames P tag names → P tag
by_names P [] tag e h = absurd (true≢false (sym e))
by_names P (name ∷ names) tag e h = at (is name tag) refl e (λ k. by_names P names tag k h.1)
  where
    at : (b : Bool) → is name tag ≡ b → (b || is_any names tag) ≡ true → (is_any names tag ≡ true → P tag) → P tag
    at true is e ih = by_name P name tag is h.0
    at false is e ih = ih e

-- content revisions and markers, by their names

some_trace : (a b c d : Bool) →
    is_some (if a then Some Ins else if b then Some Del else if c then Some From else if d then Some To else None) ≡ (a || (b || (c || (d || false))))
some_trace true b c d = refl
some_trace false true c d = refl
some_trace false false true d = refl
some_trace false false false true = refl
some_trace false false false false = refl

-- what holds under each name of a content revision holds of a content revision
pub by_trace : (P : Tag → Type 0) (tag : Tag) → is_some (trace_of tag) ≡ true →
    AllNames P tag ("ins" ∷ "del" ∷ "moveFrom" ∷ "moveTo" ∷ []) → P tag
by_trace P tag e h =
    by_names P ("ins" ∷ "del" ∷ "moveFrom" ∷ "moveTo" ∷ []) tag
    (sym (some_trace (is "ins" tag) (is "del" tag) (is "moveFrom" tag) (is "moveTo" tag)) ∙ e) h
