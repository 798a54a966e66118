-- Each named kind is in the table once and found by its name, and no name is that of two kinds.
use Rattle.std.proofs.Common.{◌≡◌, ◌↔◌, ℕ, Bool, true, false, cond, List, [], ◌∷◌, Option, Some, IsTrue, filter, find, length, refl, sym, ap, subst, ◌∙◌}
use Rattle.std.specs.List.{list_all}
use Rattle.std.proofs.lemmas.Option.{same_Some}
use Rattle.std.proofs.lemmas.Slice.Eq.{bytes_eq-Decides}
use Rattle.std.proofs.lemmas.Bool.{and_parts}
use Rattle.redl_tree.specs.declared.kinds.Trace.TheVariants.{Ins, Del, From, To}
use Rattle.redl_tree.specs.declared.kinds.Prop.TheVariants as props
use Rattle.redl_kinds.specs.declared.rev_kind.RevKind.{RevKind}
use Rattle.redl_kinds.specs.declared.rev_kind.RevKind.TheVariants.{Content, Move, Mark, Row, Cell, Change}
use Rattle.redl_kinds.specs.Kinds.{is_named, is_same_kind}
use Rattle.redl_kinds.specs.KindNames.{kind_name, is_name_of, kind_named}
use Rattle.redl_kinds.specs.declared.kind_names.TheConstants.{KINDS}

-- each named kind is in the table once
pub listed_once : (kind : RevKind) → IsTrue (is_named kind) → length (filter (is_same_kind kind) KINDS) ≡ 1
listed_once (Content Ins) named = refl
listed_once (Content Del) named = refl
listed_once (Content From) named = refl
listed_once (Content To) named = refl
listed_once Move named = refl
listed_once (Mark Ins) named = refl
listed_once (Mark Del) named = refl
listed_once (Mark From) named = refl
listed_once (Mark To) named = refl
listed_once (Row Ins) named = refl
listed_once (Row Del) named = refl
listed_once (Row From) named = absurd cc
listed_once (Row To) named = absurd cc
listed_once (Cell Ins) named = refl
listed_once (Cell Del) named = refl
listed_once (Cell From) named = absurd cc
listed_once (Cell To) named = absurd cc
listed_once (Change props.Run) named = refl
listed_once (Change props.Para) named = refl
listed_once (Change props.Sect) named = refl
listed_once (Change props.Table) named = refl
listed_once (Change props.Except) named = refl
listed_once (Change props.Row) named = refl
listed_once (Change props.Cell) named = refl

-- each named kind is in the table, and before it no kind with the same name
found : (kind : RevKind) → IsTrue (is_named kind) → find (is_name_of (kind_name kind)) KINDS ≡ Some kind
found (Content Ins) named = refl
found (Content Del) named = refl
found (Content From) named = refl
found (Content To) named = refl
found Move named = refl
found (Mark Ins) named = refl
found (Mark Del) named = refl
found (Mark From) named = refl
found (Mark To) named = refl
found (Row Ins) named = refl
found (Row Del) named = refl
found (Row From) named = absurd cc
found (Row To) named = absurd cc
found (Cell Ins) named = refl
found (Cell Del) named = refl
found (Cell From) named = absurd cc
found (Cell To) named = absurd cc
found (Change props.Run) named = refl
found (Change props.Para) named = refl
found (Change props.Sect) named = refl
found (Change props.Table) named = refl
found (Change props.Except) named = refl
found (Change props.Row) named = refl
found (Change props.Cell) named = refl

-- what is found in these kinds has the name, and is named
takes_among : (kinds : List RevKind) → IsTrue (list_all is_named kinds) → (name : List ℕ) (kind : RevKind) → find (is_name_of name) kinds ≡ Some kind → IsTrue (is_named kind) × (kind_name kind ≡ name)
takes_among [] all name kind e = absurd cc
takes_among (other ∷ kinds) all name kind e =
    let both = and_parts (is_named other) (list_all is_named kinds) all in
    step other (find (is_name_of name) kinds) name kind (is_name_of name other) refl both.0 (takes_among kinds both.1 name kind) e where
      step : (other : RevKind) (later : Option RevKind) (name : List ℕ) (kind : RevKind) (t : Bool) → is_name_of name other ≡ t → IsTrue (is_named other)
          → (later ≡ Some kind → IsTrue (is_named kind) × (kind_name kind ≡ name))
          → cond t (Some other) later ≡ Some kind → IsTrue (is_named kind) × (kind_name kind ≡ name)
      step other later name kind true h first next e =
          let same = same_Some other kind e in
          let P : RevKind → Type 0 = λ k. IsTrue (is_named k) × (kind_name k ≡ name) in
          subst P same (first, (bytes_eq-Decides (kind_name other) name).0 h)
      step other later name kind false h first next e = next e

-- a kind is found by a name where it is named and has it
pub kind_named-exact : (name : List ℕ) (kind : RevKind) → (kind_named name ≡ Some kind) ↔ (IsTrue (is_named kind) × (kind_name kind ≡ name))
unfolding kind_named
kind_named-exact name kind =
    (takes_among KINDS refl name kind, λ h. ap (λ (n : List ℕ). find (is_name_of n) KINDS) (sym h.1) ∙ found kind h.0)

-- the same from the facts of the code
pub exact : (name : List ℕ) (result : Option RevKind) → result ≡ find (is_name_of name) KINDS
    → (kind : RevKind) → (result ≡ Some kind) ↔ (IsTrue (is_named kind) × (kind_name kind ≡ name))
unfolding kind_named
exact name result is kind = rw is (kind_named-exact name kind)
