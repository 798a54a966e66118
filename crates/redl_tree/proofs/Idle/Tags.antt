-- What an idle element is, and which names it does not have.
use Prim.Native.String.{String}
use Rattle.std.proofs.Common.{◌≡◌, ◌∙◌, refl, sym, ap, Bool, true, false, true≢false, ◌&&◌, codes, bytes_eq, eqb}
use Rattle.std.proofs.lemmas.Bool.{and_parts, and_from, eqb-true}
use Rattle.std.proofs.Math.Bool.{and-false}
use Rattle.redl_tree.specs.Model.Nodes.{Tag, Nodes, no_nodes, bytes, element, ◌⊕◌}
use Rattle.redl_tree.specs.Roles.Names.{is, is_w}
use Rattle.redl_tree.specs.Roles.Idle.{is_idle_name, is_plain_kind, is_in_none, is_idle_tag, is_idle_in}
use Rattle.redl_tree.specs.declared.kinds.Kind.{Kind}
use Rattle.redl_tree.specs.declared.kinds.Kind.TheVariants.{Plain, Content, Mark, Row, Cell, Change, Marker}
use Rattle.redl_tree.proofs.Reading.SameBytes.{same_bytes}

-- an element of W in no revision, with a name that no definition asks for
pub record Idle (in_run : Bool) (tag : Tag) : Type 0 where
  pub kind : tag.kind ≡ Plain
  pub rev : tag.rev ≡ 0
  pub space : is_w tag.space ≡ true
  pub name : is_idle_name in_run tag.local ≡ true

plain-is : (k : Kind) → is_plain_kind k ≡ true → k ≡ Plain
plain-is Plain h = refl
plain-is (Content t) h = absurd (true≢false (sym h))
plain-is (Mark t) h = absurd (true≢false (sym h))
plain-is (Row t) h = absurd (true≢false (sym h))
plain-is (Cell t) h = absurd (true≢false (sym h))
plain-is (Change p) h = absurd (true≢false (sym h))
plain-is Marker h = absurd (true≢false (sym h))

idle_of : (in_run : Bool) (tag : Tag) → is_idle_tag in_run tag ≡ true → Idle in_run tag
idle_of in_run tag h =
    let one = and_parts (is_in_none tag) (is_w tag.space && is_idle_name in_run tag.local) h in
    let two = and_parts (is_w tag.space) (is_idle_name in_run tag.local) one.1 in
    let label = and_parts (is_plain_kind tag.kind) (eqb tag.rev 0) one.0 in
    record { kind = plain-is tag.kind label.0; rev = eqb-true tag.rev 0 label.1; space = two.0; name = two.1 }

-- the first of some idle nodes, where it is an element
pub record IdleParts (in_run : Bool) (tag : Tag) (kids rest : Nodes) : Type 0 where
  pub own : Idle in_run tag
  pub below : is_idle_in (is "r" tag) kids ≡ true
  pub later : is_idle_in in_run rest ≡ true

-- where the first of some idle nodes is an element, it is idle, and so are its kids and the nodes after it
pub idle_parts : (in_run : Bool) (tag : Tag) (kids rest : Nodes) → is_idle_in in_run (element tag kids rest) ≡ true → IdleParts in_run tag kids rest
idle_parts in_run tag kids rest h =
    let one = and_parts (is_idle_tag in_run tag) (is_idle_in (is "r" tag) kids && is_idle_in in_run rest) h in
    let two = and_parts (is_idle_in (is "r" tag) kids) (is_idle_in in_run rest) one.1 in
    record { own = idle_of in_run tag one.0; below = two.0; later = two.1 }

-- two lists of idle nodes, one after the other
pub idle-⊕ : (in_run : Bool) (x y : Nodes) → is_idle_in in_run x ≡ true → is_idle_in in_run y ≡ true → is_idle_in in_run (x ⊕ y) ≡ true
idle-⊕ in_run no_nodes y hx hy = hy
idle-⊕ in_run (bytes b rest) y hx hy = idle-⊕ in_run rest y hx hy
idle-⊕ in_run (element tag kids rest) y hx hy =
    let one = and_parts (is_idle_tag in_run tag) (is_idle_in (is "r" tag) kids && is_idle_in in_run rest) hx in
    let two = and_parts (is_idle_in (is "r" tag) kids) (is_idle_in in_run rest) one.1 in
    and_from (is_idle_tag in_run tag) (is_idle_in (is "r" tag) kids && is_idle_in in_run (rest ⊕ y)) one.0
    (and_from (is_idle_in (is "r" tag) kids) (is_idle_in in_run (rest ⊕ y)) two.0 (idle-⊕ in_run rest y two.1 hy))

-- it has no name that is asked for; of such a name this is so by computing
pub has-not : (name : String) (in_run : Bool) (tag : Tag) → Idle in_run tag → is_idle_name in_run (codes name) ≡ false → is name tag ≡ false
has-not name in_run tag i e = ap (λ b. is_w tag.space && b) (by_case (bytes_eq tag.local (codes name)) refl) ∙ and-false (is_w tag.space) where
  by_case : (b : Bool) → bytes_eq tag.local (codes name) ≡ b → b ≡ false
  by_case true same = absurd (true≢false (sym i.name ∙ ap (is_idle_name in_run) (same_bytes tag.local (codes name) same) ∙ e))
  by_case false other = refl
