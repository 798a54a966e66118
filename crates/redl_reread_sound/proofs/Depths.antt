-- A pass gives nodes that are at most twice as deep: in each list, what stands between joined paragraphs goes one deeper, and nothing else does.
use Rattle.std.proofs.Common.{◌≤◌, ◌+◌, ◌-◌, ℕ, List, [], ◌∷◌, Bool, true, false, ◌&&◌, ◌||◌, not, Option, Some, None, arith, if◌then◌else◌}
use Rattle.std.proofs.Math.Nat.{le-max_left, le-max_right, max-le}
use Rattle.redl_tree.specs.Decisions.Fates.{fate_of, renamed}
use Rattle.redl_tree.specs.Decisions.Groups.{GroupPiece, para, thin, thick, has_thick, joins, taken, ended, unjoined_para, given, held_by, grouped_from}
use Rattle.redl_tree.specs.Decisions.Packages.{is_root, element_stories, left_after, changed_in, pass_rule, pass_package}
use Rattle.redl_tree.specs.Decisions.Pass.{by_fate, kept_kids, element_pass, is_block_para, pieces, pass}
use Rattle.redl_tree.specs.Decisions.Restored.{Rejected, rejected, rejected_as, former_kids, is_uncovered, present, restored, after_change}
use Rattle.redl_tree.specs.Decisions.Tables.{goes_at, para_is_cut}
use Rattle.redl_tree.specs.Model.Kids.{only, without, has_element}
use Rattle.redl_tree.specs.Model.Nodes.{Tag, Nodes, no_nodes, bytes, element, ◌⊕◌}
use Rattle.redl_tree.specs.Model.Shapes.{depth_of}
use Rattle.redl_tree.specs.Roles.Kinds.{is_content, is_restore}
use Rattle.redl_tree.specs.Roles.Lists.{is_thick}
use Rattle.redl_tree.specs.Roles.Names.{named, is}
use Rattle.redl_tree.specs.Roles.Places.{in_para_props, props_name}
use Rattle.redl_tree.specs.declared.kinds.Fate.{Fate}
use Rattle.redl_tree.specs.declared.kinds.Fate.TheVariants.{Leave, Free, Cut, Clear, Restore, Drop}
use Rattle.redl_tree.specs.declared.kinds.Kind.{Kind}
use Rattle.redl_tree.specs.declared.kinds.Kind.TheVariants.{Plain, Content, Mark, Row, Cell, Change, Marker}
use Rattle.redl_tree.specs.declared.kinds.Prop.{Prop}
use Rattle.redl_tree.specs.declared.kinds.Prop.TheVariants.{Run, Para, Sect, Table, Except, Row as RowProp, Cell as CellProp}
use Rattle.redl_tree.specs.declared.kinds.Say.{Say}

-- ---- nodes within a depth

abbrev Within : ℕ → Nodes → Type 0
Within n nodes = depth_of nodes ≤ n

-- the parts of an element and what follows it
record Parts (n : ℕ) (kids rest : Nodes) : Type 0 where
  pub inner : depth_of kids + 1 ≤ n
  pub later : Within n rest

parts : (n : ℕ) (tag : Tag) (kids rest : Nodes) → Within n (element tag kids rest) → Parts n kids rest
parts n tag kids rest h = record {
  inner = omega (arith, le-max_left (depth_of kids + 1) (depth_of rest), h);
  later = omega (arith, le-max_right (depth_of kids + 1) (depth_of rest), h);
}

whole : (n : ℕ) (tag : Tag) (kids rest : Nodes) → depth_of kids + 1 ≤ n → Within n rest → Within n (element tag kids rest)
whole n tag kids rest inner later = max-le inner later

one : (n : ℕ) (tag : Tag) (kids : Nodes) → depth_of kids + 1 ≤ n → Within n (element tag kids no_nodes)
one n tag kids inner = whole n tag kids no_nodes inner (omega arith)

within-⊕ : (n : ℕ) (xs ys : Nodes) → Within n xs → Within n ys → Within n (xs ⊕ ys)
within-⊕ n no_nodes ys h g = g
within-⊕ n (bytes b rest) ys h g = within-⊕ n rest ys h g
within-⊕ n (element tag kids rest) ys h g = let p = parts n tag kids rest h in whole n tag kids (rest ⊕ ys) p.inner (within-⊕ n rest ys p.later g)

within-if : (n : ℕ) (t : Bool) (x y : Nodes) → Within n x → Within n y → Within n (if t then x else y)
within-if n true x y h g = h
within-if n false x y h g = g

within-only : (n : ℕ) (test : Tag → Bool) (xs : Nodes) → Within n xs → Within n (only test xs)
within-only n test no_nodes h = h
within-only n test (bytes b rest) h = within-only n test rest h
within-only n test (element tag kids rest) h =
    let p = parts n tag kids rest h in
    let ih = within-only n test rest p.later in
    within-if n (test tag) (element tag kids (only test rest)) (only test rest) (whole n tag kids (only test rest) p.inner ih) ih

within-without : (n : ℕ) (test : Tag → Bool) (xs : Nodes) → Within n xs → Within n (without test xs)
within-without n test no_nodes h = h
within-without n test (bytes b rest) h = within-without n test rest h
within-without n test (element tag kids rest) h =
    let p = parts n tag kids rest h in
    let ih = within-without n test rest p.later in
    within-if n (test tag) (without test rest) (element tag kids (without test rest)) ih (whole n tag kids (without test rest) p.inner ih)

-- ---- former properties

within-former : (n : ℕ) (name : List ℕ) (nodes : Nodes) → Within n nodes → Within n (former_kids name nodes)
within-former n name no_nodes h = h
within-former n name (bytes b rest) h = within-former n name rest h
within-former n name (element tag kids rest) h =
    let p = parts n tag kids rest h in
    within-if n (named name tag) kids (former_kids name rest) (omega (arith, p.inner)) (within-former n name rest p.later)

abbrev FormerWithin : ℕ → Option Rejected → Type 0
FormerWithin n None = Unit {0}
FormerWithin n (Some change) = Within n change.former

within-rejected : (n : ℕ) (says : List Say) (nodes : Nodes) → Within n nodes → FormerWithin n (rejected says nodes)
within-rejected n says no_nodes h = tt
within-rejected n says (bytes b rest) h = within-rejected n says rest h
within-rejected n says (element tag kids rest) h =
    let p = parts n tag kids rest h in at (is_restore (fate_of says tag)) tag.kind (omega (arith, p.inner)) (within-rejected n says rest p.later)
  where
    at : (b : Bool) (k : Kind) → Within n kids → FormerWithin n (rejected says rest) → FormerWithin n (rejected_as b k kids (rejected says rest))
    at true Plain inner ih = ih
    at true (Content t) inner ih = ih
    at true (Mark t) inner ih = ih
    at true (Row t) inner ih = ih
    at true (Cell t) inner ih = ih
    at true (Change prop) inner ih = within-former n (props_name prop) kids inner
    at true Marker inner ih = ih
    at false k inner ih = ih

within-restored : (n : ℕ) (prop : Prop) (current former : Nodes) → Within n current → Within n former → Within n (restored prop current former)
within-restored n Run current former h g = within-⊕ n (only (is_uncovered Run) current) (without (is_uncovered Run) former) (within-only n (is_uncovered Run) current h) (within-without n (is_uncovered Run) former g)
within-restored n Para current former h g = within-⊕ n (without (is_uncovered Para) former) (only (is_uncovered Para) current) (within-without n (is_uncovered Para) former g) (within-only n (is_uncovered Para) current h)
within-restored n Sect current former h g = within-⊕ n (only (is_uncovered Sect) current) (without (is_uncovered Sect) former) (within-only n (is_uncovered Sect) current h) (within-without n (is_uncovered Sect) former g)
within-restored n Table current former h g = g
within-restored n Except current former h g = g
within-restored n RowProp current former h g = within-⊕ n (without (is_uncovered RowProp) former) (only (is_uncovered RowProp) current) (within-without n (is_uncovered RowProp) former g) (within-only n (is_uncovered RowProp) current h)
within-restored n CellProp current former h g = within-⊕ n (without (is_uncovered CellProp) former) (only (is_uncovered CellProp) current) (within-without n (is_uncovered CellProp) former g) (within-only n (is_uncovered CellProp) current h)

within-kept : (n : ℕ) (says : List Say) (ancestors : List Tag) (tag : Tag) (kids passed : Nodes) → Within n kids → Within n passed → Within n (kept_kids says ancestors tag kids passed)
within-kept n says ancestors tag kids passed h g = at (rejected says kids) (within-rejected n says kids h)
  where
    at : (u : Option Rejected) → FormerWithin n u → Within n (after_change ancestors tag u passed)
    at None f = g
    at (Some u) f =
        within-restored n u.prop (present ancestors tag passed) u.former
        (within-if n (is "rPr" tag && not (in_para_props ancestors)) (without (is_uncovered Run) passed) passed (within-without n (is_uncovered Run) passed g) g) f

-- ---- one element

within-fate : (n : ℕ) (f : Fate) (ic : Bool) (passed stays : Nodes) → Within n stays → Within n passed → Within n (by_fate f ic passed stays)
within-fate n Leave ic passed stays h g = h
within-fate n Free true passed stays h g = g
within-fate n Free false passed stays h g = omega arith
within-fate n Cut ic passed stays h g = omega arith
within-fate n Clear ic passed stays h g = omega arith
within-fate n Restore ic passed stays h g = omega arith
within-fate n Drop ic passed stays h g = omega arith

within-element : (n : ℕ) (says : List Say) (old : List Tag) (tag : Tag) (kids passed : Nodes) → Within n kids → Within n passed → Within (n + 1) (element_pass says old tag kids passed)
within-element n says old tag kids passed h g =
    let made = within-kept n says old tag kids passed h g in
    within-fate (n + 1) (fate_of says tag) (is_content tag.kind) passed (if goes_at says old tag kids then no_nodes else element (renamed says old tag) (kept_kids says old tag kids passed) no_nodes)
    (within-if (n + 1) (goes_at says old tag kids) no_nodes (element (renamed says old tag) (kept_kids says old tag kids passed) no_nodes) (omega arith)
    (one (n + 1) (renamed says old tag) (kept_kids says old tag kids passed) (omega (arith, made)))) (omega (arith, g))

-- ---- groups

-- a piece of a list that may be so deep: all but a paragraph has one level to spare, and the kids of a paragraph have two
abbrev Spares : ℕ → GroupPiece → Type 0
Spares n (para tag cut kids) = depth_of kids + 2 ≤ n
Spares n (thin nodes) = Within (n - 1) nodes
Spares n (thick nodes) = Within (n - 1) nodes

abbrev AllSpare : ℕ → List GroupPiece → Type 0
AllSpare n [] = Unit {0}
AllSpare n (p ∷ ps) = Spares n p × AllSpare n ps

abbrev HeldWithin : ℕ → Option Nodes → Type 0
HeldWithin n None = Unit {0}
HeldWithin n (Some held) = Within (n - 1) held

within-unjoined : (n : ℕ) (ends : Bool) (tag : Tag) (kids : Nodes) → depth_of kids + 1 ≤ n → Within n (unjoined_para ends tag kids)
within-unjoined n ends tag kids h =
    within-if n (ends && not (has_element (without (is "pPr") kids))) (without (is "pPr") kids) (element tag kids no_nodes)
    (within-without n (is "pPr") kids (omega (arith, h))) (one n tag kids h)

within-given : (n : ℕ) (p : GroupPiece) (held : Option Nodes) (joining followed : Bool) → Spares n p → HeldWithin n held → Within n (given p held joining followed)
within-given n (para tag cut kids) held true followed g h = omega arith
within-given n (para tag cut kids) None false followed g h = within-unjoined n (cut && followed) tag kids (omega (arith, g))
within-given n (para tag cut kids) (Some held) false followed g h =
    let own : Within (n - 1) kids = omega (arith, g) in
    let both = within-⊕ (n - 1) (only (is "pPr") kids) (held ⊕ without (is "pPr") kids) (within-only (n - 1) (is "pPr") kids own)
    (within-⊕ (n - 1) held (without (is "pPr") kids) h (within-without (n - 1) (is "pPr") kids own)) in
    within-unjoined n (cut && followed) (record tag { close = ended tag.close }) (only (is "pPr") kids ⊕ (held ⊕ without (is "pPr") kids)) (omega (arith, g, both))
within-given n (thin nodes) None joining followed g h = omega (arith, g)
within-given n (thin nodes) (Some held) joining followed g h = omega arith
within-given n (thick nodes) held joining followed g h = omega (arith, g)

within-taken : (n : ℕ) (held : Option Nodes) (nodes : Nodes) → HeldWithin n held → Within (n - 1) nodes → Within (n - 1) (taken held nodes)
within-taken n None nodes h g = within-without (n - 1) (is "pPr") nodes g
within-taken n (Some held) nodes h g = within-⊕ (n - 1) held (without (is "pPr") nodes) h (within-without (n - 1) (is "pPr") nodes g)

within-held : (n : ℕ) (p : GroupPiece) (held : Option Nodes) (joining : Bool) → Spares n p → HeldWithin n held → HeldWithin n (held_by p held joining)
within-held n (para tag cut kids) held true g h = within-taken n held kids h (omega (arith, g))
within-held n (para tag cut kids) held false g h = tt
within-held n (thin nodes) None joining g h = tt
within-held n (thin nodes) (Some held) joining g h = within-taken n (Some held) nodes h g
within-held n (thick nodes) held joining g h = tt

within-grouped : (n : ℕ) (followed : Bool) (held : Option Nodes) (ps : List GroupPiece) → AllSpare n ps → HeldWithin n held → Within n (grouped_from followed held ps)
within-grouped n followed held [] g h = omega arith
within-grouped n followed held (p ∷ ps) g h =
    within-⊕ n (given p held (joins p ps) (has_thick ps || followed)) (grouped_from followed (held_by p held (joins p ps)) ps)
    (within-given n p held (joins p ps) (has_thick ps || followed) g.0 h)
    (within-grouped n followed (held_by p held (joins p ps)) ps g.1 (within-held n p held (joins p ps) g.0 h))

-- ---- the pass

spares : (n d : ℕ) (is_p is_heavy : Bool) (tag : Tag) (cut : Bool) (kids nodes : Nodes) → Within n kids → Within (n + 1) nodes → n + 2 ≤ d
    → Spares d (if is_p then para tag cut kids else if is_heavy then thick nodes else thin nodes)
spares n d true is_heavy tag cut kids nodes h g room = omega (arith, h, room)
spares n d false true tag cut kids nodes h g room = omega (arith, g, room)
spares n d false false tag cut kids nodes h g room = omega (arith, g, room)

pieces-spare : (says : List Say) (old : List Tag) (nodes : Nodes) (d : ℕ) → Within d nodes → AllSpare (d + d) (pieces says old nodes)
pieces-spare says old no_nodes d h = tt
pieces-spare says old (bytes b rest) d h = (omega arith, pieces-spare says old rest d h)
pieces-spare says old (element tag kids rest) d h =
    let p = parts d tag kids rest h in
    let passed = pass says (tag ∷ old) kids in
    let inner : Within (depth_of kids + depth_of kids) passed =
    within-grouped (depth_of kids + depth_of kids) false None (pieces says (tag ∷ old) kids) (pieces-spare says (tag ∷ old) kids (depth_of kids) (omega arith)) tt in
    let own : Within (depth_of kids + depth_of kids) kids = omega arith in (
      spares (depth_of kids + depth_of kids) (d + d) (is_block_para says old tag) (is_thick tag) (renamed says old tag) (para_is_cut says kids) (kept_kids says old tag kids passed)
          (element_pass says old tag kids passed) (within-kept (depth_of kids + depth_of kids) says old tag kids passed own inner)
          (within-element (depth_of kids + depth_of kids) says old tag kids passed own inner) (omega (arith, p.inner)),
      pieces-spare says old rest d p.later,
    )

pass-within : (says : List Say) (old : List Tag) (nodes : Nodes) (d : ℕ) → Within d nodes → Within (d + d) (pass says old nodes)
pass-within says old nodes d h = within-grouped (d + d) false None (pieces says old nodes) (pieces-spare says old nodes d h) tt

changed-within : (says : List Say) (ancestors : List Tag) (nodes : Nodes) (d : ℕ) → Within d nodes → Within (d + d) (changed_in pass_rule says ancestors nodes)
changed-within says ancestors no_nodes d h = omega arith
changed-within says ancestors (bytes b rest) d h = changed-within says ancestors rest d h
changed-within says ancestors (element tag kids rest) d h =
    let p = parts d tag kids rest h in
    let inner = at (is_root ancestors tag) (changed-within says (tag ∷ ancestors) kids (depth_of kids) (omega arith)) in
    whole (d + d) tag (if is_root ancestors tag then pass says (tag ∷ []) kids else changed_in pass_rule says (tag ∷ ancestors) kids)
    (changed_in pass_rule (left_after pass_rule says (element_stories ancestors tag kids)) ancestors rest) (omega (arith, inner, p.inner))
    (changed-within (left_after pass_rule says (element_stories ancestors tag kids)) ancestors rest d p.later)
  where
    at : (b : Bool) → Within (depth_of kids + depth_of kids) (changed_in pass_rule says (tag ∷ ancestors) kids)
        → Within (depth_of kids + depth_of kids) (if b then pass says (tag ∷ []) kids else changed_in pass_rule says (tag ∷ ancestors) kids)
    at true ih = pass-within says (tag ∷ []) kids (depth_of kids) (omega arith)
    at false ih = ih

-- a passed package is at most twice as deep
pub package-depth : (says : List Say) (nodes : Nodes) → depth_of (pass_package says nodes) ≤ depth_of nodes + depth_of nodes
package-depth says nodes = changed-within says [] nodes (depth_of nodes) (omega arith)
