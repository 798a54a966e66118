-- The steps of the pass over a list: a first node that is joined with no later one gives its part by itself, and a list is
-- put together from the left.
use Rattle.std.proofs.Common.{◌≡◌, ◌∙◌, refl, sym, ap, List, [], ◌∷◌, ◌++◌, Bool, true, false, true≢false, ◌&&◌, ◌||◌, Option, Some, None, if◌then◌else◌}
use Rattle.std.proofs.lemmas.Bool.{and_parts, and_left, and_right, cond-false}
use Rattle.std.proofs.Math.Bool.{or_assoc}
use Rattle.redl_tree.specs.Model.Nodes.{Tag, Nodes, no_nodes, bytes, element, ◌⊕◌}
use Rattle.redl_tree.specs.Roles.Names.{is}
use Rattle.redl_tree.specs.Model.Kids.{without}
use Rattle.redl_tree.specs.Roles.Lists.{in_blocks, is_thick}
use Rattle.redl_tree.specs.Decisions.Fates.{fate_of, renamed}
use Rattle.redl_tree.specs.Roles.Kinds.{is_content, is_leave}
use Rattle.redl_tree.specs.Decisions.Tables.{goes_at, para_is_cut}
use Rattle.redl_tree.specs.Decisions.Groups.{GroupPiece, para, thin, thick, paragraph_next, has_thick, joins, given, held_by, grouped_from, grouped}
use Rattle.redl_tree.specs.Decisions.Pass.{by_fate, kept_kids, element_pass, is_block_para, piece, pieces, pass}
use Rattle.redl_tree.specs.declared.kinds.Say.{Say}
use Rattle.redl_tree.specs.declared.kinds.Fate.{Fate}
use Rattle.redl_tree.specs.declared.kinds.Fate.TheVariants.{Leave, Free, Cut, Clear, Restore, Drop}
use Rattle.redl_tree.proofs.Roles.Named.{by_name}
use Rattle.redl_tree.proofs.Model.Laws.{⊕_assoc}

-- An element that is no cut paragraph of a block list gives its part by itself, and the nodes after it give theirs.

-- an element that is left stays
pub leave_of : (f : Fate) (ic : Bool) (passed stays : Nodes) → is_leave f ≡ true → by_fate f ic passed stays ≡ stays
leave_of Leave ic passed stays e = refl
leave_of Free ic passed stays e = absurd (true≢false (sym e))
leave_of Cut ic passed stays e = absurd (true≢false (sym e))
leave_of Clear ic passed stays e = absurd (true≢false (sym e))
leave_of Restore ic passed stays e = absurd (true≢false (sym e))
leave_of Drop ic passed stays e = absurd (true≢false (sym e))

-- a paragraph that is left gives itself
pub para_pass : (says : List Say) (ancestors : List Tag) (tag : Tag) (kids passed : Nodes) → is_block_para says ancestors tag ≡ true →
    element_pass says ancestors tag kids passed ≡ element (renamed says ancestors tag) (kept_kids says ancestors tag kids passed) no_nodes
para_pass says ancestors tag kids passed e =
    let a = and_parts (is "p" tag && in_blocks ancestors) (is_leave (fate_of says tag)) e in
    let b = and_parts (is "p" tag) (in_blocks ancestors) a.0 in
    let stays = element (renamed says ancestors tag) (kept_kids says ancestors tag kids passed) no_nodes in
    leave_of (fate_of says tag) (is_content tag.kind) passed (if goes_at says ancestors tag kids then no_nodes else stays) a.1
    ∙ cond-false (goes_at says ancestors tag kids) no_nodes stays (by_name (λ t. goes_at says ancestors t kids ≡ false) "p" tag b.0 refl)

-- a paragraph that may be joined with another one is a `p`
pub block_p : (says : List Say) (ancestors : List Tag) (tag : Tag) → is_block_para says ancestors tag ≡ true → is "p" tag ≡ true
block_p says ancestors tag e = (and_parts (is "p" tag) (in_blocks ancestors) (and_parts (is "p" tag && in_blocks ancestors) (is_leave (fate_of says tag)) e).0).0

-- what a node of a list gives by itself
abbrev pub alone : GroupPiece → Nodes
alone (para tag cut kids) = element tag kids no_nodes
alone (thin nodes) = nodes
alone (thick nodes) = nodes

alone-if : (p heavy cut : Bool) (tag : Tag) (kids n : Nodes) → (p ≡ true → n ≡ element tag kids no_nodes) →
    alone (if p then para tag cut kids else if heavy then thick n else thin n) ≡ n
alone-if true heavy cut tag kids n h = sym (h refl)
alone-if false true cut tag kids n h = refl
alone-if false false cut tag kids n h = refl

-- what an element gives by itself is the element passed, whatever it is to its list
pub alone-piece : (says : List Say) (ancestors : List Tag) (tag : Tag) (kids passed : Nodes) →
    alone (piece says ancestors tag kids passed) ≡ element_pass says ancestors tag kids passed
alone-piece says ancestors tag kids passed =
    alone-if (is_block_para says ancestors tag) (is_thick tag) (para_is_cut says kids) (renamed says ancestors tag) (kept_kids says ancestors tag kids passed)
    (element_pass says ancestors tag kids passed) (para_pass says ancestors tag kids passed)

-- what the nodes of a list give, each by itself
abbrev pub all_alone : List GroupPiece → Nodes
all_alone [] = no_nodes
all_alone (p ∷ ps) = alone p ⊕ all_alone ps

-- the nodes of a list passed one by one
abbrev pub each : List Say → List Tag → Nodes → Nodes
each says ancestors no_nodes = no_nodes
each says ancestors (bytes b rest) = bytes b (each says ancestors rest)
each says ancestors (element tag kids rest) = element_pass says ancestors tag kids (pass says (tag ∷ ancestors) kids) ⊕ each says ancestors rest

-- the nodes of a list give, each by itself, what they are passed as one by one
pub all_alone-each : (says : List Say) (ancestors : List Tag) (nodes : Nodes) → all_alone (pieces says ancestors nodes) ≡ each says ancestors nodes
all_alone-each says ancestors no_nodes = refl
all_alone-each says ancestors (bytes b rest) = ap (bytes b) (all_alone-each says ancestors rest)
all_alone-each says ancestors (element tag kids rest) =
    ap (λ n. n ⊕ all_alone (pieces says ancestors rest)) (alone-piece says ancestors tag kids (pass says (tag ∷ ancestors) kids))
    ∙ ap (λ n. element_pass says ancestors tag kids (pass says (tag ∷ ancestors) kids) ⊕ n) (all_alone-each says ancestors rest)

step_apart : (followed p heavy cut : Bool) (tag : Tag) (kids n : Nodes) (ps : List GroupPiece) → (p && cut) ≡ false → (p ≡ true → n ≡ element tag kids no_nodes) →
    grouped_from followed None ((if p then para tag cut kids else if heavy then thick n else thin n) ∷ ps) ≡ n ⊕ grouped_from followed None ps
step_apart followed true heavy true tag kids n ps e h = absurd (true≢false e)
step_apart followed true heavy false tag kids n ps e h = ap (λ x. x ⊕ grouped_from followed None ps) (sym (h refl))
step_apart followed false true cut tag kids n ps e h = refl
step_apart followed false false cut tag kids n ps e h = refl

-- a first element that is no cut paragraph is passed by itself, and the nodes after it are passed by themselves
pub pass-apart : (says : List Say) (ancestors : List Tag) (tag : Tag) (kids rest : Nodes) → (is_block_para says ancestors tag && para_is_cut says kids) ≡ false →
    pass says ancestors (element tag kids rest) ≡ element_pass says ancestors tag kids (pass says (tag ∷ ancestors) kids) ⊕ pass says ancestors rest
pass-apart says ancestors tag kids rest e =
    let passed = pass says (tag ∷ ancestors) kids in
    step_apart false (is_block_para says ancestors tag) (is_thick tag) (para_is_cut says kids) (renamed says ancestors tag) (kept_kids says ancestors tag kids passed)
    (element_pass says ancestors tag kids passed) (pieces says ancestors rest) e (para_pass says ancestors tag kids passed)

-- outside of block lists all nodes are passed one by one
pub pass-outside : (says : List Say) (ancestors : List Tag) (tag : Tag) (kids rest : Nodes) → in_blocks ancestors ≡ false →
    pass says ancestors (element tag kids rest) ≡ element_pass says ancestors tag kids (pass says (tag ∷ ancestors) kids) ⊕ pass says ancestors rest
pass-outside says ancestors tag kids rest e =
    pass-apart says ancestors tag kids rest
    (and_left (is_block_para says ancestors tag) (para_is_cut says kids)
    (and_left (is "p" tag && in_blocks ancestors) (is_leave (fate_of says tag)) (and_right (is "p" tag) (in_blocks ancestors) e)))

-- a list that is no block list is passed node by node
pub pass-each : (says : List Say) (ancestors : List Tag) (nodes : Nodes) → in_blocks ancestors ≡ false → pass says ancestors nodes ≡ each says ancestors nodes
pass-each says ancestors no_nodes e = refl
pass-each says ancestors (bytes b rest) e = ap (bytes b) (pass-each says ancestors rest e)
pass-each says ancestors (element tag kids rest) e =
    pass-outside says ancestors tag kids rest e
    ∙ ap (λ n. element_pass says ancestors tag kids (pass says (tag ∷ ancestors) kids) ⊕ n) (pass-each says ancestors rest e)

-- elements that are left out of two lists in a row are left out of each
pub without-⊕ : (test : Tag → Bool) (xs ys : Nodes) → without test (xs ⊕ ys) ≡ without test xs ⊕ without test ys
without-⊕ test no_nodes ys = refl
without-⊕ test (bytes b rest) ys = ap (bytes b) (without-⊕ test rest ys)
without-⊕ test (element tag kids rest) ys = at (test tag) (without-⊕ test rest ys)
  where
    at : (b : Bool) → without test (rest ⊕ ys) ≡ without test rest ⊕ without test ys →
        (if b then without test (rest ⊕ ys) else element tag kids (without test (rest ⊕ ys)))
        ≡ (if b then without test rest else element tag kids (without test rest)) ⊕ without test ys
    at true ih = ih
    at false ih = ap (element tag kids) ih

-- Lists that are put together from the left.

-- what is held is taken up by a paragraph of the list
abbrev pub Takes : Option Nodes → List GroupPiece → Type 0
Takes None ps = Unit {0}
Takes (Some held) ps = paragraph_next ps ≡ true

-- where what is held is taken up by a paragraph of the list, so is what is held after its first node
pub takes-next : (p : GroupPiece) (held : Option Nodes) (ps : List GroupPiece) → Takes held (p ∷ ps) → Takes (held_by p held (joins p ps)) ps
takes-next (para tag cut kids) held ps t = at cut (paragraph_next ps) refl
  where
    at : (c n : Bool) → paragraph_next ps ≡ n → Takes (held_by (para tag c kids) held (c && n)) ps
    at true true e = e
    at true false e = tt
    at false n e = tt
takes-next (thin nodes) None ps t = tt
takes-next (thin nodes) (Some held) ps t = t
takes-next (thick nodes) held ps t = tt

-- the last thick node of the list is a paragraph that is cut
abbrev pub ends_cut : List GroupPiece → Bool
ends_cut [] = false
ends_cut (para tag cut kids ∷ ps) = if has_thick ps then ends_cut ps else cut
ends_cut (thin nodes ∷ ps) = ends_cut ps
ends_cut (thick nodes ∷ ps) = ends_cut ps

pub thick-append : (xs ys : List GroupPiece) → has_thick (xs ++ ys) ≡ (has_thick xs || has_thick ys)
thick-append [] ys = refl
thick-append (para tag cut kids ∷ xs) ys = refl
thick-append (thin nodes ∷ xs) ys = thick-append xs ys
thick-append (thick nodes ∷ xs) ys = refl

next_of : Bool → Bool → Bool → Bool
next_of true mine other = mine
next_of false mine other = other

-- where no node is thick there is no next paragraph
pub next-thick : (xs : List GroupPiece) → has_thick xs ≡ false → paragraph_next xs ≡ false
next-thick [] e = refl
next-thick (para tag cut kids ∷ xs) e = absurd (true≢false e)
next-thick (thin nodes ∷ xs) e = next-thick xs e
next-thick (thick nodes ∷ xs) e = refl

pub next-append : (xs ys : List GroupPiece) → has_thick xs ≡ true → paragraph_next (xs ++ ys) ≡ paragraph_next xs
next-append [] ys e = absurd (true≢false (sym e))
next-append (para tag cut kids ∷ xs) ys e = refl
next-append (thin nodes ∷ xs) ys e = next-append xs ys e
next-append (thick nodes ∷ xs) ys e = refl

pub next-thin : (xs ys : List GroupPiece) → has_thick xs ≡ false → paragraph_next (xs ++ ys) ≡ paragraph_next ys
next-thin [] ys e = refl
next-thin (para tag cut kids ∷ xs) ys e = absurd (true≢false e)
next-thin (thin nodes ∷ xs) ys e = next-thin xs ys e
next-thin (thick nodes ∷ xs) ys e = absurd (true≢false e)

-- in front of a list that it doesn't join, a node joins as without it
joins-append : (p : GroupPiece) (xs ys : List GroupPiece) → (ends_cut (p ∷ xs) && paragraph_next ys) ≡ false → joins p (xs ++ ys) ≡ joins p xs
joins-append (para tag cut kids) xs ys e = at (has_thick xs) refl e
  where
    at : (t : Bool) → has_thick xs ≡ t → ((if t then ends_cut xs else cut) && paragraph_next ys) ≡ false → (cut && paragraph_next (xs ++ ys)) ≡ (cut && paragraph_next xs)
    at true h e = ap (λ b. cut && b) (next-append xs ys h)
    at false h e = ap (λ b. cut && b) (next-thin xs ys h) ∙ e ∙ sym (and_right cut (paragraph_next xs) (next-thick xs h))
joins-append (thin nodes) xs ys e = refl
joins-append (thick nodes) xs ys e = refl

ends-rest : (p : GroupPiece) (xs : List GroupPiece) (n : Bool) → (ends_cut (p ∷ xs) && n) ≡ false → (ends_cut xs && n) ≡ false
ends-rest (para tag cut kids) xs n e = at (has_thick xs) refl e
  where
    none_cut : (xs : List GroupPiece) → has_thick xs ≡ false → ends_cut xs ≡ false
    none_cut [] e = refl
    none_cut (para tag cut kids ∷ xs) e = absurd (true≢false e)
    none_cut (thin nodes ∷ xs) e = none_cut xs e
    none_cut (thick nodes ∷ xs) e = absurd (true≢false e)

    at : (t : Bool) → has_thick xs ≡ t → ((if t then ends_cut xs else cut) && n) ≡ false → (ends_cut xs && n) ≡ false
    at true h e = e
    at false h e = ap (λ b. b && n) (none_cut xs h)
ends-rest (thin nodes) xs n e = e
ends-rest (thick nodes) xs n e = e

-- a list may be cut in two where no paragraph of the first side is joined with one of the second: each side is put together by
-- itself
pub grouped_from-append : (followed : Bool) (xs ys : List GroupPiece) (held : Option Nodes) → (ends_cut xs && paragraph_next ys) ≡ false → Takes held xs →
    grouped_from followed held (xs ++ ys) ≡ grouped_from (has_thick ys || followed) held xs ⊕ grouped_from followed None ys
grouped_from-append followed [] ys None e t = refl
grouped_from-append followed [] ys (Some held) e t = absurd (true≢false (sym t))
grouped_from-append followed (p ∷ xs) ys held e t =
    let j = joins-append p xs ys e in
    let here = given p held (joins p xs) (has_thick xs || (has_thick ys || followed)) in
    let later = held_by p held (joins p xs) in
    ap (λ b. given p held b (has_thick (xs ++ ys) || followed) ⊕ grouped_from followed (held_by p held b) (xs ++ ys)) j
    ∙ ap (λ b. given p held (joins p xs) b ⊕ grouped_from followed later (xs ++ ys))
    (ap (λ b. b || followed) (thick-append xs ys) ∙ or_assoc (has_thick xs) (has_thick ys) followed)
    ∙ ap (λ n. here ⊕ n) (grouped_from-append followed xs ys later (ends-rest p xs (paragraph_next ys) e) (takes-next p held xs t))
    ∙ sym (⊕_assoc here (grouped_from (has_thick ys || followed) later xs) (grouped_from followed None ys))

-- two lists that no joined paragraphs reach across are put together each by itself
pub grouped-append : (followed : Bool) (xs ys : List GroupPiece) → (ends_cut xs && paragraph_next ys) ≡ false →
    grouped followed (xs ++ ys) ≡ grouped (has_thick ys || followed) xs ⊕ grouped followed ys
grouped-append followed xs ys e = grouped_from-append followed xs ys None e tt

-- two lists in a row give the pieces of the first, then those of the second
pub pieces-⊕ : (says : List Say) (ancestors : List Tag) (xs ys : Nodes) → pieces says ancestors (xs ⊕ ys) ≡ pieces says ancestors xs ++ pieces says ancestors ys
pieces-⊕ says ancestors no_nodes ys = refl
pieces-⊕ says ancestors (bytes b rest) ys = ap (λ ps. thin (bytes b no_nodes) ∷ ps) (pieces-⊕ says ancestors rest ys)
pieces-⊕ says ancestors (element tag kids rest) ys =
    ap (λ ps. piece says ancestors tag kids (pass says (tag ∷ ancestors) kids) ∷ ps) (pieces-⊕ says ancestors rest ys)
