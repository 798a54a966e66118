-- An idle element is in no revision, and no marker of a move: numbers and labels are the same without it.
use Rattle.std.proofs.Common.{◌≡◌, ◌∙◌, refl, sym, ap, ℕ, ◌+◌, List, [], ◌∷◌, ◌++◌, Bool, true, false, ◌&&◌, Option, None, is_some, if◌then◌else◌, arith}
use Rattle.std.specs.Prelude.{filter_map, find, option_and_then, option_map}
use Rattle.std.proofs.lemmas.List.Elements.{filter_map-append}
use Rattle.std.specs.Prelude.{codes}
use Rattle.redl_tree.specs.Model.Nodes.{Tag, Nodes, no_nodes, bytes, element, ◌⊕◌}
use Rattle.redl_tree.specs.Model.Elements.{elements}
use Rattle.redl_tree.specs.Model.Seen.{tags, Spot, spot, Seen, seen_one, seen_from, tags_of}
use Rattle.redl_tree.specs.Roles.Names.{is}
use Rattle.redl_tree.specs.Roles.Places.{is_open}
use Rattle.redl_tree.specs.Roles.Idle.{is_idle_in}
use Rattle.redl_tree.specs.Revisions.Moves.{Edge, Marking, Pair, is_of_pair}
use Rattle.redl_tree.specs.Revisions.Markers.{Value, marking, marker_of, move_of_marker, move_of, own_role, whole_role}
use Rattle.redl_tree.specs.Revisions.Numbers.{Membership, in_none, membership, Numbering, number_for, counted, revision_of, numbering_after, labelled_tag, labelled}
use Rattle.redl_tree.specs.declared.kinds.Kind.{Kind}
use Rattle.redl_tree.specs.declared.kinds.Kind.TheVariants.{Plain, Marker}
use Rattle.redl_tree.proofs.Idle.Tags.{Idle, idle_parts}
use Rattle.redl_tree.proofs.Idle.Roles.{no_edge, no_marker, no_role}

-- each element has two tags
pub tags-elements : (nodes : Nodes) → tags nodes ≡ elements nodes + elements nodes
tags-elements no_nodes = refl
tags-elements (bytes b rest) = tags-elements rest
tags-elements (element tag kids rest) = omega (arith, tags-elements kids, tags-elements rest)

-- One element

none_found : (test : Pair → Bool) → ((pair : Pair) → test pair ≡ false) → (moves : List Pair) → find test moves ≡ None
none_found test none [] = refl
none_found test none (pair ∷ moves) = rw (none pair) (none_found test none moves)

pub no_marker_move : (value : Value) (moves : List Pair) (seen : Seen) (in_run : Bool) → Idle in_run seen.own.tag → move_of_marker value moves seen ≡ None
no_marker_move value moves seen in_run i =
    none_found _ (λ pair. ap (λ b. b && is_of_pair seen.own.start pair) (no_marker (λ tail. is_some (value tail (codes "id"))) (tags_of seen.ancestors) in_run seen.own.tag i)) moves

pub plain_role : (value : Value) (moves : List Pair) (seen : Seen) (in_run : Bool) → Idle in_run seen.own.tag → whole_role value moves seen ≡ Plain
plain_role value moves seen in_run i =
    ap (λ (m : Option Pair). if is_some m then Marker else own_role seen) (no_marker_move value moves seen in_run i)
    ∙ no_role (tags_of seen.ancestors) in_run seen.own.tag i

pub in_no_revision : (value : Value) (moves : List Pair) (seen : Seen) (in_run : Bool) → Idle in_run seen.own.tag → revision_of value moves seen ≡ in_none
in_no_revision value moves seen in_run i = ap (λ (k : Kind). membership k (move_of value moves seen)) (plain_role value moves seen in_run i)

pub same_label : (value : Value) (moves : List Pair) (so_far : Numbering) (seen : Seen) (in_run : Bool) → Idle in_run seen.own.tag → labelled_tag value moves so_far seen ≡ seen.own.tag
same_label value moves so_far seen in_run i =
    ap (λ (k : Kind). record seen.own.tag { kind = k; rev = number_for (revision_of value moves seen) so_far }) (plain_role value moves seen in_run i ∙ sym i.kind)
    ∙ ap (λ (m : Membership). record seen.own.tag { rev = number_for m so_far }) (in_no_revision value moves seen in_run i)
    ∙ ap (λ n. record seen.own.tag { rev = n }) (sym i.rev)

pub no_marking : (value : Value) (seen : Seen) (in_run : Bool) → Idle in_run seen.own.tag → marker_of value seen ≡ None
no_marking value seen in_run i =
    ap (λ (e : Option Edge). if is_open (tags_of seen.ancestors) then option_and_then (λ edge. option_map (marking value seen edge) (value seen.own.tag.tail (codes "id"))) e else None) (no_edge in_run seen.own.tag i)
    ∙ either (is_open (tags_of seen.ancestors))
  where
    either : (b : Bool) → (if b then None else None) ≡ (let none : Option Marking = None in none)
    either true = refl
    either false = refl

-- Lists of them

pub numbering_idle : (value : Value) (moves : List Pair) (ancestors : List Spot) (at : ℕ) (so_far : Numbering) (in_run : Bool) (nodes : Nodes) → is_idle_in in_run nodes ≡ true → numbering_after value moves ancestors at so_far nodes ≡ so_far
numbering_idle value moves ancestors at so_far in_run no_nodes h = refl
numbering_idle value moves ancestors at so_far in_run (bytes b rest) h = numbering_idle value moves ancestors at so_far in_run rest h
numbering_idle value moves ancestors at so_far in_run (element tag kids rest) h =
    let p = idle_parts in_run tag kids rest h in
    let own = seen_one ancestors at tag kids in
    let inner = counted (revision_of value moves own) so_far in
    let below = spot at tag kids ∷ ancestors in
    numbering_idle value moves ancestors (at + 2 + tags kids) (numbering_after value moves below (at + 1) inner kids) in_run rest p.later
    ∙ numbering_idle value moves below (at + 1) inner (is "r" tag) kids p.below
    ∙ ap (λ (m : Membership). counted m so_far) (in_no_revision value moves own in_run p.own)

pub labelled_idle : (value : Value) (moves : List Pair) (ancestors : List Spot) (at : ℕ) (so_far : Numbering) (in_run : Bool) (nodes : Nodes) → is_idle_in in_run nodes ≡ true → labelled value moves ancestors at so_far nodes ≡ nodes
labelled_idle value moves ancestors at so_far in_run no_nodes h = refl
labelled_idle value moves ancestors at so_far in_run (bytes b rest) h = ap (bytes b) (labelled_idle value moves ancestors at so_far in_run rest h)
labelled_idle value moves ancestors at so_far in_run (element tag kids rest) h =
    let p = idle_parts in_run tag kids rest h in
    let own = seen_one ancestors at tag kids in
    let inner = counted (revision_of value moves own) so_far in
    let below = spot at tag kids ∷ ancestors in
    let after = numbering_after value moves below (at + 1) inner kids in
    ap (λ (t : Tag). element t (labelled value moves below (at + 1) inner kids) (labelled value moves ancestors (at + 2 + tags kids) after rest)) (same_label value moves so_far own in_run p.own)
    ∙ ap (λ (k : Nodes). element tag k (labelled value moves ancestors (at + 2 + tags kids) after rest)) (labelled_idle value moves below (at + 1) inner (is "r" tag) kids p.below)
    ∙ ap (element tag kids) (labelled_idle value moves ancestors (at + 2 + tags kids) after in_run rest p.later)

-- what no idle element gives
abbrev pub NoneGives : {X : Type 0} → (Seen → Option X) → Type 0
NoneGives give = (seen : Seen) (in_run : Bool) → Idle in_run seen.own.tag → give seen ≡ None

pub seen_idle : {X : Type 0} (give : Seen → Option X) → NoneGives give → (ancestors : List Spot) (at : ℕ) (in_run : Bool) (nodes : Nodes) → is_idle_in in_run nodes ≡ true → filter_map give (seen_from ancestors at nodes) ≡ []
seen_idle give none ancestors at in_run no_nodes h = refl
seen_idle give none ancestors at in_run (bytes b rest) h = seen_idle give none ancestors at in_run rest h
seen_idle {X} give none ancestors at in_run (element tag kids rest) h =
    let p = idle_parts in_run tag kids rest h in
    let below = spot at tag kids ∷ ancestors in
    let later = seen_from ancestors (at + 2 + tags kids) rest in
    rw (none (seen_one ancestors at tag kids) in_run p.own)
    (filter_map-append give (seen_from below (at + 1) kids) later
    ∙ ap (λ (found : List X). found ++ filter_map give later) (seen_idle give none below (at + 1) (is "r" tag) kids p.below)
    ∙ seen_idle give none ancestors (at + 2 + tags kids) in_run rest p.later)

-- Lists that begin with them: positions go on by their tags

pub numbering_past : (value : Value) (moves : List Pair) (ancestors : List Spot) (at : ℕ) (so_far : Numbering) (in_run : Bool) (x y : Nodes) → is_idle_in in_run x ≡ true →
    numbering_after value moves ancestors at so_far (x ⊕ y) ≡ numbering_after value moves ancestors (at + tags x) so_far y
numbering_past value moves ancestors at so_far in_run no_nodes y h = ap (λ n. numbering_after value moves ancestors n so_far y) (omega arith)
numbering_past value moves ancestors at so_far in_run (bytes b rest) y h = numbering_past value moves ancestors at so_far in_run rest y h
numbering_past value moves ancestors at so_far in_run (element tag kids rest) y h =
    let p = idle_parts in_run tag kids rest h in
    let own = seen_one ancestors at tag kids in
    let inner = counted (revision_of value moves own) so_far in
    let below = spot at tag kids ∷ ancestors in
    ap (λ (n : Numbering). numbering_after value moves ancestors (at + 2 + tags kids) n (rest ⊕ y))
    (numbering_idle value moves below (at + 1) inner (is "r" tag) kids p.below ∙ ap (λ (m : Membership). counted m so_far) (in_no_revision value moves own in_run p.own))
    ∙ numbering_past value moves ancestors (at + 2 + tags kids) so_far in_run rest y p.later
    ∙ ap (λ n. numbering_after value moves ancestors n so_far y) (omega arith)

pub labelled_past : (value : Value) (moves : List Pair) (ancestors : List Spot) (at : ℕ) (so_far : Numbering) (in_run : Bool) (x y : Nodes) → is_idle_in in_run x ≡ true →
    labelled value moves ancestors at so_far (x ⊕ y) ≡ x ⊕ labelled value moves ancestors (at + tags x) so_far y
labelled_past value moves ancestors at so_far in_run no_nodes y h = ap (λ n. labelled value moves ancestors n so_far y) (omega arith)
labelled_past value moves ancestors at so_far in_run (bytes b rest) y h = ap (bytes b) (labelled_past value moves ancestors at so_far in_run rest y h)
labelled_past value moves ancestors at so_far in_run (element tag kids rest) y h =
    let p = idle_parts in_run tag kids rest h in
    let own = seen_one ancestors at tag kids in
    let inner = counted (revision_of value moves own) so_far in
    let below = spot at tag kids ∷ ancestors in
    let after = numbering_after value moves below (at + 1) inner kids in
    let same : after ≡ so_far = numbering_idle value moves below (at + 1) inner (is "r" tag) kids p.below ∙ ap (λ (m : Membership). counted m so_far) (in_no_revision value moves own in_run p.own) in
    ap (λ (t : Tag). element t (labelled value moves below (at + 1) inner kids) (labelled value moves ancestors (at + 2 + tags kids) after (rest ⊕ y))) (same_label value moves so_far own in_run p.own)
    ∙ ap (λ (k : Nodes). element tag k (labelled value moves ancestors (at + 2 + tags kids) after (rest ⊕ y))) (labelled_idle value moves below (at + 1) inner (is "r" tag) kids p.below)
    ∙ ap (λ (n : Numbering). element tag kids (labelled value moves ancestors (at + 2 + tags kids) n (rest ⊕ y))) same
    ∙ ap (element tag kids) (labelled_past value moves ancestors (at + 2 + tags kids) so_far in_run rest y p.later)
    ∙ ap (λ n. element tag kids (rest ⊕ labelled value moves ancestors n so_far y)) (omega arith)

pub seen_past : {X : Type 0} (give : Seen → Option X) → NoneGives give → (ancestors : List Spot) (at : ℕ) (in_run : Bool) (x y : Nodes) → is_idle_in in_run x ≡ true →
    filter_map give (seen_from ancestors at (x ⊕ y)) ≡ filter_map give (seen_from ancestors (at + tags x) y)
seen_past give none ancestors at in_run no_nodes y h = ap (λ n. filter_map give (seen_from ancestors n y)) (omega arith)
seen_past give none ancestors at in_run (bytes b rest) y h = seen_past give none ancestors at in_run rest y h
seen_past {X} give none ancestors at in_run (element tag kids rest) y h =
    let p = idle_parts in_run tag kids rest h in
    let below = spot at tag kids ∷ ancestors in
    let later = seen_from ancestors (at + 2 + tags kids) (rest ⊕ y) in
    rw (none (seen_one ancestors at tag kids) in_run p.own)
    (filter_map-append give (seen_from below (at + 1) kids) later
    ∙ ap (λ (found : List X). found ++ filter_map give later) (seen_idle give none below (at + 1) (is "r" tag) kids p.below)
    ∙ seen_past give none ancestors (at + 2 + tags kids) in_run rest y p.later
    ∙ ap (λ n. filter_map give (seen_from ancestors n y)) (omega arith))

-- the markers of moves
pub marks_past : (value : Value) (ancestors : List Spot) (at : ℕ) (in_run : Bool) (x y : Nodes) → is_idle_in in_run x ≡ true →
    filter_map (marker_of value) (seen_from ancestors at (x ⊕ y)) ≡ filter_map (marker_of value) (seen_from ancestors (at + tags x) y)
marks_past value ancestors at in_run x y h = seen_past (marker_of value) (no_marking value) ancestors at in_run x y h
