-- Where no element has a role, the revisions of a package are moves without members.
use Rattle.std.proofs.Common.{◌≡◌, ◌∙◌, refl, sym, ap, subst, ℕ, ◌+◌, List, [], ◌∷◌, ◌++◌, map, filter, filter_map, length, All, Bool, true, false, ◌&&◌, not, Option, Some, None, is_some, if◌then◌else◌}
use Rattle.std.specs.List.{AllByRecursion, cons_option, list_all}
use Rattle.std.proofs.lemmas.Bool.{and_parts}
use Rattle.std.proofs.lemmas.List.Elements.{All-from_recursion}
use Rattle.redl_index.specs.Markers.Found.{markers_of, marker_tails}
use Rattle.redl_index.specs.Mentions.{Mention, Sight, mentions, sight_in}
use Rattle.redl_index.specs.Numbers.{package_revisions}
use Rattle.redl_index.specs.Revisions.{firsts, is_new, is_of, members_of, numbered, revision_of, revisions_from, revisions_in, revisions_of, story_revisions}
use Rattle.redl_index.specs.declared.revision.Revision.{Revision}
use Rattle.redl_kinds.specs.declared.rev_kind.RevKind.TheVariants.{Move}
use Rattle.redl_moves.specs.Starts.{start_in}
use Rattle.redl_opc.proofs.NumberLaws.{shape-numbered}
use Rattle.redl_opc.proofs.StoryLaws.{stories-parts}
use Rattle.redl_opc.specs.Elements.{Element}
use Rattle.redl_opc.specs.Shape.{parts_of, refusal, story_of}
use Rattle.redl_reread_sound.proofs.Alone.{Deaf, same-holds}
use Rattle.redl_reread_sound.proofs.AloneShape.{shape-again}
use Rattle.redl_reread_sound.proofs.Parts.{refusal-changed}
use Rattle.redl_reread_sound.specs.Again.{again, left}
use Rattle.redl_rounds_sound.specs.Settled.{AreEmptyMoves, IsEmptyMove, OnlyEmptyMoves}
use Rattle.redl_rules.specs.Attributes.{declares, has_id}
use Rattle.redl_stamp.specs.Attribute.{attribute_value}
use Rattle.redl_stays_sound.proofs.Settled.Stories.{all-settle}
use Rattle.redl_stays_sound.specs.Settled.{has_no_role}
use Rattle.redl_tree.proofs.Revisions.LabelLaws.{Blind, role-bare}
use Rattle.redl_tree.specs.Decisions.Packages.{is_plain, pass_rule, stories}
use Rattle.redl_tree.specs.Model.Nodes.{Tag, Nodes, no_nodes, bytes, element}
use Rattle.redl_tree.specs.Model.Seen.{Seen, Spot, root_spots, seen, seen_from, seen_one, spot, tags, tags_of}
use Rattle.redl_tree.specs.Revisions.Markers.{move_of, move_of_marker, own_role, whole_role}
use Rattle.redl_tree.specs.Revisions.Moves.{Marking, Pair, pairs}
use Rattle.redl_tree.specs.Revisions.Numbers.{numbered_package_by}
use Rattle.redl_tree.specs.Rules.Sound.{holds}
use Rattle.redl_tree.specs.Rules.Tests.{everywhere}
use Rattle.redl_tree.specs.declared.kinds.Kind.{Kind}
use Rattle.redl_tree.specs.declared.kinds.Kind.TheVariants.{Plain, Content, Mark, Row, Cell, Change, Marker}

-- ---- elements without a role

plain-kind : (kind : Kind) → is_plain kind ≡ true → kind ≡ Plain
plain-kind Plain e = refl
plain-kind (Content t) e = absurd (cc e)
plain-kind (Mark t) e = absurd (cc e)
plain-kind (Row t) e = absurd (cc e)
plain-kind (Cell t) e = absurd (cc e)
plain-kind (Change p) e = absurd (cc e)
plain-kind Marker e = absurd (cc e)

abbrev IsPlainSeen : Seen → Type 0
IsPlainSeen seen = own_role seen ≡ Plain

each-append : {X : Type 0} (P : X → Type 0) (xs ys : List X) → AllByRecursion P xs → AllByRecursion P ys → AllByRecursion P (xs ++ ys)
each-append P [] ys h g = g
each-append P (x ∷ xs) ys h g = (h.0, each-append P xs ys h.1 g)

plain-seen : (spots : List Spot) (at : ℕ) (nodes : Nodes) → everywhere has_no_role (tags_of spots) nodes ≡ true → AllByRecursion IsPlainSeen (seen_from spots at nodes)
plain-seen spots at no_nodes e = tt
plain-seen spots at (bytes b rest) e = plain-seen spots at rest e
plain-seen spots at (element tag kids rest) e =
    let x = and_parts (has_no_role (tags_of spots) tag kids && everywhere has_no_role (tag ∷ tags_of spots) kids) (everywhere has_no_role (tags_of spots) rest) e in
    let y = and_parts (has_no_role (tags_of spots) tag kids) (everywhere has_no_role (tag ∷ tags_of spots) kids) x.0 in (
      plain-kind (own_role (seen_one spots at tag kids)) y.0,
      each-append IsPlainSeen (seen_from (spot at tag kids ∷ spots) (at + 1) kids) (seen_from spots (at + 2 + tags kids) rest)
          (plain-seen (spot at tag kids ∷ spots) (at + 1) kids y.1) (plain-seen spots (at + 2 + tags kids) rest x.1),
    )

-- ---- they mention nothing but moves, as markers

record IsEmptyMention (mention : Mention) : Type 0 where
  pub kind : mention.kind ≡ Move
  pub start : ℕ
  pub move : mention.move ≡ Some start
  pub counts : mention.counts ≡ false

abbrev IsEmptyOrNone : Option Mention → Type 0
IsEmptyOrNone None = Unit {0}
IsEmptyOrNone (Some mention) = IsEmptyMention mention

empty-sight : (marks : List Marking) (tails : List (List ℕ)) (one : Seen) → IsPlainSeen one → IsEmptyOrNone (sight_in marks tails one).mention
empty-sight marks tails one plain = at (move_of_marker attribute_value (pairs marks) one) (own_role one) refl refl plain
  where
    at : (found : Option Pair) (role : Kind) → move_of_marker attribute_value (pairs marks) one ≡ found → own_role one ≡ role → role ≡ Plain → IsEmptyOrNone (sight_in marks tails one).mention
    at None role e f g = rw (e, f, g) tt
    at (Some pair) role e f g = rw e (record { kind = refl; start = (start_in marks pair).at; move = refl; counts = refl })

empty-mentions : (marks : List Marking) (tails : List (List ℕ)) (xs : List Seen) → AllByRecursion IsPlainSeen xs
    → AllByRecursion IsEmptyMention (filter_map (λ sight. sight.mention) (map (sight_in marks tails) xs))
empty-mentions marks tails [] h = tt
empty-mentions marks tails (x ∷ xs) h = at (sight_in marks tails x).mention refl (empty-sight marks tails x h.0) (empty-mentions marks tails xs h.1)
  where
    at : (o : Option Mention) → (sight_in marks tails x).mention ≡ o → IsEmptyOrNone o → AllByRecursion IsEmptyMention (filter_map (λ sight. sight.mention) (map (sight_in marks tails) xs))
        → AllByRecursion IsEmptyMention (filter_map (λ sight. sight.mention) (map (sight_in marks tails) (x ∷ xs)))
    at None e here later = rw e later
    at (Some mention) e here later = rw e (here, later)

empty-firsts : (before ms : List Mention) → AllByRecursion IsEmptyMention ms → AllByRecursion IsEmptyMention (firsts before ms)
empty-firsts before [] h = tt
empty-firsts before (m ∷ ms) h = at (is_new before m.move) (empty-firsts (before ++ m ∷ []) ms h.1)
  where
    at : (b : Bool) → AllByRecursion IsEmptyMention (firsts (before ++ m ∷ []) ms)
        → AllByRecursion IsEmptyMention (if b then m ∷ firsts (before ++ m ∷ []) ms else firsts (before ++ m ∷ []) ms)
    at true ih = (h.0, ih)
    at false ih = ih

no-members : (start : ℕ) (ms : List Mention) → AllByRecursion IsEmptyMention ms → members_of ms (Some start) ≡ 0
no-members start [] h = refl
no-members start (m ∷ ms) h =
    ap (λ (b : Bool). length (if b && is_of start m then m ∷ filter (λ mention. mention.counts && is_of start mention) ms else filter (λ mention. mention.counts && is_of start mention) ms)) h.0.counts
    ∙ no-members start ms h.1

-- ---- revisions

-- with any number, a revision is a move without members
abbrev IsEmpty : (ℕ → Revision) → Type 0
IsEmpty revision = (number : ℕ) → IsEmptyMove (revision number)

empty-revisions : (part : ℕ) (story ms : List Mention) → AllByRecursion IsEmptyMention story → AllByRecursion IsEmptyMention ms → AllByRecursion IsEmpty (map (revision_of part story) ms)
empty-revisions part story [] all h = tt
empty-revisions part story (m ∷ ms) all h = (
  λ number. record { kind = h.0.kind; members = ap (members_of story) h.0.move ∙ no-members h.0.start story all },
  empty-revisions part story ms all h.1,
)

empty-story : (part : ℕ) (root : Tag) (kids : Nodes) → everywhere has_no_role [] (element root kids no_nodes) ≡ true → AllByRecursion IsEmpty (story_revisions part root kids)
empty-story part root kids e =
    let one = and_parts (has_no_role [] root kids && everywhere has_no_role (root ∷ []) kids) true e in
    let both = and_parts (has_no_role [] root kids) (everywhere has_no_role (root ∷ []) kids) one.0 in
    let all = empty-mentions (markers_of root kids) (marker_tails root kids) (seen root kids) (plain-seen (root_spots root kids) 1 kids both.1) in
    empty-revisions part (mentions root kids) (firsts [] (mentions root kids)) all (empty-firsts [] (mentions root kids) all)

empty-parts : (number : ℕ) (parts : List Element) → holds has_no_role (filter_map story_of parts) ≡ true → AllByRecursion IsEmpty (revisions_from number parts)
empty-parts number [] e = tt
empty-parts number (part ∷ later) e = at (story_of part) refl (λ h. empty-parts (number + 1) later h)
  where
    at : (o : Option Element) → story_of part ≡ o → (holds has_no_role (filter_map story_of later) ≡ true → AllByRecursion IsEmpty (revisions_from (number + 1) later))
        → AllByRecursion IsEmpty (revisions_from number (part ∷ later))
    at None f ih =
        let rest = ih (sym (ap (λ (o : Option Element). holds has_no_role (cons_option o (filter_map story_of later))) f) ∙ e) in
        subst (λ (o : Option Element). AllByRecursion IsEmpty (revisions_in number o ++ revisions_from (number + 1) later)) (sym f) rest
    at (Some root) f ih =
        let both = and_parts (everywhere has_no_role [] (element root.tag root.kids no_nodes)) (holds has_no_role (filter_map story_of later))
        (sym (ap (λ (o : Option Element). holds has_no_role (cons_option o (filter_map story_of later))) f) ∙ e) in
        subst (λ (o : Option Element). AllByRecursion IsEmpty (revisions_in number o ++ revisions_from (number + 1) later)) (sym f)
        (each-append IsEmpty (story_revisions number root.tag root.kids) (revisions_from (number + 1) later) (empty-story number root.tag root.kids both.0) (ih both.1))

empty-numbered : (number : ℕ) (revisions : List (ℕ → Revision)) → AllByRecursion IsEmpty revisions → AllByRecursion IsEmptyMove (numbered number revisions)
empty-numbered number [] h = tt
empty-numbered number (revision ∷ more) h = (h.0 number, empty-numbered (number + 1) more h.1)

-- ---- what is left where all are decided

blind : Blind has_no_role
blind ancestors tag kids = ap is_plain (role-bare ancestors tag)

deaf : Deaf has_no_role
deaf ancestors tag kids = refl

pub only-empty-moves : OnlyEmptyMoves
only-empty-moves nodes says shape sound many decided =
    let nodes_left = left says nodes in
    let shape_left : refusal (again nodes_left) ≡ None =
    shape-again nodes_left ∙ refusal-changed pass_rule says (numbered_package_by attribute_value nodes) ∙ shape-numbered attribute_value nodes ∙ shape in
    let none : holds has_no_role (stories (again nodes_left)) ≡ true =
    same-holds nodes_left has_no_role blind deaf ∙ all-settle attribute_value has_id declares says nodes sound many decided in
    All-from_recursion IsEmptyMove (revisions_of (again nodes_left))
    (empty-numbered 1 (revisions_from 0 (parts_of (again nodes_left)))
    (empty-parts 0 (parts_of (again nodes_left)) (ap (holds has_no_role) (stories-parts (again nodes_left) shape_left) ∙ none)))
