-- What an idle element is to a walk of a story: it is in no revision, and so it keeps its label.
use Rattle.std.proofs.Common.{◌≡◌, ◌∙◌, refl, sym, ap, ℕ, List, Bool, true, ◌&&◌, not, codes, find, is_some, Option, None, option_map, if◌then◌else◌}
use Rattle.std.proofs.lemmas.Bool.{and_from}
use Rattle.std.proofs.Math.Bool.{and-false}
use Rattle.redl_tree.specs.Model.Nodes.{Tag, no_nodes}
use Rattle.redl_tree.specs.Revisions.Moves.{Marking, pairs, is_of_pair}
use Rattle.redl_tree.specs.Roles.Arounds.{role_in}
use Rattle.redl_tree.specs.Roles.Idle.{is_idle_tag}
use Rattle.redl_tree.specs.declared.around.Around.{Around}
use Rattle.redl_tree.specs.declared.kinds.Kind.{Kind}
use Rattle.redl_tree.specs.declared.kinds.Kind.TheVariants.{Plain, Marker}
use Rattle.redl_tree.proofs.Idle.Roles.{no_range_edge}
use Rattle.redl_tree.proofs.Idle.Tags.{Idle, idle_parts}
use Rattle.redl_moves.specs.Starts.{start_in}
use Rattle.redl_moves.specs.declared.start.Start.{Start}
use Rattle.redl_rules.proofs.IdleLaws.{no_role_in}
use Rattle.redl_stamp.specs.Attribute.{attribute_value}
use Rattle.redl_visit.specs.Labelling.{LeavesIdle, with_label}
use Rattle.redl_index.specs.declared.story.Sight.{Sight}
use Rattle.redl_index.specs.Inside.Numberers.{numberer_rule}
use Rattle.redl_index.specs.Inside.Numberings.{number_given}
use Rattle.redl_index.specs.Inside.Sights.{marker_start, member_start, sight_at}

abbrev pub plain : Sight
plain = record { kind = Plain; start = None }

no_start : (marks : List Marking) (around : Around) (at : ℕ) (tag : Tag) (in_run : Bool) → Idle in_run tag → marker_start marks around at tag ≡ None
no_start marks around at tag in_run i =
    ap (λ b. option_map (start_in marks) (if (not around.quiet && b) && is_some (attribute_value tag.tail (codes "id")) then find (is_of_pair at) (pairs marks) else None)) (no_range_edge in_run tag i)
    ∙ ap (λ b. option_map (start_in marks) (if b && is_some (attribute_value tag.tail (codes "id")) then find (is_of_pair at) (pairs marks) else None)) (and-false (not around.quiet))

pub plain-sight : (marks : List Marking) (around : Around) (end at : ℕ) (tag : Tag) (in_run : Bool) → Idle in_run tag → sight_at marks around end at tag ≡ plain
plain-sight marks around end at tag in_run i =
    let by_role : Kind → Sight = λ k. record { kind = k; start = member_start marks k at end } in
    ap (λ (m : Option Start). if is_some m then record { kind = Marker; start = m } else by_role (role_in around tag)) (no_start marks around at tag in_run i)
    ∙ ap by_role (no_role_in in_run around tag i)

-- it keeps its label
pub leaves-idle : LeavesIdle numberer_rule
leaves-idle here end in_run tag kids s h =
    let i = (idle_parts in_run tag no_nodes no_nodes (and_from (is_idle_tag in_run tag) (true && true) h refl)).own in
    ap (λ (x : Sight). with_label (record { kind = x.kind; rev = number_given x s.numbers }) tag) (plain-sight s.marks here end s.at tag in_run i)
    ∙ ap (λ (k : Kind). record tag { kind = k; rev = 0 }) (sym i.kind)
    ∙ ap (λ n. record tag { rev = n }) (sym i.rev)
