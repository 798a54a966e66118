use Rattle.std.proofs.Common.{◌≡◌, ◌∙◌, ap, refl, Bool, true, false, Option, Some, cond, bytes_eq, if◌then◌else◌}
use Rattle.std.proofs.lemmas.Map.Text.{btree_map_updates_str}
use Rattle.redl_edits.specs.Inside.Authors.{seen_of, seen_or}
use Rattle.redl_edits.specs.Inside.Reaches.{seen_with}
use Rattle.redl_edits.specs.declared.seen.Seen.{Seen}
use Rattle.redl_edits.proofs.seen_by.SeenBy.see.Goals as goal

kept : (none : Seen) (b : Bool) (seen : Seen) (old : Option Seen) → seen_or none (cond b (Some seen) old) ≡ (if b then seen else seen_or none old)
kept none true seen old = refl
kept none false seen old = refl

pub returns-clause-after : goal.returns-clause-after
returns-clause-after c = λ other.
    ap (seen_or c.args.self.now.none) (btree_map_updates_str c.args.author.now c.args.self.now.by_author c.insert.new.self (Some c.with-seen.result) c.in_ok-insert.ensures.updates other)
    ∙ kept c.args.self.now.none (bytes_eq c.args.author.now other) c.with-seen.result _
    ∙ ap (λ (seen : Seen). if bytes_eq c.args.author.now other then seen else seen_of c.args.self.now other)
    (c.with-seen.ensures ∙ ap (λ (seen : Seen). seen_with seen c.args.span c.args.dark) c.of.ensures)
