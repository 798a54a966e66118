-- Told of its stories, each excerpt that is wanted is that of its revision.
use Rattle.std.proofs.Common.{subst}
use Rattle.redl_excerpts.specs.Excerpts.{TellsEach, is_moved, package_mentions}
use Rattle.redl_excerpts.proofs.TellLaws.{excerpts-told}
use Rattle.redl_excerpts.proofs.package.excerpts.Goals as goal

pub returns : goal.returns
returns c =
    let revisions = c.args.index.now in
    let same = c.revisions-revisions.ensures.value in
    excerpts-told c.args.pkg.now revisions c.args.wanted.now c.tell_stories.new.excerpts.items c.revisions-revisions.ensures.numbers
    (subst (λ old. TellsEach old c.tell_stories.new.excerpts.items (λ v. package_mentions (is_moved revisions v) v c.args.pkg.now))
    (rw same at c.in_ok-excerpts.ensures)
    (rw same at c.in_ok-tell_stories.ensures))
