use Rattle.redl_join.proofs.Unions.{book-none}
use Rattle.redl_session.proofs.session.Session.start.Goals as goal

pub invariant_of-result : goal.invariant_of-result
invariant_of-result c = record {
  numbered = c.requires.numbered;
  sound = c.requires.sound;
  ordered = rw c.new.ensures book-none;
}
