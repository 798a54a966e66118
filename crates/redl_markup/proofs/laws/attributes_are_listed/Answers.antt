use Rattle.redl_markup.proofs.Listing.{tail_lists}
use Rattle.redl_markup.proofs.laws.attributes_are_listed.Goals as goal

pub returns : goal.returns
returns c = tail_lists
