use Rattle.redl_marked.proofs.MemberLaws.{members-told}
use Rattle.redl_marked.proofs.laws.each_member_has_its_sign.Goals as goal

pub returns : goal.returns
returns c = members-told
