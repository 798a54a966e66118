use Rattle.redl_page_stories.proofs.MemberLaws.{document-has}
use Rattle.redl_page_stories.proofs.laws.each_member_has_an_element.Goals as goal

pub returns : goal.returns
returns c = λ shown revisions value nodes rev shape is member. document-has shown revisions value nodes rev shape is member
