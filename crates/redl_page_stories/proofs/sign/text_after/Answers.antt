use Rattle.std.proofs.Common.{refl}
use Rattle.redl_page_stories.proofs.sign.text_after.Goals as goal

pub returns-in-Plain : goal.returns-in-Plain
returns-in-Plain c = rw c.in-Plain.is refl

pub returns-in-Content : goal.returns-in-Content
returns-in-Content c = rw c.in-Content.is refl

pub returns-in-Marker : goal.returns-in-Marker
returns-in-Marker c = rw c.in-Marker.is refl
