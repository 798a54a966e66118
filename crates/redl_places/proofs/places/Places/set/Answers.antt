-- A place in the document is taken away, any other one kept.
use Rattle.std.proofs.Common.{◌∙◌, refl, sym, Some, None}
use Rattle.redl_places.proofs.PlaceLaws.{document-is, set_one}
use Rattle.redl_places.proofs.places.Places.set.Goals as goal

pub returns-then-is_document : goal.returns-then-is_document
returns-then-is_document c = λ v.
    set_one c.args.revision v c.args.place None _ _ (document-is c.args.place (sym c.is_document.ensures ∙ c.if-is_document.true)) (c.remove.ensures.updates.0 v)

pub returns : goal.returns
returns c = λ v. set_one c.args.revision v c.args.place (Some c.args.place) _ _ refl (c.in_ok-insert.ensures.updates.0 v)
