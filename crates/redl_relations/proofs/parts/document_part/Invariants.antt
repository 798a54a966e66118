use Rattle.std.proofs.Common.{◌≡◌, drop}
use Rattle.redl_opc.specs.Shape.{parts_of, is_document}
use Rattle.redl_relations.specs.Relations.{number_from, document_part}
use Rattle.redl_relations.proofs.parts.document_part.Given as goal

-- none of the parts so far is a document
abbrev pub invariant-loop-part : goal.invariant-loop-part
invariant-loop-part l = number_from is_document l.part (drop l.part (parts_of l.pkg)) ≡ document_part l.pkg
