use Rattle.std.proofs.Common.{◌≡◌, drop, map}
use Rattle.redl_bare.specs.Units.{byte}
use Rattle.redl_bare.specs.Inside.Texts.{after_texts}
use Rattle.redl_bare.specs.Inside.Views.{fields_view}
use Rattle.redl_bare.proofs.fields.Fields.read.Given as goal

abbrev pub invariant-loop-at : goal.invariant-loop-at
invariant-loop-at l = after_texts (fields_view l.self) (map byte (drop l.at l.bytes)) ≡ after_texts (fields_view l.initial.self) (map byte l.bytes)
