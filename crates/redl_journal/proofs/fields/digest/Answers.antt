use Rattle.std.proofs.Common.{sym, ◌∙◌}
use Rattle.redl_journal.proofs.Parts.{digest_not_decoded, digest_same, digest_other}
use Rattle.redl_journal.proofs.fields.digest.Goals as goal

pub returns-in_default : goal.returns-in_default
returns-in_default c = digest_not_decoded c.args.digits.now c.decode_to_slice.result c.decode_to_slice.new.out c.in_default.field-0 c.decode_to_slice.ensures.value c.in_default.is

pub returns-then-eq : goal.returns-then-eq
returns-then-eq c =
    digest_same c.args.digits.now c.decode_to_slice.result c.decode_to_slice.new.out c.as_slice.result.now c.decode_to_slice.ensures.value c.in-Ok.is
    (c.as_slice.ensures ∙ c.in-Ok-encode_to_slice.ensures.written) (sym c.eq.ensures ∙ c.if-eq.true)

pub returns-else-eq : goal.returns-else-eq
returns-else-eq c =
    digest_other c.args.digits.now c.decode_to_slice.result c.decode_to_slice.new.out c.as_slice.result.now c.decode_to_slice.ensures.value c.in-Ok.is
    (c.as_slice.ensures ∙ c.in-Ok-encode_to_slice.ensures.written) (sym c.eq.ensures ∙ c.if-eq.false)
