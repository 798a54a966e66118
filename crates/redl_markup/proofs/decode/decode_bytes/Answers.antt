use Rattle.std.proofs.Common.{ℕ, List, sym, subst}
use Rattle.std.proofs.lemmas.List.{nil_from_length}
use Rattle.std.specs.Str.{IsUtf8}
use Rattle.redl_markup.proofs.Decoding.{all_made, decoded_is_utf8}
use Rattle.redl_markup.proofs.decode.decode_bytes.Goals as goal

pub returns-clause-utf8 : goal.returns-clause-utf8
returns-clause-utf8 c = λ u.
    let made = all_made c.loop-first.text.items c.args.value.now c.loop-first.rest.now c.loop-first.in_reference c.loop-first.invariant (nil_from_length c.loop-first.rest.now c.in_default.ensures.cases) in
    let P : List ℕ → Type 0 = λ z. IsUtf8 z in
    subst P (sym made) (decoded_is_utf8 c.args.value.now u)
