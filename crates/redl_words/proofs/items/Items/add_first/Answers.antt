use Rattle.std.proofs.Common.{◌≡◌, ◌∷◌, ℕ, true, false, List, sym, ap, ◌∙◌}
use Rattle.std.proofs.lemmas.List.{nil_from_length}
use Rattle.redl_words.specs.Reading.Items.{gathered, items_view, stands_alone}
use Rattle.redl_words.proofs.ItemLaws.{goes_lone, goes_pair, stops_short, fails_lone, fails_pair, goes_fails, later_utf8}
use Rattle.redl_words.proofs.items.Items.add_first.Goals as goal

pub returns-in_err-add_lone-clause-gathered : goal.returns-in_err-add_lone-clause-gathered
returns-in_err-add_lone-clause-gathered c =
    let before = items_view c.args.self.now in
    let alone : stands_alone c.args.form c.args.word.now ≡ true = ap (stands_alone c.args.form) (sym c.as_bytes.ensures) ∙ sym c.stands_alone.ensures ∙ c.if-stands_alone.true in
    goes_fails c.args.form before _ (c.args.word.now ∷ c.args.later.now) c.from_residual.result c.in_err-add_lone.field-0.0 c.from_residual.ensures.1
    (fails_lone c.args.form before c.args.word.now c.args.later.now c.in_err-add_lone.field-0.0 alone c.in_err-add_lone.ensures)

pub returns-then-stands_alone-clause-gathered : goal.returns-then-stands_alone-clause-gathered
returns-then-stands_alone-clause-gathered c =
    let alone : stands_alone c.args.form c.args.word.now ≡ true = ap (stands_alone c.args.form) (sym c.as_bytes.ensures) ∙ sym c.stands_alone.ensures ∙ c.if-stands_alone.true in
    goes_lone c.args.form (items_view c.args.self.now) _ c.args.word.now c.args.later.now alone c.in_ok-add_lone.ensures

pub returns-in_err-add_pair-in-Some-clause-gathered : goal.returns-in_err-add_pair-in-Some-clause-gathered
returns-in_err-add_pair-in-Some-clause-gathered c =
    let before = items_view c.args.self.now in
    let alone : stands_alone c.args.form c.args.word.now ≡ false = ap (stands_alone c.args.form) (sym c.as_bytes.ensures) ∙ sym c.stands_alone.ensures ∙ c.if-stands_alone.false in
    goes_fails c.args.form before _ (c.args.word.now ∷ c.args.later.now) c.from_residual-in_err-add_pair-in-Some.result c.in_err-add_pair-in-Some.field-0.0 c.from_residual-in_err-add_pair-in-Some.ensures.1
    (rw c.in-Some.ensures.cases.0 (fails_pair c.args.form before c.args.word.now c.in-Some.value.now c.in-Some.after.now c.in_err-add_pair-in-Some.field-0.0 alone c.in_err-add_pair-in-Some.ensures))

pub returns-in_ok-add_pair-in-Some-clause-gathered : goal.returns-in_ok-add_pair-in-Some-clause-gathered
returns-in_ok-add_pair-in-Some-clause-gathered c =
    let alone : stands_alone c.args.form c.args.word.now ≡ false = ap (stands_alone c.args.form) (sym c.as_bytes.ensures) ∙ sym c.stands_alone.ensures ∙ c.if-stands_alone.false in
    ap (λ (later : List (List ℕ)). gathered c.args.form (items_view c.args.self.now) (c.args.word.now ∷ later)) c.in-Some.ensures.cases.0
    ∙ goes_pair c.args.form (items_view c.args.self.now) _ c.args.word.now c.in-Some.value.now c.in-Some.after.now alone c.in_ok-add_pair-in-Some.ensures

pub returns-in_ok-add_pair-in-Some-clause-utf8 : goal.returns-in_ok-add_pair-in-Some-clause-utf8
returns-in_ok-add_pair-in-Some-clause-utf8 c = later_utf8 c.in-Some.value.now c.in-Some.after.now c.args.later.now c.in-Some.ensures.cases.0 c.requires

pub returns-in-None-clause-gathered : goal.returns-in-None-clause-gathered
returns-in-None-clause-gathered c =
    let alone : stands_alone c.args.form c.args.word.now ≡ false = ap (stands_alone c.args.form) (sym c.as_bytes.ensures) ∙ sym c.stands_alone.ensures ∙ c.if-stands_alone.false in
    ap (λ (later : List (List ℕ)). gathered c.args.form (items_view c.args.self.now) (c.args.word.now ∷ later)) (nil_from_length c.args.later.now c.in-None.ensures.cases)
    ∙ stops_short c.args.form (items_view c.args.self.now) c.args.word.now alone
