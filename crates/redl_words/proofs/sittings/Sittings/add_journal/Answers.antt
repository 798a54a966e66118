use Rattle.std.proofs.Common.{◌≡◌, ◌∷◌, ℕ, true, false, List, sym, ap, ◌∙◌}
use Rattle.std.proofs.lemmas.List.{nil_from_length}
use Rattle.redl_words.specs.Items.{is_name}
use Rattle.redl_words.specs.Reading.Sittings.{sittings_in, sittings_view}
use Rattle.redl_words.proofs.SittingLaws.{first_read, second_read, stops_pair, stops_short}
use Rattle.redl_words.proofs.sittings.Sittings.add_journal.Goals as goal
use Rattle.redl_words.proofs.sittings.Sittings.add_journal.Goals.{in_default-via-in-Some+else-names_first, in_default-via-in_default}

pub returns-then-is_file_name-clause-read : goal.returns-then-is_file_name-clause-read
returns-then-is_file_name-clause-read c =
    let name : is_name c.args.word.now ≡ true = ap is_name (sym c.as_bytes.ensures) ∙ sym c.is_file_name.ensures ∙ c.if-is_file_name.true in
    second_read (sittings_view c.args.self.now) c.args.word.now c.args.later.now c.add_copy.new.words.items name c.in_ok-add_copy.ensures

pub returns-in_ok-add_copy-in-Some-clause-read : goal.returns-in_ok-add_copy-in-Some-clause-read
returns-in_ok-add_copy-in-Some-clause-read c =
    let name : is_name c.args.word.now ≡ false = ap is_name (sym c.as_bytes.ensures) ∙ sym c.is_file_name.ensures ∙ c.if-is_file_name.false in
    ap (λ (later : List (List ℕ)). sittings_in (sittings_view c.args.self.now) (c.args.word.now ∷ later)) c.in-Some.ensures.cases.0
    ∙ first_read (sittings_view c.args.self.now) c.args.word.now c.in-Some.name.now c.in-Some.after.now c.add_copy-in-Some.new.words.items name
    (sym c.names_first.ensures ∙ c.if-names_first.true) c.in_ok-add_copy-in-Some.ensures

pub returns-in_default-clause-read : goal.returns-in_default-clause-read
returns-in_default-clause-read c =
    let name : is_name c.args.word.now ≡ false = ap is_name (sym c.as_bytes.ensures) ∙ sym c.is_file_name.ensures ∙ c.if-is_file_name.false in
    elim c.in_default.branch [
      | in_default-via-in-Some+else-names_first w ↦
          ap (λ (later : List (List ℕ)). sittings_in (sittings_view c.args.self.now) (c.args.word.now ∷ later)) w.in-Some.ensures.cases.0
          ∙ stops_pair (sittings_view c.args.self.now) c.args.word.now w.in-Some.name.now w.in-Some.after.now name (sym w.names_first.ensures ∙ w.if-names_first.false)
      | in_default-via-in_default w ↦
          ap (λ (later : List (List ℕ)). sittings_in (sittings_view c.args.self.now) (c.args.word.now ∷ later)) (nil_from_length c.args.later.now w.in_default.ensures.cases)
          ∙ stops_short (sittings_view c.args.self.now) c.args.word.now name
    ]
