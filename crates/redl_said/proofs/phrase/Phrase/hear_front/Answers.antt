use Rattle.std.proofs.Common.{◌≡◌, ◌≤◌, ◌-◌, ◌++◌, ℕ, List, length, arith, ap, sym, ◌∙◌}
use Rattle.std.proofs.lemmas.List.{take-append-drop}
use Rattle.redl_said.specs.Phrases.{Kept, heard}
use Rattle.redl_said.proofs.EvenLaws.{heard-at-once}
use Rattle.redl_said.proofs.phrase.Phrase.hear_front.Goals as goal

pub overflow_sub-self : goal.overflow_sub-self
overflow_sub-self c = omega (arith, c.characters_in.ensures.few, c.split_at.ensures.front_len, c.min.ensures)

pub returns : goal.returns
returns c =
    let front = c.split_at.result.0.now in
    let room = c.self.inside.room in
    let over = c.self.inside.over in
    let old : Kept = record { text = c.self.inside.text.items; room = room; gap = c.self.inside.gap; over = over } in
    let whole : front ++ c.split_at.result.1.now ≡ c.args.bytes.now = rw (c.split_at.ensures.front, c.split_at.ensures.back) (take-append-drop c.min.result c.args.bytes.now) in
    let within : length front ≤ room = omega (arith, c.split_at.ensures.front_len, c.min.ensures) in
    heard-at-once old _ front c.split_at.result.1.now c.args.bytes.now c.in-Some.gap whole c.if-self.false (sym c.even_end.ensures ∙ c.in-Some.is) within
    (ap (λ (text : List ℕ). record { text = text; room = room - c.characters_in.result; gap = c.in-Some.gap; over = over }) c.in_ok-extend_from_slice.ensures.items
    ∙ ap (λ (n : ℕ). record { text = c.self.inside.text.items ++ front; room = room - n; gap = c.in-Some.gap; over = over }) c.characters_in.ensures.value)
    ∙ ap (λ (kept : Kept). heard kept c.args.bytes.now) c.self.view_is
