use Rattle.std.proofs.Common.{map, ap, ◌∙◌}
use Rattle.redl_shown.specs.Shown.{shown}
use Rattle.redl_bare.specs.Units.{byte, byte_texts, in_marks}
use Rattle.redl_bare.specs.Inside.Idle.{numbers, numbered}
use Rattle.redl_bare.specs.Inside.Views.{marks_view}
use Rattle.redl_bare.proofs.FieldLaws.{numbers_back}
use Rattle.redl_bare.proofs.LineLaws.{units_by}
use Rattle.redl_bare.proofs.idle.put_idle_bytes.Goals as goal

pub returns-in-InText : goal.returns-in-InText
returns-in-InText g c =
    let marks = marks_view c.args.writer.now.marks in
    units_by (ap (λ p. in_marks marks (numbered (numbers (byte_texts p c.args.bytes.now)))) c.in-InText.is ∙ ap (in_marks marks) (numbers_back (map byte (shown c.args.bytes.now))))
    c.put_shown_texts.ensures
