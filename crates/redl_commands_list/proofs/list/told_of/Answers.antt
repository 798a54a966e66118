use Rattle.std.proofs.Common.{rules, ◌≡◌, ◌∙◌, ap, sym, length}
use Rattle.redl_commands_shown.specs.List.{session_details}
use Rattle.redl_commands_list.proofs.FormatLaws.{verdicts_for}
use Rattle.redl_commands_list.proofs.list.told_of.Goals as goal

pub shown_of-requires : goal.shown_of-requires
shown_of-requires c =
    let state = c.args.session in
    ap length c.deref.ensures.value ∙ verdicts_for state.book (length state.revisions) c.in_ok-verdicts.verdicts.items c.in_ok-verdicts.ensures

pub returns-clause-details : goal.returns-clause-details
unfolding session_details
returns-clause-details c = search rules
