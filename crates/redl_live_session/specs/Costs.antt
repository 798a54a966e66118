-- What admitting an entry may cost the editor, and what it costs at least.
use Rattle.std.specs.Prelude.{ℕ}
use Rattle.redl_editor.specs.Changes.{is_changed}
use Rattle.redl_editor.specs.Costs.{AreCounted, parts_cost}
use Rattle.redl_journal.specs.declared.entry.Entry.{Entry}
use Rattle.redl_session.specs.Sessions.{SessionState, after_entry, says}
use Rattle.redl_tree.specs.Decisions.Packages.{stories}

-- for each leaf that holds a member or a marker of a revision with another say after the entry: its size, and four times the length of
-- its path
abbrev pub entry_cost : SessionState → Entry → ℕ
entry_cost state entry = parts_cost (is_changed (says state) (says (after_entry state entry))) (stories state.nodes)

-- Of each leaf that holds a member or a marker of a revision with another say in the new session, a step was counted for each node that
-- it has then.
abbrev pub IsCounted : SessionState → SessionState → ℕ → ℕ → Type 0
IsCounted old new before after = AreCounted (is_changed (says old) (says new)) (says new) before after (stories old.nodes)
