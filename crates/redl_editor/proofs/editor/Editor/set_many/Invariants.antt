use Rattle.redl_editor.proofs.editor.Editor.set_many.Given as goal

abbrev pub ghosts-set_many_uncounted : goal.ghosts-set_many_uncounted
ghosts-set_many_uncounted a = record { name = a.blank.name; parts = a.blank.parts }
