-- Says that are set, and which revisions they change.
use Rattle.std.specs.Prelude.{ℕ, ◌==◌, ◌&&◌, not, List, [], ◌∷◌, Bool, if◌then◌else◌}
use Rattle.std.specs.List.{list_any}
use Rattle.redl_tree.specs.Decisions.Fates.{say_of}
use Rattle.redl_tree.specs.Leaves.Settings.{Setting, same_say}
use Rattle.redl_tree.specs.declared.kinds.Say.{Say}
use Rattle.redl_editor.specs.declared.changing.Change.{Change}

-- a change as the definitions see it
abbrev pub setting_of : Change → Setting
setting_of change = record { rev = change.rev; say = change.say }

-- something else is said of this revision than before
abbrev pub is_changed : List Say → List Say → ℕ → Bool
is_changed old new rev = not (same_say (say_of new rev) (say_of old rev))

-- what is said before of the revisions that some of these settings give another say than that
abbrev pub former_of : List Say → List Setting → List Setting
former_of says [] = []
former_of says (setting ∷ later) =
    if not (same_say (say_of says setting.rev) setting.say) then record { rev = setting.rev; say = say_of says setting.rev } ∷ former_of says later
    else former_of says later

-- this is one of the revisions of which something else is said now
abbrev pub differ : List Say → List Setting → ℕ → Bool
differ says former rev = list_any (λ one. one.rev == rev && not (same_say (say_of says one.rev) one.say)) former
