-- What `settle` leaves has no revisions but moves without members.
use Rattle.std.proofs.Common.{◌≡◌, ◌∙◌, refl, ap, ℕ, zero, suc, List, ◌∷◌, length, replicate, Bool, true, false, not}
use Rattle.std.specs.List.{list_all}
use Rattle.redl_commands.specs.Settle.{settling}
use Rattle.redl_index.specs.Numbers.{package_revisions}
use Rattle.redl_inputs.specs.Readers.{Reader}
use Rattle.redl_io.specs.Shelf.{Files}
use Rattle.redl_outcome.proofs.LeftLaws.{leaves_sound, sound_package}
use Rattle.redl_outcome.specs.Brought.{Brought}
use Rattle.redl_rounds_sound.proofs.EmptyMoves.{only-empty-moves}
use Rattle.redl_rounds_sound.specs.Settled.{SettledIsCounted}
use Rattle.redl_sound.proofs.Locked.Opened.{shape-read}
use Rattle.redl_tree.specs.Leaves.Settings.{is_keep}
use Rattle.redl_tree.specs.declared.kinds.Say.{Say}
use Rattle.redl_words.specs.Commands.{settle}

length-same : (n : ℕ) (say : Say) → length (replicate n say) ≡ n
length-same zero say = refl
length-same (suc n) say = ap suc (length-same n say)

all-decided : (n : ℕ) (accept : Bool) → list_all (λ say. not (is_keep say)) (replicate n (settling accept)) ≡ true
all-decided zero accept = refl
all-decided (suc n) true = all-decided n true
all-decided (suc n) false = all-decided n false

pub settled_is_counted : (reader : Reader) (files : Files) (brought : Brought) → SettledIsCounted reader files brought
settled_is_counted reader files brought words accept p is_command written =
    let l = leaves_sound reader words files brought (settle accept p) p is_command refl written in
    record {
      left = l;
      empty = only-empty-moves l.nodes l.says (shape-read reader l.whole l.nodes l.original) (sound_package reader l.whole l.nodes l.original)
          (ap (λ (says : List Say). length says) l.decided ∙ length-same (package_revisions l.nodes) (settling accept))
          (ap (λ (says : List Say). list_all (λ say. not (is_keep say)) says) l.decided ∙ all-decided (package_revisions l.nodes) accept);
    }
