-- What is heard in pieces is heard at once: of the beginning of a text, of a line, and of a place in a line.
use Rattle.std.proofs.Common.{◌≡◌, ℕ, Bool, List, [], ◌∷◌, ◌++◌, refl, sym, ◌∙◌, ap, append_assoc}
use Rattle.std.proofs.lemmas.List.{append-nil}
use Rattle.redl_said.specs.Lines.{Drawn, along, drawn, ends_white, in_line, passed, spaced}
use Rattle.redl_said.specs.Phrases.{Kept, heard, heard_byte, is_white}
use Rattle.redl_said.specs.declared.line.LinePlace.{LinePlace}

pub heard-more : (kept : Kept) (a b : List ℕ) → heard (heard kept a) b ≡ heard kept (a ++ b)
heard-more kept [] b = refl
heard-more kept (x ∷ a) b = heard-more (heard_byte kept x) a b

pub spaced-more : (gap : Bool) (a b : List ℕ) → spaced gap (a ++ b) ≡ spaced gap a ++ spaced (ends_white gap a) b
spaced-more gap [] b = refl
spaced-more gap (x ∷ a) b =
    ap (λ rest. in_line gap x ++ rest) (spaced-more (is_white x) a b)
    ∙ sym (append_assoc (in_line gap x) (spaced (is_white x) a) (spaced (ends_white (is_white x) a) b))

pub ends_white-more : (gap : Bool) (a b : List ℕ) → ends_white (ends_white gap a) b ≡ ends_white gap (a ++ b)
ends_white-more gap [] b = refl
ends_white-more gap (x ∷ a) b = ends_white-more (is_white x) a b

pub drawn-nothing : (line : Drawn) → drawn line [] ≡ line
drawn-nothing line = rw (append-nil line.text) refl

pub drawn-more : (line : Drawn) (a b : List ℕ) → drawn (drawn line a) b ≡ drawn line (a ++ b)
drawn-more line a b =
    rw (spaced-more line.gap a b, ← ends_white-more line.gap a b, append_assoc line.text (spaced line.gap a) (spaced (ends_white line.gap a) b)) refl

pub along-more : (place : LinePlace) (a b : List ℕ) → along (along place a) b ≡ along place (a ++ b)
along-more place [] b = refl
along-more place (x ∷ a) b = along-more (passed place x) a b
