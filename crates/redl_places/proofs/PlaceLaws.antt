-- Places that are set one by one, the last first.
use Rattle.std.proofs.Common.{◌≡◌, ◌∙◌, refl, sym, ap, ℕ, ◌==◌, ◌+◌, ◌<◌, List, ◌∷◌, drop, get_or, length, Bool, true, false, cond, Option, unwrap_or, Ordering, Less, Equal, Greater, if◌then◌else◌}
use Rattle.std.proofs.lemmas.Bool.{eq-eqb, eqb-true, false_from_ne_true}
use Rattle.std.proofs.lemmas.List.{drop_more}
use Rattle.std.proofs.lemmas.Map.Lookups.{exact_unsigned}
use Rattle.std.specs.Cmp.{nat_cmp_is}
use Rattle.std.specs.Ordering.{nat_cmp, is_eq}
use Rattle.redl_places.specs.Places.{is_document, place_among}
use Rattle.redl_places.specs.declared.place.StoryPlace.{StoryPlace}
use Rattle.redl_places.specs.declared.place.StoryPlace.TheVariants.{Document, Header, Footer, Comment, TextBox, Footnote, Endnote}
use Rattle.redl_places.specs.declared.place.MemberPlace.{MemberPlace}

-- numbers that compare as equal are the same
compared : (a b : ℕ) → is_eq (nat_cmp a b) ≡ (a == b)
compared a b = by (nat_cmp a b) refl
  where
    less≢equal : Less ≡ Equal → ⊥
    less≢equal e = cc e

    greater≢equal : Greater ≡ Equal → ⊥
    greater≢equal e = cc e

    by : (o : Ordering) → nat_cmp a b ≡ o → is_eq o ≡ (a == b)
    by Less is = sym (false_from_ne_true (a == b) (λ e. less≢equal (sym is ∙ sym (nat_cmp_is a b Equal (eqb-true a b e)))))
    by Equal is = sym (eq-eqb a b (exact_unsigned a b is))
    by Greater is = sym (false_from_ne_true (a == b) (λ e. greater≢equal (sym is ∙ sym (nat_cmp_is a b Equal (eqb-true a b e)))))

-- the place of one revision was set, or taken away
pub set_one : (revision v : ℕ) (place : StoryPlace) (set old now : Option StoryPlace) → unwrap_or set Document ≡ place → now ≡ cond (is_eq (nat_cmp revision v)) set old
    → unwrap_or now Document ≡ (if revision == v then place else unwrap_or old Document)
set_one revision v place set old now is changed =
    ap (λ o. unwrap_or o Document) (changed ∙ ap (λ b. cond b set old) (compared revision v)) ∙ at (revision == v)
  where
    at : (b : Bool) → unwrap_or (cond b set old) Document ≡ (if b then place else unwrap_or old Document)
    at true = is
    at false = refl

pub document-is : (place : StoryPlace) → is_document place ≡ true → Document ≡ place
document-is Document h = refl
document-is Header h = cc
document-is Footer h = cc
document-is Comment h = cc
document-is TextBox h = cc
document-is (Footnote sign) h = cc
document-is (Endnote sign) h = cc

-- the first of the last members is one more
pub one_before : (members : List MemberPlace) (i v : ℕ) (member : MemberPlace) (places : ℕ → StoryPlace) (now : StoryPlace) → i < length members → member ≡ get_or members i member
    → places v ≡ place_among v (drop (i + 1) members) → now ≡ (if member.revision == v then member.place else places v) → now ≡ place_among v (drop i members)
one_before members i v member places now within is so_far set =
    set ∙ ap (λ p. if member.revision == v then member.place else p) so_far
    ∙ sym (ap (place_among v) (drop_more members i member within ∙ ap (λ m. m ∷ drop (i + 1) members) (sym is)))
