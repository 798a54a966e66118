-- The tail whose one attribute says that white space is kept.
use Rattle.std.proofs.Common.{◌≡◌, ◌≢◌, ℕ, true, false, List, [], ◌∷◌, ◌++◌, map, Some, refl, sym, ap, ◌∙◌, inl, inr}
use Rattle.std.specs.Prelude.{codes}
use lib.Utf8.{encode}
use Rattle.redl_reading.specs.Lists.{behind, before}
use Rattle.redl_reading.proofs.Words.{behind_takes, before-append}
use Rattle.redl_grammar.specs.Characters.{is_space, is_name_start, is_name_character}
use Rattle.redl_grammar.specs.Names.{Name, IsWord, may_start, may_follow, are_distinct}
use Rattle.redl_grammar.specs.Tails.{Attribute, IsAttribute, IsTail, attributes_then, named_value}
use Rattle.redl_grammar.specs.ScanTags.{ends_tag, tail_at}
use Rattle.redl_grammar.proofs.Tags.{tail_again}
use Rattle.redl_markup.specs.Attributes.{attributes_of, names_in}
use Rattle.redl_markup.specs.declared.name.Name as code
use Rattle.redl_markup.specs.Views.{name_view}
use Rattle.redl_markup.specs.Inside.Preserving.{Preserves}
use Rattle.redl_markup.proofs.Listing.{tail_lists}

abbrev the_attribute : Attribute
the_attribute = record { gap = 32 ∷ []; name = record { prefix = codes "xml"; local = codes "space" }; left = []; right = []; quote = 34; value = codes "preserve" }

abbrev the_tail : List ℕ
the_tail = attributes_then (the_attribute ∷ []) []

prefix_is_word : IsWord false (codes "xml")
unfolding may_start may_follow is_name_character is_name_start encode
prefix_is_word = record { first = 120; more = codes "ml"; start = refl; each = refl; scalars = refl; whole = refl }

local_is_word : IsWord false (codes "space")
unfolding may_start may_follow is_name_character is_name_start encode
local_is_word = record { first = 115; more = codes "pace"; start = refl; each = refl; scalars = refl; whole = refl }

is_attribute : IsAttribute the_attribute
unfolding is_space
is_attribute = record {
  gap = (λ e. absurd cc, refl);
  name = record { prefix = inr prefix_is_word; local = local_is_word };
  left = refl;
  right = refl;
  quote = inl refl;
  no_quote = refl;
  no_tag = refl;
  references = refl;
}

is_tail : IsTail the_tail
unfolding are_distinct
is_tail = record { attributes = the_attribute ∷ []; space = []; each = (is_attribute, tt); is_space = refl; distinct = refl; whole = refl }

pub preserves : (bs rest : List ℕ) → behind the_tail bs ≡ Some rest → ends_tag rest ≡ true → Preserves bs rest
unfolding is_tail
preserves bs rest e ends =
    let whole : bs ≡ the_tail ++ rest = behind_takes the_tail bs rest e in
    let cut : before bs rest ≡ the_tail = ap (λ (z : List ℕ). before z rest) whole ∙ before-append the_tail rest in
    record {
      read = ap tail_at whole ∙ tail_again the_tail rest is_tail ends ∙ ap (λ (z : List ℕ). Some (z, rest)) (sym cut);
      names = ap names_in cut ∙ ap (map (λ (a : Name × List ℕ). a.0)) (tail_lists the_tail is_tail);
    }

-- the names of a list with one name that was empty before
pub one_name : (old new : List code.Name) (name : code.Name) → new ≡ old ++ name ∷ [] → old ≡ [] → map name_view new ≡ name_view name ∷ []
one_name old new name grown none = ap (map name_view) (grown ∙ ap (λ (ns : List code.Name). ns ++ name ∷ []) none)
