-- Tags without attributes, of a prefix and a name of one letter each: they are read as the code finds them, and are idle by their names.
use Rattle.std.proofs.Common.{◌≡◌, ℕ, ◌<◌, ◌+◌, max, length, Bool, true, false, List, [], ◌∷◌, ◌++◌, Some, refl, sym, ap, subst, ◌∙◌, inr, arith}
use Rattle.std.specs.Prelude.{codes, ◌||◌, ◌&&◌, ◌==◌}
use Rattle.std.specs.List.{list_all}
use Rattle.std.specs.Char.{is_ascii_alphabetic}
use Rattle.std.proofs.lemmas.Bool.{and_from}
use Rattle.std.proofs.lemmas.Bool.Decides.{nat_tests}
use Rattle.std.proofs.lemmas.Str.{encode_ascii}
use lib.Utf8.{low_scalar}
use Rattle.redl_reading.specs.Lists.{behind}
use Rattle.redl_reading.proofs.Words.{behind_takes}
use Rattle.redl_grammar.specs.Characters.{is_name_start}
use Rattle.redl_grammar.specs.Names.{may_start, IsWord, Name, IsName, are_distinct}
use Rattle.redl_grammar.specs.Tails.{IsTail}
use Rattle.redl_grammar.specs.Pieces.{Piece, start_tag, empty_tag}
use Rattle.redl_grammar.specs.declared.section.Section.TheVariants.{InElement}
use Rattle.redl_grammar.specs.ScanPieces.{piece_at}
use Rattle.redl_grammar.proofs.Pieces.{piece_again}
use Rattle.redl_markup.specs.Attributes.{names_in}
use Rattle.redl_markup.proofs.Listing.{names_of_none}
use Rattle.redl_tree.specs.Roles.Idle.{is_idle_number, is_idle_name}
use Rattle.redl_tree.specs.Roles.Words.{number, number_in}
use Rattle.redl_tree.specs.declared.word.Word.TheVariants.{R, RPr}
use Rattle.redl_tree.specs.declared.kinds.Space.TheVariants.{W}
use Rattle.redl_xml.specs.Scopes.{Scope, is_plain_name}
use Rattle.redl_markup.specs.declared.name.Name as code
use Rattle.redl_markup.specs.Views.{name_view}
use Rattle.redl_xml.specs.Inside.Passing.{HoldsOf, IsIdleIn, IsLetter, PassesBare, bare_tag, piece_count, piece_elements, names_view}
use Rattle.redl_xml.proofs.FoldLoop.{IsPassing, last_popped, passing_turns}
use Rattle.redl_xml.proofs.IdleParts.{idle_turn}
use Rattle.redl_xml.specs.Inside.Sizes.{deepest_with}

letter_low : (b : ℕ) → is_ascii_alphabetic b ≡ true → b < 128
letter_low b h = grind (arith, nat_tests)

letter_may_start : (b : ℕ) → is_ascii_alphabetic b ≡ true → may_start false b ≡ true
unfolding may_start is_name_start
letter_may_start b h = grind (arith, nat_tests)

letter_is_word : (b : ℕ) → is_ascii_alphabetic b ≡ true → IsWord false (b ∷ [])
letter_is_word b h =
    let low = letter_low b h in
    record {
      first = b;
      more = [];
      start = letter_may_start b h;
      each = refl;
      scalars = and_from _ _ (low_scalar b (omega arith)) refl;
      whole = sym (ap (λ (z : List ℕ). z ++ []) (encode_ascii b low));
    }

no_attributes : IsTail []
unfolding are_distinct
no_attributes = record { attributes = []; space = []; each = tt; is_space = refl; distinct = refl; whole = refl }

-- the text of such a tag, behind its name
abbrev bare_end : Bool → List ℕ → List ℕ
bare_end true rest = 62 ∷ rest
bare_end false rest = 47 ∷ 62 ∷ rest

letters_read : (a b : ℕ) (opens : Bool) (rest : List ℕ) → is_ascii_alphabetic a ≡ true → is_ascii_alphabetic b ≡ true → piece_at InElement (60 ∷ a ∷ 58 ∷ b ∷ bare_end opens rest) ≡ Some (bare_tag opens (record { prefix = a ∷ []; local = b ∷ [] }), rest)
letters_read a b true rest h k =
    let name : Name = record { prefix = a ∷ []; local = b ∷ [] } in
    piece_again InElement (start_tag name []) rest (record { prefix = inr (letter_is_word a h); local = letter_is_word b k }, no_attributes) tt
letters_read a b false rest h k =
    let name : Name = record { prefix = a ∷ []; local = b ∷ [] } in
    piece_again InElement (empty_tag name []) rest (record { prefix = inr (letter_is_word a h); local = letter_is_word b k }, no_attributes) tt

-- a prefix of one letter behind a `<`, and a name of one letter behind a `:`
pub record IsBegun (bs prefix local end : List ℕ) : Type 0 where
  pub prefix_is : IsLetter prefix
  pub local_is : IsLetter local
  pub whole : bs ≡ 60 ∷ (prefix ++ (58 ∷ (local ++ end)))

pub begun : (bs inside prefix colon name local end : List ℕ) → behind (codes "<") bs ≡ Some inside → IsLetter prefix → inside ≡ prefix ++ colon → behind (codes ":") colon ≡ Some name → IsLetter local → name ≡ local ++ end → IsBegun bs prefix local end
begun bs inside prefix colon name local end e p f g l k = record {
  prefix_is = p;
  local_is = l;
  whole =
      behind_takes (codes "<") bs inside e ∙ ap (λ (z : List ℕ). 60 ∷ z) f
      ∙ ap (λ (z : List ℕ). 60 ∷ (prefix ++ z)) (behind_takes (codes ":") colon name g ∙ ap (λ (z : List ℕ). 58 ∷ z) k);
}

reads : (bs prefix local end rest : List ℕ) (opens : Bool) → IsBegun bs prefix local end → end ≡ bare_end opens rest → piece_at InElement bs ≡ Some (bare_tag opens (record { prefix = prefix; local = local }), rest)
reads bs prefix local end rest opens h e =
    let a = h.prefix_is.letter in
    let b = h.local_is.letter in
    let P : List ℕ → Type 0 = λ p. 60 ∷ (p ++ (58 ∷ (local ++ end))) ≡ bs → piece_at InElement bs ≡ Some (bare_tag opens (record { prefix = p; local = local }), rest) in
    let Q : List ℕ → Type 0 = λ l. 60 ∷ a ∷ 58 ∷ (l ++ end) ≡ bs → piece_at InElement bs ≡ Some (bare_tag opens (record { prefix = a ∷ []; local = l }), rest) in
    let read = λ (w : 60 ∷ a ∷ 58 ∷ b ∷ end ≡ bs). sym (ap (piece_at InElement) w) ∙ ap (λ (z : List ℕ). piece_at InElement (60 ∷ a ∷ 58 ∷ b ∷ z)) e ∙ letters_read a b opens rest h.prefix_is.is h.local_is.is in
    subst P (sym h.prefix_is.whole) (subst Q (sym h.local_is.whole) read) (sym h.whole)

pub reads_start : (bs prefix local end rest : List ℕ) → IsBegun bs prefix local end → behind (codes ">") end ≡ Some rest → piece_at InElement bs ≡ Some (bare_tag true (record { prefix = prefix; local = local }), rest)
reads_start bs prefix local end rest h e = reads bs prefix local end rest true h (behind_takes (codes ">") end rest e)

pub reads_empty : (bs prefix local end rest : List ℕ) → IsBegun bs prefix local end → behind (codes "/>") end ≡ Some rest → piece_at InElement bs ≡ Some (bare_tag false (record { prefix = prefix; local = local }), rest)
reads_empty bs prefix local end rest h e = reads bs prefix local end rest false h (behind_takes (codes "/>") end rest e)

-- ---- an idle name, wherever it stands

either_way : (a b c t : Bool) → (a || (b || (c && false))) ≡ true → (a || (b || (c && t))) ≡ true
either_way true b c t h = refl
either_way false true c t h = refl
either_way false false true t h = absurd cc
either_way false false false t h = absurd cc

pub idle_anywhere : (in_run : Bool) (name : List ℕ) → is_idle_name false name ≡ true → is_idle_name in_run name ≡ true
idle_anywhere in_run name h = let n = number_in W name in either_way (n == 0) (n == number R) (n == number RPr) in_run h

pub no_names_plain : (scope : Scope) → list_all (is_plain_name scope) (names_in []) ≡ true
no_names_plain scope = ap (list_all (is_plain_name scope)) (names_of_none [])

-- ---- what the code takes to the open elements

abbrev IsIdleAnywhere : Scope → Name → Type 0
IsIdleAnywhere scope name = (in_run : Bool) → HoldsOf (IsIdleIn scope) in_run W name []

pub passes_start : (scope : Scope) (before after : List code.Name) (name : code.Name) (opens : Bool) (bs rest : List ℕ) → opens ≡ true → piece_at InElement bs ≡ Some (bare_tag opens (name_view name), rest) → after ≡ before ++ name ∷ [] → IsIdleAnywhere scope (name_view name) → PassesBare scope before after bs rest
passes_start scope before after name opens bs rest o read grown idle =
    let P : Bool → Type 0 = λ t. piece_at InElement bs ≡ Some (bare_tag t (name_view name), rest) in
    record {
      opens = true;
      name = name_view name;
      read = subst P o read;
      passes = record { taken = ap (λ (ns : List Name). Some ns) (sym (last_popped after before name grown)); holds = idle _ };
    }

pub passes_empty : (scope : Scope) (names : List code.Name) (name : code.Name) (opens : Bool) (bs rest : List ℕ) → opens ≡ false → piece_at InElement bs ≡ Some (bare_tag opens (name_view name), rest) → IsIdleAnywhere scope (name_view name) → PassesBare scope names names bs rest
passes_empty scope names name opens bs rest o read idle =
    let P : Bool → Type 0 = λ t. piece_at InElement bs ≡ Some (bare_tag t (name_view name), rest) in
    record { opens = false; name = name_view name; read = subst P o read; passes = record { taken = refl; holds = idle _ } }

-- ---- a turn of the loop that passes over one

counts_one : (opens : Bool) (name : Name) → (1 ≡ piece_count (bare_tag opens name)) × (1 ≡ piece_elements (bare_tag opens name))
counts_one true name = (refl, refl)
counts_one false name = (refl, refl)

deepens : (opens : Bool) (name : Name) (depth deepest : ℕ) → max deepest depth ≡ deepest_with (bare_tag opens name) depth deepest
deepens true name depth deepest = refl
deepens false name depth deepest = refl

pub passing_bare : (scope now : Scope) (bs rest behind : List ℕ) (before after : List code.Name) (nodes elems deepest depth deepest' : ℕ) → now ≡ scope → IsPassing (IsIdleIn scope) W bs rest (names_view before) nodes elems deepest → PassesBare now before after rest behind → depth ≡ length before → deepest' ≡ max deepest (depth + 1)
    → IsPassing (IsIdleIn scope) W bs behind (names_view after) (nodes + 1) (elems + 1) deepest'
passing_bare scope now bs rest behind before after nodes elems deepest depth deepest' same g bare d e =
    let p = bare_tag bare.opens bare.name in
    let turn = idle_turn scope now rest behind before after p same bare.read bare.passes in
    let one = counts_one bare.opens bare.name in
    passing_turns (IsIdleIn scope) W bs rest behind before after nodes 1 elems 1 deepest deepest' depth p g turn one.0 one.1 d (e ∙ deepens bare.opens bare.name (depth + 1) deepest)
