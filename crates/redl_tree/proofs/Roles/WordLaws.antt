-- Names by their numbers: an element has a name that is asked for exactly if it has the name's number.
use Rattle.std.proofs.Common.{◌≡◌, ◌∙◌, refl, sym, ap, subst, ℕ, ◌==◌, List, [], ◌∷◌, Bool, true, false, true≢false, ◌&&◌, ◌||◌, not, codes, bytes_eq}
use Rattle.std.specs.Prelude.{if◌then◌else◌}
use Rattle.std.proofs.lemmas.Bool.{and_parts, eqb-true, not-true, eq-eqb}
use Rattle.std.proofs.Math.Bool.{and-false}
use Rattle.redl_tree.specs.Roles.Names.{is_w}
use Rattle.redl_tree.specs.Roles.Words.{name_of, number, words, number_among, number_in, place, number_by_place}
use Rattle.redl_tree.specs.declared.kinds.Space.{Space}
use Rattle.redl_tree.specs.declared.kinds.Space.TheVariants.{W, M, Pkg, Other}
use Rattle.redl_tree.specs.declared.word.Word.{Word}
use Rattle.redl_tree.specs.declared.word.Word.TheVariants.{P, R, Tr, Tc, Tbl, Ins, Del, Sdt, Hdr, Ftr, PPr, RPr, Body, TrPr, TcPr, TblPr, SdtPr, TblGrid, SectPr, TblPrEx, MoveFrom, MoveTo, CustomXml, SdtContent, SdtEndPr, TxbxContent, AltChunk, Comment, Comments, Footnote, Footnotes, Endnote, Endnotes, Document, CellIns, CellDel, CellMerge, DelText, DelInstrText, HeaderReference, FooterReference, RPrChange, PPrChange, SectPrChange, TblPrChange, TblPrExChange, TrPrChange, TcPrChange, MoveFromRangeStart, MoveFromRangeEnd, MoveToRangeStart, MoveToRangeEnd}
use Rattle.redl_tree.specs.Model.Cuts.{name_now, is_live}
use Rattle.redl_tree.proofs.Reading.SameBytes.{same_bytes}

-- no other of these has the number of this one
abbrev pub is_only : Word → List Word → Bool
is_only word [] = true
is_only word (other ∷ others) = (not (number other == number word) || bytes_eq (name_of other) (name_of word)) && is_only word others

-- what is so of each word by itself: it is found by its name, no other word has its number, and that is neither 0 nor the number of
-- a name that is live again; nor has it such a name
abbrev pub is_told_apart : Word → Bool
is_told_apart word =
    (number_among words (name_of word) == number word) && is_only word words && not (0 == number word)
    && not (254 == number word) && not (255 == number word)
    && not (bytes_eq (codes "t") (name_of word)) && not (bytes_eq (codes "instrText") (name_of word))

told_apart : (word : Word) → is_told_apart word ≡ true
told_apart P = refl
told_apart R = refl
told_apart Tr = refl
told_apart Tc = refl
told_apart Tbl = refl
told_apart Ins = refl
told_apart Del = refl
told_apart Sdt = refl
told_apart Hdr = refl
told_apart Ftr = refl
told_apart PPr = refl
told_apart RPr = refl
told_apart Body = refl
told_apart TrPr = refl
told_apart TcPr = refl
told_apart TblPr = refl
told_apart SdtPr = refl
told_apart TblGrid = refl
told_apart SectPr = refl
told_apart TblPrEx = refl
told_apart MoveFrom = refl
told_apart MoveTo = refl
told_apart CustomXml = refl
told_apart SdtContent = refl
told_apart SdtEndPr = refl
told_apart TxbxContent = refl
told_apart AltChunk = refl
told_apart Comment = refl
told_apart Comments = refl
told_apart Footnote = refl
told_apart Footnotes = refl
told_apart Endnote = refl
told_apart Endnotes = refl
told_apart Document = refl
told_apart CellIns = refl
told_apart CellDel = refl
told_apart CellMerge = refl
told_apart DelText = refl
told_apart DelInstrText = refl
told_apart HeaderReference = refl
told_apart FooterReference = refl
told_apart RPrChange = refl
told_apart PPrChange = refl
told_apart SectPrChange = refl
told_apart TblPrChange = refl
told_apart TblPrExChange = refl
told_apart TrPrChange = refl
told_apart TcPrChange = refl
told_apart MoveFromRangeStart = refl
told_apart MoveFromRangeEnd = refl
told_apart MoveToRangeStart = refl
told_apart MoveToRangeEnd = refl

pub record IsApart (word : Word) : Type 0 where
  pub found : (number_among words (name_of word) == number word) ≡ true
  pub only : is_only word words ≡ true
  pub some : (0 == number word) ≡ false
  pub live_text : (254 == number word) ≡ false
  pub live_instruction : (255 == number word) ≡ false
  pub no_text : bytes_eq (codes "t") (name_of word) ≡ false
  pub no_instruction : bytes_eq (codes "instrText") (name_of word) ≡ false

pub apart : (word : Word) → IsApart word
apart word = parts (number_among words (name_of word) == number word) (is_only word words) (0 == number word) (254 == number word) (255 == number word)
    (bytes_eq (codes "t") (name_of word)) (bytes_eq (codes "instrText") (name_of word)) refl refl refl refl refl refl refl (told_apart word) where
      parts : (a b c d e f g : Bool) → (number_among words (name_of word) == number word) ≡ a → is_only word words ≡ b → (0 == number word) ≡ c
          → (254 == number word) ≡ d → (255 == number word) ≡ e → bytes_eq (codes "t") (name_of word) ≡ f → bytes_eq (codes "instrText") (name_of word) ≡ g
          → (a && b && not c && not d && not e && not f && not g) ≡ true → IsApart word
      parts true true false false false false false a b c d e f g h =
          record { found = a; only = b; some = c; live_text = d; live_instruction = e; no_text = f; no_instruction = g }
      parts false _ _ _ _ _ _ a b c d e f g h = absurd (true≢false (sym h))
      parts true false _ _ _ _ _ a b c d e f g h = absurd (true≢false (sym h))
      parts true true true _ _ _ _ a b c d e f g h = absurd (true≢false (sym h))
      parts true true false true _ _ _ a b c d e f g h = absurd (true≢false (sym h))
      parts true true false false true _ _ a b c d e f g h = absurd (true≢false (sym h))
      parts true true false false false true _ a b c d e f g h = absurd (true≢false (sym h))
      parts true true false false false false true a b c d e f g h = absurd (true≢false (sym h))

another : (word : Word) (others : List Word) (local : List ℕ) → is_only word others ≡ true → (0 == number word) ≡ false
    → bytes_eq local (name_of word) ≡ false → (number_among others local == number word) ≡ false
another word [] local only some apart = some
another word (other ∷ others) local only some apart =
    let both = and_parts (not (number other == number word) || bytes_eq (name_of other) (name_of word)) (is_only word others) only in
    by_case (bytes_eq local (name_of other)) refl both.0 (another word others local both.1 some apart) where
      clash : (t : Bool) → (not t || bytes_eq (name_of other) (name_of word)) ≡ true → bytes_eq local (name_of other) ≡ true → t ≡ false
      clash false h same = refl
      clash true h same =
          absurd (true≢false (sym (ap (λ x. bytes_eq x (name_of word)) (same_bytes local (name_of other) same) ∙ h) ∙ apart))

      by_case : (b : Bool) → bytes_eq local (name_of other) ≡ b → (not (number other == number word) || bytes_eq (name_of other) (name_of word)) ≡ true
          → (number_among others local == number word) ≡ false → ((if b then number other else number_among others local) == number word) ≡ false
      by_case true same h later = clash (number other == number word) h same
      by_case false differs h later = later

same_number : (word : Word) (local : List ℕ) → bytes_eq local (name_of word) ≡ (number_among words local == number word)
same_number word local = by_case (bytes_eq local (name_of word)) refl (apart word) where
  by_case : (b : Bool) → bytes_eq local (name_of word) ≡ b → IsApart word → b ≡ (number_among words local == number word)
  by_case true same is = sym (ap (λ x. number_among words x == number word) (same_bytes local (name_of word) same) ∙ is.found)
  by_case false differs is = sym (another word words local is.only is.some differs)

-- an element of W has a name that is asked for exactly if it has the name's number
pub named_by_number : (word : Word) (space : Space) (local : List ℕ) → (is_w space && bytes_eq local (name_of word)) ≡ (number_in space local == number word)
named_by_number word W local = same_number word local
named_by_number word M local = sym (apart word).some
named_by_number word Pkg local = sym (apart word).some
named_by_number word Other local = sym (apart word).some

-- a name whose number is not that of a live one is its own
pub own_name : (n : ℕ) (own : List ℕ) → is_live n ≡ false → name_now n own ≡ own
own_name n own h = by_case (n == 254) (n == 255) h where
  by_case : (t i : Bool) → (t || i) ≡ false → (if t then codes "t" else if i then codes "instrText" else own) ≡ own
  by_case true i h = absurd (true≢false h)
  by_case false true h = absurd (true≢false h)
  by_case false false h = refl

-- a tag has a name that is asked for exactly if it has the name's number
pub told_by_number : (word : Word) (space : Space) (own : List ℕ) (n : ℕ) → (is_live n ≡ false → n ≡ number_in space own)
    → (n == number word) ≡ (is_w space && bytes_eq (name_now n own) (name_of word))
told_by_number word space own n tied = by_case (n == 254) (n == 255) refl refl where
  live : (name : List ℕ) (number_then : ℕ) → n ≡ number_then → (number_then == number word) ≡ false → bytes_eq name (name_of word) ≡ false
      → (n == number word) ≡ (is_w space && bytes_eq name (name_of word))
  live name number_then is number_apart name_apart =
      ap (λ x. x == number word) is ∙ number_apart ∙ sym (ap (λ b. is_w space && b) name_apart ∙ and-false (is_w space))

  by_case : (t i : Bool) → (n == 254) ≡ t → (n == 255) ≡ i
      → (n == number word) ≡ (is_w space && bytes_eq (if t then codes "t" else if i then codes "instrText" else own) (name_of word))
  by_case true i is_t is_i = live (codes "t") 254 (eqb-true n 254 is_t) (apart word).live_text (apart word).no_text
  by_case false true is_t is_i = live (codes "instrText") 255 (eqb-true n 255 is_i) (apart word).live_instruction (apart word).no_instruction
  by_case false false is_t is_i =
      ap (λ x. x == number word) (tied (ap (λ b. b || (n == 255)) is_t ∙ is_i)) ∙ sym (named_by_number word space own)

-- the code looks for a name at one place alone: no two words have the same one
abbrev pub is_away : ℕ → List Word → Bool
is_away at [] = true
is_away at (word ∷ words) = not (at == place (name_of word)) && is_away at words

abbrev pub are_apart : List Word → Bool
are_apart [] = true
are_apart (word ∷ words) = is_away (place (name_of word)) words && are_apart words

elsewhere : (those : List Word) (name : List ℕ) → is_away (place name) those ≡ true → number_among those name ≡ 0
elsewhere [] name away = refl
elsewhere (word ∷ those) name away =
    let both = and_parts (not (place name == place (name_of word))) (is_away (place name) those) away in
    by_case (bytes_eq name (name_of word)) refl (not-true (place name == place (name_of word)) both.0) (elsewhere those name both.1) where
      by_case : (b : Bool) → bytes_eq name (name_of word) ≡ b → (place name == place (name_of word)) ≡ false → number_among those name ≡ 0
          → (if b then number word else number_among those name) ≡ 0
      by_case true same differs later =
          absurd (true≢false (sym (eq-eqb (place (name_of word)) (place (name_of word)) refl) ∙ ap (λ x. place x == place (name_of word)) (sym (same_bytes name (name_of word) same)) ∙ differs))
      by_case false other differs later = later

found_by_place : (those : List Word) (name : List ℕ) → are_apart those ≡ true → number_by_place those (place name) name ≡ number_among those name
found_by_place [] name apart = refl
found_by_place (word ∷ those) name apart =
    let both = and_parts (is_away (place (name_of word)) those) (are_apart those) apart in
    by_case (place name == place (name_of word)) (bytes_eq name (name_of word)) refl refl both.0 (found_by_place those name both.1) where
      by_case : (p b : Bool) → (place name == place (name_of word)) ≡ p → bytes_eq name (name_of word) ≡ b → is_away (place (name_of word)) those ≡ true
          → number_by_place those (place name) name ≡ number_among those name
          → (if p then (if b then number word else 0) else number_by_place those (place name) name) ≡ (if b then number word else number_among those name)
      by_case true true here same away later = refl
      by_case true false here differs away later =
          sym (elsewhere those name (subst (λ at. is_away at those ≡ true) (sym (eqb-true (place name) (place (name_of word)) here)) away))
      by_case false true there same away later =
          absurd (true≢false (sym (eq-eqb (place (name_of word)) (place (name_of word)) refl) ∙ ap (λ x. place x == place (name_of word)) (sym (same_bytes name (name_of word) same)) ∙ there))
      by_case false false there differs away later = later

pub by_place : (name : List ℕ) → number_by_place words (place name) name ≡ number_among words name
by_place name = found_by_place words name refl
