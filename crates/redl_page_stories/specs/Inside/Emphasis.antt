-- Which properties of a run are on, read from its text: each that is on shows a letter, and nothing else shows anything.
use Prim.Native.String.{String}
use Rattle.std.specs.Prelude.{◌≡◌, ℕ, Bool, true, false, ◌||◌, ◌==◌, List, [], ◌++◌, codes, refl, if◌then◌else◌}
use Rattle.std.specs.List.{list_any}
use Rattle.std.proofs.Common.{sym, ap, ◌∙◌}
use Rattle.std.proofs.Math.Bool.{or_assoc}
use Rattle.std.proofs.lemmas.List.Folds.{list_any-append}
use Rattle.redl_tree.specs.Model.Nodes.{Tag}
use Rattle.redl_tree.specs.Roles.Names.{is, of_w}
use Rattle.redl_idle.specs.Shows.{ShowRule}
use Rattle.redl_page_stories.specs.declared.emphasis.Emphasis.{Emphasis}
use Rattle.redl_page_stories.specs.declared.emphasis.Level.{Level}
use Rattle.redl_page_stories.specs.declared.emphasis.Level.TheVariants.{Kids, Properties, Below}
use Rattle.redl_page_stories.specs.Shapes.{switches}

-- an element of W with this local name and tail
abbrev pub tag_with : List ℕ → List ℕ → Tag
tag_with local tail = record (of_w local) { tail = tail }

-- the letter of the property with this name, where the element switches it on
abbrev pub letter_if_on : String → String → Tag → List ℕ
letter_if_on letter name tag = if switches (codes name) tag then codes letter else []

-- what an element shows at this level
abbrev pub letters_on : Level → Tag → List ℕ
letters_on Kids tag = []
letters_on Properties tag = letter_if_on "b" "b" tag ++ letter_if_on "i" "i" tag
letters_on Below tag = []

-- the level of its kids
abbrev pub level_in : Level → Tag → Level
level_in Kids tag = if is "rPr" tag then Properties else Below
level_in Properties tag = Below
level_in Below tag = Below

abbrev pub emphasis_rule : ShowRule Level
emphasis_rule = record {
  bytes = λ level b. [];
  start = λ level local tail kids. letters_on level (tag_with local tail);
  inside = λ level local tail kids. level_in level (of_w local);
  end = λ level. [];
}

-- ---- what is noted of the letters

abbrev pub has_byte : ℕ → List ℕ → Bool
has_byte byte text = list_any (λ b. b == byte) text

abbrev pub emphasis : Bool → Bool → Emphasis
emphasis bold italic = record { bold = bold; italic = italic }

-- a property is on if its letter was shown, or if it was on before
abbrev pub noted : Emphasis → List ℕ → Emphasis
noted old text = emphasis (old.bold || has_byte 98 text) (old.italic || has_byte 105 text)

or_none : (b : Bool) → (b || false) ≡ b
or_none true = refl
or_none false = refl

more : (byte : ℕ) (old : Bool) (first rest : List ℕ) → ((old || has_byte byte first) || has_byte byte rest) ≡ (old || has_byte byte (first ++ rest))
more byte old first rest =
    or_assoc old (has_byte byte first) (has_byte byte rest) ∙ ap (λ b. old || b) (sym (list_any-append (λ b. b == byte) first rest))

pub noted_nothing : (old : Emphasis) → noted old [] ≡ old
noted_nothing old =
    ap (λ b. emphasis b (old.italic || false)) (or_none old.bold)
    ∙ ap (λ i. emphasis old.bold i) (or_none old.italic)

pub noted_more : (old : Emphasis) (first rest : List ℕ) → noted (noted old first) rest ≡ noted old (first ++ rest)
noted_more old first rest =
    ap (λ b. emphasis b ((old.italic || has_byte 105 first) || has_byte 105 rest)) (more 98 old.bold first rest)
    ∙ ap (λ i. emphasis (old.bold || has_byte 98 (first ++ rest)) i) (more 105 old.italic first rest)
