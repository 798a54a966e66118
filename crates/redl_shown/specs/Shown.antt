-- The characters that a text without tags shows (XML 1.0, 2.4 to 2.7 and 4.1): each reference as its character, and of a CDATA
-- section what is in it. Comments and instructions show nothing. All other bytes are shown as they are.
use Rattle.std.specs.Prelude.{ℕ, ◌-◌, ◌==◌, List, [], ◌∷◌, ◌++◌, Bool, true, false, not, ◌&&◌, ◌||◌, codes, if◌then◌else◌}
use Rattle.redl_reading.specs.Lists.{begins}
use Rattle.redl_markup.specs.Decoding.{character_text}
use Rattle.redl_grammar.specs.References.{reference_at}
use Rattle.redl_shown.specs.declared.parts.Part.{Part}
use Rattle.redl_shown.specs.declared.parts.Part.TheVariants.{Characters, Reference, Comment, Instruction, Cdata}
use Rattle.redl_shown.specs.declared.parts.Here.{Here}

-- in this part, after its first `skip` bytes, which are those of an opening or of an ending
abbrev pub in_part : Part → ℕ → Here
in_part part skip = record { part = part; skip = skip }

-- Where character data goes on, given its next bytes: in a reference, a comment, CDATA, an instruction, or in character data.
-- The next byte itself is passed over.
abbrev pub after_character : ℕ → List ℕ → Here
after_character b bs =
    if b == 38 then in_part Reference 0
    else if begins (codes "<!--") (b ∷ bs) then in_part Comment 3
    else if begins (codes "<![CDATA[") (b ∷ bs) then in_part Cdata 8
    else if begins (codes "<?") (b ∷ bs) then in_part Instruction 1
    else in_part Characters 0

-- the same of a part that has this ending
abbrev pub after_ended : Part → List ℕ → ℕ → List ℕ → Here
after_ended part ending skip bs = if begins ending bs then in_part Characters skip else in_part part 0

abbrev pub after_first : Part → ℕ → List ℕ → Here
after_first Characters b bs = after_character b bs
after_first Reference b bs = if b == 59 then in_part Characters 0 else in_part Reference 0
after_first Comment b bs = after_ended Comment (codes "-->") 2 (b ∷ bs)
after_first Instruction b bs = after_ended Instruction (codes "?>") 1 (b ∷ bs)
after_first Cdata b bs = after_ended Cdata (codes "]]>") 2 (b ∷ bs)

-- where it goes on after the next byte
abbrev pub after_byte : Here → ℕ → List ℕ → Here
after_byte here b bs = if here.skip == 0 then after_first here.part b bs else in_part here.part (here.skip - 1)

-- in character data, and not in an ending
abbrev pub is_characters : Part → Bool
is_characters Characters = true
is_characters _ = false

abbrev pub is_in_characters : Here → Bool
is_in_characters here = is_characters here.part && here.skip == 0

-- what the next byte of character data shows
abbrev pub character_shown : ℕ → List ℕ → List ℕ
character_shown b bs =
    if b == 38 then character_text (reference_at bs)
    else if begins (codes "<!--") (b ∷ bs) then []
    else if begins (codes "<![CDATA[") (b ∷ bs) then []
    else if begins (codes "<?") (b ∷ bs) then []
    else b ∷ []

abbrev pub first_shown : Part → ℕ → List ℕ → List ℕ
first_shown Characters b bs = character_shown b bs
first_shown Reference b bs = []
first_shown Comment b bs = []
first_shown Instruction b bs = []
first_shown Cdata b bs = if begins (codes "]]>") (b ∷ bs) then [] else b ∷ []

-- what the next byte shows
abbrev pub byte_shown : Here → ℕ → List ℕ → List ℕ
byte_shown here b bs = if here.skip == 0 then first_shown here.part b bs else []

-- what bytes show
abbrev pub shown_from : Here → List ℕ → List ℕ
shown_from here [] = []
shown_from here (b ∷ bs) = byte_shown here b bs ++ shown_from (after_byte here b bs) bs

-- a byte that character data shows as it is, since nothing begins with it
abbrev pub is_plain : ℕ → Bool
is_plain b = not (b == 60 || b == 38)

-- what the bytes of one node show
abbrev pub shown : List ℕ → List ℕ
shown bytes = shown_from (in_part Characters 0) bytes
