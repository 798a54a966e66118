-- Worked rows: the beginning of a text, and the end of a line, by computing.
use Rattle.std.proofs.Common.{◌≡◌, [], ◌∷◌, ◌++◌, true, false, codes, refl}
use Rattle.redl_said.specs.Lines.{last_characters}
use Rattle.redl_said.specs.Phrases.{begun, heard, heard_byte, kept_text, nothing_heard, paused}

-- more characters than there is room for, white space at the end, and a character of several bytes
row_over : (kept_text (heard (nothing_heard 2 false) (codes "abc")) ≡ codes "ab" ++ 226 ∷ 128 ∷ 166 ∷ []) × (kept_text (heard (nothing_heard 2 false) (codes "ab\n ")) ≡ codes "ab")
    × (kept_text (heard (nothing_heard 1 true) (32 ∷ 194 ∷ 182 ∷ [])) ≡ 194 ∷ 182 ∷ [])
unfolding heard_byte begun paused
row_over = (refl, refl, refl)

-- of a long line the last 40 characters stand before
row_long : (last_characters (codes "0123456789012345678901234567890123456789abc") ≡ codes "3456789012345678901234567890123456789abc") × (last_characters (codes "ab") ≡ codes "ab")
row_long = (refl, refl)
