-- Words at the start, what bytes show from their first byte on, and runs of bytes that are shown as they are.
use Rattle.std.proofs.Common.{◌≡◌, ◌≤◌, ◌<◌, ℕ, cond, List, [], ◌∷◌, ◌++◌, length, Bool, true, false, ◌&&◌, None, is_some, refl, ap, ◌∙◌, eqb, eqb-true, arith, if◌then◌else◌}
use Rattle.redl_reading.specs.Lists.{begins, behind, front, after}
use Rattle.redl_shown.specs.declared.parts.Here.{Here}
use Rattle.redl_shown.specs.declared.parts.Part.{Part}
use Rattle.redl_shown.specs.declared.parts.Part.TheVariants.{Characters, Reference, Comment, Instruction, Cdata}
use Rattle.redl_shown.specs.Shown.{in_part, is_plain, is_characters, is_in_characters, shown_from}

-- bytes begin with a word exactly where something, if only nothing, comes after it
pub begins-behind : (word bs : List ℕ) → begins word bs ≡ is_some (behind word bs)
begins-behind [] bs = refl
begins-behind (w ∷ ws) [] = refl
begins-behind (w ∷ ws) (b ∷ bs) = by (eqb b w) (begins-behind ws bs) where
  by : (c : Bool) → begins ws bs ≡ is_some (behind ws bs) → (c && begins ws bs) ≡ is_some (if c then behind ws bs else None)
  by true h = h
  by false h = refl

-- ---- bytes that are shown as they are

-- a byte that is no `<` and no `&` is shown as it is, and character data goes on
plain_step : (b : ℕ) (bs : List ℕ) → eqb b 60 ≡ false → eqb b 38 ≡ false
    → shown_from (in_part Characters 0) (b ∷ bs) ≡ b ∷ shown_from (in_part Characters 0) bs
plain_step b bs e f = simp (e, f)

-- character data shows a run of such bytes, and what comes after it
plain_run_step : (b : ℕ) (bs : List ℕ) (lt amp : Bool) → eqb b 60 ≡ lt → eqb b 38 ≡ amp
    → shown_from (in_part Characters 0) bs ≡ front is_plain bs ++ shown_from (in_part Characters 0) (after is_plain bs)
    → shown_from (in_part Characters 0) (b ∷ bs) ≡ front is_plain (b ∷ bs) ++ shown_from (in_part Characters 0) (after is_plain (b ∷ bs))
plain_run_step b bs true amp e f h = simp e
plain_run_step b bs false true e f h = simp (e, f)
plain_run_step b bs false false e f h = plain_step b bs e f ∙ ap (λ (l : List ℕ). b ∷ l) h ∙ simp (e, f)

plain_run : (bs : List ℕ) → shown_from (in_part Characters 0) bs ≡ front is_plain bs ++ shown_from (in_part Characters 0) (after is_plain bs)
plain_run [] = refl
plain_run (b ∷ bs) = plain_run_step b bs (eqb b 60) (eqb b 38) refl refl (plain_run bs)

in_characters : (here : Here) → is_in_characters here ≡ true → here ≡ in_part Characters 0
in_characters here h = by here.part here.skip h where
  by : (part : Part) (skip : ℕ) → (is_characters part && eqb skip 0) ≡ true → in_part part skip ≡ in_part Characters 0
  by Characters skip h = ap (in_part Characters) (eqb-true skip 0 h)
  by Reference skip h = cc
  by Comment skip h = cc
  by Instruction skip h = cc
  by Cdata skip h = cc

-- in character data, what is shown begins with the bytes that are shown as they are
pub shown-plain : (here : Here) (bs : List ℕ) → is_in_characters here ≡ true
    → shown_from here bs ≡ front is_plain bs ++ shown_from here (after is_plain bs)
shown-plain here bs h = rw (in_characters here h) (plain_run bs)

after_short_step : (t : Bool) (b : ℕ) (a bs : List ℕ) → length a ≤ length bs → length (cond t a (b ∷ bs)) ≤ length (b ∷ bs)
after_short_step true b a bs h = omega arith
after_short_step false b a bs h = omega arith

after_short : (p : ℕ → Bool) (bs : List ℕ) → length (after p bs) ≤ length bs
after_short p [] = omega arith
after_short p (b ∷ bs) = after_short_step (p b) b (after p bs) bs (after_short p bs)

-- where the first byte is shown as it is, fewer are left
pub plain_shortens : (bytes : List ℕ) (b : ℕ) (bs : List ℕ) → bytes ≡ b ∷ bs → is_plain b ≡ true → length (after is_plain bytes) < length bytes
plain_shortens bytes b bs e h = rw (e, h) (omega (arith, after_short is_plain bs))
