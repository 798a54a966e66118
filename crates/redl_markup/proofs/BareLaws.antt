-- Pieces that are known to be there: the attributes of a tag are passed over without their names.
use Rattle.std.proofs.Common.{◌≡◌, ℕ, Bool, true, false, true≢false, List, [], ◌∷◌, ◌++◌, Option, Some, None, refl, sym, ap, if◌then◌else◌}
use Rattle.std.specs.Prelude.{option_map}
use denote.Ref.{Bor}
use Rattle.std.proofs.lemmas.Option.{same_Some}
use Rattle.redl_reading.specs.Lists.{after, before}
use Rattle.redl_reading.specs.Steps.{◌>>=◌, Gives}
use Rattle.redl_grammar.specs.Characters.{is_space}
use Rattle.redl_grammar.specs.References.{is_there}
use Rattle.redl_grammar.specs.Names.{Name, are_distinct}
use Rattle.redl_grammar.specs.ScanTags.{Tail, attribute_in, ends_tag, attributes_at, attributes_end, tail_at}
use Rattle.redl_grammar.proofs.Attributes.{Loop, loop_begins, loop_ends, loop_fails, loop_goes}

-- some attributes were passed over, and this is left
pub record PastSome (rest bs : List ℕ) : Type 0 where
  pub names : List Name
  pub loop : Loop (names, rest) bs

pub past_begins : (bs : List ℕ) → PastSome bs bs
past_begins bs = record { names = []; loop = loop_begins bs }

pub past_ends : (rest more bs : List ℕ) → PastSome rest bs → more ≡ after is_space rest → ends_tag more ≡ true → attributes_end bs ≡ Some more
past_ends rest more bs g e end = ap (option_map (λ (s : Tail). s.1)) (loop_ends (g.names, rest) more bs g.loop e end)

pub past_fails : (rest more bs : List ℕ) → PastSome rest bs → more ≡ after is_space rest → ends_tag more ≡ false → attribute_in rest ≡ None → attributes_end bs ≡ None
past_fails rest more bs g e other fails = ap (option_map (λ (s : Tail). s.1)) (loop_fails (g.names, rest) more bs g.loop e other fails)

pub past_goes : (rest more bs : List ℕ) (a : (Name × List ℕ) × List ℕ) → PastSome rest bs → more ≡ after is_space rest → ends_tag more ≡ false → attribute_in rest ≡ Some a → PastSome a.1 bs
past_goes rest more bs a g e other found =
    record { names = g.names ++ a.0.0 ∷ []; loop = loop_goes (g.names, rest) more bs a g.loop e other found }

-- ---- a tail

abbrev tail_if : List ℕ → List ℕ → Bool → Option (List ℕ × List ℕ)
tail_if bs rest distinct = if distinct then Some (before bs rest, rest) else None

abbrev tail_by : List ℕ → Option Tail → Option (List ℕ × List ℕ)
tail_by bs o = o >>= λ end. tail_if bs end.1 (are_distinct end.0)

tail_known : (bs end : List ℕ) → attributes_end bs ≡ Some end → is_there (tail_at bs) ≡ true → tail_at bs ≡ Some (before bs end, end)
unfolding tail_at
tail_known bs end e there = by (attributes_at bs) e there where
  distinct : (b : Bool) (rest : List ℕ) → rest ≡ end → is_there (tail_if bs rest b) ≡ true → tail_if bs rest b ≡ Some (before bs end, end)
  distinct true rest same h = ap (λ (z : List ℕ). Some (before bs z, z)) same
  distinct false rest same h = absurd (true≢false (sym h))

  by : (o : Option Tail) → option_map (λ s. s.1) o ≡ Some end → is_there (tail_by bs o) ≡ true → tail_by bs o ≡ Some (before bs end, end)
  by None e h = absurd cc
  by (Some s) e h = distinct (are_distinct s.0) s.1 (same_Some s.1 end e) h

tail_unknown : (bs : List ℕ) → attributes_end bs ≡ None → tail_at bs ≡ None
unfolding tail_at
tail_unknown bs e = by (attributes_at bs) e where
  by : (o : Option Tail) → option_map (λ s. s.1) o ≡ None → tail_by bs o ≡ None
  by None e = refl
  by (Some s) e = absurd cc

pub tail_gives : (bs : List ℕ) (end : Option (Bor (List ℕ))) → is_there (tail_at bs) ≡ true → Gives (λ (rest : Bor (List ℕ)). rest.now) end (attributes_end bs)
    → Gives (λ (rest : Bor (List ℕ)). (before bs rest.now, rest.now)) end (tail_at bs)
tail_gives bs None there e = tail_unknown bs e
tail_gives bs (Some rest) there e = tail_known bs rest.now e there
