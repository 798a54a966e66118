-- The comments that begin before a place, of which those are kept that end last.
use Rattle.std.specs.Prelude.{◌≡◌, ℕ, ◌+◌, ◌<◌, ◌≤◌, nat_le, Bool, List, [], ◌∷◌, filter, length, slice_get, take}
use Rattle.std.specs.Option.{option_map}
use Rattle.redl_spans.specs.declared.span.Span.{Span}
use Rattle.redl_commented.specs.On.{Remarks, all_remarked, ends_by, is_of, ranked}
use Rattle.redl_commented.specs.declared.front.Front.{Front}
use Rattle.redl_commented.specs.declared.range.Ranged.{Ranged}

-- all of them begin before a place
abbrev pub BeginBy : ℕ → List Ranged → Type 0
BeginBy to [] = Unit {0}
BeginBy to (ranged ∷ more) = (ranged.range.from < to) × BeginBy to more

-- the first of all, so many, were ranked
pub record IsFront (all : List Ranged) (front : Front) : Type 0 where
  pub few : front.next ≤ length all
  pub top : front.top.items ≡ take 20 (ranked (take front.next all))

-- all of them begin before the end of the first of these members
abbrev pub BeginBefore : List Span → List Ranged → Type 0
BeginBefore [] front = Unit {0}
BeginBefore (span ∷ more) front = BeginBy span.to front

-- each revision has the comments on those of these members that are its own more; the first one is revision 1
abbrev pub RemarksEach : List Remarks → List Remarks → List Ranged → List Span → Type 0
RemarksEach old new all spans = (k : ℕ) → slice_get new k ≡ option_map (λ remarks. all_remarked all remarks (filter (is_of (k + 1)) spans)) (slice_get old k)

-- ---- ends of comments

abbrev pub is_by : ℕ → ℕ → Bool
is_by from end = nat_le end from

-- as many of these numbers are up to any place as comments end by it
abbrev pub AreEnds : List ℕ → List Ranged → Type 0
AreEnds ends all = (from : ℕ) → length (filter (is_by from) ends) ≡ length (filter (ends_by from) all)
