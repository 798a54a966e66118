-- A thread, comment by comment, up to one that has a range.
use Rattle.std.proofs.Common.{◌≡◌, ◌∙◌, refl, sym, ap, ℕ, zero, suc, ◌-◌, ◌<◌, arith, false, List, Option, Some, None, is_some}
use Rattle.redl_comments.specs.Threads.{Threads, parent_at}
use Rattle.redl_reading.specs.Steps.{or_else}
use Rattle.redl_commented.specs.Ranges.{own_at, range_along}
use Rattle.redl_commented.specs.declared.range.Range.{Range}

none_there : (o : Option Range) → is_some o ≡ false → o ≡ None
none_there None h = refl
none_there (Some x) h = cc

-- past a comment without a range
pub along-later : (n : ℕ) (own : List (Option Range)) (threads : Threads) (next : Option ℕ) (place : ℕ) → 0 < n → next ≡ Some place → is_some (own_at own place) ≡ false
    → range_along (n - 1) own threads (parent_at threads place) ≡ range_along n own threads next
along-later zero own threads next place h is not = absurd (omega (arith, h))
along-later (suc m) own threads next place h is not =
    let one : suc m - 1 ≡ m = omega arith in
    ap (λ (k : ℕ). range_along k own threads (parent_at threads place)) one
    ∙ sym (ap (range_along (suc m) own threads) is ∙ ap (λ (o : Option Range). or_else o (range_along m own threads (parent_at threads place))) (none_there (own_at own place) not))
