-- A thread, comment by comment.
use Rattle.std.proofs.Common.{◌≡◌, ◌∙◌, sym, ap, ℕ, zero, suc, ◌-◌, ◌<◌, ◌||◌, arith, Bool, false, Option, Some}
use Rattle.redl_comments.specs.Threads.{Threads, any_done, done_at, parent_at}

-- past a comment that isn't said to be done
pub done-later : (n : ℕ) (threads : Threads) (next : Option ℕ) (place : ℕ) → 0 < n → next ≡ Some place → done_at threads place ≡ false
    → any_done (n - 1) threads (parent_at threads place) ≡ any_done n threads next
done-later zero threads next place h is not = absurd (omega (arith, h))
done-later (suc m) threads next place h is not =
    let one : suc m - 1 ≡ m = omega arith in
    ap (λ (k : ℕ). any_done k threads (parent_at threads place)) one
    ∙ sym (ap (any_done (suc m) threads) is ∙ ap (λ (b : Bool). b || any_done m threads (parent_at threads place)) not)
