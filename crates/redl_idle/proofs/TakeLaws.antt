-- Texts that are given in pieces, whatever takes them.
use Rattle.std.proofs.Common.{◌≡◌, List, ℕ, [], ◌++◌, Result, Ok, Err, refl, sym, ap, subst, ◌∙◌, append-nil, append_assoc}
use Rattle.std.specs.Prelude.{IsErrAnd}
use Rattle.std.proofs.lemmas.Result.{err_from_is_err_and}
use Rattle.redl_idle.specs.Takes.{Taking, Takes}

module _ {K E : Type 0} (taking : Taking K E) where
  -- one text after another
  pub takes_then : {T U : Type 0} {old mid new : K} {text first rest : List ℕ} {x : T} {r : Result U E} → text ≡ first ++ rest
      → Takes taking old mid first (Ok x) → Takes taking mid new rest r → Takes taking old new text r
  takes_then {old = old} {mid = mid} {new = new} {first = first} {rest = rest} {x = x} {r = r} whole p q =
      subst (λ t. Takes taking old new t r) (sym whole) (taking.then _ _ old mid new first rest x r p q)

  -- the call stopped in a part at the front of the text, and nothing more was given
  pub takes_fails : {T U : Type 0} {old new : K} {text first : List ℕ} {e : E} {r : Result U E} (rest : List ℕ) → text ≡ first ++ rest → IsErrAnd r (λ f. f ≡ e)
      → Takes {T = T} taking old new first (Err e) → Takes taking old new text r
  takes_fails {T = T} {U = U} {old = old} {new = new} {first = first} {e = e} {r = r} rest whole err p =
      let f = err_from_is_err_and r err in
      subst (λ t. Takes taking old new t r) (sym whole)
      (subst (λ s. Takes taking old new (first ++ rest) s) (sym (f.1 ∙ ap (λ x. Err x) f.2)) (taking.stops T U old new first rest e p))

  -- the value of an `Ok` doesn't matter
  pub takes_as : {T U : Type 0} {old new : K} {text : List ℕ} {x : T} {y : U} → Takes taking old new text (Ok x) → Takes taking old new text (Ok y)
  takes_as {new = new} {text = text} {y = y} p = takes_then (sym (append-nil text)) p (taking.nothing _ new y)

  -- a call that gives a text in a loop has given a prefix of it, and this rest is left
  pub record TakesSoFar (old new : K) (text rest : List ℕ) : Type 0 where
    pub front : List ℕ
    pub splits : text ≡ front ++ rest
    pub takes : Takes {T = Unit {0}} taking old new front (Ok tt)

  pub so_far_begins : (taker : K) (text : List ℕ) → TakesSoFar taker taker text text
  so_far_begins taker text = record { front = []; splits = refl; takes = taking.nothing (Unit {0}) taker tt }

  -- one piece more
  pub so_far_goes_on : {T : Type 0} {old mid new : K} {text rest : List ℕ} {x : T} (piece left : List ℕ) → rest ≡ piece ++ left
      → TakesSoFar old mid text rest → Takes taking mid new piece (Ok x) → TakesSoFar old new text left
  so_far_goes_on piece left is before here = record {
    front = before.front ++ piece;
    splits = before.splits ∙ ap (λ l. before.front ++ l) is ∙ sym (append_assoc before.front piece left);
    takes = takes_then refl before.takes (takes_as here);
  }

  -- the piece stopped
  pub so_far_stops : {T U : Type 0} {old mid new : K} {text rest : List ℕ} {e : E} {r : Result U E} (piece left : List ℕ) → rest ≡ piece ++ left
      → IsErrAnd r (λ f. f ≡ e) → TakesSoFar old mid text rest → Takes {T = T} taking mid new piece (Err e) → Takes taking old new text r
  so_far_stops piece left is err before here = takes_then before.splits before.takes (takes_fails left is err here)

  -- nothing is left
  pub so_far_ends : {T : Type 0} {old new : K} {text rest : List ℕ} {x : T} → rest ≡ [] → TakesSoFar old new text rest → Takes taking old new text (Ok x)
  so_far_ends {old = old} {new = new} {x = x} none before =
      subst (λ t. Takes taking old new t (Ok x)) (sym (before.splits ∙ ap (λ l. before.front ++ l) none ∙ append-nil before.front)) (takes_as before.takes)
