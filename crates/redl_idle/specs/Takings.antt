-- What takes text in pieces: a sink, and what has a state that each text changes.
use Rattle.std.specs.Prelude.{◌≡◌, ℕ, List, [], ◌++◌, Option, OnOk, refl}
use Rattle.std.proofs.Common.{sym, ap, ◌∙◌}
use Rattle.std.specs.Borrow.{GName}
use Rattle.std.proofs.lemmas.Result.{on_ok_weaker}
use Rattle.redl_io.specs.Sink.{Puts}
use Rattle.redl_io.specs.declared.sink.Failed.{Failed}
use Rattle.redl_io.proofs.Puts.{puts_nothing, puts_then, puts_fails}
use Rattle.redl_idle.specs.Takes.{Taking}

-- a sink with these members
abbrev pub by_puts : {K : Type 0} → (K → Option (List ℕ)) → (K → ℕ) → (K → ℕ) → (K → List GName) → Taking K Failed
by_puts told faults settled lenders = record {
  Takes = λ T old new text result. Puts told faults settled lenders old new text result;
  nothing = λ T taker x. puts_nothing taker;
  then = λ T U old mid new first rest x r p q. puts_then refl p q;
  stops = λ T U old new first rest e p. puts_fails rest refl refl p;
}

-- what has one state after each text, where it took all of it
abbrev pub by_state : {K E : Type 0} (after : K → List ℕ → K) → ((taker : K) → after taker [] ≡ taker)
    → ((taker : K) (first rest : List ℕ) → after (after taker first) rest ≡ after taker (first ++ rest)) → Taking K E
by_state after after_nothing after_more = record {
  Takes = λ T old new text result. OnOk result (new ≡ after old text);
  nothing = λ T taker x. sym (after_nothing taker);
  then = λ T U old mid new first rest x r p q. on_ok_weaker r (λ e. e ∙ ap (λ taker. after taker rest) p ∙ after_more old first rest) q;
  stops = λ T U old new first rest e p. tt;
}
