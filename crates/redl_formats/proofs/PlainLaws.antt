-- Fields that are written as they are.
use Rattle.std.proofs.Common.{◌≡◌, ℕ, List, [], ◌∷◌, ◌++◌, Bool, true, false, true≢false, ◌==◌, refl, sym, ap, ◌∙◌, if◌then◌else◌}
use Rattle.std.specs.List.{flat_map, list_all}
use Rattle.redl_formats.specs.Fields.{escape, is_unescaped}

escape-here : (byte : ℕ) (a b c d : Bool) → (byte == 92) ≡ a → (byte == 9) ≡ b → (byte == 10) ≡ c → (byte == 13) ≡ d
    → (if a then false else if b then false else if c then false else if d then false else true) ≡ true → escape byte ≡ byte ∷ []
unfolding escape
escape-here byte true b c d is_a is_b is_c is_d none = absurd (true≢false (sym none))
escape-here byte false true c d is_a is_b is_c is_d none = absurd (true≢false (sym none))
escape-here byte false false true d is_a is_b is_c is_d none = absurd (true≢false (sym none))
escape-here byte false false false true is_a is_b is_c is_d none = absurd (true≢false (sym none))
escape-here byte false false false false is_a is_b is_c is_d none = rw (is_a, is_b, is_c, is_d) refl

pub escape_same : (bytes : List ℕ) → list_all is_unescaped bytes ≡ true → flat_map escape bytes ≡ bytes
escape_same [] all = refl
escape_same (byte ∷ bytes) all = by (is_unescaped byte) refl (escape_same bytes)
  where
    by : (test : Bool) → is_unescaped byte ≡ test → (list_all is_unescaped bytes ≡ true → flat_map escape bytes ≡ bytes) → flat_map escape (byte ∷ bytes) ≡ byte ∷ bytes
    by true is rest =
        let more : list_all is_unescaped bytes ≡ true = rw is at all in
        ap (λ (one : List ℕ). one ++ flat_map escape bytes) (escape-here byte (byte == 92) (byte == 9) (byte == 10) (byte == 13) refl refl refl refl is)
        ∙ ap (λ bs. byte ∷ bs) (rest more)
    by false is rest =
        let no : false ≡ true = rw is at all in
        absurd (true≢false (sym no))
