-- Bytes that are UTF-8, and such that are not.
use Rattle.std.proofs.Common.{◌≡◌, ℕ, Bool, true, false, List, [], refl}
use Rattle.std.proofs.lemmas.Str.{IsUtf8-from_is_utf8, is_utf8-from_IsUtf8}
use Rattle.std.specs.Str.{IsUtf8, is_utf8}
use Rattle.redl_properties.specs.Utf8.{text_or_nothing}

pub text-is : (bytes : List ℕ) → IsUtf8 bytes → bytes ≡ text_or_nothing bytes
text-is bytes is = rw (is_utf8-from_IsUtf8 bytes is) refl

pub text-is_not : (bytes : List ℕ) → (IsUtf8 bytes → ⊥) → [] ≡ text_or_nothing bytes
text-is_not bytes none = by (is_utf8 bytes) refl
  where
    by : (test : Bool) → is_utf8 bytes ≡ test → [] ≡ text_or_nothing bytes
    by true is = absurd (none (IsUtf8-from_is_utf8 bytes is))
    by false is = rw is refl
