-- The document of bytes that are UTF-8, and of others.
use Rattle.std.proofs.Common.{◌≡◌, ◌⊎◌, List, ℕ, None, Bool, true, false, inl, inr, ap, if◌then◌else◌}
use Rattle.std.specs.Str.{IsUtf8, is_utf8}
use Rattle.std.proofs.lemmas.Bool.{cases_Bool}
use Rattle.std.proofs.lemmas.Str.{IsUtf8-from_is_utf8, is_utf8-from_IsUtf8}
use Rattle.toml.specs.Parse.{parse_document}
use Rattle.script_text.specs.Scripts.{document}

pub document_of_text : (bytes : List ℕ) → IsUtf8 bytes → document bytes ≡ parse_document bytes
document_of_text bytes h = ap (λ (b : Bool). if b then parse_document bytes else None) (is_utf8-from_IsUtf8 bytes h)

pub document_of_others : (bytes : List ℕ) → (IsUtf8 bytes → ⊥) → document bytes ≡ None
document_of_others bytes h = ap (λ (b : Bool). if b then parse_document bytes else None) (is_false (cases_Bool (is_utf8 bytes))) where
  is_false : (is_utf8 bytes ≡ true) ⊎ (is_utf8 bytes ≡ false) → is_utf8 bytes ≡ false
  is_false (inl e) = absurd (h (IsUtf8-from_is_utf8 bytes e))
  is_false (inr e) = e
