-- Printed bytes: parts of them are printed, and they are text.
use Rattle.std.proofs.Common.{◌≡◌, ℕ, ◌<◌, Bool, true, false, ◌&&◌, nat_le, zero, suc, List, [], ◌∷◌, take, drop}
use Rattle.std.proofs.Common.{arith, ap, sym, ◌∙◌}
use Rattle.std.specs.List.{list_all}
use Rattle.std.proofs.lemmas.Bool.Decides.{nat_tests}
use Rattle.std.specs.Str.{IsUtf8, IsAscii}
use Rattle.std.proofs.lemmas.List.{take-append-drop}
use Rattle.std.proofs.lemmas.List.Folds.{list_all-append}
use Rattle.std.proofs.lemmas.Str.{IsUtf8-from_ascii}
use Rattle.script_text.specs.Lines.{is_printed, IsPrinted}
use Rattle.script_text.specs.Words.{ArePrinted}

pub both : (a b : Bool) → (a && b) ≡ true → (a ≡ true) × (b ≡ true)
both true true h = (h, h)
both true false h = cc
both false b h = cc

pub printed_parts : (i : ℕ) (bytes : List ℕ) → IsPrinted bytes → ArePrinted (take i bytes) (drop i bytes)
printed_parts i bytes h =
    both _ _ (sym (list_all-append is_printed (take i bytes) (drop i bytes))
    ∙ ap (list_all is_printed) (take-append-drop i bytes) ∙ h)

small : (b : ℕ) → nat_le b 126 ≡ true → b < 128
small b le = grind (arith, nat_tests, le)

ascii : (bytes : List ℕ) → IsPrinted bytes → IsAscii bytes
ascii [] h i = omega arith
ascii (b ∷ bytes) h zero = small b (both (nat_le 32 b) _ (both (is_printed b) _ h).0).1
ascii (b ∷ bytes) h (suc i) = ascii bytes (both (is_printed b) _ h).1 i

pub printed_utf8 : (bytes : List ℕ) → IsPrinted bytes → IsUtf8 bytes
printed_utf8 bytes h = IsUtf8-from_ascii bytes (ascii bytes h)
