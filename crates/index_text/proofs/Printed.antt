-- Lines whose bytes are printed.
use Rattle.std.proofs.Common.{◌≡◌, ◌∙◌, ℕ, ◌<◌, Bool, true, false, List, Option, None, Some, length, arith, refl, sym}
use Rattle.std.proofs.Common.{ap}
use Rattle.std.proofs.Common.{eq-eqb}
use Rattle.std.specs.Prelude.{if◌then◌else◌}
use Rattle.std.specs.List.{list_all, prefix_len}
use Rattle.std.proofs.lemmas.Bool.{ne_eqb}
use Rattle.std.proofs.lemmas.List.Sums.{prefix_len-le-length}
use Rattle.script_text.proofs.Prefixes.{printed_whole}
use Rattle.script_text.specs.Lines.{is_printed}

module _ (line : List ℕ) (n : ℕ) (counted : n ≡ prefix_len is_printed line) where
  pub all_printed : (n < length line → ⊥) → list_all is_printed line ≡ true
  all_printed all =
      sym (printed_whole line)
      ∙ eq-eqb (prefix_len is_printed line) (length line)
      (omega (arith, counted, all, prefix_len-le-length is_printed line))

  pub some_unprinted : n < length line → list_all is_printed line ≡ false
  some_unprinted some =
      sym (printed_whole line)
      ∙ ne_eqb (prefix_len is_printed line) (length line) (λ same. omega (arith, counted, some, same))
