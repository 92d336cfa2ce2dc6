-- How far bytes are printed: sixteen at a time, and all of them.
use Rattle.std.proofs.Common.{◌≡◌, ℕ, ◌+◌, ◌<◌, ◌≤◌, Bool, true, false, ◌&&◌, cond, eqb, nat_eq}
use Rattle.std.proofs.Common.{suc, List, [], ◌∷◌, take, drop, length, arith, refl, sym, ap, ◌∙◌}
use Rattle.std.specs.List.{list_all, prefix_len}
use Rattle.std.proofs.lemmas.Bool.Decides.{nat_tests}
use Rattle.std.proofs.lemmas.Bool.{eq-eqb, ne_eqb}
use Rattle.std.proofs.lemmas.List.{take-append-drop, length-take-le, length-drop, drop-drop}
use Rattle.std.proofs.lemmas.List.Folds.{prefix_len-append}
use Rattle.script_text.specs.Lines.{is_printed}

-- of sixteen bytes of a text, so many come before the first that fails a test
module _ (p : ℕ → Bool) (text : List ℕ) (at found : ℕ) (room : at + 16 ≤ length text)
    (is : found ≡ prefix_len p (take 16 (drop at text))) where
  long : length (take 16 (drop at text)) ≡ 16
  long = length-take-le 16 (drop at text) (omega (arith, length-drop at text, room))

  parts : prefix_len p (drop at text) ≡ cond (eqb found 16) (16 + prefix_len p (drop 16 (drop at text))) found
  parts =
      ap (prefix_len p) (sym (take-append-drop 16 (drop at text)))
      ∙ prefix_len-append p (take 16 (drop at text)) (drop 16 (drop at text))
      ∙ (λ i. cond (eqb (sym is i) (long i)) (long i + prefix_len p (drop 16 (drop at text))) (sym is i))

  pub ends_in_sixteen : found < 16 → prefix_len p (drop at text) ≡ found
  ends_in_sixteen short =
      let other : eqb found 16 ≡ false = ne_eqb found 16 (omega (arith, short)) in
      parts ∙ ap (λ all. cond all (16 + prefix_len p (drop 16 (drop at text))) found) other

  pub goes_on_after_sixteen : found ≡ 16 → 16 + prefix_len p (drop (at + 16) text) ≡ prefix_len p (drop at text)
  goes_on_after_sixteen whole =
      ap (λ l. 16 + prefix_len p l) (sym (drop-drop 16 at text))
      ∙ sym (parts ∙ ap (λ all. cond all (16 + prefix_len p (drop 16 (drop at text))) found) (eq-eqb found 16 whole))

one_more : (b : Bool) (n l : ℕ) → nat_eq (cond b (1 + n) 0) (suc l) ≡ (b && nat_eq n l)
one_more true n l = grind (arith, nat_tests)
one_more false n l = ne_eqb 0 (suc l) (omega arith)

pub printed_whole : (bytes : List ℕ) → nat_eq (prefix_len is_printed bytes) (length bytes) ≡ list_all is_printed bytes
printed_whole [] = refl
printed_whole (b ∷ bytes) = one_more (is_printed b) (prefix_len is_printed bytes) (length bytes)
    ∙ ap (λ r. is_printed b && r) (printed_whole bytes)
