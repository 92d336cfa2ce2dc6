-- A line that is printed, and the line feed that ends it.
use Rattle.std.proofs.Common.{◌≡◌, ℕ, ◌-◌, ◌<◌, ◌==◌, Bool, true, false, ◌&&◌, cond, List}
use Rattle.std.proofs.Common.{[], ◌∷◌, ◌++◌, take, drop, length, slice_index_or, arith}
use Rattle.std.proofs.Common.{refl, sym, ap, ◌∙◌, append_assoc, append-nil, ◌⊎◌, inl, inr}
use Rattle.std.specs.Prelude.{if◌then◌else◌}
use Rattle.std.specs.List.{list_all, prefix_len, take_while}
use Rattle.std.proofs.lemmas.Bool.Decides.{nat_tests}
use Rattle.std.proofs.lemmas.List.{take-append-drop, length-append}
use Rattle.std.proofs.lemmas.List.Sums.{take_while-cons, AllPass-from_list_all}
use Rattle.std.proofs.Math.Seq.{take-append_seam, get_or-append_seam}
use Rattle.script_text.specs.Lines.{lines, lines_from, without_return, is_printed, IsPrinted}
use Rattle.script_text.proofs.Printing.{both}

not_control : (b c : ℕ) → c < 32 → is_printed b ≡ true → (b == c) ≡ false
not_control b c control printed = grind (arith, nat_tests, printed)

-- what is begun goes on up to the line feed
line_goes_on : (begun xs rest : List ℕ) → IsPrinted xs → lines_from begun (xs ++ rest) ≡ lines_from (begun ++ xs) rest
line_goes_on begun [] rest h = ap (λ l. lines_from l rest) (sym (append-nil begun))
line_goes_on begun (b ∷ xs) rest h =
    let parts = both (is_printed b) _ h in
    ap (λ ends. if ends then without_return begun ∷ lines_from [] (xs ++ rest)
    else lines_from (begun ++ b ∷ []) (xs ++ rest)) (not_control b 10 (omega arith) parts.0)
    ∙ line_goes_on (begun ++ b ∷ []) xs rest parts.1
    ∙ ap (λ l. lines_from l rest) (append_assoc begun (b ∷ []) xs)

-- no carriage return is at the end of what is printed
no_return : (xs : List ℕ) → IsPrinted xs → (slice_index_or xs (length xs - 1) 0 == 13) ≡ false
no_return [] h = refl
no_return (b ∷ xs) h =
    not_control (slice_index_or (b ∷ xs) (length (b ∷ xs) - 1) 0) 13 (omega arith)
    (AllPass-from_list_all is_printed (b ∷ xs) h (length (b ∷ xs) - 1) 0 (omega arith))

printed_last : (xs : List ℕ) → IsPrinted xs → without_return xs ≡ xs
printed_last xs h =
    ap (λ ends. if ends then take (length xs - 1) xs else xs) (no_return xs h)

-- a carriage return at the end is dropped
without_last : (xs : List ℕ) → without_return (xs ++ 13 ∷ []) ≡ xs
without_last xs =
    let line = xs ++ 13 ∷ [] in
    let last : length line - 1 ≡ length xs = omega (arith, length-append xs (13 ∷ [])) in
    (λ i. if slice_index_or line (last i) 0 == 13 then take (last i) line else line)
    ∙ ap (λ b. if b == 13 then take (length xs) line else line) (get_or-append_seam xs 13 [] 0)
    ∙ take-append_seam xs (13 ∷ [])

pass_while : (b : ℕ) (bs : List ℕ) (v : Bool) → is_printed b ≡ v → IsPrinted bs →
    list_all is_printed (cond v (b ∷ bs) []) ≡ true
pass_while b bs true h k = ap (λ v. v && list_all is_printed bs) h ∙ k
pass_while b bs false h k = refl

pub printed_prefix : (text : List ℕ) → IsPrinted (take (prefix_len is_printed text) text)
printed_prefix [] = refl
printed_prefix (b ∷ text) =
    ap (list_all is_printed) (take_while-cons is_printed b text)
    ∙ pass_while b (take_while is_printed text) (is_printed b) refl (printed_prefix text)

-- the first line of a text is what is printed, where a line's end is after it
module _ (text before after rest : List ℕ) (n : ℕ) (counted : n ≡ prefix_len is_printed text)
    (front : before ≡ take n text) (back : after ≡ drop n text) where
  pub printed_front : IsPrinted before
  printed_front = ap (list_all is_printed) (front ∙ ap (λ m. take m text) counted) ∙ printed_prefix text

  whole : text ≡ before ++ after
  whole = sym (take-append-drop n text) ∙ sym (λ i. front i ++ back i)

  pub printed_line : (after ≡ 10 ∷ rest) ⊎ (after ≡ 13 ∷ 10 ∷ rest) → lines text ≡ before ∷ lines rest
  printed_line (inl feed) =
      ap lines (whole ∙ ap (λ l. before ++ l) feed)
      ∙ line_goes_on [] before (10 ∷ rest) printed_front
      ∙ ap (λ l. l ∷ lines rest) (printed_last before printed_front)
  printed_line (inr feed) =
      ap lines (whole ∙ ap (λ l. before ++ l) feed)
      ∙ line_goes_on [] before (13 ∷ 10 ∷ rest) printed_front
      ∙ ap (λ l. l ∷ lines rest) (without_last before)
