-- Reads for the next line.
use Rattle.std.proofs.Common.{◌≡◌, ℕ, ◌+◌, ◌^◌, Bool, true, false, List, ◌++◌, Option, Result, Ok, Err, IfOk, ◌≤◌}
use Rattle.std.proofs.Common.{length-append, take, drop, length, refl, sym, ap, subst, inl, inr, ◌∙◌, add-one, arith}
use Rattle.std.proofs.lemmas.List.{take-append-drop}
use Rattle.std.proofs.Math.Seq.{take-length, drop-length, take-append_seam}
use Rattle.std.specs.Io.KnownBytes.{Consumes}
use Rattle.script_text.specs.declared.fault.ScriptFault.TheVariants.{Device}
use Rattle.dialogs.specs.LineReads.{HasNoFeed, IsFed, LineReads, NextLine, NextLineFails}

pub not_both : (b : Bool) → b ≡ true → b ≡ false → ⊥
not_both b h k = let bad : true ≡ false = sym h ∙ k in cc

pub if_ok : {V E : Type 0} (r : Result V E) (P Q : V → Type 0) → ((v : V) → P v → Q v) → IfOk r P → IfOk r Q
if_ok (Ok v) P Q f h = f v h
if_ok (Err e) P Q f h = tt

-- what is held has more behind it
module _ (n : ℕ) (before bytes held : List ℕ) (looked : n ≡ length before) (is : held ≡ before ++ bytes) where
  pub few_more : n ≤ length held
  few_more =
      let all : length held ≡ length before + length bytes = ap length is ∙ length-append before bytes in
      omega (arith, looked, all)

  pub none_more : HasNoFeed before → HasNoFeed (take n held)
  none_more none =
      subst HasNoFeed (sym (ap (λ k. take k held) looked ∙ ap (take (length before)) is
      ∙ take-append_seam before bytes)) none

module _ {S : Type 0} (remaining : S → Option (List ℕ)) (reads fails : S → S → Type 0) where
  -- one read more
  pub one_more : (n : ℕ) (s m t : S) (held before held' : List ℕ) →
      LineReads remaining reads fails n s held m before → HasNoFeed before → reads m t
      → ((bytes : List ℕ) × Consumes (remaining m) (remaining t) bytes × (held' ≡ before ++ bytes)) →
      LineReads remaining reads fails (n + 1) s held t held'
  one_more n s m t held before held' earlier none once bytes =
      subst (λ k. LineReads remaining reads fails k s held t held') (sym (add-one n)) (
        m,
        before,
        earlier,
        none,
        once,
        bytes,
      )

  -- what was held is a line, and what is held after it
  module _ (n : ℕ) (s t : S) (held now line held' : List ℕ) (ended ended' : Bool) (count : ℕ)
      (made : LineReads remaining reads fails n s held t now) (once : ended ≡ true → (n ≡ 0) × (ended' ≡ true))
      (is : line ≡ take count now) (left : held' ≡ drop count now) where
    cut : line ++ held' ≡ now
    cut = ap (λ l. l ++ held') is ∙ ap (λ l. take count now ++ l) left ∙ take-append-drop count now

    pub fed_line : IsFed (take count now) → NextLine remaining reads fails ended s held line ended' t held'
    fed_line fed =
        (n, subst (LineReads remaining reads fails n s held t) (sym cut) made, once, inl (subst IsFed (sym is) fed))

    pub last_line : count ≡ length now → HasNoFeed now → ended' ≡ true →
        NextLine remaining reads fails ended s held line ended' t held'
    last_line whole none over = (
      n,
      subst (LineReads remaining reads fails n s held t) (sym cut) made,
      once,
      inr (
        over,
        subst HasNoFeed (sym (is ∙ ap (λ k. take k now) whole ∙ take-length now)) none,
        left ∙ ap (λ k. drop k now) whole ∙ drop-length now,
      ),
    )

  -- no line came in n reads
  pub none_came : (n : ℕ) (s t : S) (held held' : List ℕ) (ended now : Bool) → 2 ^ 32 ≤ n →
      LineReads remaining reads fails n s held t held'
      → (ended ≡ true → (n ≡ 0) × (now ≡ true)) → NextLineFails remaining reads fails ended s held Device t
  none_came n s t held held' false now many made never = (refl, inr (n, held', many, made))
  none_came n s t held held' true now many made never = let none : n ≡ 0 = (never refl).0 in
      absurd (omega (arith, none, many))
