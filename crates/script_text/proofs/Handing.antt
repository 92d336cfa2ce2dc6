-- What a writer is handed, piece by piece.
use Rattle.std.proofs.Common.{◌≡◌, ℕ, List, [], ◌++◌, Option, None, Some, sym, ap, subst, ◌∙◌, append_assoc, append-nil}
use Rattle.std.proofs.KnownBytes.{Appends-nil, Appends-trans}
use Rattle.script_text.specs.Output.{HandsOn, TakesSome, Writes}

-- what is handed on, and then more of it
pub HandsOn-trans : (a b c : Option (List ℕ)) (wa wb wc s t : List ℕ) → HandsOn a wa b wb s → HandsOn b wb c wc t →
    HandsOn a wa c wc (s ++ t)
HandsOn-trans a b c wa wb wc s t h k = (
  h.0 ++ k.0,
  Appends-trans a b c h.0 k.0 h.1 k.1,
  append_assoc h.0 k.0 wc ∙ ap (λ l. h.0 ++ l) k.2 ∙ sym (append_assoc h.0 wb t) ∙ ap (λ l. l ++ t) h.2
      ∙ append_assoc wa s t,
)

-- a text that is put after what waits
pub HandsOn-wait : (a : Option (List ℕ)) (waiting waiting' t : List ℕ) → waiting' ≡ waiting ++ t →
    HandsOn a waiting a waiting' t
HandsOn-wait a waiting waiting' t e = ([], Appends-nil a, e)

-- what waits goes on to be handed on
pub HandsOn-on : (a b c : Option (List ℕ)) (wa wb wc s : List ℕ) → HandsOn a wa b wb s → HandsOn b wb c wc [] →
    HandsOn a wa c wc s
HandsOn-on a b c wa wb wc s h k = subst (HandsOn a wa c wc) (append-nil s) (HandsOn-trans a b c wa wb wc s [] h k)

-- of what is handed on a writer takes a beginning
pub TakesSome-after : (a b c : Option (List ℕ)) (wa wb s : List ℕ) → HandsOn a wa b wb s → TakesSome b wb c →
    TakesSome a (wa ++ s) c
TakesSome-after a b c wa wb s h k = (
  h.0 ++ k.0,
  k.1,
  Appends-trans a b c h.0 k.0 h.1 k.2,
  append_assoc h.0 k.0 k.1 ∙ ap (λ l. h.0 ++ l) k.3 ∙ h.2,
)

-- what is handed on is written or waits
pub Writes-handed : (a b : Option (List ℕ)) (wa wb t : List ℕ) → HandsOn a wa b wb t → Writes a wa b wb t
Writes-handed None b wa wb t h = tt
Writes-handed (Some xs) None wa wb t h = absurd h.1
Writes-handed (Some xs) (Some ys) wa wb t h =
    ap (λ l. l ++ wb) h.1 ∙ append_assoc xs h.0 wb ∙ ap (λ l. xs ++ l) h.2 ∙ sym (append_assoc xs wa t)
