-- Calls of a device, one after the other.
use Rattle.std.proofs.Common.{◌≡◌, ℕ, zero, suc, ◌+◌, ◌-◌, ◌<◌, ◌≤◌, Err, List, ◌++◌, take, drop}
use Rattle.std.proofs.Common.{length, arith, sym, ap, subst, inl, inr, ◌∙◌, add-one, append_assoc, take-append-drop}
use Rattle.std.proofs.lemmas.List.{take_rest}
use Rattle.script_text.specs.declared.fault.ScriptFault.{ScriptFault}
use Rattle.script_text.specs.declared.fault.ScriptFault.TheVariants.{Unreadable, Device, Memory}
use Rattle.script_text.specs.Devices.{Calls, ReadingEnds, GoesWell, GivesUp}
use Rattle.script_text.specs.Reading.{ReadOnce}

module _ {S : Type 0} (goes : S → S → Type 0) where
  -- one call more
  pub calls_more : (n : ℕ) (s m t : S) → Calls goes n s m → goes m t → Calls goes (n + 1) s t
  calls_more n s m t h step = subst (λ k. Calls goes k s t) (sym (add-one n)) (m, h, step)

-- a reading that a read ended
pub read_ended : {S : Type 0} (T U : Type 0) (reads fails : S → S →
    Type 0) (most n : ℕ) (s m t : S) (e : ScriptFault) → n < most → Calls reads n s m
    → ReadOnce {S = S} {T = T} reads fails m (Err e) t → ReadingEnds reads fails {T = U} most s (Err e) t
read_ended T U reads fails most n s m t (Unreadable number) less h once = absurd once
read_ended T U reads fails most n s m t Device less h once = inl (n, m, less, h, once)
read_ended T U reads fails most n s m t Memory less h once =
    (n + 1, omega (arith, less), calls_more reads n s m t h once)

-- what is written goes from what is left to what is done
pub moves_front : (all done rest : List ℕ) (n : ℕ) → all ≡ done ++ rest →
    all ≡ (done ++ take n rest) ++ take (length rest - n) (drop n rest)
moves_front all done rest n e =
    e ∙ ap (λ l. done ++ l) (sym (take-append-drop n rest)) ∙ sym (append_assoc done (take n rest) (drop n rest))
    ∙ ap (λ l. (done ++ take n rest) ++ l) (sym (take_rest rest n))

module _ {S : Type 0} (goes fails : S → S → Type 0) where
  -- more calls after some
  calls_on : (s m t : S) (n k : ℕ) → Calls goes n s m → Calls goes k m t → (all : ℕ) × (k ≤ all) × Calls goes all s t
  calls_on s m t n zero h on = (n, omega arith, subst (Calls goes n s) on h)
  calls_on s m t n (suc k) h on =
      let before = calls_on s m on.0 n k h on.1 in (suc before.0, omega (arith, before.1), (on.0, before.2, on.2))

  pub GoesWell-trans : (s m t : S) → GoesWell goes fails s m → GoesWell goes fails m t → GoesWell goes fails s t
  GoesWell-trans s m t h on = let all = calls_on s m t h.0 on.0 h.1 on.1 in (all.0, all.2)

  -- calls that are given up after some that went well
  pub GivesUp-after : (s m t : S) → GoesWell goes fails s m → GivesUp goes fails m t → GivesUp goes fails s t
  GivesUp-after s m t h (inl on) = inl (on.0, GoesWell-trans s m on.0 h on.1, on.2)
  GivesUp-after s m t h (inr on) =
      let all = calls_on s m t h.0 on.0 h.1 on.2 in inr (all.0, omega (arith, on.1, all.1), all.2)
