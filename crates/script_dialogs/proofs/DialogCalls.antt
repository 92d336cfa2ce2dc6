-- Calls of a peer, of which one knows more.
use Rattle.std.proofs.Common.{◌≡◌, ℕ, zero, suc, ◌+◌, ◌-◌, ◌^◌, ◌≤◌, List, ◌⊎◌, Option, None, Some, IfSome, Result}
use Rattle.std.proofs.Common.{Ok, Err, arith, refl, sym, ap, subst, inl, inr, ◌∙◌}
use Rattle.std.specs.Prelude.{IsErrAnd}
use Rattle.script_text.specs.Devices.{Calls, GoesWell, GivesUp}
use Rattle.script_text.specs.declared.fault.ScriptFault.{ScriptFault}
use Rattle.script_text.specs.declared.fault.ScriptFault.TheVariants.{Unreadable, Device, Memory}
use Rattle.dialogs.specs.Talks.{Talks, TalkEnds}

module _ {P : Type 0} (reads read_fails writes write_fails : P → P → Type 0) (ready also : P →
    Type 0) (says : (p : P) → ready p → also p) where
  talks_also : (n : ℕ) (s t : P) → Talks reads read_fails writes write_fails ready n s t →
      Talks reads read_fails writes write_fails also n s t
  talks_also zero s t h = h
  talks_also (suc n) s t (m, before, inl (at, once)) = (m, talks_also n s m before, inl (says m at, once))
  talks_also (suc n) s t (m, before, inr once) = (m, talks_also n s m before, inr once)

  pub ends_also : {T : Type 0} (remaining : P → Option (List ℕ)) (s t : P) (r : Result T ScriptFault) →
      TalkEnds reads read_fails writes write_fails ready remaining s r t
      → TalkEnds reads read_fails writes write_fails also remaining s r t
  ends_also remaining s t (Ok x) (n, made) = (n, talks_also n s t made)
  ends_also remaining s t (Err (Unreadable number)) (n, made) = (n, talks_also n s t made)
  ends_also remaining s t (Err Memory) (n, made) = (n, talks_also n s t made)
  ends_also remaining s t (Err Device) (inl (n, m, made, inl (at, failed))) =
      inl (n, m, talks_also n s m made, inl (says m at, failed))
  ends_also remaining s t (Err Device) (inl (n, m, made, inr failed)) = inl (n, m, talks_also n s m made, inr failed)
  ends_also remaining s t (Err Device) (inr (n, made, many)) = inr (n, talks_also n s t made, many)

module _ {P : Type 0} (reads read_fails writes write_fails : P → P → Type 0) (ready : P → Type 0) where
  writes_after : (s t u : P) (n k : ℕ) → Talks reads read_fails writes write_fails ready n s t → Calls writes k t u
      → (all : ℕ) × (k ≤ all) × Talks reads read_fails writes write_fails ready all s u
  writes_after s t u n zero made same =
      (n, omega arith, subst (λ p. Talks reads read_fails writes write_fails ready n s p) same made)
  writes_after s t u n (suc k) made (m, before, once) =
      let (all, more, on) = writes_after s t m n k made before in (suc all, omega (arith, more), (m, on, inr once))

  -- memory is refused for what was to be written
  pub ends_lacking : (T : Type 0) (remaining : P → Option (List ℕ)) (s t : P) (number : ℕ)
      (r e : Result T ScriptFault) → r ≡ Err (Unreadable number) → e ≡ Err Memory
      → TalkEnds reads read_fails writes write_fails ready remaining s r t →
      TalkEnds reads read_fails writes write_fails ready remaining s e t
  ends_lacking T remaining s t number r e is lacks h =
      let made : TalkEnds reads read_fails writes write_fails ready {T = T} remaining s (Err (Unreadable number)) t =
      subst (λ x. TalkEnds reads read_fails writes write_fails ready remaining s x t) is h in
      subst (λ x. TalkEnds reads read_fails writes write_fails ready remaining s x t) (sym lacks) made

  -- then what waits is written
  pub ends_written : (T : Type 0) (remaining : P → Option (List ℕ)) (s t u : P) (number : ℕ)
      (r : Result T ScriptFault) → r ≡ Err (Unreadable number)
      → TalkEnds reads read_fails writes write_fails ready remaining s r t → GoesWell writes write_fails t u →
      TalkEnds reads read_fails writes write_fails ready remaining s r u
  ends_written T remaining s t u number r is h (k, calls) =
      let made : TalkEnds reads read_fails writes write_fails ready {T = T} remaining s (Err (Unreadable number)) t =
      subst (λ x. TalkEnds reads read_fails writes write_fails ready remaining s x t) is h in
      let on = writes_after s t u made.0 k made.1 calls in
      subst (λ x. TalkEnds reads read_fails writes write_fails ready remaining s x u) (sym is) (on.0, on.2)

  -- or that fails
  pub ends_unwritten : (T : Type 0) (remaining : P → Option (List ℕ)) (s t u : P) (number : ℕ)
      (r e : Result T ScriptFault) → r ≡ Err (Unreadable number) → e ≡ Err Device
      → TalkEnds reads read_fails writes write_fails ready remaining s r t → GivesUp writes write_fails t u →
      TalkEnds reads read_fails writes write_fails ready remaining s e u
  ends_unwritten T remaining s t u number r e is fails h ends =
      let made : TalkEnds reads read_fails writes write_fails ready {T = T} remaining s (Err (Unreadable number)) t =
      subst (λ x. TalkEnds reads read_fails writes write_fails ready remaining s x t) is h in
      subst (λ x. TalkEnds reads read_fails writes write_fails ready remaining s x u) (sym fails)
      (by made.0 made.1 ends)
    where
      by : (n : ℕ) → Talks reads read_fails writes write_fails ready n s t → GivesUp writes write_fails t u
          → TalkEnds reads read_fails writes write_fails ready {T = T} remaining s (Err Device) u
      by n made (inl (m, (k, calls), failed)) = let on = writes_after s t m n k made calls in
          inl (on.0, m, on.2, inr failed)
      by n made (inr (k, many, calls)) =
          let on = writes_after s t u n k made calls in
          let enough : 2 ^ 32 ≤ 2 ^ 64 - 1 = omega arith in
          inr (on.0, on.2, inl (omega (arith, many, on.1, enough)))

-- what `?` hands on of a fault
pub fails_so : {T : Type 0} (r : Result T ScriptFault) (e fault : ScriptFault) → IsErrAnd r (λ f. f ≡ e) →
    e ≡ fault → r ≡ Err fault
fails_so (Ok t) e fault h is = absurd h
fails_so (Err f) e fault h is = ap Err (h ∙ is)
