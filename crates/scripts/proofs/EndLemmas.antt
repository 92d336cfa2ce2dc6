-- How a script's writer and its reader end.
use Rattle.std.proofs.Common.{◌≡◌, ℕ, ◌⊎◌, Result, Ok, Err, refl, sym, ap, subst, inl, inr, ◌∙◌}
use Rattle.std.specs.Prelude.{IsErrAnd}
use Rattle.script_text.specs.Devices.{GoesWell, GivesUp}
use Rattle.script_text.specs.Status.{fault_at}
use Rattle.script_text.specs.declared.fault.LineFault.{LineFault}
use Rattle.script_text.specs.declared.fault.LineFault.TheVariants as OfLine
use Rattle.script_text.specs.declared.fault.ScriptFault.{ScriptFault}
use Rattle.script_text.specs.declared.fault.ScriptFault.TheVariants.{Unreadable, Device, Memory}
use Rattle.script_text.proofs.Calls.{GoesWell-trans, GivesUp-after}
use Rattle.scripts.specs.Ends.{WriterEnds}

module _ {W : Type 0} (writes fails : W → W → Type 0) (T : Type 0) where
  pub ends_at_fault : (w w' : W) (number : ℕ) (fault : LineFault) → GoesWell writes fails w w' →
      WriterEnds writes fails {T = T} w (Err (fault_at number fault)) w'
  ends_at_fault w w' number OfLine.Unreadable h = h
  ends_at_fault w w' number OfLine.Memory h = h

  well_before : (w m : W) (ended : Result T ScriptFault) → (ended ≡ Err Device → ⊥) →
      WriterEnds writes fails w ended m → GoesWell writes fails w m
  well_before w m (Ok t) other h = h
  well_before w m (Err (Unreadable n)) other h = h
  well_before w m (Err Memory) other h = h
  well_before w m (Err Device) other h = absurd (other refl)

  well_after : (w m : W) (ended : Result T ScriptFault) → (ended ≡ Err Device → ⊥) → GoesWell writes fails w m →
      WriterEnds writes fails w ended m
  well_after w m (Ok t) other h = h
  well_after w m (Err (Unreadable n)) other h = h
  well_after w m (Err Memory) other h = h
  well_after w m (Err Device) other h = absurd (other refl)

  same_or_memory : (ended named : Result T ScriptFault) → (named ≡ ended) ⊎ (named ≡ Err Memory) →
      (ended ≡ Err Device → ⊥) → named ≡ Err Device → ⊥
  same_or_memory ended named (inl same) other e = other (sym same ∙ e)
  same_or_memory ended named (inr memory) other e = cc

  -- all was written that waited when a script had ended for something else than a device
  pub ends_written : (w m w' : W) (ended named : Result T ScriptFault) → (ended ≡ Err Device → ⊥) → (named ≡ ended)
      ⊎ (named ≡ Err Memory)
      → WriterEnds writes fails w ended m → GoesWell writes fails m w' → WriterEnds writes fails w named w'
  ends_written w m w' ended named other is h on =
      well_after w w' named (same_or_memory ended named is other)
      (GoesWell-trans writes fails w m w' (well_before w m ended other h) on)

  -- the writer failed by then
  pub ends_unwritten : (w m w' : W) (ended named : Result T ScriptFault) → named ≡ Err Device → (ended ≡ Err Device → ⊥)
      → WriterEnds writes fails w ended m → GivesUp writes fails m w' → WriterEnds writes fails w named w'
  ends_unwritten w m w' ended named is other h on =
      subst (λ r. WriterEnds writes fails w r w') (sym is) (GivesUp-after writes fails w m w'
      (well_before w m ended other h) on)

-- what `?` hands on of a fault
pub fails_so : {T : Type 0} (r : Result T ScriptFault) (e fault : ScriptFault) → IsErrAnd r (λ f. f ≡ e) →
    e ≡ fault → r ≡ Err fault
fails_so (Ok t) e fault h is = absurd h
fails_so (Err f) e fault h is = ap Err (h ∙ is)
