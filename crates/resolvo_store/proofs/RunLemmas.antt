-- Runs of the abstract store.
use Rattle.std.proofs.Common.{◌≡◌, List, [], ◌∷◌, ◌++◌, refl, subst}
use Rattle.std.specs.Prelude.{true, false}
use Rattle.resolvo_store.proofs.Words.{Command, HasOutcome, is_saturate, IsAnswered, Reply, Run, Saturate, Step, Store}

module _ {N S : Type 0} where
  -- a run goes on by a step
  pub run_more : (old mid new : Store N S) (cs : List (Command N S)) (replies : List Reply) (c : Command N S)
      (reply : Reply)
      → Run old cs replies mid → Step mid c reply new → Run old (cs ++ c ∷ []) (replies ++ reply ∷ []) new
  run_more old mid new [] [] c reply ran step = (new, subst (λ st. Step st c reply new) ran step, refl)
  run_more old mid new (d ∷ cs) (r ∷ rs) c reply ran step =
      (ran.0, ran.1, run_more ran.0 mid new cs rs c reply ran.2 step)
  run_more old mid new [] (r ∷ rs) c reply ran step = absurd ran
  run_more old mid new (d ∷ cs) [] c reply ran step = absurd ran

  -- ---- commands but Saturate

  -- what answers one is its outcome, or a refusal
  pub has_outcome : (old new : Store N S) (c : Command N S) (reply : Reply) → is_saturate c ≡ false →
      IsAnswered old c reply new → HasOutcome old c reply new
  has_outcome old new (Saturate level) reply plain is = (let no : true ≡ false = plain in cc)
  has_outcome old new c reply plain is = is

  -- and its outcome, or a refusal, answers one
  pub is_answered : (old new : Store N S) (c : Command N S) (reply : Reply) → is_saturate c ≡ false →
      HasOutcome old c reply new → IsAnswered old c reply new
  is_answered old new (Saturate level) reply plain has = (let no : true ≡ false = plain in cc)
  is_answered old new c reply plain has = has
