-- The function `refuses` at a call: what its caller hands it, and what the caller has afterwards. Assumes `Logic`.
-- Nothing is known of what a cell holds, so nothing is known of the answer, but that it is a `bool`. A caller's proof
-- goes through both.
use Rattle.test_support.proofs.Steps.{◌≡◌, ℕ, Bool, List, [], ◌∷◌, refl, ap, Val, vbool, vptr, Ura, SProp}
use Rattle.test_support.proofs.Steps.{ent, sep, guard, id⊢, Lft, Share, ftrue, fsep, flft, Logic, sem, Memory}
use Rattle.test_support.proofs.Steps.{Routine, Fun, bool, Contract, triple_of, ‵, raw, ◌⊛◌, some, later, ◌$◌}
use Rattle.test_support.proofs.Steps.{◌∵◌, !, qed, done, move, keep, use1, split, join, fjoin, feq_i, feq_l}
use Rattle.test_support.proofs.Steps.{pick, show, check, await, updating, at_once, nothing, only}
use base.Logic.{ex}
use Rattle.test_support.proofs.Fields.{counts}
use Rattle.test_support.specs.contracts.refusing.refuses as refuses

module _ {M : Type 1} {𝓤 : Ura M} (𝓛 : Logic 𝓤) (mem : Memory → SProp 𝓤) (run : Routine → Fun 𝓤) where
  -- the contract of `refuses`
  abbrev pub Asks : Contract 𝓤
  Asks = triple_of 𝓛 refuses.signature (refuses.spec 𝓛 mem run)

  -- the choices of a caller that holds the share q of the lifetime κ, and a `&` to the cell at p
  abbrev pub asks_at : Lft → Share → ℕ × ℕ → Asks.Ghost
  asks_at κ q p = (
    (
      (κ, tt),
      (q, tt),
      tt,
      (record { ref_ptr = p; now = record { value = tt } }, tt),
      (vptr p.0 p.1 ∷ [], tt),
    ),
    tt,
  )

module _ {M : Type 1} {𝓤 : Ura M} (𝓛 : Logic 𝓤) (mem : Memory → SProp 𝓤) (run : Routine →
    Fun 𝓤) (κ : Lft) (q : Share) (p : ℕ × ℕ) where
  open 𝓛 use {H, A}

  abbrev pub Says : Val → Bool → SProp 𝓤
  Says v b = guard 𝓤 (v ≡ vbool b) (A.lft κ q)

  -- before the call
  pub asks_hands : ent 𝓤 (sep 𝓤 (sem 𝓛 (counts κ p)) (A.lft κ q)) ((Asks 𝓛 mem run).pre (asks_at 𝓛 mem run κ q p))
  asks_hands =
      qed 𝓛 (‵ (counts κ p) ∷ ‵ (flft κ q) ∷ []) ∵
      -- the one argument: a `&`, which is its address and what it shares
      feq_i ! (List Val) (vptr p.0 p.1 ∷ []) (vptr p.0 p.1 ∷ []) refl $ fjoin ! $ nothing ! $ move !
      (1 ∷ []) $ fjoin ! $
      -- the one lifetime's token, and no `requires`
      nothing ! $ move ! (2 ∷ []) $ join ! $ join ! $ nothing ! $ move ! (1 ∷ []) $ done !

  -- after a call that answered v
  pub asks_leaves : (v : Val) → ent 𝓤 ((Asks 𝓛 mem run).post (asks_at 𝓛 mem run κ q p) v) (H.⇛ (ex 𝓤 (Says v)))
  asks_leaves v =
      qed 𝓛 (raw ((Asks 𝓛 mem run).post (asks_at 𝓛 mem run κ q p) v) ∷ []) ∵ updating ! $
      use1 𝓛 (later (some (λ (b : Bool). ((‵ (flft κ q) ⊛ ‵ ftrue) ⊛ ‵ (bool.own_val b (v ∷ []))) ⊛ some
      (λ (_ : Unit {0} × Unit {0}). ‵ (fsep ftrue ftrue) ⊛ ‵ ftrue)))) (id⊢ 𝓤 _) $
      await ! tt $ pick ! (λ b. split ! $ split ! $ move ! (1 ∷ []) $
      -- what a `bool` owns says which machine value it is
      feq_l ! (λ e. split ! $ at_once ! $ show ! (Says v) b $ check ! (ap only e) $ keep ! (0 ∷ []) $ done !))
