-- The two fields of a `Refusing`: where they lie behind a `&self`, and that who holds the `&self` may look at both.
-- Assumes `Logic`.
use Rattle.test_support.proofs.Steps.{ℕ, ◌+◌, [], ◌∷◌, Bor, named, param, Ura, ent, sep, id⊢, Fml, Lft, Logic, sem}
use Rattle.test_support.proofs.Steps.{size, align, up, u64, RefOf, hidden_shr, RattleType, ShrRef, shr_vals, Slot}
use Rattle.test_support.proofs.Steps.{plain, ‵, ◌$◌, ◌∵◌, !, qed, done, move, keep, use1, fsplit, unhide, Al, α, seen}
use Rattle.std.specs.contracts.cell.Cell as Cell
use Rattle.test_support.specs.contracts.refusing.Refusing as Refusing

-- the type of the field `left`
abbrev pub Counter : RattleType
Counter = Cell.the_row u64

module _ (Z : Al) where
  -- the type of a `Refusing` over the allocator Z
  abbrev pub Wrapper : RattleType
  Wrapper = Refusing.the_row (param 0 Z.row)

  -- the parameter `&self` of both methods
  abbrev pub self : Slot 2
  self = RefOf (0 ∷ []) tt (plain (λ _. Wrapper)) (λ _. tt)

  -- the address of `inner` and that of `left`, each after what lies before it and what that is padded by
  abbrev pub inner_at : ℕ × ℕ → ℕ × ℕ
  inner_at p = (p.0, p.1 + up (align (α Z)) 0)

  abbrev pub left_at : ℕ × ℕ → ℕ × ℕ
  left_at p = (p.0, p.1 + up 8 (up (align (α Z)) 0 + size (α Z)))

-- what a `&` to the cell at p lets its holder do
abbrev pub counts : Lft → ℕ × ℕ → Fml
counts κ p = hidden_shr Counter κ (record { value = tt }) p.0 p.1

module _ (Z : Al) {M : Type 1} {𝓤 : Ura M} (𝓛 : Logic 𝓤) (κ : Lft) (r : Bor (Wrapper Z).Denot) where
  pub self_shares : ent 𝓤 (sem 𝓛 ((ShrRef (named 0) κ (Wrapper Z)).own_val r (shr_vals r)))
      (sep 𝓤 (sem 𝓛 (seen Z κ (inner_at Z r.ref_ptr) r.now.inner)) (sem 𝓛 (counts κ (left_at Z r.ref_ptr))))
  self_shares =
      qed 𝓛 (‵ ((ShrRef (named 0) κ (Wrapper Z)).own_val r (shr_vals r)) ∷ []) ∵
      -- the `&` is its address, which is dropped in the end, and what it shares
      fsplit ! $ move ! (1 ∷ []) $ unhide ! $
      -- [both fields; the struct's end; the address]
      fsplit ! $ fsplit ! $ use1 𝓛 (‵ (seen Z κ (inner_at Z r.ref_ptr) r.now.inner)) (id⊢ 𝓤 _) $
      move ! (1 ∷ []) $ fsplit ! $ keep ! (2 ∷ 0 ∷ []) $ done !
