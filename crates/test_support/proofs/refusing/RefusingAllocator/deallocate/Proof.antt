-- `deallocate` meets the trait's contract: it gives the block back to the inner allocator, which granted it. Assumes
-- `Logic`.
use Rattle.test_support.proofs.Steps.{◌≡◌, ℕ, ◌^◌, ◌<◌, List, [], ◌∷◌, refl, w64, Bor, Ty, Fn, a_type, dnil, dcons}
use Rattle.test_support.proofs.Steps.{Val, vunit, vint, vptr, inst_fn, bounded, Ura, ent, never_e, Lft, Share, ftrue}
use Rattle.test_support.proofs.Steps.{ffalse, fsep, froom, flft, ◌⊑◌, ⊑_trans, Logic, size, align, capped, Model}
use Rattle.test_support.proofs.Steps.{WpFn, fact, Running, MachineTables, tables, RawPtr, usize, uint_vals}
use Rattle.test_support.proofs.Steps.{uint_Tells, owns, Ptr, block_ptr, null_ptr, ptr_val, rawptr_vals, rawptr_Tells}
use Rattle.test_support.proofs.Steps.{shr_vals, yes, plain, types_at, Ended, Clauses, Contract, Triple, framed}
use Rattle.test_support.proofs.Steps.{Stays, stay_dropped, walk_of, Goes-dropped, proved, leaves, Item, Sq, ‵, raw}
use Rattle.test_support.proofs.Steps.{◌⊛◌, later, given, prop, ◌$◌, ◌∵◌, !, qed, by, move, keep, use0, use1, split}
use Rattle.test_support.proofs.Steps.{split3, join, fsplit, feq_i, learn, await, nothing, heard, enter, returns}
use Rattle.test_support.proofs.Steps.{of_opd, unit_lit, addr, fld, stop, and_then, no_more, alloc_all, pass_all}
use Rattle.test_support.proofs.Steps.{free_all, look_at, get, through, sets, lands_as, calls_at, Al, seen, token}
use Rattle.test_support.proofs.Steps.{Gives, at_gives, gives_key, Gives-goes, Gives-Gives}
use Rattle.test_support.proofs.Exits.{nothing_of, leaves_nothing}
use Rattle.test_support.proofs.Fields.{Wrapper, self, inner_at, left_at, counts, self_shares}
use Rattle.test_support.specs.contracts.refusing.RefusingAllocator.deallocate as f
use Rattle.test_support.proofs.refusing.RefusingAllocator.deallocate.Statement.{statement}
use Rattle.test_support.proofs.refusing.RefusingAllocator.deallocate.Code as code

module _ (Z : Al) where
  -- the code, over the allocator Z
  abbrev here : Fn
  here = inst_fn (bounded (a_type ∷ []) (Z.row, tt) (dcons Z.d (dcons Z.drops dnil))) code.function

  abbrev ended : Ended
  ended = f.ended Z.row Z.g Z.d Z.drops

  -- nothing is kept of a parameter to the end: each is a copy, of which the caller has its own
  abbrev stayed : Stays ended.signature.params ended.kept
  stayed = (
    stay_dropped (self Z) yes,
    (
      stay_dropped (plain (λ _. RawPtr)) yes,
      (stay_dropped (plain (λ _. usize)) yes, (stay_dropped (plain (λ _. usize)) yes, tt)),
    ),
  )

module _ (Z : Al) {M : Type 1} {𝓤 : Ura M} (𝓛 : Logic 𝓤) (𝓜 : Model 𝓤 𝓛.H) (𝓡 : Running 𝓤 𝓛.H 𝓜) where
  open 𝓛 use {H}

  -- the tables of what each call runs
  abbrev 𝓣 : MachineTables 𝓤 H 𝓜
  𝓣 = tables 𝓤 H 𝓜 𝓡 𝓡.env

  abbrev clauses : Clauses 𝓤 (ended Z)
  clauses = f.clauses Z.row Z.g Z.d Z.drops 𝓛 𝓜.mem 𝓡.returns

  -- what a walk starts from and has to leave
  abbrev Walk : Contract 𝓤
  Walk = walk_of 𝓛 (ended Z) (stayed Z) clauses

  -- `&'κ self`, where κ lasts no longer than κ' and the handle lives for all of κ', and a block for a τ, of n bytes at
  -- the alignment k
  module _ (κ κ' : Lft) (q q' : Share) (within : κ ⊑ κ') (r : Bor (Wrapper Z).Denot) (n k : ℕ) (τ : Ty) where
    -- the arguments as the machine has them
    abbrev vs : Ptr → List Val
    vs x = vptr r.ref_ptr.0 r.ref_ptr.1 ∷ ptr_val x ∷ vint w64 n ∷ vint w64 k ∷ []

    -- all that the contract leaves open, chosen
    abbrev y : Ptr → Walk.Ghost
    y x = (
      (
        (κ, (κ', tt)),
        (q, (q', tt)),
        (within, tt),
        (r, (x, (n, (k, tt)))),
        (shr_vals r, (rawptr_vals x, (vint w64 n ∷ [], (vint w64 k ∷ [], tt)))),
      ),
      τ,
    )

    abbrev handle : Z.row.Denot
    handle = r.now.inner

    -- n and k are what a τ takes
    abbrev Fits : Type 0
    Fits = (capped (size τ) ≡ n) × (capped (align τ) ≡ k)

    -- the tokens, beside what the parameters own
    abbrev entry : Ptr → Item 𝓤
    entry x = (‵ (flft κ q) ⊛ ‵ (flft κ' q') ⊛ ‵ ftrue) ⊛ ‵
        (owns (types_at (ended Z).signature.params (y x).0.0) (y x).0.3 (y x).0.4)

    -- How the walk ends: nothing goes out but the tokens. Their order is that of `leaves`: the tokens, what is left of
    -- the parameters, the answer, the `ensures`.
    freed : (x : Ptr) → Sq 𝓛 (‵ (flft κ q) ∷ (‵ (flft κ' q') ⊛ ‵ ftrue) ∷ []) (prop (Walk.post (y x) vunit))
    freed x =
        nothing ! $ feq_i ! (List Val) (vunit ∷ []) (vunit ∷ []) refl $ use0 𝓛 (‵ (nothing_of 4)) (leaves_nothing 𝓛 4) $
        move ! (3 ∷ 4 ∷ []) $ join ! $ by ! (leaves 𝓛 (ended Z) (stayed Z) clauses (y x) vunit tt (
          tt,
          (tt, (tt, (tt, tt))),
        ) (tt, (tt, (tt, (tt, tt)))))

    -- the code, a statement at a time, from the contract of the function that it calls
    walk : Triple 𝓤 (𝓣.C (gives_key Z)) (Gives Z 𝓛 𝓜.mem 𝓡.returns)
        → n < 2 ^ 64 → k < 2 ^ 64 → (x : Ptr) →
        ent 𝓤 (Walk.pre (y x)) (WpFn 𝓤 H 𝓣.C 𝓣.Λ (here Z) (vs x) (Walk.post (y x)))
    -- no block lies at null, so the `requires` is false there
    walk gives n_fits k_fits null_ptr =
        qed 𝓛 (entry null_ptr ∷ (raw (fact 𝓤 (κ' ⊑ Z.row.lives)) ⊛ raw (fact 𝓤 Fits) ⊛ ‵
        (fsep ffalse (token Z handle τ null_ptr))) ∷ []) ∵
        move ! (1 ∷ []) $ split3 ! $ move ! (2 ∷ []) $ fsplit ! $ keep ! (0 ∷ []) $ by ! (never_e 𝓤 _)
    walk gives n_fits k_fits (block_ptr b o) =
        let x : Ptr = block_ptr b o in
        let p : ℕ × ℕ = inner_at Z r.ref_ptr in
        let given_back = at_gives Z 𝓛 𝓜.mem 𝓡.returns κ q p handle b o n k τ in
        qed 𝓛 (entry x ∷ (raw (fact 𝓤 (κ' ⊑ Z.row.lives)) ⊛ raw (fact 𝓤 Fits) ⊛ ‵
        (fsep (froom τ b o) (token Z handle τ x))) ∷ []) ∵
        -- what the trait lets the body assume: the handle is alive, n and k are the size and the alignment of τ, and
        -- the block is the caller's
        move ! (1 ∷ []) $ split3 ! $ heard ! (κ' ⊑ Z.row.lives)
        (λ alive. heard ! Fits (λ fits. fsplit ! $ move ! (2 ∷ []) $
        -- `&self` gives a `&` to each field; nothing is owned of the pointer and the two numbers
        split ! $ split ! $ move ! (2 ∷ []) $ fsplit ! $ use1 𝓛
        (‵ (seen Z κ p handle) ⊛ ‵ (counts κ (left_at Z r.ref_ptr))) (self_shares Z 𝓛 κ r) $ split ! $
        keep ! (5 ∷ 6 ∷ 0 ∷ 3 ∷ 4 ∷ []) $
        -- [the block's room; the right to free it; the inner handle; the token of κ; the token of κ'], and after them
        -- the locals
        enter ! 𝓣.C 𝓣.Λ (here Z) (vs x) (Walk.post (y x)) $ alloc_all ! (λ l. pass_all ! refl
        ((tt, tt), ((tt, tt), ((tt, record { fits = n_fits }), ((tt, record { fits = k_fits }), tt)))) $
        -- self.inner.deallocate(ptr, size, align)
        sets ! (addr ! (through ! refl (fld ! refl (stop !)))) refl (tt, tt) $
        move ! (2 ∷ 3 ∷ []) $ join ! $ move ! (2 ∷ 0 ∷ []) $ join ! $ move ! (1 ∷ 0 ∷ []) $ join ! $
        use1 𝓛 (raw ((Gives Z 𝓛 𝓜.mem 𝓡.returns).pre given_back))
        (Gives-goes Z 𝓛 𝓜.mem 𝓡.returns κ q p handle
        (⊑_trans κ κ' Z.row.lives within alive) b o n k τ fits.0 fits.1 n_fits k_fits) $
        calls_at ! (framed 𝓤 H 𝓜 𝓣) (Gives Z 𝓛 𝓜.mem 𝓡.returns) gives given_back
        (and_then ! (get ! refl)
        (and_then ! (get ! refl) (and_then ! (get ! refl) (and_then ! (get ! refl) (no_more !))))) (λ v.
        use1 𝓛 (later (given (v ≡ vunit) (‵ (flft κ q))))
        (Gives-Gives Z 𝓛 𝓜.mem 𝓡.returns κ q p handle b o n k τ v) $ await ! tt $ learn ! (λ is.
        lands_as ! is refl (tt, tt) $
        -- the body's value is ()
        sets ! (of_opd ! (unit_lit !)) refl (tt, tt) $ returns ! (look_at ! 0 refl) $ free_all ! refl $ freed x)))))

-- The walk is taken to the statement: what becomes of each parameter, the code under its name, how a parameter's value
-- is stored, and the walk.
pub deallocate_spec : {M : Type 1} → statement M
deallocate_spec 𝓤 𝓛 𝓜 𝓡 wired B laws g d drops met _ =
    let Z : Al = record { row = B; laws = laws; g = g; d = d; drops = drops } in
    let number = Goes-dropped 𝓛 2 (plain (λ _. usize)) yes (λ κs x w. refl) in
    proved 𝓛 (ended Z) (stayed Z) (clauses Z 𝓛 𝓜 𝓡) 𝓜 𝓡 (
      Goes-dropped 𝓛 2 (self Z) yes (λ κs x w. refl),
      (
        Goes-dropped 𝓛 2 (plain (λ _. RawPtr)) yes (λ κs x w. refl),
        (number, (number, tt)),
      ),
    )
    (f.Key.name (bounded (a_type ∷ []) (B, tt) (dcons d (dcons drops dnil)))) (here Z)
    (code.unfolded 𝓤 𝓛.H 𝓜 𝓡 wired (B, tt) d drops)
    (λ κs. (shr_vals, (rawptr_vals, (uint_vals w64, (uint_vals w64, tt))))) (λ κs.
    ((λ r vs s. s.0), (rawptr_Tells, (uint_Tells w64, (uint_Tells w64, tt))))) (λ κs qs bounds a τ are.
    walk Z 𝓛 𝓜 𝓡 κs.0 κs.1.0 qs.0 qs.1.0 bounds.0 a.0 a.1.1.0 a.1.1.1.0 τ
    (met.deallocate drops) are.1.1.0.1 are.1.1.1.0.1 a.1.0)
