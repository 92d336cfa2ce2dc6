-- `allocate` meets the trait's contract: it refuses, or answers what the inner allocator answers. Assumes `Logic`.
use Rattle.test_support.proofs.Steps.{◌≡◌, ℕ, ◌^◌, ◌<◌, Bool, true, false, List, [], ◌∷◌, Ok, Err, refl, w64, Bor}
use Rattle.test_support.proofs.Steps.{Ty, Fn, a_type, dnil, dcons, Val, vbool, vint, vptr, inst_fn, bounded, Ura}
use Rattle.test_support.proofs.Steps.{ent, Lft, Share, ftrue, froom, flft, ◌⊑◌, ⊑_trans, Logic, size, align}
use Rattle.test_support.proofs.Steps.{capped, Model, WpFn, fact, Running, MachineTables, tables, usize, uint_vals}
use Rattle.test_support.proofs.Steps.{uint_Tells, owns, block_ptr, shr_vals, yes, plain, types_at, Ended, Clauses}
use Rattle.test_support.proofs.Steps.{Contract, Triple, framed, Stays, stay_dropped, walk_of, Goes-dropped, proved}
use Rattle.test_support.proofs.Steps.{leaves, Sq, ‵, raw, ◌⊛◌, some, later, given, prop, at_ret, ◌$◌, ◌∵◌, !, qed}
use Rattle.test_support.proofs.Steps.{by, move, keep, use0, use1, use2, split, join, fsplit, fjoin, pick, learn}
use Rattle.test_support.proofs.Steps.{await, nothing, heard, agg, enter, exec, first, branches, skips, returns}
use Rattle.test_support.proofs.Steps.{returns_within, lit, addr, fld, stop, and_then, no_more, alloc_all, pass_all}
use Rattle.test_support.proofs.Steps.{free_all, look_at, get, through, sets, lands_as, env, calls_at, Al, seen}
use Rattle.test_support.proofs.Steps.{token, Answer, answer_val, Answer-typed, Answer-Ok, Answer-err, Takes}
use Rattle.test_support.proofs.Steps.{at_takes, takes_key, Takes-goes, Takes-gives, Answered, answers, after}
use Rattle.test_support.proofs.Asks.{Asks, asks_at, asks_hands, asks_leaves}
use Rattle.test_support.proofs.Exits.{nothing_of, leaves_nothing}
use Rattle.test_support.proofs.Fields.{Wrapper, self, inner_at, left_at, counts, self_shares}
use Rattle.test_support.proofs.refusing.refuses.Symbol as refuses
use Rattle.test_support.proofs.refusing.refuses.Met.{met as refuses_met}
use Rattle.test_support.specs.contracts.refusing.RefusingAllocator.allocate as f
use Rattle.test_support.proofs.refusing.RefusingAllocator.allocate.Statement.{statement}
use Rattle.test_support.proofs.refusing.RefusingAllocator.allocate.Code as code

module _ (Z : Al) where
  -- the code, over the allocator Z
  abbrev here : Fn
  here = inst_fn (bounded (a_type ∷ []) (Z.row, tt) (dcons Z.d (dcons Z.drops dnil))) code.function

  abbrev ended : Ended
  ended = f.ended Z.row Z.g Z.d Z.drops

  -- nothing is kept of a parameter to the end: each is a copy, of which the caller has its own
  abbrev stayed : Stays ended.signature.params ended.kept
  stayed = (
    stay_dropped (self Z) yes,
    (
      stay_dropped (plain (λ _. usize)) yes,
      (stay_dropped (plain (λ _. usize)) yes, tt),
    ),
  )

module _ (Z : Al) {M : Type 1} {𝓤 : Ura M} (𝓛 : Logic 𝓤) (𝓜 : Model 𝓤 𝓛.H) (𝓡 : Running 𝓤 𝓛.H 𝓜) where
  open 𝓛 use {H}

  -- the tables of what each call runs
  abbrev 𝓣 : MachineTables 𝓤 H 𝓜
  𝓣 = tables 𝓤 H 𝓜 𝓡 𝓡.env

  abbrev clauses : Clauses 𝓤 (ended Z)
  clauses = f.clauses Z.row Z.g Z.d Z.drops 𝓛 𝓜.mem 𝓡.returns

  -- what a walk starts from and has to leave
  abbrev Walk : Contract 𝓤
  Walk = walk_of 𝓛 (ended Z) (stayed Z) clauses

  -- `&'κ self`, where κ lasts no longer than κ' and the handle lives for all of κ', and a request of n bytes at the
  -- alignment k for a τ
  module _ (κ κ' : Lft) (q q' : Share) (within : κ ⊑ κ') (r : Bor (Wrapper Z).Denot) (n k : ℕ) (τ : Ty) where
    -- the arguments as the machine has them
    abbrev vs : List Val
    vs = vptr r.ref_ptr.0 r.ref_ptr.1 ∷ vint w64 n ∷ vint w64 k ∷ []

    -- all that the contract leaves open, chosen
    abbrev y : Walk.Ghost
    y = (
      (
        (κ, (κ', tt)),
        (q, (q', tt)),
        (within, tt),
        (r, (n, (k, tt))),
        (shr_vals r, (vint w64 n ∷ [], (vint w64 k ∷ [], tt))),
      ),
      τ,
    )

    -- the inner handle and the address of each field
    abbrev handle : Z.row.Denot
    handle = r.now.inner

    abbrev p : ℕ × ℕ
    p = inner_at Z r.ref_ptr

    abbrev c : ℕ × ℕ
    c = left_at Z r.ref_ptr

    -- n and k are what a τ takes
    abbrev Fits : Type 0
    Fits = (capped (size τ) ≡ n) × (capped (align τ) ≡ k)

    -- what the two calls are made with
    abbrev asked : (Asks 𝓛 𝓜.mem 𝓡.returns).Ghost
    asked = asks_at 𝓛 𝓜.mem 𝓡.returns κ q c

    abbrev taken : (Takes Z 𝓛 𝓜.mem 𝓡.returns).Ghost
    taken = at_takes Z 𝓛 𝓜.mem 𝓡.returns κ q p handle n k τ

    -- How a walk ends, twice. It hands out, in this order: the tokens, what is left of the parameters, the answer, and
    -- what the `ensures*` gives. a block goes out with its room and with the right to free it
    granted : (b o : ℕ) → Sq 𝓛 (‵ (froom τ b o) ∷ ‵ (token Z handle τ (block_ptr b o)) ∷ ‵ (flft κ q) ∷
        (‵ (flft κ' q') ⊛ ‵ ftrue) ∷ []) (prop (Walk.post y (answer_val true b o)))
    granted b o =
        fjoin ! $ use0 𝓛 (‵ (Answer.own_val (Ok (block_ptr b o)) (answer_val true b o ∷ []))) (Answer-Ok 𝓛 b o) $ use0 𝓛
        (‵ (nothing_of 3)) (leaves_nothing 𝓛 3) $
        move ! (3 ∷ 4 ∷ []) $ join ! $ by ! (leaves 𝓛 (ended Z) (stayed Z) clauses y (answer_val true b o)
        (Ok (block_ptr b o)) (tt, (tt, (tt, tt))) (tt, (tt, (tt, tt))))

    -- a refusal goes out with nothing, whoever refused
    refused : Sq 𝓛 (‵ (flft κ q) ∷ (‵ (flft κ' q') ⊛ ‵ ftrue) ∷ []) (prop (Walk.post y (answer_val false 0 0)))
    refused =
        nothing ! $ use0 𝓛 (‵ (Answer.own_val (Err (record {})) (answer_val false 0 0 ∷ []))) (Answer-err 𝓛) $ use0 𝓛
        (‵ (nothing_of 3)) (leaves_nothing 𝓛 3) $
        move ! (3 ∷ 4 ∷ []) $ join ! $ by ! (leaves 𝓛 (ended Z) (stayed Z) clauses y (answer_val false 0 0)
        (Err (record {})) (tt, (tt, (tt, tt))) (tt, (tt, (tt, tt))))

    -- the code, a statement at a time, from the contracts of the two functions that it calls
    walk : Triple 𝓤 (𝓣.C refuses.name) (Asks 𝓛 𝓜.mem 𝓡.returns) →
        Triple 𝓤 (𝓣.C (takes_key Z)) (Takes Z 𝓛 𝓜.mem 𝓡.returns)
        → n < 2 ^ 64 → k < 2 ^ 64 → ent 𝓤 (Walk.pre y) (WpFn 𝓤 H 𝓣.C 𝓣.Λ (here Z) vs (Walk.post y))
    walk asks takes n_fits k_fits =
        qed 𝓛 (((‵ (flft κ q) ⊛ ‵ (flft κ' q') ⊛ ‵ ftrue) ⊛ ‵
        (owns (types_at (ended Z).signature.params y.0.0) y.0.3 y.0.4)) ∷
        (raw (fact 𝓤 (κ' ⊑ Z.row.lives)) ⊛ raw (fact 𝓤 Fits)) ∷ []) ∵
        -- what the trait lets the body assume: the handle is alive, and n and k are the size and the alignment of τ
        move ! (1 ∷ []) $ split ! $ heard ! (κ' ⊑ Z.row.lives) (λ alive. heard ! Fits (λ fits.
        -- `&self` gives a `&` to each field; nothing is owned of the two numbers
        split ! $ split ! $ move ! (2 ∷ []) $ fsplit ! $ use1 𝓛 (‵ (seen Z κ p handle) ⊛ ‵ (counts κ c))
        (self_shares Z 𝓛 κ r) $ split ! $
        keep ! (1 ∷ 3 ∷ 0 ∷ 4 ∷ []) $
        -- [the counter; the token of κ; the inner handle; the token of κ'], and after them the locals
        enter ! 𝓣.C 𝓣.Λ (here Z) vs (Walk.post y) $ alloc_all ! (λ l.
        pass_all ! refl ((tt, tt), ((tt, record { fits = n_fits }), ((tt, record { fits = k_fits }), tt))) $
        -- refuses(&self.left)
        sets ! (addr ! (through ! refl (fld ! refl (stop !)))) refl (tt, tt) $
        use2 𝓛 (raw ((Asks 𝓛 𝓜.mem 𝓡.returns).pre asked)) (asks_hands 𝓛 𝓜.mem 𝓡.returns κ q c) $
        calls_at ! (framed 𝓤 H 𝓜 𝓣) (Asks 𝓛 𝓜.mem 𝓡.returns) asks asked (and_then ! (get ! refl) (no_more !)) (λ u.
        use1 𝓛 (later (some (λ (b : Bool). given (u ≡ vbool b) (‵ (flft κ q)))))
        (asks_leaves 𝓛 𝓜.mem 𝓡.returns κ q c u) $ await ! tt $ pick ! (λ b.
        learn ! (λ said. lands_as ! said refl (tt, tt) $
        first ! $ branches ! (get ! refl)
        -- yes: return Err(AllocError)
        (λ _. sets ! (agg ! (no_more !)) refl (tt, tt) $ sets !
        (agg ! (and_then ! (lit ! tt) (and_then ! (get ! refl) (no_more !)))) refl (Answer-typed false 0 0) $
        returns_within ! (Walk.post y) refl (look_at ! 0 refl) $ free_all ! refl $ keep ! (0 ∷ 2 ∷ []) $ refused)
        -- no: the arm is over, and the code after it runs
        (λ _. skips ! $ exec ! 𝓣.C 𝓣.Λ (env (here Z).locals l) (after 3 (here Z).body)
        (at_ret (env (here Z).locals l) (Walk.post y)) $ move ! (1 ∷ []) $
        -- [the inner handle; the token of κ; the token of κ']
        -- self.inner.allocate(size, align)
        sets ! (addr ! (through ! refl (fld ! refl (stop !)))) refl (tt, tt) $
        use2 𝓛 (raw ((Takes Z 𝓛 𝓜.mem 𝓡.returns).pre taken))
        (Takes-goes Z 𝓛 𝓜.mem 𝓡.returns κ q p handle
        (⊑_trans κ κ' Z.row.lives within alive) n k τ fits.0 fits.1 n_fits k_fits) $
        calls_at ! (framed 𝓤 H 𝓜 𝓣) (Takes Z 𝓛 𝓜.mem 𝓡.returns) takes taken
        (and_then ! (get ! refl) (and_then ! (get ! refl) (and_then ! (get ! refl) (no_more !)))) (λ v.
        use1 𝓛 (later (raw (Answered Z 𝓛 𝓜.mem 𝓡.returns handle τ v) ⊛ ‵ (flft κ q)))
        (Takes-gives Z 𝓛 𝓜.mem 𝓡.returns κ q p handle n k τ v) $ await ! tt $ split ! $
        -- and that answer is the answer, a block or a refusal
        answers Z ! 𝓜.mem 𝓡.returns handle τ v
        (λ b o is. lands_as ! is refl (Answer-typed true b o) $ returns !
        (look_at ! 0 refl) $ free_all ! refl $ granted b o)
        (λ is. lands_as ! is refl (Answer-typed false 0 0) $ returns !
        (look_at ! 0 refl) $ free_all ! refl $ refused)))))))))

-- The walk is taken to the statement: what becomes of each parameter, the code under its name, how a parameter's value
-- is stored, and the walk.
pub allocate_spec : {M : Type 1} → statement M
allocate_spec 𝓤 𝓛 𝓜 𝓡 wired B laws g d drops met _ =
    let Z : Al = record { row = B; laws = laws; g = g; d = d; drops = drops } in
    let number = Goes-dropped 𝓛 2 (plain (λ _. usize)) yes (λ κs x w. refl) in
    proved 𝓛 (ended Z) (stayed Z) (clauses Z 𝓛 𝓜 𝓡) 𝓜 𝓡 (
      Goes-dropped 𝓛 2 (self Z) yes (λ κs x w. refl),
      (number, (number, tt)),
    )
    (f.Key.name (bounded (a_type ∷ []) (B, tt) (dcons d (dcons drops dnil)))) (here Z)
    (code.unfolded 𝓤 𝓛.H 𝓜 𝓡 wired (B, tt) d drops)
    (λ κs. (shr_vals, (uint_vals w64, (uint_vals w64, tt))))
    (λ κs. ((λ r vs s. s.0), (uint_Tells w64, (uint_Tells w64, tt)))) (λ κs qs bounds a τ are.
    walk Z 𝓛 𝓜 𝓡 κs.0 κs.1.0 qs.0 qs.1.0 bounds.0 a.0 a.1.0 a.1.1.0 τ
    (refuses_met 𝓤 𝓛 𝓜 𝓡 (code.calls-test_support::refusing::refuses 𝓡.env wired))
    (met.allocate drops) are.1.0.1 are.1.1.0.1)
