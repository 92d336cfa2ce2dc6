use Rattle.std.proofs.Common.{◌≡◌, ◌∙◌, ℕ, Bool, true, false, true≢false, subst, sym, below_more, inl, inr, arith}
use Rattle.std.proofs.lemmas.Bool.{cases_lt}
use Rattle.std.proofs.lemmas.List.{get_or_past}
use Rattle.corrections.proofs.Words.{HasNone, is_marked, Vec}
use Rattle.corrections.proofs.marks.add_extensions.Goals.{then-is_in_conflict+in_ok-add_with, else-is_in_conflict}
use Rattle.corrections.proofs.marks.add_extensions.Goals as goal

pub loop-place-preserved : goal.loop-place-preserved
loop-place-preserved g c = λ other none.
    let P = λ (k : ℕ). is_marked c.args.conflict.now k ≡ true → is_marked other k ≡ false in
    let at = c.loop-place.place in
    elim c.if-is_in_conflict.branch [
      | then-is_in_conflict+in_ok-add_with w ↦
          let now = w.in_ok-add_with.ensures other (subst
          (λ (s : Vec (Vec Bool g.row.A.Denot) g.row.A.Denot). HasNone other s.items) w.sets-is none) in
          let had = c.loop-place.invariant other now.0 in
          (had.0, λ within. below_more P at (had.1 within) (λ marked. now.1 within))
      | else-is_in_conflict w ↦
          let had = c.loop-place.invariant other (subst
          (λ (s : Vec (Vec Bool g.row.A.Denot) g.row.A.Denot). HasNone other s.items) w.sets-is none) in (
            had.0,
            λ within. below_more P at (had.1 within)
                (λ marked. absurd (true≢false (sym marked ∙ w.if-is_in_conflict.false))),
          )
    ]

pub returns : goal.returns
returns g c = λ other none.
    let had = c.loop-place.invariant other none in (
      had.0,
      λ within k marked. elim (cases_lt k c.loop-place.place) [
        | inl below ↦ had.1 within k below marked
        | inr past ↦ absurd (true≢false (sym marked ∙ get_or_past c.args.conflict.now k false (omega arith)))
      ],
    )
