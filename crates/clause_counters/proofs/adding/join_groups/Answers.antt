use Rattle.std.proofs.Common.{◌≡◌, ◌+◌, ◌<◌, not, cond, eqb, length, take, get_or, refl, sym, ap, ◌∙◌, arith}
use Rattle.std.proofs.lemmas.List.{length-set, length_push}
use Rattle.std.proofs.lemmas.List.Sums.{sum_by_more}
use Rattle.clause_counters.proofs.Words.{all_members, count, group_at, IsMember, joined_at, numbers_at, open_count}
use Rattle.clause_counters.proofs.Words.{open_members, with_member}
use Rattle.clause_counters.proofs.PoolLaws.{merged, merged_twice, one_unless, moved}
use Rattle.clause_counters.proofs.AddingSteps.{member_step, member_lists, member_all, member_open, member_left}
use Rattle.clause_counters.proofs.adding.join_groups.Goals as goal

pub loop-group-preserved : goal.loop-group-preserved
loop-group-preserved g c =
    let inv = c.loop-group.invariant in
    let ms = c.loop-group.members.items in
    let gs = c.loop-group.groups.items in
    let ms0 = c.args.members.now.items in
    let gs0 = c.args.groups.now.items in
    let list = c.args.list.now in
    let k = c.loop-group.group-index in
    let test = c.loop-group-test.true in
    let i = get_or list k 0 in
    let clause = c.args.clause in
    let known = c.requires.known k 0 test in
    let in' : i < length gs = (let e = inv.as_many in let ok = c.loop-group.groups.ok.0 in
    omega (arith, known, e, ok)) in
    let np = c.join.ensures.members in
    let nl = c.join.ensures.groups in
    let wm = with_member ms gs i clause in
    let wg = joined_at ms gs i in
    let ms' = c.join.new.members.items in
    let gs' = c.join.new.groups.items in
    record {
      member = moved IsMember wm ms' wg gs' np nl (member_step ms gs inv.member i in' clause);
      lists = λ h d. moved (λ x y. count d (numbers_at x (group_at y h).clauses)
          ≡ count d (numbers_at ms0 (group_at gs0 h).clauses)
          + cond (eqb clause d) (count h (take (k + 1) list)) 0) wm ms' wg gs' np nl
          (merged_twice (eqb i h) (eqb clause d) (count d (numbers_at wm (group_at wg h).clauses))
          (count d (numbers_at ms (group_at gs h).clauses))
          (count d (numbers_at ms0 (group_at gs0 h).clauses)) (count h (take k list)) (count h (take (k + 1) list)) 1
          (member_lists ms gs inv.member i in' clause h d) (inv.lists h d)
          (sum_by_more (λ x. cond (eqb x h) 1 0) list k 0 test));
      all = λ d. moved (λ x y. all_members x y d ≡ all_members ms0 gs0 d + cond (eqb clause d) (k + 1) 0) wm ms' wg
          gs' np nl
          (merged (eqb clause d) (all_members wm wg d) (all_members ms gs d) (all_members ms0 gs0 d) k (k + 1) 1
          (member_all ms gs inv.member i in' clause d) (inv.all d) refl);
      counts = λ d. moved (λ x y. open_members x y d ≡ open_members ms0 gs0 d + cond (eqb clause d)
          (open_count gs0 (take (k + 1) list)) 0)
          wm ms' wg gs' np nl
          (merged (eqb clause d) (open_members wm wg d) (open_members ms gs d) (open_members ms0 gs0 d)
          (open_count gs0 (take k list))
          (open_count gs0 (take (k + 1) list)) (cond (eqb (group_at gs i).left 0) 0 1)
          (member_open ms gs inv.member i in' clause d) (inv.counts d)
          (sum_by_more (λ x. cond (not (eqb (group_at gs0 x).left 0)) 1 0) list k 0 test
          ∙ ap (λ n. open_count gs0 (take k list) + n) (one_unless (eqb (group_at gs0 i).left 0)
          ∙ ap (λ n. cond (eqb n 0) 0 1) (sym (inv.lefts i)))));
      lefts = λ h. ap (λ y. (group_at y h).left) nl ∙ (member_left ms gs inv.member i in' clause h ∙ inv.lefts h);
      as_many = c.join.new.groups.ok.0 ∙ (ap length nl ∙ (length-set gs i
          (record (group_at gs i) { clauses = length ms + 1 })
          ∙ (sym c.loop-group.groups.ok.0 ∙ inv.as_many)));
      len = (let n = c.join.new.members.ok.0 in let m = ap length np in
          let more = length_push ms (record { value = clause; next = (group_at gs i).clauses }) in
          let ok = c.loop-group.members.ok.0 in let so_far = inv.len in omega (arith, n, m, more, ok, so_far));
      room = c.join.ensures.capacity ∙ inv.room;
    }
