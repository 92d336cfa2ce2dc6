-- Lists in a pool, from their first link on, and when a link comes.
use Rattle.std.proofs.Common.{◌≡◌, ℕ, zero, suc, ◌+◌, ◌-◌, ◌<◌, ◌≤◌, cond, eqb, List, [], ◌∷◌, ◌++◌, length}
use Rattle.std.proofs.Common.{refl, sym, ap, ◌∙◌, subst, arith, inl, inr}
use Rattle.std.proofs.lemmas.Bool.{cases_eq, cases_lt}
use Rattle.std.proofs.lemmas.List.{get_or_append_left, get_or_push, get_or_past, length_push}
use Rattle.std.proofs.lemmas.List.Sums.{sum_by-cons}
use Rattle.clause_counters.proofs.Words.{count, IsLinked, Link, link_at, listed_within, no_link, numbers_at}

-- a list is within as many numbers as its place
enough : (links : List Link) → IsLinked links → (a b list : ℕ) → list ≤ a → list ≤ b
    → listed_within a links list ≡ listed_within b links list
enough links k zero zero list x y = refl
enough links k zero (suc b) zero x y = refl
enough links k zero (suc b) (suc list) x y = absurd (omega (arith, x))
enough links k (suc a) zero zero x y = refl
enough links k (suc a) zero (suc list) x y = absurd (omega (arith, y))
enough links k (suc a) (suc b) zero x y = refl
enough links k (suc a) (suc b) (suc list) x y =
    let earlier = k.earlier list in
    ap (λ rest. (link_at links list).value ∷ rest)
    (enough links k a b (link_at links list).next (omega (arith, earlier, x)) (omega (arith, earlier, y)))

-- a list is its first number and the list after it
unrolled : (links : List Link) → IsLinked links → (place : ℕ)
    → numbers_at links (suc place) ≡ (link_at links place).value ∷ numbers_at links (link_at links place).next
unrolled links k place = ap (λ rest. (link_at links place).value ∷ rest)
    (enough links k place (link_at links place).next (link_at links place).next (k.earlier place) (omega arith))

pub count_unrolled : (links : List Link) → IsLinked links → (list c : ℕ) → (list ≡ 0 → ⊥)
    → count c (numbers_at links list) ≡ cond (eqb (link_at links (list - 1)).value c) 1 0 + count c
    (numbers_at links (link_at links (list - 1)).next)
count_unrolled links k zero c some = absurd (some refl)
count_unrolled links k (suc place) c some =
    let e : suc place - 1 ≡ place = omega arith in
    subst (λ p. count c (numbers_at links (suc place)) ≡ cond (eqb (link_at links p).value c) 1 0 + count c
    (numbers_at links (link_at links p).next)) (sym e)
    (ap (count c) (unrolled links k place)
    ∙ sum_by-cons (λ other. cond (eqb other c) 1 0) (link_at links place).value
    (numbers_at links (link_at links place).next))

-- the list after a link is shorter
pub rest_within : (links : List Link) → IsLinked links → (list : ℕ) → (list ≡ 0 → ⊥)
    → (link_at links (list - 1)).next < list
rest_within links k list some = let earlier = k.earlier (list - 1) in omega (arith, earlier, some)

-- a link that comes changes no list
link_kept : (links : List Link) (link : Link) (place : ℕ) → place < length links
    → link_at (links ++ link ∷ []) place ≡ link_at links place
link_kept links link place l = get_or_append_left links (link ∷ []) no_link place l

kept_within : (links : List Link) → IsLinked links → (link : Link) (most list : ℕ) → list ≤ length links
    → listed_within most (links ++ link ∷ []) list ≡ listed_within most links list
kept_within links k link zero list l = refl
kept_within links k link (suc most) zero l = refl
kept_within links k link (suc most) (suc place) l =
    let same = link_kept links link place l in
    let earlier = k.earlier place in
    ap (λ (x : Link). x.value ∷ listed_within most (links ++ link ∷ []) x.next) same
    ∙ ap (λ rest. (link_at links place).value ∷ rest)
    (kept_within links k link most (link_at links place).next (omega (arith, earlier, l)))

pub listed_kept : (links : List Link) → IsLinked links → (link : Link) (list : ℕ) → list ≤ length links
    → numbers_at (links ++ link ∷ []) list ≡ numbers_at links list
listed_kept links k link list l = kept_within links k link list list l

-- links stay linked
pub linked_pushed : (links : List Link) → IsLinked links → (link : Link) → link.next ≤ length links
    → IsLinked (links ++ link ∷ [])
linked_pushed links k link within = record {
  earlier = λ place. elim (cases_lt place (length links)) [
    | inl l ↦ subst (λ (x : Link). x.next ≤ place) (sym (link_kept links link place l)) (k.earlier place)
    | inr past ↦ elim (cases_eq (length links) place) [
      | inl e ↦ subst (λ (x : Link). x.next ≤ place) (sym (get_or_push links link no_link place e))
          (subst (λ n. link.next ≤ n) e within)
      | inr ne ↦ subst (λ (x : Link). x.next ≤ place)
          (sym (get_or_past (links ++ link ∷ []) place no_link (let m = length_push links link in
          omega (arith, m, past, ne)))) (omega arith)
    ]
  ];
}

-- the list of a link that comes
pub listed_pushed : (links : List Link) → IsLinked links → (link : Link) → link.next ≤ length links
    → numbers_at (links ++ link ∷ []) (length links + 1) ≡ link.value ∷ numbers_at links link.next
listed_pushed links k link within =
    let more : length links + 1 ≡ suc (length links) = omega arith in
    let last : link_at (links ++ link ∷ []) (length links) ≡ link =
    get_or_push links link no_link (length links) refl in
    subst (λ n. numbers_at (links ++ link ∷ []) n ≡ link.value ∷ numbers_at links link.next) (sym more)
    (unrolled (links ++ link ∷ []) (linked_pushed links k link within) (length links)
    ∙ (ap (λ (x : Link). x.value ∷ numbers_at (links ++ link ∷ []) x.next) last
    ∙ ap (λ rest. link.value ∷ rest) (listed_kept links k link link.next within)))
