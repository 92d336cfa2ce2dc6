-- Laws of the order of versions.
use Rattle.std.proofs.Common.{length, map, ◌≡◌, Bool, cond, ℕ, List, [], ◌∷◌, ◌++◌, refl, sym, ap, ◌∙◌, arith, inl}
use Rattle.std.proofs.Common.{inr, true, false, codes, take, drop, suc}
use Rattle.std.proofs.lemmas.Bool.{and_parts, cases_Bool}
use Rattle.std.proofs.lemmas.List.Sums.{take_while-cons}
use Rattle.std.specs.Char.{is_ascii_digit}
use Rattle.std.specs.Cmp.{IsTotalOrder, nat_cmp_total, on_total, then_total}
use Rattle.std.specs.Cmp.Lexicographic.{nat_list_cmp_total, slice_cmp}
use Rattle.std.specs.List.{list_all, list_any, prefix_len, take_while}
use Rattle.std.specs.Ordering.{nat_cmp, ordering_reverse, ordering_then}
use Rattle.std.specs.Str.Parse.{digits_value}
use Rattle.std.specs.declared.cmp.Ordering.{Ordering}
use Rattle.std.specs.declared.cmp.Ordering.TheVariants.{Less, Equal, Greater}
use Rattle.debian_versions.specs.Order.{cmp_versions, epoch, has_epoch, keys, number, part_cmp, rank, revision}
use Rattle.debian_versions.specs.Order.{upstream, upstream_len}
use Rattle.debian_versions.proofs.Numbers.{cmp-equal}

-- turning two versions round turns the answer round, and the order is transitive
pub part_total : IsTotalOrder part_cmp
part_total = on_total (keys false) nat_list_cmp_total

pub versions_total : IsTotalOrder cmp_versions
versions_total = then_total (on_total epoch nat_cmp_total)
    (then_total (on_total upstream part_total) (on_total revision part_total))

keys-digit : (c : ℕ) (xs : List ℕ) → is_ascii_digit c ≡ true → keys false (c ∷ xs) ≡ 1 ∷ number (c ∷ xs) ∷ keys true xs
unfolding keys
keys-digit c xs d = rw d refl

keys-other : (b : Bool) (c : ℕ) (xs : List ℕ) → is_ascii_digit c ≡ false → keys b (c ∷ xs) ≡ rank c ∷ keys false xs
unfolding keys
keys-other false c xs n = rw n refl
keys-other true c xs n = rw n refl

keys-more : (c : ℕ) (xs : List ℕ) → is_ascii_digit c ≡ true → keys true (c ∷ xs) ≡ keys true xs
unfolding keys
keys-more c xs d = rw d refl

take-append : (ds rest : List ℕ) → list_all is_ascii_digit ds ≡ true → prefix_len is_ascii_digit rest ≡ 0 →
    take_while is_ascii_digit (ds ++ rest) ≡ ds
take-append [] rest all stop = ap (λ (n : ℕ). take n rest) stop
take-append (c ∷ ds) rest all stop =
    let parts = and_parts (is_ascii_digit c) (list_all is_ascii_digit ds) all in
    take_while-cons is_ascii_digit c (ds ++ rest) ∙ rw parts.0
    (ap (λ (l : List ℕ). c ∷ l) (take-append ds rest parts.1 stop))

keys-skip_all : (ds rest : List ℕ) → list_all is_ascii_digit ds ≡ true → keys true (ds ++ rest) ≡ keys true rest
keys-skip_all [] rest all = refl
keys-skip_all (c ∷ ds) rest all =
    let parts = and_parts (is_ascii_digit c) (list_all is_ascii_digit ds) all in
    keys-more c (ds ++ rest) parts.0 ∙ keys-skip_all ds rest parts.1

-- Policy's alternation: a text begins with characters that are no digits, then digits; its keys are the ranks of those
-- characters, 1 for their end, the value of those digits, and the keys of what follows
pub keys-alternate : (characters digits rest : List ℕ) → list_any is_ascii_digit characters ≡ false →
    list_all is_ascii_digit digits ≡ true → prefix_len is_ascii_digit rest ≡ 0 →
    (length digits ≡ 0 → length rest ≡ 0) →
    keys false (characters ++ (digits ++ rest)) ≡ map rank characters ++ (1 ∷ digits_value 10 digits ∷ keys true rest)
unfolding keys
keys-alternate [] [] [] none all stop ends = refl
keys-alternate [] [] (c ∷ rest) none all stop ends = absurd (omega (arith, ends refl))
keys-alternate [] (c ∷ ds) rest none all stop ends =
    let parts = and_parts (is_ascii_digit c) (list_all is_ascii_digit ds) all in
    keys-digit c (ds ++ rest) parts.0
    ∙ ap (λ (l : List ℕ). 1 ∷ digits_value 10 l ∷ keys true (ds ++ rest)) (take-append (c ∷ ds) rest all stop)
    ∙ ap (λ (l : List ℕ). 1 ∷ digits_value 10 (c ∷ ds) ∷ l) (keys-skip_all ds rest parts.1)
keys-alternate (c ∷ cs) ds rest none all stop ends = elim (cases_Bool (is_ascii_digit c)) [
  | inl d ↦ cc (rw d at none)
  | inr n ↦ keys-other false c (cs ++ (ds ++ rest)) n ∙ ap (λ (l : List ℕ). rank c ∷ l)
      (keys-alternate cs ds rest (rw n at none) all stop ends)
]

-- lists with the same head
cons-same : (n : ℕ) (l m : List ℕ) → slice_cmp nat_cmp (n ∷ l) (n ∷ m) ≡ slice_cmp nat_cmp l m
cons-same n l m = ap (λ (r : Ordering). ordering_then r (slice_cmp nat_cmp l m)) (cmp-equal n n refl)

digits-yes : (c : ℕ) (xs : List ℕ) → is_ascii_digit c ≡ true → take_while is_ascii_digit (c ∷ xs) ≡ c ∷ take_while
    is_ascii_digit xs
digits-yes c xs d =
    let opened : cond (is_ascii_digit c) (c ∷ take_while is_ascii_digit xs) [] ≡ c ∷ take_while is_ascii_digit xs =
    rw d refl in
    take_while-cons is_ascii_digit c xs ∙ opened

digits-no : (c : ℕ) (xs : List ℕ) → is_ascii_digit c ≡ false → take_while is_ascii_digit (c ∷ xs) ≡ []
digits-no c xs n =
    let opened : cond (is_ascii_digit c) (c ∷ take_while is_ascii_digit xs) [] ≡ [] = rw n refl in
    take_while-cons is_ascii_digit c xs ∙ opened

digits-tilde : (xs ys : List ℕ) → take_while is_ascii_digit (xs ++ (126 ∷ ys)) ≡ take_while is_ascii_digit xs
digits-tilde [] ys = refl
digits-tilde (c ∷ xs) ys = elim (cases_Bool (is_ascii_digit c)) [
  | inl d ↦ digits-yes c (xs ++ (126 ∷ ys)) d ∙ ap (λ (l : List ℕ). c ∷ l) (digits-tilde xs ys) ∙ sym
      (digits-yes c xs d)
  | inr n ↦ digits-no c (xs ++ (126 ∷ ys)) n ∙ sym (digits-no c xs n)
]

tilde-less : (xs : List ℕ) (b : Bool) (ys : List ℕ) → slice_cmp nat_cmp (keys b (xs ++ (126 ∷ ys))) (keys b xs) ≡ Less
unfolding keys
tilde-less [] false ys = refl
tilde-less [] true ys = refl
tilde-less (c ∷ xs) false ys = elim (cases_Bool (is_ascii_digit c)) [
  | inl d ↦
      ap (λ (l : List ℕ). slice_cmp nat_cmp l (keys false (c ∷ xs))) (keys-digit c (xs ++ (126 ∷ ys)) d)
      ∙ ap (λ (l : List ℕ). slice_cmp nat_cmp (1 ∷ number (c ∷ (xs ++ (126 ∷ ys))) ∷ keys true (xs ++ (126 ∷ ys)))
      l) (keys-digit c xs d)
      ∙ cons-same 1 (number (c ∷ (xs ++ (126 ∷ ys))) ∷ keys true (xs ++ (126 ∷ ys))) (number (c ∷ xs) ∷ keys true xs)
      ∙ ap (λ (l : List ℕ). slice_cmp nat_cmp (digits_value 10 l ∷ keys true (xs ++ (126 ∷ ys)))
      (number (c ∷ xs) ∷ keys true xs)) (digits-tilde (c ∷ xs) ys)
      ∙ cons-same (number (c ∷ xs)) (keys true (xs ++ (126 ∷ ys))) (keys true xs) ∙ tilde-less xs true ys
  | inr n ↦
      ap (λ (l : List ℕ). slice_cmp nat_cmp l (keys false (c ∷ xs))) (keys-other false c (xs ++ (126 ∷ ys)) n)
      ∙ ap (λ (l : List ℕ). slice_cmp nat_cmp (rank c ∷ keys false (xs ++ (126 ∷ ys))) l) (keys-other false c xs n)
      ∙ cons-same (rank c) (keys false (xs ++ (126 ∷ ys))) (keys false xs) ∙ tilde-less xs false ys
]
tilde-less (c ∷ xs) true ys = elim (cases_Bool (is_ascii_digit c)) [
  | inl d ↦
      ap (λ (l : List ℕ). slice_cmp nat_cmp l (keys true (c ∷ xs))) (keys-more c (xs ++ (126 ∷ ys)) d)
      ∙ ap (λ (l : List ℕ). slice_cmp nat_cmp (keys true (xs ++ (126 ∷ ys))) l) (keys-more c xs d)
      ∙ tilde-less xs true ys
  | inr n ↦
      ap (λ (l : List ℕ). slice_cmp nat_cmp l (keys true (c ∷ xs))) (keys-other true c (xs ++ (126 ∷ ys)) n)
      ∙ ap (λ (l : List ℕ). slice_cmp nat_cmp (rank c ∷ keys false (xs ++ (126 ∷ ys))) l) (keys-other true c xs n)
      ∙ cons-same (rank c) (keys false (xs ++ (126 ∷ ys))) (keys false xs) ∙ tilde-less xs false ys
]

-- a text with a tilde behind it, and whatever follows, comes before the text alone
pub tilde-first : (text behind : List ℕ) → part_cmp (text ++ (126 ∷ behind)) text ≡ Less
tilde-first text behind = tilde-less text false behind

self-equal : (r : Ordering) → r ≡ ordering_reverse r → r ≡ Equal
self-equal Less e = cc e
self-equal Equal e = refl
self-equal Greater e = cc e

part-self : (x : List ℕ) → part_cmp x x ≡ Equal
part-self x = self-equal (part_cmp x x) (part_total.antisymm x x)

then-both : (r s : Ordering) → r ≡ Equal → s ≡ Equal → ordering_then r s ≡ Equal
then-both r s er es = rw (er, es) refl

-- a version without an epoch has the epoch 0
pub no_epoch-zero : (version : List ℕ) → has_epoch version ≡ false →
    cmp_versions (48 ∷ 58 ∷ version) version ≡ Equal
no_epoch-zero version none = rw none (then-both _ _ (part-self (take (upstream_len version) version))
    (part-self (drop (suc (upstream_len version)) version)))

-- no revision compares as the revision 0
pub no_revision-zero : part_cmp [] (48 ∷ []) ≡ Equal
unfolding keys
no_revision-zero = refl

-- the same of a whole version
pub no_revision : cmp_versions (codes "1.2") (codes "0:1.2-0") ≡ Equal
unfolding keys upstream_len
no_revision = refl

-- Policy's example: '~~', '~~a', '~', the end, 'a'
pub tildes : (part_cmp (codes "~~") (codes "~~a") ≡ Less) × (part_cmp (codes "~~a") (codes "~") ≡ Less)
    × (part_cmp (codes "~") [] ≡ Less) × (part_cmp [] (codes "a") ≡ Less)
unfolding keys
tildes = (refl, refl, refl, refl)
