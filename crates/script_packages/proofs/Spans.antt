-- A span of a name that had none is after the others; that of another name keeps its place.
use Rattle.std.proofs.Common.{◌≡◌, ℕ, true, false, cond, List, [], ◌∷◌, ◌++◌, Some, ap, refl, sym, true≢false}
use Rattle.script_packages.proofs.Words.{insert_entry, is_some, lookup, same_id, set_value, Span}

pub inserted_span : (spans : List (ℕ × Span)) (name : ℕ) (span : Span) → is_some (lookup (same_id name) spans) ≡ false
    → insert_entry same_id spans name span ≡ spans ++ (name, span) ∷ []
inserted_span [] name span new = refl
inserted_span (e ∷ es) name span new =
    (elim (same_id name e.0) as (λ b. is_some (cond b (Some e.1) (lookup (same_id name) es)) ≡ false
    → cond b ((e.0, span) ∷ es) (e ∷ insert_entry same_id es name span) ≡ e ∷ (es ++ (name, span) ∷ []))
    [ true ↦ λ h. (let no : true ≡ false = h in cc) | false ↦ λ h. ap (λ l. e ∷ l) (inserted_span es name span h) ]) new

pub replaced_span : (spans : List (ℕ × Span)) (name : ℕ) (span : Span) → is_some (lookup (same_id name) spans) ≡ true
    → set_value (same_id name) spans span ≡ insert_entry same_id spans name span
replaced_span [] name span known = absurd (true≢false (sym known))
replaced_span (e ∷ es) name span known =
    (elim (same_id name e.0) as (λ b. is_some (cond b (Some e.1) (lookup (same_id name) es)) ≡ true
    → cond b ((e.0, span) ∷ es) (e ∷ set_value (same_id name) es span)
    ≡ cond b ((e.0, span) ∷ es) (e ∷ insert_entry same_id es name span))
    [ true ↦ λ h. refl | false ↦ λ h. ap (λ l. e ∷ l) (replaced_span es name span h) ]) known
