-- One field more.
use Rattle.std.proofs.Common.{◌≡◌, ℕ, true, false, cond, List, Option, None, Some, Ok, Err, refl, ap, ◌∙◌, sym}
use Rattle.std.specs.Prelude.{is_some, option_map, slice_set}
use Rattle.debian_text.specs.Words.{cut_at}
use Rattle.debian_scenario.specs.Keys.{key_of, place}
use Rattle.debian_scenario.specs.Values.{Values, value_in, with_field, with_parts, with_value}
use Rattle.debian_scenario.specs.declared.fault.StanzaFault.TheVariants.{Twice}
use Rattle.debian_scenario.specs.declared.key.Key.{Key}

pub is_some-option_map : {X Y : Type 0} (f : X → Y) (o : Option X) → is_some (option_map f o) ≡ is_some o
is_some-option_map f None = refl
is_some-option_map f (Some x) = refl

module _ (values : Values) (field name value : List ℕ) (key : Key) (parts : Some (name, value) ≡ cut_at 58 field)
    (known : Some key ≡ key_of name) where
  with_known : with_value values value (Some key) ≡ with_field values field
  with_known = ap (with_value values value) known ∙ ap (with_parts values) parts

  pub twice : is_some (value_in key values) ≡ true → Err (Twice key) ≡ with_field values field
  twice there = sym (ap (λ b. cond b (Err (Twice key)) (Ok (slice_set values (place key) (Some value)))) there)
      ∙ with_known

  pub once : is_some (value_in key values) ≡ false → Ok (slice_set values (place key) (Some value))
      ≡ with_field values field
  once new = sym (ap (λ b. cond b (Err (Twice key)) (Ok (slice_set values (place key) (Some value)))) new) ∙ with_known
