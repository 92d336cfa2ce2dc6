-- What both methods leave of their parameters: nothing, for each of them. Assumes `Logic`.
use Rattle.test_support.proofs.Steps.{ℕ, [], Ura, ent, Fml, ftrue, fsep, Logic, sem, ‵, ◌$◌, ◌∵◌, !, qed, done, use0}
use Rattle.test_support.proofs.Steps.{fjoin, nothing}
use Rattle.std.proofs.Common.{zero, suc}
use base.Logic.{emp}

abbrev pub nothing_of : ℕ → Fml
nothing_of zero = ftrue
nothing_of (suc n) = fsep ftrue (nothing_of n)

pub leaves_nothing : {M : Type 1} {𝓤 : Ura M} (𝓛 : Logic 𝓤) (n : ℕ) → ent 𝓤 (emp 𝓤) (sem 𝓛 (nothing_of n))
leaves_nothing 𝓛 zero = qed 𝓛 [] ∵ nothing ! $ done !
leaves_nothing 𝓛 (suc n) = qed 𝓛 [] ∵ use0 𝓛 (‵ (nothing_of n)) (leaves_nothing 𝓛 n) $ nothing ! $ fjoin ! $ done !
