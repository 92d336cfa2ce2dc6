use Rattle.std.proofs.Common.{refl}
use Rattle.variables.proofs.InterningLemmas.{handed_on}
use Rattle.solver_cache.proofs.CacheLemmas.{later_same}
use Rattle.resolvo_store.proofs.Words.{OutOfMemory}
use Rattle.resolvo_store.proofs.loaded_lists.load_union.Goals as goal

pub returns-in_err-sets-clause-refused : goal.returns-in_err-sets-clause-refused
returns-in_err-sets-clause-refused g c =
    handed_on _ c.from_residual.result OutOfMemory c.from_residual.ensures.1 (record {
      later = later_same _ _;
      part = (0, refl);
      reason = tt;
    })
