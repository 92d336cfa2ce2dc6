-- The tested word and the written one, by their bits.
use Rattle.std.proofs.Common.{◌%◌, refl, arith}
use Rattle.id_maps.proofs.IndexedSetLemmas.{bit_clear, bit_set, get_word}
use Rattle.id_maps.proofs.indexed_set.set_bit.Goals as goal

pub returns-clause-new : goal.returns-clause-new
returns-clause-new c = bit_clear (get_word c.args.words.now c.args.index) (c.args.index % 64) (omega arith)

pub returns-clause-set : goal.returns-clause-set
returns-clause-set c = bit_set c.args.words.now c.args.index _ c.requires refl
