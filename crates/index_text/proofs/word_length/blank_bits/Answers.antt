use Rattle.std.proofs.Common.{◌%◌, ◌^◌, nat_eq, map, replicate, arith, ap, ◌∙◌, w8}
use Rattle.std.proofs.lemmas.List.{length-map}
use Rattle.std.proofs.lemmas.Simd.{zip2_splat, tops_compared, mask_l-mod}
use Rattle.std.specs.Simd.Lanes.{mask_l}
use Rattle.index_text.proofs.WordLemmas.{is_blank}
use Rattle.index_text.proofs.word_length.blank_bits.Goals as goal

pub returns : goal.returns
returns c =
    let bytes = c.args.bytes in
    let long = c.fits-bytes.0 in
    ap (λ ms. mask_l ms % 2 ^ 64) (tops_compared w8 nat_eq bytes (replicate 16 32) ∙ zip2_splat nat_eq bytes 16 32 long)
    ∙ mask_l-mod (map is_blank bytes) 64 (omega (arith, length-map bytes is_blank, long))
