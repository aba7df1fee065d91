use Rattle.std.proofs.Common.{◌<◌, length, sym, subst, ◌∙◌, refl, arith, rules}
use Rattle.std.proofs.lemmas.List.{length-set}
use Rattle.px_bytes.proofs.ByteSets.{has_none, has_more}
use Rattle.px_bytes.proofs.set_of_bytes.byte_set.Goals as goal

pub loop-byte-init : goal.loop-byte-init
loop-byte-init c = record { says = has_none 256; size = refl }

pub loop-byte-preserved : goal.loop-byte-preserved
loop-byte-preserved c =
    let small : c.from.result < 256 = subst (λ n. n < 256) (sym c.from.ensures) (c.type_inv.bytes c.loop-byte.byte-index).fits in
    let there : c.from.result < length c.loop-byte.set = omega (arith, small, c.loop-byte.invariant.size) in
    record {
      says = λ k. has_more c.loop-byte.set c.args.bytes.now c.loop-byte.byte-index c.from.result k (search rules) (search rules) there (c.loop-byte.invariant.says k);
      size = length-set _ _ _ ∙ c.loop-byte.invariant.size;
    }
