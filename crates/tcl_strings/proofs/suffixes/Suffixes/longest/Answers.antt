use Rattle.std.proofs.Common.{[], length, sym, subst, arith}
use Rattle.std.proofs.lemmas.List.{drop_all}
use Rattle.tcl_strings.specs.Suffixes.{IsLongestNode, texts}
use Rattle.tcl_strings.proofs.Climbing.{behind_place}
use Rattle.tcl_strings.proofs.Stepping.{longest_self}
use Rattle.tcl_strings.proofs.suffixes.Suffixes.longest.Goals as goal

pub loop-place-init : goal.loop-place-init
loop-place-init c =
    let s = c.args.self.now in (
      omega arith,
      subst (λ t. IsLongestNode s t 0) (sym (drop_all (length c.args.text.now) c.args.text.now (omega arith)))
          (longest_self (texts s) (length (texts s)) 0 [] c.requires.rooted c.requires.root),
    )

pub step-node-requires-clause-behind : goal.step-node-requires-clause-behind
step-node-requires-clause-behind c =
    let s = c.args.self.now in
    subst (λ t. IsLongestNode s t c.loop-place.node) (behind_place c.loop-place.place c.args.text.now c.loop-place-test.true) c.loop-place.invariant.1
