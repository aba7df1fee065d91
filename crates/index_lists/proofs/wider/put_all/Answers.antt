use Rattle.std.proofs.Common.{◌≡◌, ◌∙◌, ◌+◌, ◌-◌, ◌*◌, arith, ap, sym, subst, drop, ℕ, List, Option, None, replicate}
use Rattle.std.proofs.lemmas.List.{drop-replicate}
use Rattle.index_lists.specs.Least.{IsTree}
use Rattle.index_lists.proofs.Leaves.{empty_tree}
use Rattle.index_lists.proofs.Widened.{put_step}
use Rattle.index_lists.proofs.wider.put_all.Goals as goal

pub loop-id-init : goal.loop-id-init
loop-id-init c =
    let n = c.args.size in
    let P : List (Option ℕ) → Type 0 = λ xs. IsTree n xs in
    let all : n + n ≡ 2 * n = omega arith in
    let rest : 2 * n - n ≡ n - 0 = omega arith in
    record {
      tree = subst P (sym c.requires.nodes) (empty_tree n);
      dues = ap (drop n) c.requires.nodes ∙ drop-replicate n (2 * n) None ∙ ap (λ m. replicate m None) rest;
    }

pub loop-id-preserved : goal.loop-id-preserved
loop-id-preserved c = record {
  tree = c.set.ensures.tree;
  dues = put_step c.args.size c.loop-id.id c.args.dues.now _ _ c.loop-id-test.true c.requires.few c.loop-id.invariant.dues c.set.ensures.dues;
}
