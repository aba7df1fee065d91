use Rattle.rule_loader.specs.Order.{in_turn}
use Rattle.rule_loader.proofs.Order.{all_sorted, all_once, all_stable}
use Rattle.rule_loader.proofs.laws.handlers_run_in_order.Goals as goal

pub returns : goal.returns
returns c = λ rules. record {
  sorted = all_sorted (in_turn rules);
  each_once = all_once (in_turn rules);
  stable = all_stable (in_turn rules);
}
