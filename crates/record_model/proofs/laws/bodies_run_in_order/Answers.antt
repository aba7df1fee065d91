use Rattle.std.specs.List.{flat_map}
use Rattle.record_model.specs.Bodies.{rule_bodies}
use Rattle.record_model.specs.Laws.{priority_of}
use Rattle.record_model.proofs.Order.{all_once, all_sorted, all_stable}
use Rattle.record_model.proofs.laws.bodies_run_in_order.Goals as goal

pub returns : goal.returns
returns c rules numbers e =
    let all = flat_map (rule_bodies rules e) numbers in
    record { sorted = all_sorted priority_of all; each_once = all_once priority_of all; stable = all_stable priority_of all }
