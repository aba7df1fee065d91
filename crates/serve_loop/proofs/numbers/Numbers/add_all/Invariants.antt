use Rattle.std.proofs.Common.{◌≡◌, drop}
use Rattle.serve_loop.specs.Added.{added}
use Rattle.serve_loop.proofs.numbers.Numbers.add_all.Given as goal

abbrev pub invariant-loop-number : goal.invariant-loop-number
invariant-loop-number l = added l.self (drop l.number-index l.numbers) ≡ added l.initial.self l.numbers
