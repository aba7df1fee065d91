use Rattle.std.proofs.Common.{rules, ◌≡◌, ◌∙◌, ap, subst, ℕ, ◌-◌, drop, take, length, List, arith}
use Rattle.std.proofs.lemmas.List.{take_all, length-drop}
use Rattle.px_bytes.specs.Gives.{Gives}
use Rattle.px_bytes.specs.Position.{before_last}
use Rattle.px_bytes.specs.Whole.{whole}
use Rattle.px_bytes.proofs.position.place.Goals as goal

rest_is_all : (n : ℕ) (xs : List ℕ) → take (length xs - n) (drop n xs) ≡ drop n xs
rest_is_all n xs = take_all (length xs - n) (drop n xs) (let e = length-drop n xs in omega (arith, e))

-- src/position.rt:19:9
pub returns-then-starts_with : goal.returns-then-starts_with
returns-then-starts_with c =
    let count = c.read_whole.ensures ∙ ap whole (rest_is_all 4 c.args.word.now) in
    let due = subst (λ n. Gives c.before_last.result (before_last c.args.size c.args.word.now n)) count c.before_last.ensures in
    search rules
